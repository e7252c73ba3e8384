-- An erasure and a dump can be made on any ring. For `is_open`.
use Rattle.std.proofs.Common.{refl}
use Rattle.store_steps.proofs.steps.is_open.Goals as goal

pub returns-in-Erase : goal.returns-in-Erase
returns-in-Erase c = λ line payload. rw c.in-Erase.is (λ t. tt, λ t. refl)

pub returns-in-Dump : goal.returns-in-Dump
returns-in-Dump c = λ line payload. rw c.in-Dump.is (λ t. tt, λ t. refl)
