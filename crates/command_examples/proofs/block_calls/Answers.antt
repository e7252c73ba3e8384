-- The rows on calls of the block store compute. For `block_calls`.
use Rattle.std.proofs.Common.{refl}
use Rattle.command_examples.proofs.Unfoldings.{computing_blk}
use Rattle.command_examples.proofs.block_calls.Goals as goal

pub returns-clause-append_to_the_end : goal.returns-clause-append_to_the_end
unfolding computing_blk
returns-clause-append_to_the_end c = refl

pub returns-clause-raised : goal.returns-clause-raised
returns-clause-raised c = (refl, refl)

pub returns-clause-counted : goal.returns-clause-counted
returns-clause-counted c = (refl, refl, refl)

pub returns-clause-counters : goal.returns-clause-counters
unfolding computing_blk
returns-clause-counters c = refl
