-- The first bytes are all of the class. For the loop of `run`.
use Rattle.std.proofs.Common.{◌≡◌, ◌≤◌, ◌-◌, ◌+◌, length, drop}
use Rattle.text_log_spec.specs.Words.{run}
use Rattle.text_log.proofs.words.run.Given as goal

abbrev pub invariant-bytes : goal.invariant-bytes
invariant-bytes l = (l.len ≤ length l.text) × (run l.class l.text ≡ l.len + run l.class (drop l.len l.text))

abbrev pub decreases-bytes : goal.decreases-bytes
decreases-bytes l = length l.text - l.len
