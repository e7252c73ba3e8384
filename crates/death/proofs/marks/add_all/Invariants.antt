-- The bytes below `at` are in. For the loop of `add_all`.
use Rattle.std.proofs.Common.{◌≡◌, ℕ, ◌<◌, ◌-◌, true, false, length, slice_index_or}
use Rattle.death.proofs.marks.add_all.Given as goal

abbrev pub invariant-bytes : goal.invariant-bytes
invariant-bytes l = (b : ℕ) → b < l.at → slice_index_or l.firsts b false ≡ true

abbrev pub decreases-bytes : goal.decreases-bytes
decreases-bytes l = length l.firsts - l.at
