-- The front is the reading of the pairs so far, and states are wanted as before. For the loop of
-- `push_pairs`.
use Rattle.std.proofs.Common.{◌≡◌, ◌*◌}
use Rattle.prz_read.specs.Fronts.{ReadsTo}
use Rattle.prz_read.proofs.reading.Front.push_pairs.Given as goal

-- the pairs so far, and the same wish
abbrev pub invariant-loop-pair : goal.invariant-loop-pair
invariant-loop-pair l =
    ReadsTo l.zone l.span l.size (2 * l.pair) l.self × (l.self.states.are_wanted ≡ l.initial.self.states.are_wanted)
