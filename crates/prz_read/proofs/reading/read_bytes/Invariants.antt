-- The front is the reading of the blocks so far, and states are wanted as asked. For the loop of
-- `read_bytes`.
use Rattle.std.proofs.Common.{◌≡◌}
use Rattle.prz_read.specs.Fronts.{ReadsTo}
use Rattle.prz_read.proofs.reading.read_bytes.Given as goal

-- the blocks so far, and the wish
abbrev pub invariant-loop-b : goal.invariant-loop-b
invariant-loop-b l =
    ReadsTo l.zone l.span l.size l.b l.front × (l.front.states.are_wanted ≡ l.with_states)
