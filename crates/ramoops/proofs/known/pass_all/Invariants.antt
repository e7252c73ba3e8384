-- The zones from here on are passed, those before stand as at the start. For the loop of
-- `pass_all`.
use Rattle.std.specs.Vec.{vec_len}
use Rattle.ramoops.proofs.ZonesFromLast.{IsPassedTo}
use Rattle.ramoops.proofs.known.pass_all.Given as goal

abbrev pub invariant-loop-zone : goal.invariant-loop-zone
invariant-loop-zone l = IsPassedTo l.passed l.is_whole l.fn.held.items l.initial.known l.held.items l.known

abbrev pub decreases-loop-zone : goal.decreases-loop-zone
decreases-loop-zone l = vec_len l.held
