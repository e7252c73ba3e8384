-- As many lines are done as were taken. For the loop of `play`.
use Rattle.std.proofs.Common.{◌≡◌, length}
use Rattle.shared_session.proofs.ScriptLines.{PlaysSoFar}
use Rattle.shared_session.proofs.playing.play.Given as goal

-- so many lines were done as were taken
abbrev pub invariant-loop-line : goal.invariant-loop-line
invariant-loop-line l = record {
  counted : l.number ≡ length l.yielded;
  played : PlaysSoFar l.initial.shared l.fn.lines l.number l.shared;
}
