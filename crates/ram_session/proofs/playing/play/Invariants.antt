-- As many lines are done as were taken, with their texts printed and no fault. For the loop of
-- `play`.
use Rattle.std.proofs.Common.{◌≡◌, ◌≤◌, length}
use Rattle.ram_session.specs.Machines.{crashes_of}
use Rattle.ram_session.proofs.ScriptLines.{PlaysSoFar}
use Rattle.ram_session.proofs.playing.play.Given as goal

-- so many lines were done as were taken
abbrev pub invariant-loop-line : goal.invariant-loop-line
invariant-loop-line g l = record {
  counted : l.number ≡ length l.yielded;
  few : crashes_of l.machine ≤ l.number;
  same : g.O.Sink.faults l.out ≡ g.O.Sink.faults l.initial.out;
  later : g.O.Sink.faults l.initial.out ≤ g.O.Sink.faults l.out;
  played : PlaysSoFar l.initial.machine l.fn.lines l.number l.machine (g.O.Sink.given l.initial.out)
      (g.O.Sink.given l.out);
}
