-- The boots so far were reported, and the others are not begun. For the loop of `report_boots`.
use Rattle.std.proofs.Common.{◌≡◌}
use Rattle.report_run.proofs.BootSteps.{Continues}
use Rattle.report_run.proofs.boots.report_boots.Given as goal

abbrev pub invariant-loop-i : goal.invariant-loop-i
invariant-loop-i g l =
    Continues l.asked l.format l.path l.log l.boots (g.O.Sink.given l.initial.out) (g.O.Sink.faults l.initial.out) l.i
    (g.O.Sink.given l.out)
    × (g.O.Sink.faults l.out ≡ g.O.Sink.faults l.initial.out)
