-- The files so far were reported, and the others are not begun. For the loop of `run`.
use Rattle.std.proofs.Common.{◌≡◌}
use Rattle.report_run.specs.Messages.{seen}
use Rattle.report_run.specs.States.{folder, reads, state}
use Rattle.report_run.proofs.RunSteps.{Continues}
use Rattle.report_run.proofs.running.run.Given as goal

abbrev pub invariant-loop-i : goal.invariant-loop-i
invariant-loop-i g l =
    Continues l.asked (g.I.Images.content l.initial.images) l.files
    (reads (g.I.Images.unopened l.initial.images) (g.I.Images.faults l.initial.images))
    (state (g.O.Sink.given l.initial.out) (g.O.Sink.faults l.initial.out)
    (seen (g.E.Sink.given l.initial.messages.errors) (g.E.Sink.faults l.initial.messages.errors)
    l.initial.messages.is_lost) (folder (g.F.Records.made l.initial.records) (g.F.Records.faults l.initial.records)))
    l.i (reads (g.I.Images.unopened l.images) (g.I.Images.faults l.images))
    (state (g.O.Sink.given l.out) (g.O.Sink.faults l.out)
    (seen (g.E.Sink.given l.messages.errors) (g.E.Sink.faults l.messages.errors) l.messages.is_lost)
    (folder (g.F.Records.made l.records) (g.F.Records.faults l.records)))
    l.so_far
    × (g.I.Images.content l.images ≡ g.I.Images.content l.initial.images)
