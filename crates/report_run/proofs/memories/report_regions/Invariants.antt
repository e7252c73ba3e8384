-- The regions so far were reported, and the others are not begun. For the loop of `report_regions`.
use Rattle.std.proofs.Common.{◌≡◌}
use Rattle.report_run.specs.Messages.{seen}
use Rattle.report_run.specs.States.{folder, state}
use Rattle.report_run.proofs.RegionSteps.{Continues}
use Rattle.report_run.proofs.memories.report_regions.Given as goal

abbrev pub invariant-loop-i : goal.invariant-loop-i
invariant-loop-i g l =
    Continues l.asked l.path l.base (g.M.Load.holds l.initial.memory) l.regions
    (state (g.O.Sink.given l.initial.out) (g.O.Sink.faults l.initial.out)
    (seen (g.E.Sink.given l.initial.messages.errors) (g.E.Sink.faults l.initial.messages.errors)
    l.initial.messages.is_lost) (folder (g.F.Records.made l.initial.records) (g.F.Records.faults l.initial.records)))
    (g.M.Load.faults l.initial.memory) l.i
    (state (g.O.Sink.given l.out) (g.O.Sink.faults l.out)
    (seen (g.E.Sink.given l.messages.errors) (g.E.Sink.faults l.messages.errors) l.messages.is_lost)
    (folder (g.F.Records.made l.records) (g.F.Records.faults l.records)))
    × (g.M.Load.holds l.memory ≡ g.M.Load.holds l.initial.memory)
    × (g.M.Load.faults l.memory ≡ g.M.Load.faults l.initial.memory)
