-- One region after another. For `report_regions`.
use Rattle.std.proofs.Common.{◌∙◌, rules, sym}
use Rattle.std.proofs.lemmas.Option.{get_or_from_slice_get}
use Rattle.report_run.specs.Messages.{seen}
use Rattle.report_run.specs.States.{folder, state}
use Rattle.report_run.specs.Memories.{AreRegionsUndone}
use Rattle.report_run.proofs.RegionSteps.{one_done, one_failed, all_done}
use Rattle.report_run.proofs.memories.report_regions.Goals as goal

pub loop-i-preserved : goal.loop-i-preserved
loop-i-preserved g c = (
  one_done c.args.asked.now c.args.path.now c.args.base (g.M.Load.holds c.args.memory.now) c.args.regions.now _
      (g.M.Load.faults c.args.memory.now) c.loop-i.i c.nth_region-region.result (g.M.Load.holds c.loop-i.memory) _ _
      c.loop-i-test.true
      (sym (get_or_from_slice_get c.args.regions.now c.loop-i.i c.nth_region-region.result c.nth_region-region.result
      c.nth_region-region.ensures))
      c.loop-i.invariant.1 c.in_ok-report_named.ensures.done c.loop-i.invariant.0,
  c.in_ok-report_named.ensures.same ∙ c.loop-i.invariant.1,
  c.in_ok-report_named.ensures.no_fault ∙ c.loop-i.invariant.2,
)

pub returns-in_err-report_named-clause-done : goal.returns-in_err-report_named-clause-done
returns-in_err-report_named-clause-done g c =
    let h : AreRegionsUndone c.args.asked.now c.args.path.now c.args.base (g.M.Load.holds c.args.memory.now)
    (g.M.Load.faults c.args.memory.now) (g.M.Load.faults c.report_named.new.memory) c.args.regions.now
    (state (g.O.Sink.given c.args.out.now) (g.O.Sink.faults c.args.out.now)
    (seen (g.E.Sink.given c.args.messages.now.errors) (g.E.Sink.faults c.args.messages.now.errors)
    c.args.messages.now.is_lost)
    (folder (g.F.Records.made c.args.records.now) (g.F.Records.faults c.args.records.now)))
    (state (g.O.Sink.given c.report_named.new.out) (g.O.Sink.faults c.report_named.new.out)
    (seen (g.E.Sink.given c.report_named.new.messages.errors) (g.E.Sink.faults c.report_named.new.messages.errors)
    c.report_named.new.messages.is_lost)
    (folder (g.F.Records.made c.report_named.new.records) (g.F.Records.faults c.report_named.new.records)))
    c.in_err-report_named.field-0.0 =
    one_failed c.args.asked.now c.args.path.now c.args.base (g.M.Load.holds c.args.memory.now) c.args.regions.now
    (state (g.O.Sink.given c.args.out.now) (g.O.Sink.faults c.args.out.now)
    (seen (g.E.Sink.given c.args.messages.now.errors) (g.E.Sink.faults c.args.messages.now.errors)
    c.args.messages.now.is_lost)
    (folder (g.F.Records.made c.args.records.now) (g.F.Records.faults c.args.records.now)))
    (g.M.Load.faults c.args.memory.now) c.loop-i.i c.nth_region-region.result (g.M.Load.holds c.loop-i.memory)
    (state (g.O.Sink.given c.loop-i.out) (g.O.Sink.faults c.loop-i.out)
    (seen (g.E.Sink.given c.loop-i.messages.errors) (g.E.Sink.faults c.loop-i.messages.errors)
    c.loop-i.messages.is_lost)
    (folder (g.F.Records.made c.loop-i.records) (g.F.Records.faults c.loop-i.records)))
    (state (g.O.Sink.given c.report_named.new.out) (g.O.Sink.faults c.report_named.new.out)
    (seen (g.E.Sink.given c.report_named.new.messages.errors) (g.E.Sink.faults c.report_named.new.messages.errors)
    c.report_named.new.messages.is_lost)
    (folder (g.F.Records.made c.report_named.new.records) (g.F.Records.faults c.report_named.new.records)))
    (g.M.Load.faults c.loop-i.memory) (g.M.Load.faults c.report_named.new.memory) c.in_err-report_named.field-0.0
    c.loop-i-test.true
    (sym (get_or_from_slice_get c.args.regions.now c.loop-i.i c.nth_region-region.result c.nth_region-region.result
    c.nth_region-region.ensures))
    c.loop-i.invariant.1 c.loop-i.invariant.2 c.in_err-report_named.ensures.done
    c.loop-i.invariant.0 in
    search rules

pub returns-clause-done : goal.returns-clause-done
returns-clause-done g c =
    all_done c.args.asked.now c.args.path.now c.args.base (g.M.Load.holds c.args.memory.now) c.args.regions.now _
    (g.M.Load.faults c.args.memory.now) c.loop-i.i _ c.loop-i-test.false c.loop-i.invariant.0
