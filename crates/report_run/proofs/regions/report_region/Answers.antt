-- The report stops, or the lines fail behind it. For `report_region`.
use Rattle.std.proofs.Common.{◌∙◌, ℕ, rules, inl, inr, refl, subst}
use Rattle.std.specs.Prelude.{string_bytes}
use Rattle.report_run.specs.Messages.{seen}
use Rattle.report_run.specs.States.{folder, state}
use Rattle.report_run.specs.Images.{IsNotTold}
use Rattle.report_run.specs.Regions.{IsRegionUndone}
use Rattle.report_run.proofs.regions.report_region.Goals as goal

pub returns-in_err-report_place-clause-done : goal.returns-in_err-report_place-clause-done
returns-in_err-report_place-clause-done g c =
    let h : IsRegionUndone c.args.asked.now c.args.name.now c.args.region.now (g.M.Load.holds c.args.memory.now)
    (g.M.Load.faults c.args.memory.now) (g.M.Load.faults c.report_place.new.memory)
    (state (g.O.Sink.given c.args.out.now) (g.O.Sink.faults c.args.out.now)
    (seen (g.E.Sink.given c.args.messages.now.errors) (g.E.Sink.faults c.args.messages.now.errors)
    c.args.messages.now.is_lost)
    (folder (g.F.Records.made c.args.records.now) (g.F.Records.faults c.args.records.now)))
    (state (g.O.Sink.given c.report_place.new.out) (g.O.Sink.faults c.report_place.new.out)
    (seen (g.E.Sink.given c.args.messages.now.errors) (g.E.Sink.faults c.args.messages.now.errors)
    c.args.messages.now.is_lost)
    (folder (g.F.Records.made c.report_place.new.records) (g.F.Records.faults c.report_place.new.records)))
    c.in_err-report_place.field-0.0 =
    inr (inr (record {
      told = c.in_ok-told.told;
      is_told = c.in_ok-told.ensures;
      cause = c.in_err-report_place.ensures.done;
      silent = refl;
    })) in
    search rules

pub returns-in_err-tell_region-clause-done : goal.returns-in_err-tell_region-clause-done
returns-in_err-tell_region-clause-done g c =
    let h : IsRegionUndone c.args.asked.now c.args.name.now c.args.region.now (g.M.Load.holds c.args.memory.now)
    (g.M.Load.faults c.args.memory.now) (g.M.Load.faults c.report_place.new.memory)
    (state (g.O.Sink.given c.args.out.now) (g.O.Sink.faults c.args.out.now)
    (seen (g.E.Sink.given c.args.messages.now.errors) (g.E.Sink.faults c.args.messages.now.errors)
    c.args.messages.now.is_lost)
    (folder (g.F.Records.made c.args.records.now) (g.F.Records.faults c.args.records.now)))
    (state (g.O.Sink.given c.tell_region.new.out) (g.O.Sink.faults c.tell_region.new.out)
    (seen (g.E.Sink.given c.tell_region.new.messages.errors) (g.E.Sink.faults c.tell_region.new.messages.errors)
    c.tell_region.new.messages.is_lost)
    (folder (g.F.Records.made c.report_place.new.records) (g.F.Records.faults c.report_place.new.records)))
    c.in_err-tell_region.field-0.0 =
    inr (inl (record {
      told = c.in_ok-told.told;
      is_told = c.in_ok-told.ensures;
      no_read_fault = c.in_ok-report_place.ensures.no_fault;
      between = g.O.Sink.given c.report_place.new.out;
      done = c.in_ok-report_place.ensures.done;
      cause = subst (λ (p : ℕ). IsNotTold c.args.asked.now.format (string_bytes c.in_ok-told.told.lines)
          (g.O.Sink.given c.report_place.new.out) (g.O.Sink.given c.tell_region.new.out) p
          (g.O.Sink.faults c.tell_region.new.out)
          (seen (g.E.Sink.given c.args.messages.now.errors) (g.E.Sink.faults c.args.messages.now.errors)
          c.args.messages.now.is_lost)
          (seen (g.E.Sink.given c.tell_region.new.messages.errors) (g.E.Sink.faults c.tell_region.new.messages.errors)
          c.tell_region.new.messages.is_lost) c.in_err-tell_region.field-0.0) c.in_ok-report_place.ensures.faultless
          c.in_err-tell_region.ensures.told;
    })) in
    search rules

pub returns-clause-done : goal.returns-clause-done
returns-clause-done g c = record {
  told = c.in_ok-told.told;
  is_told = c.in_ok-told.ensures;
  between = g.O.Sink.given c.report_place.new.out;
  done = c.in_ok-report_place.ensures.done;
  lines = c.in_ok-tell_region.ensures.told;
  no_fault = c.in_ok-tell_region.ensures.faultless ∙ c.in_ok-report_place.ensures.faultless;
}
