-- One boot after another. For `report_boots`.
use Rattle.std.proofs.Common.{◌∙◌, rules, sym}
use Rattle.std.proofs.lemmas.Option.{get_or_from_slice_get}
use Rattle.report_run.specs.Boots.{AreBootsUnshown}
use Rattle.report_run.proofs.BootSteps.{one_shown, one_failed, all_shown}
use Rattle.report_run.proofs.boots.report_boots.Goals as goal

pub loop-i-preserved : goal.loop-i-preserved
loop-i-preserved g c = (
  one_shown c.args.asked.now c.args.format c.args.path.now c.args.log.now c.args.boots.now
      (g.O.Sink.given c.args.out.now) (g.O.Sink.faults c.args.out.now) c.loop-i.i c.nth_boot-boot.result _ _
      c.loop-i-test.true
      (sym (get_or_from_slice_get c.args.boots.now c.loop-i.i c.nth_boot-boot.result c.nth_boot-boot.result
      c.nth_boot-boot.ensures))
      c.in_ok-report_boot.ensures.reported c.loop-i.invariant.0,
  c.in_ok-report_boot.ensures.faultless ∙ c.loop-i.invariant.1,
)

pub returns-in_err-report_boot-clause-reported : goal.returns-in_err-report_boot-clause-reported
returns-in_err-report_boot-clause-reported g c =
    let h : AreBootsUnshown c.args.asked.now c.args.format c.args.path.now c.args.log.now c.args.boots.now
    (g.O.Sink.given c.args.out.now) (g.O.Sink.given c.report_boot.new.out) (g.O.Sink.faults c.args.out.now)
    (g.O.Sink.faults c.report_boot.new.out) c.in_err-report_boot.field-0.0 =
    one_failed c.args.asked.now c.args.format c.args.path.now c.args.log.now c.args.boots.now
    (g.O.Sink.given c.args.out.now) (g.O.Sink.faults c.args.out.now) c.loop-i.i c.nth_boot-boot.result
    (g.O.Sink.given c.loop-i.out) (g.O.Sink.given c.report_boot.new.out) (g.O.Sink.faults c.loop-i.out)
    (g.O.Sink.faults c.report_boot.new.out) c.in_err-report_boot.field-0.0 c.loop-i-test.true
    (sym (get_or_from_slice_get c.args.boots.now c.loop-i.i c.nth_boot-boot.result c.nth_boot-boot.result
    c.nth_boot-boot.ensures))
    c.loop-i.invariant.1 c.in_err-report_boot.ensures.reported c.loop-i.invariant.0 in
    search rules

pub returns-clause-reported : goal.returns-clause-reported
returns-clause-reported g c =
    all_shown c.args.asked.now c.args.format c.args.path.now c.args.log.now c.args.boots.now
    (g.O.Sink.given c.args.out.now) (g.O.Sink.faults c.args.out.now) c.loop-i.i _ c.loop-i-test.false
    c.loop-i.invariant.0
