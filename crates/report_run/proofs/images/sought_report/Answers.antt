-- The report stops, or the lines on the layout follow it. For `sought_report`.
use Rattle.std.proofs.Common.{◌∙◌}
use Rattle.std.proofs.lemmas.Result.{err_from_is_err_and}
use Rattle.report_run.specs.Messages.{seen}
use Rattle.report_run.specs.Images.{IsNoSoughtReport}
use Rattle.report_run.proofs.ReportEnds.{unreported, ended, unended}
use Rattle.report_run.proofs.images.sought_report.Goals as goal

pub returns-in_err-report-clause-reported : goal.returns-in_err-report-clause-reported
returns-in_err-report-clause-reported g c =
    let h : IsNoSoughtReport c.args.asked.now c.args.known.now c.args.path.now (g.M.Load.holds c.args.image.now)
    (g.M.Load.faults c.args.image.now) (g.M.Load.faults c.report_by.new.image) (g.O.Sink.given c.args.out.now)
    (g.O.Sink.given c.report_by.new.out) (g.O.Sink.faults c.args.out.now) (g.O.Sink.faults c.report_by.new.out)
    (seen (g.E.Sink.given c.args.messages.now.errors) (g.E.Sink.faults c.args.messages.now.errors)
    c.args.messages.now.is_lost)
    (seen (g.E.Sink.given c.sought_plan.new.messages.errors) (g.E.Sink.faults c.sought_plan.new.messages.errors)
    c.sought_plan.new.messages.is_lost) c.in_err-report.field-0.0 =
    unreported c.args.asked.now c.args.known.now c.args.path.now _ _ c.in_ok-told.told c.in_ok-told.ensures.planned
    (seen (g.E.Sink.given c.args.messages.now.errors) (g.E.Sink.faults c.args.messages.now.errors)
    c.args.messages.now.is_lost)
    (seen (g.E.Sink.given c.sought_plan.new.messages.errors) (g.E.Sink.faults c.sought_plan.new.messages.errors)
    c.sought_plan.new.messages.is_lost)
    c.in_ok-told.ensures.looked c.in_ok-told.ensures.same _ _ _ _ _ (g.M.Load.faults c.sought_plan.new.image) _ _
    c.in_ok-told.ensures.no_fault c.in_err-report.ensures.reported in
    let p = err_from_is_err_and c.from_residual-in_err-report.result
    c.from_residual-in_err-report.ensures.1 in
    rw (p.1, p.2) h

pub returns-in_err-tell_layout-clause-reported : goal.returns-in_err-tell_layout-clause-reported
returns-in_err-tell_layout-clause-reported g c =
    let h : IsNoSoughtReport c.args.asked.now c.args.known.now c.args.path.now (g.M.Load.holds c.args.image.now)
    (g.M.Load.faults c.args.image.now) (g.M.Load.faults c.report_by.new.image) (g.O.Sink.given c.args.out.now)
    (g.O.Sink.given c.tell_layout.new.out) (g.O.Sink.faults c.args.out.now) (g.O.Sink.faults c.tell_layout.new.out)
    (seen (g.E.Sink.given c.args.messages.now.errors) (g.E.Sink.faults c.args.messages.now.errors)
    c.args.messages.now.is_lost)
    (seen (g.E.Sink.given c.tell_layout.new.messages.errors) (g.E.Sink.faults c.tell_layout.new.messages.errors)
    c.tell_layout.new.messages.is_lost) c.in_err-tell_layout.field-0.0 =
    unended c.args.asked.now c.args.known.now c.args.path.now _ _ c.in_ok-told.told c.in_ok-told.ensures.planned
    (seen (g.E.Sink.given c.args.messages.now.errors) (g.E.Sink.faults c.args.messages.now.errors)
    c.args.messages.now.is_lost)
    (seen (g.E.Sink.given c.sought_plan.new.messages.errors) (g.E.Sink.faults c.sought_plan.new.messages.errors)
    c.sought_plan.new.messages.is_lost)
    c.in_ok-told.ensures.looked c.in_ok-told.ensures.same (g.O.Sink.given c.args.out.now)
    (g.O.Sink.given c.report_by.new.out) (g.O.Sink.given c.tell_layout.new.out) c.in_ok-report.report
    c.in_ok-report.ensures.reported c.deref.result.now c.deref.ensures (g.O.Sink.faults c.args.out.now)
    (g.O.Sink.faults c.report_by.new.out) (g.O.Sink.faults c.tell_layout.new.out) c.in_ok-report.ensures.faultless
    (seen (g.E.Sink.given c.tell_layout.new.messages.errors) (g.E.Sink.faults c.tell_layout.new.messages.errors)
    c.tell_layout.new.messages.is_lost)
    (g.M.Load.faults c.args.image.now) (g.M.Load.faults c.report_by.new.image) c.in_err-tell_layout.field-0.0
    (c.in_ok-report.ensures.no_fault ∙ c.in_ok-told.ensures.no_fault) c.in_err-tell_layout.ensures.told in
    let p = err_from_is_err_and c.from_residual-in_err-tell_layout.result
    c.from_residual-in_err-tell_layout.ensures.1 in
    rw (p.1, p.2) h

pub returns-clause-reported : goal.returns-clause-reported
returns-clause-reported g c =
    ended c.args.asked.now c.args.known.now c.args.path.now _ _ c.in_ok-told.told c.in_ok-told.ensures.planned
    (seen (g.E.Sink.given c.args.messages.now.errors) (g.E.Sink.faults c.args.messages.now.errors)
    c.args.messages.now.is_lost)
    (seen (g.E.Sink.given c.sought_plan.new.messages.errors) (g.E.Sink.faults c.sought_plan.new.messages.errors)
    c.sought_plan.new.messages.is_lost)
    c.in_ok-told.ensures.looked c.in_ok-told.ensures.same (g.O.Sink.given c.args.out.now)
    (g.O.Sink.given c.report_by.new.out) (g.O.Sink.given c.tell_layout.new.out) c.in_ok-report.report
    c.in_ok-report.ensures.reported c.deref.result.now c.deref.ensures (g.O.Sink.faults c.args.out.now)
    (g.O.Sink.faults c.report_by.new.out) (g.O.Sink.faults c.tell_layout.new.out) c.in_ok-report.ensures.faultless
    (seen (g.E.Sink.given c.tell_layout.new.messages.errors) (g.E.Sink.faults c.tell_layout.new.messages.errors)
    c.tell_layout.new.messages.is_lost)
    c.in_ok-tell_layout.ensures.told
