-- The image could not be read, or it is a log, whose report follows, or something else. For `unknown_report`.
use Rattle.std.proofs.Common.{subst, Option}
use Rattle.report_run.specs.declared.boots.HeldLog.{HeldLog}
use Rattle.report_run.specs.Messages.{seen}
use Rattle.report_run.specs.Logs.{IsLooked}
use Rattle.report_run.proofs.LogEnds.{unseen, by_log, by_others}
use Rattle.report_run.proofs.images.unknown_report.Goals as goal

pub returns-in-Err-clause-reported : goal.returns-in-Err-clause-reported
returns-in-Err-clause-reported g c =
    unseen c.args.asked.now c.args.known.now c.args.path.now (g.M.Load.holds c.args.image.now)
    (g.O.Sink.given c.args.out.now) (g.O.Sink.given c.args.out.now) (g.M.Load.faults c.args.image.now)
    (g.M.Load.faults c.held_log.new.image) (g.O.Sink.faults c.args.out.now) (g.O.Sink.faults c.args.out.now)
    (seen (g.E.Sink.given c.args.messages.now.errors) (g.E.Sink.faults c.args.messages.now.errors)
    c.args.messages.now.is_lost) c.in-Err.why c.in-Err.ensures.unlooked

pub returns-in-Ok-Some-clause-reported : goal.returns-in-Ok-Some-clause-reported
returns-in-Ok-Some-clause-reported g c =
    by_log c.args.asked.now c.args.known.now c.args.path.now (g.M.Load.holds c.args.image.now)
    (g.O.Sink.given c.args.out.now) (g.O.Sink.given c.report_log.new.out) (g.M.Load.faults c.args.image.now)
    (g.M.Load.faults c.held_log.new.image) (g.O.Sink.faults c.args.out.now) (g.O.Sink.faults c.report_log.new.out)
    c.in-Ok-Some.log
    (seen (g.E.Sink.given c.args.messages.now.errors) (g.E.Sink.faults c.args.messages.now.errors)
    c.args.messages.now.is_lost)
    c.report_log.result
    (subst (λ (o : Option HeldLog). IsLooked c.args.asked.now.logs (g.M.Load.holds c.args.image.now) o)
    c.in-Ok-Some.field-0-is c.in-Ok-Some.ensures.looked)
    c.in-Ok-Some.ensures.no_fault c.report_log.ensures.reported

pub returns-in-Ok-None-clause-reported : goal.returns-in-Ok-None-clause-reported
returns-in-Ok-None-clause-reported g c =
    by_others c.args.asked.now c.args.known.now c.args.path.now (g.M.Load.holds c.args.image.now)
    (g.O.Sink.given c.args.out.now) (g.O.Sink.given c.unlogged_report.new.out) (g.M.Load.faults c.args.image.now)
    (g.M.Load.faults c.unlogged_report.new.image) (g.O.Sink.faults c.args.out.now)
    (g.O.Sink.faults c.unlogged_report.new.out) (g.M.Load.holds c.held_log.new.image)
    (g.M.Load.faults c.held_log.new.image) _ _ c.unlogged_report.result
    (subst (λ (o : Option HeldLog). IsLooked c.args.asked.now.logs (g.M.Load.holds c.args.image.now) o)
    c.in-Ok-None.field-0-is c.in-Ok-None.ensures.looked)
    c.in-Ok-None.ensures.same c.in-Ok-None.ensures.no_fault c.unlogged_report.ensures.reported
