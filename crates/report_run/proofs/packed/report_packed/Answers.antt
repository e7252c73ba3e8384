-- The line on what does not inflate, and then the report. For `report_packed`.
use Rattle.report_run.specs.Messages.{seen}
use Rattle.report_run.proofs.PackedEnds.{by_text}
use Rattle.report_run.proofs.packed.report_packed.Goals as goal

pub returns-clause-reported : goal.returns-clause-reported
returns-clause-reported g c =
    by_text c.args.asked.now c.args.path.now (g.M.Load.holds c.args.image.now) (g.O.Sink.given c.args.out.now)
    (g.O.Sink.given c.report_log.new.out) (g.M.Load.faults c.args.image.now) (g.M.Load.faults c.packed_log.new.image)
    (g.O.Sink.faults c.args.out.now) (g.O.Sink.faults c.report_log.new.out)
    (seen (g.E.Sink.given c.args.messages.now.errors) (g.E.Sink.faults c.args.messages.now.errors)
    c.args.messages.now.is_lost)
    (seen (g.E.Sink.given c.tell_part.new.self.errors) (g.E.Sink.faults c.tell_part.new.self.errors)
    c.tell_part.new.self.is_lost)
    c.in_ok-log.field-0 c.in_ok-log.ensures.held c.tell_part.ensures c.report_log.result
    c.in_ok-log.ensures.no_fault c.report_log.ensures.reported
