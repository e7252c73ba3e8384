-- What was found is told, and then judged. For `regions_found`.
use Rattle.std.proofs.Common.{rules, inr}
use Rattle.report_run.specs.Messages.{seen}
use Rattle.report_run.specs.Choice.{AreNotFound}
use Rattle.report_run.proofs.FoundRegions.{are_found, are_untaken}
use Rattle.report_run.proofs.choosing.regions_found.Goals as goal

pub returns-in_err-judge-clause-found : goal.returns-in_err-judge-clause-found
returns-in_err-judge-clause-found g c =
    let h : AreNotFound c.args.asked.now c.args.known.now c.args.path.now c.args.base
    (g.M.Load.holds c.args.memory.now) (g.M.Load.faults c.args.memory.now) (g.M.Load.faults c.searched.new.memory)
    (seen (g.E.Sink.given c.args.messages.now.errors) (g.E.Sink.faults c.args.messages.now.errors)
    c.args.messages.now.is_lost)
    (seen (g.E.Sink.given c.tell.new.self.errors) (g.E.Sink.faults c.tell.new.self.errors) c.tell.new.self.is_lost)
    c.in_err-judge.field-0.0 =
    inr (are_untaken c.args.asked.now c.args.known.now c.args.path.now c.args.base _ _ _ c.in_ok-lines.field-0
    c.in_ok-lines.ensures.found c.as_bytes.result.now c.as_bytes.ensures.value c.tell.ensures c.deref.result.now
    c.deref.ensures.value (g.M.Load.faults c.args.memory.now) (g.M.Load.faults c.searched.new.memory)
    c.in_err-judge.field-0.0 c.in_ok-lines.ensures.no_fault c.in_err-judge.ensures) in
    search rules

pub returns-clause-found : goal.returns-clause-found
returns-clause-found g c =
    are_found c.args.asked.now c.args.known.now c.args.path.now c.args.base _ _ _ c.in_ok-lines.field-0
    c.in_ok-lines.ensures.found c.as_bytes.result.now c.as_bytes.ensures.value c.tell.ensures c.deref.result.now
    c.deref.ensures.value c.in_ok-judge.ensures
