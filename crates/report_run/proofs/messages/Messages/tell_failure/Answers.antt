-- A layout that is not taken: its line is told first.
use Rattle.report_run.proofs.BestLines.{unexplained, unfinished}
use Rattle.report_run.proofs.messages.Messages.tell_failure.Goals as goal

pub returns-in-Unexplained : goal.returns-in-Unexplained
returns-in-Unexplained g c =
    unexplained c.args.path.now c.deref-in-Unexplained.result.now c.in-Unexplained.best c.args.failure.now _ _
    c.in-Unexplained.is c.deref-in-Unexplained.ensures c.tell_best.ensures

pub returns-in-Unfinished : goal.returns-in-Unfinished
returns-in-Unfinished g c =
    unfinished c.args.path.now c.deref-in-Unfinished.result.now c.in-Unfinished.best c.args.failure.now _ _
    c.in-Unfinished.is c.deref-in-Unfinished.ensures c.tell_best-in-Unfinished.ensures
