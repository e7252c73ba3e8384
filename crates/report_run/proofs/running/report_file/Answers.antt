-- The count is told, and then the file is reported.
use Rattle.report_run.proofs.Steps.{step}
use Rattle.report_run.proofs.running.report_file.Goals as goal

pub returns-clause-step : goal.returns-clause-step
returns-clause-step g c =
    step c.args.asked.now c.args.i c.args.all _ _ _ _ _ _ _ c.one_path.result c.is_counted.result c.is_counted.ensures
    c.tell_count.ensures c.one_path.ensures.later (rw (c.deref.ensures, c.deref-2.ensures) at c.one_path.ensures.done)
