-- A read failed, or memory ran out. For `is_text`.
use Rattle.report_run.specs.declared.failures.Failure.{Failure}
use Rattle.report_run.specs.Failures.{IsUnread}
use Rattle.report_run.proofs.Fronts.{unread}
use Rattle.report_run.proofs.logs.is_text.Goals as goal

pub returns-in-Err-clause-unlooked : goal.returns-in-Err-clause-unlooked
returns-in-Err-clause-unlooked g c =
    let before = g.M.Load.faults c.args.image.now in
    let now = g.M.Load.faults c.load_front.new.image in
    unread (λ (w : Failure). IsUnread before now w) before now (λ e. e) (λ r. r) c.in-Err.stop c.stop_failure.result
    c.stop_failure.ensures c.in-Err.ensures.err c.in-Err.ensures.counts
