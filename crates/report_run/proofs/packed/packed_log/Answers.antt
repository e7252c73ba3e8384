-- The text of the file's bytes, as a log; or a read failed, or memory ran out. For `packed_log`.
use Rattle.report_run.specs.declared.failures.Failure.{Failure}
use Rattle.report_run.specs.Packed.{IsUninflated}
use Rattle.report_run.proofs.Fronts.{unread}
use Rattle.report_run.proofs.PackedEnds.{held}
use Rattle.report_run.proofs.packed.packed_log.Goals as goal

pub returns-in-Err-clause-unheld : goal.returns-in-Err-clause-unheld
returns-in-Err-clause-unheld g c =
    let before = g.M.Load.faults c.args.image.now in
    let now = g.M.Load.faults c.load_front.new.image in
    unread (λ (w : Failure). IsUninflated (g.M.Load.holds c.args.image.now) before now w) before now (λ e. e) (λ r. r)
    c.in-Err.stop c.stop_failure.result c.stop_failure.ensures c.in-Err.ensures.err c.in-Err.ensures.counts

pub returns-clause-held : goal.returns-clause-held
returns-clause-held g c =
    held (g.M.Load.holds c.args.image.now) c.in-Ok.bytes.items c.deref.result.now c.in_ok-text.field-0.text.items
    c.in_ok-text.field-0.fault c.in_ok-log.log c.in-Ok.ensures.ok.1 c.deref.ensures.value c.in_ok-text.ensures
    c.in_ok-log.ensures
