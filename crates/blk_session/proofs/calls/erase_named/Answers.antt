-- An erasure, done or failed, is that operation of a session, and a fault of the store counts
-- once. For `erase_named`.
use Rattle.std.proofs.Common.{Some, Err, ap}
use Rattle.blk_spec.specs.States.{erase_refusal, erase_of, erased}
use Rattle.blk_spec.specs.Session.{Erase as EraseRecord}
use Rattle.blk_session.proofs.Operations.{erase_call, call_done, call_fails, kept_call}
use Rattle.blk_session.proofs.calls.erase_named.Goals as goal

pub returns-in-Ok-clause-done : goal.returns-in-Ok-clause-done
returns-in-Ok-clause-done g c =
    call_done c.args.blk.now (EraseRecord (Some c.args.name)) (erase_refusal c.args.blk.now c.args.name)
    (erase_of c.args.blk.now c.args.name)
    (erase_of c.args.blk.now c.args.name) (erased c.args.blk.now c.args.name)
    (erase_call c.args.blk.now c.args.name)
    c.erase.new.self _ _ c.in-Ok.ensures.answer

pub returns-in-Err-clause-done : goal.returns-in-Err-clause-done
returns-in-Err-clause-done g c =
    call_fails c.args.blk.now (EraseRecord (Some c.args.name)) (erase_refusal c.args.blk.now c.args.name)
    (erase_of c.args.blk.now c.args.name)
    (erase_of c.args.blk.now c.args.name) (erased c.args.blk.now c.args.name)
    (erase_call c.args.blk.now c.args.name)
    c.in-Err.fault c.line_error.result c.line_error.ensures c.erase.new.self _
    _ (g.S.Load.faults c.args.store.now) (g.S.Load.faults c.erase.new.store)
    c.in-Err.ensures.answer (λ e. c.in-Err.ensures.cause (ap Err e))

pub returns-in-Err-clause-kept : goal.returns-in-Err-clause-kept
returns-in-Err-clause-kept g c = kept_call c.in-Err.fault c.line_error.result _ _ c.line_error.ensures
    c.in-Err.ensures.kept
