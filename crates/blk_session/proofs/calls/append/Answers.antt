-- An append to a ring, done or failed, is that operation of a session, and a fault of the store
-- counts once. For `append`.
use Rattle.std.proofs.Common.{Err, ap}
use Rattle.blk_spec.specs.States.{append_refusal, append_of, appended}
use Rattle.blk_spec.specs.Session.{Append}
use Rattle.blk_session.proofs.Operations.{append_call, call_done, call_fails, kept_call}
use Rattle.blk_session.proofs.calls.append.Goals as goal

pub returns-in-Ok-clause-done : goal.returns-in-Ok-clause-done
returns-in-Ok-clause-done g c =
    call_done c.args.blk.now (Append c.args.ring c.args.payload.now) (append_refusal c.args.blk.now c.args.ring)
    (append_of c.args.blk.now c.args.ring c.args.payload.now)
    (append_of c.args.blk.now c.args.ring c.args.payload.now)
    (appended c.args.blk.now c.args.ring c.args.payload.now)
    (append_call c.args.blk.now c.args.ring c.args.payload.now)
    c.append.new.self _ _ c.in-Ok.ensures.answer

pub returns-in-Err-clause-done : goal.returns-in-Err-clause-done
returns-in-Err-clause-done g c =
    call_fails c.args.blk.now (Append c.args.ring c.args.payload.now) (append_refusal c.args.blk.now c.args.ring)
    (append_of c.args.blk.now c.args.ring c.args.payload.now)
    (append_of c.args.blk.now c.args.ring c.args.payload.now)
    (appended c.args.blk.now c.args.ring c.args.payload.now)
    (append_call c.args.blk.now c.args.ring c.args.payload.now)
    c.in-Err.fault c.line_error.result c.line_error.ensures c.append.new.self _
    _ (g.S.Load.faults c.args.store.now) (g.S.Load.faults c.append.new.store)
    c.in-Err.ensures.answer (λ e. c.in-Err.ensures.cause (ap Err e))

pub returns-in-Err-clause-kept : goal.returns-in-Err-clause-kept
returns-in-Err-clause-kept g c = kept_call c.in-Err.fault c.line_error.result _ _ c.line_error.ensures
    c.in-Err.ensures.kept
