-- A dump, done or failed, is that operation of a session, and a fault of the store counts once.
-- For `dump`.
use Rattle.std.proofs.Common.{Err, ap}
use Rattle.blk_spec.specs.States.{dump_refusal, dump_of, dump_pieces_of, dumped}
use Rattle.blk_spec.specs.Session.{Dump as DumpNow}
use Rattle.blk_session.proofs.Operations.{dump_call, call_done, call_fails, kept_call}
use Rattle.blk_session.proofs.calls.dump.Goals as goal

pub returns-in-Ok-clause-done : goal.returns-in-Ok-clause-done
returns-in-Ok-clause-done g c =
    call_done c.args.blk.now (DumpNow c.args.time c.args.packed c.args.reason c.args.body.now)
    (dump_refusal c.args.blk.now) (dump_of c.args.blk.now c.args.time c.args.packed c.args.reason c.args.body.now)
    (dump_pieces_of c.args.blk.now c.args.time c.args.packed c.args.reason c.args.body.now)
    (dumped c.args.blk.now c.args.reason) (dump_call c.args.blk.now c.args.time c.args.packed c.args.reason
    c.args.body.now)
    c.dump.new.self _ _ c.in-Ok.ensures.answer

pub returns-in-Err-clause-done : goal.returns-in-Err-clause-done
returns-in-Err-clause-done g c =
    call_fails c.args.blk.now (DumpNow c.args.time c.args.packed c.args.reason c.args.body.now)
    (dump_refusal c.args.blk.now) (dump_of c.args.blk.now c.args.time c.args.packed c.args.reason c.args.body.now)
    (dump_pieces_of c.args.blk.now c.args.time c.args.packed c.args.reason c.args.body.now)
    (dumped c.args.blk.now c.args.reason) (dump_call c.args.blk.now c.args.time c.args.packed c.args.reason
    c.args.body.now)
    c.in-Err.fault c.line_error.result c.line_error.ensures c.dump.new.self _
    _ (g.S.Load.faults c.args.store.now) (g.S.Load.faults c.dump.new.store)
    c.in-Err.ensures.answer (λ e. c.in-Err.ensures.cause (ap Err e))

pub returns-in-Err-clause-kept : goal.returns-in-Err-clause-kept
returns-in-Err-clause-kept g c = kept_call c.in-Err.fault c.line_error.result _ _ c.line_error.ensures
    c.in-Err.ensures.kept
