-- A loading, done or failed, is a line `boot`, whatever was loaded before. For `load`.
use Rattle.std.proofs.Common.{Err, subst, sym, ap}
use Rattle.grammar_spec.specs.declared.line.Line.TheVariants.{Boot}
use Rattle.blk_spec.specs.Answers.{Device, device}
use Rattle.blk_session.specs.declared.errors.LineError.{LineError}
use Rattle.blk_session.specs.Lines.{LineFails}
use Rattle.blk_session.proofs.Operations.{kept_call}
use Rattle.blk_session.proofs.CallLines.{load_done, load_fails}
use Rattle.blk_session.proofs.calls.load.Goals as goal

pub returns-in-Ok-clause-done : goal.returns-in-Ok-clause-done
returns-in-Ok-clause-done g c = load_done c.args.layout c.in-Ok.blk _ _ c.in-Ok.ensures.answer c.in-Ok.ensures.unread

pub returns-in-Err-clause-done : goal.returns-in-Err-clause-done
returns-in-Err-clause-done g c = λ old is.
    let a : Device = device (g.S.Load.holds c.args.store.now) (g.S.Load.writes c.args.store.now)
    (g.S.Load.read_faults c.args.store.now) in
    let b : Device = device (g.S.Load.holds c.load.new.store) (g.S.Load.writes c.load.new.store)
    (g.S.Load.read_faults c.load.new.store) in
    subst (λ (e : LineError). LineFails e c.args.layout old Boot a b (g.S.Load.faults c.args.store.now)
    (g.S.Load.faults c.load.new.store)) (sym c.line_error.ensures)
    (load_fails c.args.layout c.in-Err.fault a b (g.S.Load.faults c.args.store.now) (g.S.Load.faults c.load.new.store)
    c.in-Err.ensures.answer (λ e. c.in-Err.ensures.cause (ap Err e)) old is)

pub returns-in-Err-clause-kept : goal.returns-in-Err-clause-kept
returns-in-Err-clause-kept g c = kept_call c.in-Err.fault c.line_error.result _ _ c.line_error.ensures
    c.in-Err.ensures.kept
