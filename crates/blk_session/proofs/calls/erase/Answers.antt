-- A name that a record can have is erased by the session's operation; any other is refused. For
-- `erase`.
use Rattle.std.proofs.Common.{Some, ◌∙◌, sym}
use Rattle.blk_spec.specs.Session.{Erase as EraseRecord}
use Rattle.grammar_spec.specs.declared.line.Line.TheVariants.{Erase}
use Rattle.blk_session.proofs.Operations.{line_ends}
use Rattle.blk_session.proofs.CallLines.{erase_is, erase_refused}
use Rattle.blk_session.proofs.calls.erase.Goals as goal

pub returns-in-Some-clause-done : goal.returns-in-Some-clause-done
returns-in-Some-clause-done g c =
    line_ends c.args.blk.now.layout (Some c.args.blk.now) (Erase c.args.name.now) (EraseRecord (Some c.in-Some.name))
    (erase_is (Some c.args.blk.now) c.args.name.now (Some c.in-Some.name)
    (sym c.in-Some.is ∙ (rw c.as_slice.ensures at c.find.ensures)))
    c.erase_named.result (Some c.erase_named.new.blk) _
    _ (g.S.Load.faults c.args.store.now)
    (g.S.Load.faults c.erase_named.new.store) c.erase_named.ensures.done

pub returns-in-None-clause-done : goal.returns-in-None-clause-done
returns-in-None-clause-done g c =
    erase_refused c.args.blk.now c.args.name.now _
    (g.S.Load.faults c.args.store.now) (sym c.in-None.is
    ∙ (rw c.as_slice.ensures at c.find.ensures))
