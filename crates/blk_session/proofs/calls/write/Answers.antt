-- A line `write` to a ring is an append, and one to another zone is refused. For `write`.
use Rattle.std.proofs.Common.{Some, ◌∙◌, sym}
use Rattle.blk_spec.specs.Session.{Append}
use Rattle.grammar_spec.specs.declared.line.Line.TheVariants.{Write}
use Rattle.blk_session.proofs.Operations.{line_ends}
use Rattle.blk_session.proofs.CallLines.{write_is, write_refused}
use Rattle.blk_session.proofs.calls.write.Goals as goal

pub returns-in-Some-clause-done : goal.returns-in-Some-clause-done
returns-in-Some-clause-done g c =
    line_ends c.args.blk.now.layout (Some c.args.blk.now) (Write c.args.zone c.args.bytes.now)
    (Append c.in-Some.ring c.as_slice.result.now)
    (write_is (Some c.args.blk.now) c.args.zone c.in-Some.ring c.args.bytes.now c.as_slice.result.now
    (sym c.in-Some.is ∙ c.ring_for.ensures) c.as_slice.ensures)
    c.append.result (Some c.append.new.blk) _ _
    (g.S.Load.faults c.args.store.now) (g.S.Load.faults c.append.new.store) c.append.ensures.done

pub returns-in-None-clause-done : goal.returns-in-None-clause-done
returns-in-None-clause-done g c =
    write_refused c.args.blk.now c.args.zone c.args.bytes.now _
    (g.S.Load.faults c.args.store.now) (sym c.in-None.is ∙ c.ring_for.ensures)
