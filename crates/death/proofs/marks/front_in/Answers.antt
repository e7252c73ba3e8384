-- A row that fits decides, any other leaves it to the rest. For `front_in`.
use Rattle.std.proofs.Common.{refl, sym, ◌∙◌, arith}
use Rattle.death.proofs.Fronts.{row_yes, row_no, row_none}
use Rattle.death.proofs.marks.front_in.Goals as goal

pub loop-row-init : goal.loop-row-init
loop-row-init c = refl

pub returns-then-starts_with-clause-front : goal.returns-then-starts_with-clause-front
returns-then-starts_with-clause-front c =
    sym (c.loop-row.invariant
    ∙ row_yes c.args.rows.now c.args.text.now c.loop-row.row-index _ c.loop-row-test.true
    (sym c.starts_with.ensures ∙ c.if-starts_with.true))

pub loop-row-preserved : goal.loop-row-preserved
loop-row-preserved c =
    c.loop-row.invariant
    ∙ row_no c.args.rows.now c.args.text.now c.loop-row.row-index _ c.loop-row-test.true
    (sym c.starts_with.ensures ∙ c.if-starts_with.false)

pub returns-clause-front : goal.returns-clause-front
returns-clause-front c =
    sym (c.loop-row.invariant
    ∙ row_none c.args.rows.now c.args.text.now c.loop-row.row-index (omega (arith, c.loop-row-test.false)))
