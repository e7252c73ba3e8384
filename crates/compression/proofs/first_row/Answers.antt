-- A row that fits decides, any other leaves it to the rest. For `first_row`.
use Rattle.std.proofs.Common.{refl, sym, ◌∙◌, arith}
use Rattle.compression.proofs.Fronts.{row_yes, row_no, row_none}
use Rattle.compression.proofs.first_row.Goals as goal

pub loop-row-init : goal.loop-row-init
loop-row-init c = refl

pub returns-then-starts_with : goal.returns-then-starts_with
returns-then-starts_with c =
    sym (c.loop-row.invariant
    ∙ row_yes c.args.rows.now c.args.front.now c.loop-row.row-index _ c.loop-row-test.true
    (sym c.starts_with.ensures.value ∙ c.if-starts_with.true))

pub loop-row-preserved : goal.loop-row-preserved
loop-row-preserved c =
    c.loop-row.invariant
    ∙ row_no c.args.rows.now c.args.front.now c.loop-row.row-index _ c.loop-row-test.true
    (sym c.starts_with.ensures.value ∙ c.if-starts_with.false)

pub returns : goal.returns
returns c =
    sym (c.loop-row.invariant
    ∙ row_none c.args.rows.now c.args.front.now c.loop-row.row-index (omega (arith, c.loop-row-test.false)))
