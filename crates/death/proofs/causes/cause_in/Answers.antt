-- A row whose words stand in the text decides, any other leaves it to the rest. For `cause_in`.
use Rattle.std.proofs.Common.{refl, sym, ◌∙◌, arith}
use Rattle.death.proofs.CauseRows.{row_yes, row_no, row_none}
use Rattle.death.proofs.causes.cause_in.Goals as goal

pub loop-row-init : goal.loop-row-init
loop-row-init c = refl

pub returns-then-stand_in : goal.returns-then-stand_in
returns-then-stand_in c =
    sym (c.loop-row.invariant
    ∙ row_yes c.args.rows.now c.args.text.now c.loop-row.row-index _ c.loop-row-test.true
    (sym c.stand_in.ensures ∙ c.if-stand_in.true))

pub loop-row-preserved : goal.loop-row-preserved
loop-row-preserved c =
    c.loop-row.invariant
    ∙ row_no c.args.rows.now c.args.text.now c.loop-row.row-index _ c.loop-row-test.true
    (sym c.stand_in.ensures ∙ c.if-stand_in.false)

pub returns : goal.returns
returns c =
    sym (c.loop-row.invariant
    ∙ row_none c.args.rows.now c.args.text.now c.loop-row.row-index (omega (arith, c.loop-row-test.false)))
