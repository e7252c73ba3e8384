-- A row that fits decides, any other leaves it to the rest. For `reason_in`.
use Rattle.std.proofs.Common.{refl, sym, ◌∙◌, arith}
use Rattle.region_report.proofs.ReasonRows.{row_yes, row_no, row_none}
use Rattle.region_report.proofs.ends.reason_in.Goals as goal

pub loop-row-init : goal.loop-row-init
loop-row-init c = refl

pub returns-then-begins : goal.returns-then-begins
returns-then-begins c =
    sym (c.loop-row.invariant
    ∙ row_yes c.args.rows.now c.args.text.now c.loop-row.row-index _ c.loop-row-test.true
    (sym c.begins.ensures ∙ c.if-begins.true))

pub loop-row-preserved : goal.loop-row-preserved
loop-row-preserved c =
    c.loop-row.invariant
    ∙ row_no c.args.rows.now c.args.text.now c.loop-row.row-index _ c.loop-row-test.true
    (sym c.begins.ensures ∙ c.if-begins.false)

pub returns : goal.returns
returns c =
    sym (c.loop-row.invariant
    ∙ row_none c.args.rows.now c.args.text.now c.loop-row.row-index (omega (arith, c.loop-row-test.false)))
