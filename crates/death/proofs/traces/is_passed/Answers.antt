-- A row that counts and fits decides, any other leaves it to the rest. For `is_passed`.
use Rattle.std.proofs.Common.{refl, sym, ◌∙◌, arith}
use Rattle.death.proofs.FrameRows.{row_yes, row_no, row_none}
use Rattle.death.proofs.traces.is_passed.Goals as goal

pub loop-row-init : goal.loop-row-init
loop-row-init c = refl

pub returns-then-passes : goal.returns-then-passes
returns-then-passes c =
    sym (c.loop-row.invariant
    ∙ row_yes c.args.rows.now c.args.hangs c.args.name.now c.loop-row.row-index _ c.loop-row-test.true
    (sym c.passes.ensures ∙ c.if-passes.true))

pub loop-row-preserved : goal.loop-row-preserved
loop-row-preserved c =
    c.loop-row.invariant
    ∙ row_no c.args.rows.now c.args.hangs c.args.name.now c.loop-row.row-index _ c.loop-row-test.true
    (sym c.passes.ensures ∙ c.if-passes.false)

pub returns : goal.returns
returns c =
    sym (c.loop-row.invariant
    ∙ row_none c.args.rows.now c.args.hangs c.args.name.now c.loop-row.row-index (omega (arith, c.loop-row-test.false)))
