-- Each row is passed by a text that begins with another byte. For `firsts_of`.
use Rattle.std.proofs.Common.{◌∷◌, refl, ◌∙◌, arith}
use Rattle.death.proofs.Fronts.{row_no, row_none}
use Rattle.death.proofs.marks.firsts_of.Goals as goal

pub loop-row-init : goal.loop-row-init
loop-row-init c = λ b bs byte off. refl

pub loop-row-preserved : goal.loop-row-preserved
loop-row-preserved c = λ b bs byte off.
    c.loop-row.invariant b bs byte (c.add_first.ensures.others b byte off)
    ∙ row_no c.args.rows.now (b ∷ bs) c.loop-row.row-index _ c.loop-row-test.true
    (c.add_first.ensures.words b bs byte off)

pub returns : goal.returns
returns c = λ b bs byte off.
    c.loop-row.invariant b bs byte off
    ∙ row_none c.args.rows.now (b ∷ bs) c.loop-row.row-index (omega (arith, c.loop-row-test.false))
