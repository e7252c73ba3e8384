-- A text with the mark is parted there, one without is one part. For `cut`.
use Rattle.script.proofs.Cuts.{cut_at, cut_further, cut_nowhere}
use Rattle.script.proofs.rows.cut.Goals as goal

pub returns-in_err-at-clause-none : goal.returns-in_err-at-clause-none
returns-in_err-at-clause-none c =
    rw c.from_residual.ensures (cut_nowhere c.args.mark c.args.text.now c.in_err-at.ensures)

pub returns-clause-parts : goal.returns-clause-parts
returns-clause-parts c =
    let first = c.in_ok-at.ensures in
    rw (c.split_at.ensures.front, c.split_at-2.ensures.back)
    (cut_at c.args.mark c.args.text.now c.in_ok-at.at first.0 first.1)

pub returns-clause-further : goal.returns-clause-further
returns-clause-further c = λ more.
    let first = c.in_ok-at.ensures in
    rw (c.split_at.ensures.front, c.split_at-2.ensures.back)
    (cut_further c.args.mark c.args.text.now more c.in_ok-at.at first.0 first.1)
