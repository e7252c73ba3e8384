-- A line that says something is the lower one, any other changes nothing. For `last_two`.
use Rattle.std.proofs.Common.{sym, ap, ◌∙◌}
use Rattle.death_spec.specs.Lines.{lines_from}
use Rattle.death_spec.specs.Reports.{last_two}
use Rattle.death.proofs.Walks.{two_more, two_none}
use Rattle.death.proofs.messages.last_two.Goals as goal

pub lines-preserved : goal.lines-preserved
lines-preserved c =
    c.lines.invariant
    ∙ ap (last_two c.args.text.now c.lines.found) c.in-Some.ensures.line
    ∙ two_more c.args.text.now c.lines.found c.in-Some.line (lines_from c.args.text.now c.in-Some.line.next)
    ∙ ap (λ f. last_two c.args.text.now f (lines_from c.args.text.now c.in-Some.line.next))
    (sym c.with_line-found.ensures)

pub returns : goal.returns
returns c =
    sym (c.lines.invariant
    ∙ ap (last_two c.args.text.now c.lines.found) c.in_default.ensures.none
    ∙ two_none c.args.text.now c.lines.found)
