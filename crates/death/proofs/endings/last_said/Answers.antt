-- A line that says something is the last so far, any other leaves it. For `last_said`.
use Rattle.std.proofs.Common.{cond, ap, sym, ◌∙◌, Some}
use Rattle.std.specs.Option.{option_or}
use Rattle.death_spec.specs.Lines.{lines_from}
use Rattle.death_spec.specs.Endings.{last_said}
use Rattle.death.proofs.MarkedLines.{or_none}
use Rattle.death.proofs.Walks.{said_more, said_none}
use Rattle.death.proofs.endings.last_said.Goals as goal

pub lines-init : goal.lines-init
lines-init c = sym (or_none _)

pub lines-preserved : goal.lines-preserved
lines-preserved c =
    c.lines.invariant
    ∙ ap (λ ls. option_or (last_said c.args.text.now ls) c.lines.last) c.in-Some.ensures.line
    ∙ said_more c.args.text.now c.in-Some.line (lines_from c.args.text.now c.in-Some.line.next) c.lines.last
    ∙ ap (option_or (last_said c.args.text.now (lines_from c.args.text.now c.in-Some.line.next)))
    (sym (c.later-last.ensures ∙ ap (λ t. cond t (Some c.in-Some.line) c.lines.last) c.says.ensures))

pub returns : goal.returns
returns c =
    sym (c.lines.invariant
    ∙ ap (λ ls. option_or (last_said c.args.text.now ls) c.lines.last) c.in_default.ensures.none
    ∙ said_none c.args.text.now c.lines.last)
