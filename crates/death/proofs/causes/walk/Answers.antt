-- A line can open a report, end it, or add one that counts. For `walk`.
use Rattle.std.proofs.Common.{refl, ap, sym, ◌∙◌}
use Rattle.std.specs.Option.{option_or}
use Rattle.death_spec.specs.Lines.{lines_from, kind}
use Rattle.death_spec.specs.Causes.{open_after, open_below, found, last_found}
use Rattle.death.proofs.MarkedLines.{or_none}
use Rattle.death.proofs.Walks.{open_more, open_none, found_more, found_none}
use Rattle.death.proofs.causes.walk.Goals as goal

pub lines-init : goal.lines-init
lines-init c = (refl, sym (or_none _))

pub lines-preserved : goal.lines-preserved
lines-preserved c = (
  c.lines.invariant.0
      ∙ ap (open_below c.args.text.now c.lines.opened) c.in-Some.ensures.line
      ∙ open_more c.args.text.now c.lines.opened c.in-Some.line (lines_from c.args.text.now c.in-Some.line.next)
      ∙ ap (λ o. open_below c.args.text.now o (lines_from c.args.text.now c.in-Some.line.next))
      (sym (c.open_after-opened.ensures ∙ ap (λ k. open_after c.lines.opened k c.in-Some.line) c.kind_by-mark.ensures)),
  c.lines.invariant.1
      ∙ ap (λ ls. option_or (last_found c.args.text.now c.args.cause c.lines.opened ls) c.lines.last)
      c.in-Some.ensures.line
      ∙ found_more c.args.text.now c.args.cause c.lines.opened c.in-Some.line
      (lines_from c.args.text.now c.in-Some.line.next) c.lines.last
      ∙ ap (λ o. option_or (last_found c.args.text.now c.args.cause o (lines_from c.args.text.now c.in-Some.line.next))
      (option_or (found c.args.text.now c.args.cause c.lines.opened (kind c.args.text.now c.in-Some.line)
      c.in-Some.line)
      c.lines.last))
      (sym (c.open_after-opened.ensures ∙ ap (λ k. open_after c.lines.opened k c.in-Some.line) c.kind_by-mark.ensures))
      ∙ ap (option_or (last_found c.args.text.now c.args.cause c.open_after-opened.result
      (lines_from c.args.text.now c.in-Some.line.next)))
      (sym (c.or-last.ensures
      ∙ ap (λ f. option_or f c.lines.last) (c.found.ensures
      ∙ ap (λ k. found c.args.text.now c.args.cause c.lines.opened k c.in-Some.line) c.kind_by-mark.ensures))),
)

pub returns-clause-opened : goal.returns-clause-opened
returns-clause-opened c =
    sym (c.lines.invariant.0 ∙ ap (open_below c.args.text.now c.lines.opened) c.in_default.ensures.none
    ∙ open_none c.args.text.now c.lines.opened)

pub returns-clause-last : goal.returns-clause-last
returns-clause-last c =
    sym (c.lines.invariant.1
    ∙ ap (λ ls. option_or (last_found c.args.text.now c.args.cause c.lines.opened ls) c.lines.last)
    c.in_default.ensures.none ∙ found_none c.args.text.now c.args.cause c.lines.opened c.lines.last)
