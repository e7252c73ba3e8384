-- A line that counts is the last so far, any other leaves it. For `last_of_each`.
use Rattle.std.proofs.Common.{cond, ap, sym, ◌∙◌, Some}
use Rattle.std.specs.Option.{option_or}
use Rattle.death_spec.specs.Lines.{lines_from, kind}
use Rattle.death_spec.specs.Telling.{last_of, last_opening, opens, open_behind, is_panic, is_warning}
use Rattle.death.proofs.MarkedLines.{or_none, last_more, last_none, opening_more, opening_none}
use Rattle.death.proofs.telling.last_of_each.Goals as goal

pub lines-init : goal.lines-init
lines-init c = (sym (or_none _), sym (or_none _), sym (or_none _))

pub lines-preserved : goal.lines-preserved
lines-preserved c = (
  c.lines.invariant.0
      ∙ ap (λ ls. option_or (last_of c.args.text.now is_panic ls) c.lines.panic) c.in-Some.ensures.line
      ∙ last_more c.args.text.now is_panic c.in-Some.line (lines_from c.args.text.now c.in-Some.line.next) c.lines.panic
      ∙ ap (option_or (last_of c.args.text.now is_panic (lines_from c.args.text.now c.in-Some.line.next)))
      (sym (c.later-panic.ensures
      ∙ ap (λ t. cond t (Some c.in-Some.line) c.lines.panic)
      (c.is_panic.ensures ∙ ap is_panic c.kind_by-mark.ensures))),
  c.lines.invariant.1
      ∙ ap (λ ls. option_or (last_opening c.args.text.now c.lines.is_open ls) c.lines.oops) c.in-Some.ensures.line
      ∙ opening_more c.args.text.now c.lines.is_open c.in-Some.line (lines_from c.args.text.now c.in-Some.line.next)
      c.lines.oops
      ∙ ap (λ t. option_or (last_opening c.args.text.now t (lines_from c.args.text.now c.in-Some.line.next))
      (cond (opens c.lines.is_open (kind c.args.text.now c.in-Some.line)) (Some c.in-Some.line) c.lines.oops))
      (sym (c.open_behind-is_open.ensures ∙ ap (open_behind c.lines.is_open) c.kind_by-mark.ensures))
      ∙ ap (option_or (last_opening c.args.text.now c.open_behind-is_open.result
      (lines_from c.args.text.now c.in-Some.line.next)))
      (sym (c.later-oops.ensures
      ∙ ap (λ t. cond t (Some c.in-Some.line) c.lines.oops)
      (c.opens.ensures ∙ ap (opens c.lines.is_open) c.kind_by-mark.ensures))),
  c.lines.invariant.2
      ∙ ap (λ ls. option_or (last_of c.args.text.now is_warning ls) c.lines.warning) c.in-Some.ensures.line
      ∙ last_more c.args.text.now is_warning c.in-Some.line (lines_from c.args.text.now c.in-Some.line.next)
      c.lines.warning
      ∙ ap (option_or (last_of c.args.text.now is_warning (lines_from c.args.text.now c.in-Some.line.next)))
      (sym (c.later-warning.ensures
      ∙ ap (λ t. cond t (Some c.in-Some.line) c.lines.warning)
      (c.is_warning.ensures ∙ ap is_warning c.kind_by-mark.ensures))),
)

pub returns-clause-panic : goal.returns-clause-panic
returns-clause-panic c =
    sym (c.lines.invariant.0
    ∙ ap (λ ls. option_or (last_of c.args.text.now is_panic ls) c.lines.panic) c.in_default.ensures.none
    ∙ last_none c.args.text.now is_panic c.lines.panic)

pub returns-clause-oops : goal.returns-clause-oops
returns-clause-oops c =
    sym (c.lines.invariant.1
    ∙ ap (λ ls. option_or (last_opening c.args.text.now c.lines.is_open ls) c.lines.oops) c.in_default.ensures.none
    ∙ opening_none c.args.text.now c.lines.is_open c.lines.oops)

pub returns-clause-warning : goal.returns-clause-warning
returns-clause-warning c =
    sym (c.lines.invariant.2
    ∙ ap (λ ls. option_or (last_of c.args.text.now is_warning ls) c.lines.warning) c.in_default.ensures.none
    ∙ last_none c.args.text.now is_warning c.lines.warning)
