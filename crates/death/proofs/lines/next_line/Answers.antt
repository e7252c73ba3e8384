-- Past the end there is no line; else the line read is the first of those from here, and the rest
-- begins at its `next`. For `next_line`.
use Rattle.std.proofs.Common.{◌≡◌, ◌+◌, ◌∷◌, take, drop, ap, sym, ◌∙◌, arith}
use Rattle.std.proofs.lemmas.List.{length-take-le}
use Rattle.death_spec.specs.declared.Class.TheVariants.{Line}
use Rattle.death_spec.specs.Marks.{run}
use Rattle.death_spec.specs.Lines.{line_of, lines_from}
use Rattle.death.proofs.Steps.{none_past, first_line, next_of}
use Rattle.death.proofs.lines.next_line.Goals as goal

pub returns-then-text-at-clause-none : goal.returns-then-text-at-clause-none
returns-then-text-at-clause-none c = none_past c.args.text.now c.args.at c.if-text-at.true

-- what was read of the line
read : (c : goal.After-line_of) → c.line_of.result
    ≡ line_of c.args.at (take c.line_len.result (drop c.args.at c.args.text.now))
read c = c.line_of.ensures ∙ ap (λ bytes. line_of c.args.at (take c.line_len.result bytes)) c.tail-rest.ensures

next : (c : goal.After-line_of) → c.line_of.result.next ≡ c.args.at + c.line_len.result + 1
next c = ap (λ l. l.next) c.line_of.ensures
    ∙ next_of c.args.at _ c.line_len.result
    (sym (length-take-le c.line_len.result c.tail-rest.result.now c.line_len.ensures.within))

pub returns-clause-line : goal.returns-clause-line
returns-clause-line c =
    first_line c.args.text.now c.args.at c.line_len.result c.if-text-at.false
    (c.line_len.ensures.len ∙ ap (run Line) c.tail-rest.ensures)
    ∙ ap (λ l. l ∷ lines_from c.args.text.now (c.args.at + c.line_len.result + 1)) (sym (read c))
    ∙ ap (λ k. c.line_of.result ∷ lines_from c.args.text.now k) (sym (next c))

pub returns-clause-next : goal.returns-clause-next
returns-clause-next c = (omega (arith, next c), c.if-text-at.false)
