-- The lines are given one after another, each in its colour. For `put_coloured`.
use Rattle.std.proofs.Common.{◌≡◌, ℕ, ◌<◌, ◌≤◌, rules, refl, ◌∙◌, arith}
use Rattle.outside.specs.Outside.{AppendsFront}
use Rattle.report_colours.specs.Colours.{coloured}
use Rattle.report_colours.proofs.Pieces.{none_given, line_given, all_given, line_broken, newline_broken}
use Rattle.report_colours.proofs.sink.put_coloured.Goals as goal

inside : (n m : ℕ) → n ≤ m → (n ≡ m → ⊥) → n < m
inside n m h k = grind (arith, h, k)

pub lines-init : goal.lines-init
lines-init g c = (none_given _ c.args.text.now, refl)

pub returns-in_err-put_line-clause-bytes : goal.returns-in_err-put_line-clause-bytes
returns-in_err-put_line-clause-bytes g c =
    let front : AppendsFront (g.W.Sink.given c.args.out.now) (g.W.Sink.given c.put_line.new.out)
    (coloured c.args.text.now) =
    line_broken _ _ _ c.args.text.now c.lines.rest.now c.line_end-end.result c.line_end-end.ensures.place
    c.line_end-end.ensures.within c.lines.invariant.0 c.in_err-put_line.ensures.bytes in
    search rules

pub returns-then-end-rest-clause-bytes : goal.returns-then-end-rest-clause-bytes
returns-then-end-rest-clause-bytes g c =
    all_given _ _ _ c.args.text.now c.lines.rest.now c.line_end-end.result c.line_end-end.ensures.place
    c.if-end-rest.true c.lines.invariant.0 c.in_ok-put_line.ensures.bytes

pub returns-in_err-put-clause-bytes : goal.returns-in_err-put-clause-bytes
returns-in_err-put-clause-bytes g c =
    let front : AppendsFront (g.W.Sink.given c.args.out.now) (g.W.Sink.given c.put.new.self)
    (coloured c.args.text.now) =
    newline_broken _ _ _ _ c.args.text.now c.lines.rest.now c.line_end-end.result c.line_end-end.ensures.place
    (inside _ _ c.line_end-end.ensures.within c.if-end-rest.false) c.lines.invariant.0
    c.in_ok-put_line.ensures.bytes c.in_err-put.ensures.bytes in
    search rules

pub lines-preserved : goal.lines-preserved
lines-preserved g c = (
  rw c.behind-rest.ensures
      (line_given _ _ _ _ c.args.text.now c.lines.rest.now c.line_end-end.result c.line_end-end.ensures.place
      (inside _ _ c.line_end-end.ensures.within c.if-end-rest.false) c.lines.invariant.0
      c.in_ok-put_line.ensures.bytes c.in_ok-put.ensures.bytes),
  c.in_ok-put.ensures.cause.done ∙ c.in_ok-put_line.ensures.cause.done ∙ c.lines.invariant.1,
)
