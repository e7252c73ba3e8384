-- A line that says the words, or the lines below it. For the loop of `said_after`.
use Rattle.std.proofs.Common.{List, ℕ, ap, sym, ◌∙◌, ◌≡◌, length}
use Rattle.std.specs.List.{starts_with}
use Rattle.std.proofs.Common.{nat_eq, true, false}
use Rattle.death_spec.specs.Lines.{part, said, lines_from}
use Rattle.report_spec.specs.Said.{said_after}
use Rattle.region_report.proofs.SaidLines.{says_here, says_later, says_none}
use Rattle.region_report.proofs.facts.said_after.Goals as goal

pub lines-preserved : goal.lines-preserved
lines-preserved c =
    let text = c.args.text.now in
    let words = c.args.words.now in
    let says : c.said-says.result.now ≡ said text c.in-Some.line = c.said-says.ensures.said in
    let other : starts_with nat_eq (said text c.in-Some.line) words ≡ false =
    ap (λ (bs : List ℕ). starts_with nat_eq bs words) (sym says) ∙ sym c.begins.ensures ∙ c.if-begins.false in
    c.lines.invariant ∙ ap (said_after text words) c.in-Some.ensures.line
    ∙ says_later text words c.in-Some.line (lines_from text c.in-Some.line.next) other

pub returns-then-begins : goal.returns-then-begins
returns-then-begins c =
    let text = c.args.text.now in
    let words = c.args.words.now in
    let says : c.said-says.result.now ≡ said text c.in-Some.line = c.said-says.ensures.said in
    let here : starts_with nat_eq (said text c.in-Some.line) words ≡ true =
    ap (λ (bs : List ℕ). starts_with nat_eq bs words) (sym says) ∙ sym c.begins.ensures ∙ c.if-begins.true in
    c.part.ensures.part ∙ ap (λ (bs : List ℕ). part bs (length words) (length bs)) says
    ∙ sym (c.lines.invariant ∙ ap (said_after text words) c.in-Some.ensures.line
    ∙ says_here text words c.in-Some.line (lines_from text c.in-Some.line.next) here)

pub returns : goal.returns
returns c =
    sym (c.lines.invariant ∙ ap (said_after c.args.text.now c.args.words.now) c.in_default.ensures.none
    ∙ says_none c.args.text.now c.args.words.now)
