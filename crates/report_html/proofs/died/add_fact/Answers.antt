-- A row of the part that is named
use Rattle.std.proofs.Common.{◌≡◌, ◌∙◌, ◌++◌, ◌∷◌, [], ℕ, List, ap, sym, codes, Some}
use Rattle.std.proofs.lemmas.Result.{on_ok_weaker}
use Rattle.report_html.specs.Pieces.{Part, Words, Bytes, parts}
use Rattle.report_html.specs.Died.{fact_parts}
use Rattle.report_html.proofs.died.add_fact.Goals as goal

pub returns-in-Some : goal.returns-in-Some
returns-in-Some c =
    let old : List Part = parts c.args.pieces.now.items in
    let shown = fact_parts c.args.label.now c.args.missing.now c.args.text.now in
    let row : List ℕ → List Part = λ bs. Words (codes "<tr><th scope=\"row\">") ∷ Words c.args.label.now
    ∷ Words (codes "</th><td>") ∷ Bytes bs ∷ Words (codes "</td></tr>\n") ∷ [] in
    let same : row c.part.result.now ≡ shown (Some c.in-Some.span) = ap row c.part.ensures.part in
    on_ok_weaker c.add.result
    (λ e. e ∙ ap (λ (more : List Part). old ++ more) (same ∙ sym (ap shown c.in-Some.is))) c.add.ensures
