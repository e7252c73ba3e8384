-- Words, and the part that is named
use Rattle.std.proofs.Common.{◌≡◌, ◌∙◌, ◌++◌, ◌∷◌, [], ℕ, List, ap, sym, Some}
use Rattle.std.proofs.lemmas.Result.{on_ok_weaker}
use Rattle.report_html.specs.Pieces.{Part, Words, Bytes, parts}
use Rattle.report_html.specs.Before.{named_below}
use Rattle.report_html.proofs.before.add_named.Goals as goal

pub returns-in-Some : goal.returns-in-Some
returns-in-Some c =
    let old : List Part = parts c.args.pieces.now.items in
    let shown = named_below c.args.words.now c.args.text.now in
    let row : List ℕ → List Part = λ bs. Words c.args.words.now ∷ Bytes bs ∷ [] in
    let same : row c.part.result.now ≡ shown (Some c.in-Some.span) = ap row c.part.ensures.part in
    on_ok_weaker c.add.result
    (λ e. e ∙ ap (λ (more : List Part). old ++ more) (same ∙ sym (ap shown c.in-Some.is))) c.add.ensures
