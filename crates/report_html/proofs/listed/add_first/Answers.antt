-- The line that begins at the front
use Rattle.std.proofs.Common.{◌≡◌, ◌∙◌, ◌++◌, ◌∷◌, [], ℕ, List, ap, sym, codes}
use Rattle.std.proofs.lemmas.Result.{on_ok_weaker}
use Rattle.death_spec.specs.declared.Line.{Line}
use Rattle.report_html.specs.Pieces.{Part, Words, Bytes, parts}
use Rattle.report_html.specs.Listed.{first_parts}
use Rattle.report_html.proofs.listed.add_first.Goals as goal

pub returns-in-Some : goal.returns-in-Some
returns-in-Some c =
    let old : List Part = parts c.args.pieces.now.items in
    let shown : List Line → List Part = first_parts c.args.text.now in
    let row : List ℕ → List Part =
    λ bs. Words (codes "<span>") ∷ Bytes bs ∷ Words (codes "</span>") ∷ [] in
    on_ok_weaker c.add.result
    (λ e. e ∙ ap (λ (bs : List ℕ). old ++ row bs) c.part.ensures.part
    ∙ ap (λ (more : List Part). old ++ more) (sym (ap shown c.in-Some.ensures.line)))
    c.add.ensures
