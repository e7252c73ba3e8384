-- The words of the end
use Rattle.std.proofs.Common.{◌∙◌, ◌++◌, ◌∷◌, [], ℕ, List, ap, codes}
use Rattle.std.proofs.lemmas.Result.{on_ok_weaker}
use Rattle.report_html.specs.Pieces.{Part, Words, parts}
use Rattle.report_html.proofs.ended.add_ended.Goals as goal

pub returns : goal.returns
returns c =
    let old : List Part = parts c.args.pieces.now.items in
    let said : List ℕ → List Part = λ words.
    Words (codes "<pre class=\"why\">") ∷ Words words ∷ Words (codes "</pre>\n") ∷ [] in
    on_ok_weaker c.add.result (λ e. e ∙ ap (λ (words : List ℕ). old ++ said words) c.words.ensures) c.add.ensures
