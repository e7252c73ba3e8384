-- The part of the text that the line is
use Rattle.std.proofs.Common.{◌∙◌, ◌++◌, ◌∷◌, [], ℕ, List, ap, codes}
use Rattle.std.proofs.lemmas.Result.{on_ok_weaker}
use Rattle.report_html.specs.Pieces.{Part, Words, Bytes, parts}
use Rattle.report_html.proofs.ended.add_last.Goals as goal

pub returns-clause-parts : goal.returns-clause-parts
returns-clause-parts c =
    let old : List Part = parts c.args.pieces.now.items in
    let row : List ℕ → List Part = λ bytes. Words (codes "<tr><th scope=\"row\">Last line</th><td>") ∷ Bytes bytes
    ∷ Words (codes "</td></tr>\n") ∷ [] in
    on_ok_weaker c.add.result (λ e. e ∙ ap (λ (bytes : List ℕ). old ++ row bytes) c.part.ensures.part) c.add.ensures
