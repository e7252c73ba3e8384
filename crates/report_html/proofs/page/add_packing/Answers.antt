-- The words of the fault, or the bytes that were taken
use Rattle.std.proofs.Common.{◌≡◌, ◌∙◌, ◌++◌, ◌∷◌, [], ℕ, List, ap, sym, codes}
use Rattle.std.proofs.lemmas.Result.{on_ok_weaker}
use Rattle.report_html.specs.Pieces.{Part, Words, parts}
use Rattle.report_html.specs.Pages.{packing_parts}
use Rattle.report_html.proofs.page.add_packing.Goals as goal

pub returns-in-Part : goal.returns-in-Part
returns-in-Part c =
    let old : List Part = parts c.args.pieces.now.items in
    let named : List ℕ → List Part = λ words.
    Words (codes "<span class=\"fix\">inflated in part: ") ∷ Words words ∷ Words (codes "</span>") ∷ [] in
    let same : named c.words.result.now ≡ packing_parts c.args.packing.now =
    ap named c.words.ensures ∙ sym (ap packing_parts c.in-Part.is) in
    on_ok_weaker c.add-in-Part.result (λ e. e ∙ ap (λ (more : List Part). old ++ more) same) c.add-in-Part.ensures

pub returns-in-Whole : goal.returns-in-Whole
returns-in-Whole c =
    let old : List Part = parts c.args.pieces.now.items in
    on_ok_weaker c.add.result
    (λ e. e ∙ ap (λ (more : List Part). old ++ more) (sym (ap packing_parts c.in-Whole.is))) c.add.ensures
