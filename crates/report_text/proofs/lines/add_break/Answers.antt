-- The words of the fault
use Rattle.std.proofs.Common.{◌≡◌, ◌∙◌, ◌++◌, ◌∷◌, [], ℕ, List, ap, sym, codes}
use Rattle.std.proofs.lemmas.Result.{on_ok_weaker}
use Rattle.report_text.specs.Pieces.{Part, Words, parts}
use Rattle.report_text.specs.Tails.{break_parts}
use Rattle.report_text.proofs.lines.add_break.Goals as goal

pub returns-in-Part : goal.returns-in-Part
returns-in-Part c =
    let old : List Part = parts c.args.pieces.now.items in
    let row : List ℕ → List Part =
    λ words. Words (codes "  (breaks off: ") ∷ Words words ∷ Words (codes ")" ++ 10 ∷ []) ∷ [] in
    let same : row c.words.result.now ≡ break_parts c.args.packing.now =
    ap row c.words.ensures ∙ sym (ap break_parts c.in-Part.is) in
    on_ok_weaker c.add.result (λ e. e ∙ ap (λ (more : List Part). old ++ more) same) c.add.ensures
