-- The class of the parts, and their rows
use Rattle.std.proofs.Common.{◌∙◌, ◌++◌, ◌-◌, ◌∷◌, [], ℕ, List, ap₂, codes}
use Rattle.report_html.specs.Pieces.{Part, Words, Count, parts}
use Rattle.report_html.proofs.picture.add_opening.Goals as goal

pub returns : goal.returns
returns c =
    let old = parts c.args.pieces.now.items in
    let shown : List ℕ → ℕ → List Part = λ w n.
    Words (codes "<rect class=\"") ∷ Words w ∷ Words (codes "\" y=\"") ∷ Count n ∷ Words (codes "\" height=\"")
    ∷ Count (24 - n) ∷ Words (codes "\" x=\"") ∷ Count c.args.at ∷ Words (codes "\" width=\"") ∷ Count c.args.width
    ∷ Words (codes "\"><title>") ∷ [] in
    c.in_ok-add.ensures
    ∙ ap₂ (λ (w : List ℕ) (n : ℕ). old ++ shown w n) c.class_text-class.ensures c.rows_above-above.ensures.rows
