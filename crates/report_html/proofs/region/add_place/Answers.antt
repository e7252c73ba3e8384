-- The shares of a zone in the region
use Rattle.std.proofs.Common.{◌∙◌, ◌++◌, ◌∷◌, [], ℕ, List, ap, ap₂, codes}
use Rattle.report_html.specs.Pieces.{Part, Words, Count, parts}
use Rattle.report_html.specs.Pictures.{share}
use Rattle.report_html.proofs.region.add_place.Goals as goal

pub returns : goal.returns
returns c =
    let old = parts c.args.pieces.now.items in
    let shown : ℕ → ℕ → List Part = λ a w. Words (codes "<svg x=\"") ∷ Count a ∷ Words (codes "e-3%\" width=\"") ∷ Count w
    ∷ Words (codes "e-3%\"><title>") ∷ [] in
    c.in_ok-add.ensures
    ∙ ap₂ (λ (a w : ℕ). old ++ shown a w)
    (c.share-at.ensures ∙ ap (λ (n : ℕ). share n c.args.whole) c.from.ensures)
    (c.share-width.ensures ∙ ap (λ (n : ℕ). share n c.args.whole) c.from-2.ensures)
