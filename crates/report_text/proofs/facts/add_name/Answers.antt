-- The record's name and packing are those of its view
use Rattle.std.proofs.Common.{◌∙◌, ◌++◌, ◌∷◌, [], ℕ, List, ap, codes}
use Rattle.std.proofs.lemmas.Result.{on_ok_weaker}
use Rattle.report_spec.specs.Packed.{RecordShown}
use Rattle.report_text.specs.Pieces.{Part, Words, Named, parts}
use Rattle.report_text.specs.Facts.{name_parts}
use Rattle.report_text.proofs.facts.add_name.Goals as goal

pub returns : goal.returns
returns c =
    let old : List Part = parts c.args.pieces.now.items in
    on_ok_weaker c.add.result
    (λ e. e
    ∙ ap (λ (ws : List ℕ). old ++ Words (codes "  told by    ") ∷ Named c.entry.inside.name ∷ Words ws ∷ [])
    c.packing_text.ensures
    ∙ ap (λ (q : RecordShown). old ++ name_parts q) c.entry.view_is) c.add.ensures
