-- The words of the header, corrected bytes and bad parts
use Rattle.std.proofs.Common.{◌∙◌, ◌++◌, ◌∷◌, [], ℕ, List, ap, ap₂}
use Rattle.zone_spec.specs.Reading.{ZoneReading}
use Rattle.report_html.specs.Pieces.{Part, Words, Count, parts}
use Rattle.report_html.specs.declared.words.TheConstants.{CELL}
use Rattle.report_html.specs.ZoneRows.{reading_cells}
use Rattle.report_html.proofs.zone_rows.add_reading.Goals as goal

pub returns : goal.returns
returns c =
    let old = parts c.args.pieces.now.items in
    let r = c.reading.inside in
    let cells : ℕ → ℕ → ℕ → ℕ → List Part = λ s n k b. Words CELL.now ∷ Count s ∷ Words CELL.now ∷ Count n
    ∷ Words CELL.now ∷ Count k ∷ Words CELL.now ∷ Count b ∷ [] in
    c.in_ok-add.ensures
    ∙ ap₂ (λ (s n : ℕ). old ++ cells s n c.from-corrected.result c.from-bad.result) c.from-start.ensures
    c.from-size.ensures
    ∙ ap₂ (λ (k b : ℕ). old ++ cells r.words.start r.words.size k b) c.from-corrected.ensures c.from-bad.ensures
    ∙ ap (λ (q : ZoneReading). old ++ reading_cells q) c.reading.view_is
