-- The text of all parts
use Rattle.std.proofs.Common.{◌∙◌, List, ap}
use Rattle.std.specs.Prelude.{Option}
use Rattle.report_spec.specs.declared.Origin.{Origin}
use Rattle.report_spec.specs.Packed.{RecordShown}
use Rattle.report_spec.specs.Deaths.{DeathTold, death_told}
use Rattle.report_text.specs.declared.pieces.Piece.{Piece}
use Rattle.report_text.specs.Pieces.{Part, parts, parts_text}
use Rattle.report_text.specs.Whole.{text_of, all_parts}
use Rattle.report_text.proofs.whole.text.Goals as goal

pub returns-clause-text : goal.returns-clause-text
unfolding text_of
returns-clause-text c =
    let origin : Origin = c.args.report.now.origin in
    let by : Option DeathTold → List Part = all_parts c.args.title.now c.args.most c.args.better.now
    c.args.report.now in
    c.from_vec.ensures ∙ c.in_ok-text.ensures.text
    ∙ ap (λ (o : Origin). parts_text o (parts c.as_slice-2.result.now)) c.origin.ensures
    ∙ ap (λ (ps : List Piece). parts_text origin (parts ps)) c.as_slice-2.ensures.value
    ∙ ap (λ (ps : List Part). parts_text origin ps) c.in_ok-pieces.ensures
    ∙ ap (λ (t : Option DeathTold). parts_text origin (by t))
    (c.death_told-told.ensures ∙ ap (λ (rs : List RecordShown). death_told rs) c.records.ensures)
