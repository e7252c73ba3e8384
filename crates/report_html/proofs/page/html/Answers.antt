-- The text of all parts, and what of it is foreign
use Rattle.std.proofs.Common.{◌≡◌, ℕ, ◌∙◌, List, ap, sym, subst}
use Rattle.std.specs.Prelude.{Option}
use Rattle.report_spec.specs.Packed.{RecordShown}
use Rattle.report_spec.specs.Deaths.{DeathTold, death_told}
use Rattle.report_spec.specs.Facts.{signature_told}
use Rattle.region_report.specs.Tellers.{told_in}
use Rattle.report_spec.specs.declared.Origin.{Origin}
use Rattle.report_html.specs.declared.pieces.Piece.{Piece}
use Rattle.report_html.specs.Pieces.{Part, parts, parts_text}
use Rattle.report_html.specs.Pages.{page_with, page_by, page_parts, page_of}
use Rattle.report_html.specs.Escaping.{AllTellBytes}
use Rattle.report_html.proofs.ForeignParts.{without_markup}
use Rattle.report_html.proofs.page.html.Goals as goal

pub returns-clause-page : goal.returns-clause-page
unfolding page_of
returns-clause-page c =
    let origin : Origin = c.args.report.now.origin in
    let by : List ℕ → Option DeathTold → List Part =
    λ s t. page_with c.args.title.now c.args.division.now c.args.zones.now c.args.report.now c.args.better.now s t in
    c.in_ok-text.ensures
    ∙ ap (λ (o : Origin). parts_text o (parts c.as_slice-2.result.now)) c.origin.ensures
    ∙ ap (λ (ps : List Piece). parts_text origin (parts ps)) c.as_slice-2.ensures.value
    ∙ ap (λ (ps : List Part). parts_text origin ps) c.in_ok-pieces.ensures.parts
    ∙ ap (λ (s : List ℕ). parts_text origin (by s (told_in c.death_told-told.result)))
    (c.as_slice.ensures.value ∙ c.in_ok-signature.ensures)
    ∙ ap (λ (t : Option DeathTold). parts_text origin (by (signature_told t) t))
    (c.death_told-told.ensures ∙ ap (λ (rs : List RecordShown). death_told rs) c.records.ensures)

pub returns-clause-no_markup : goal.returns-clause-no_markup
unfolding page_of
returns-clause-no_markup c =
    let records = c.args.report.now.records in
    let told = told_in c.death_told-told.result in
    let same : told ≡ death_told records =
    c.death_told-told.ensures ∙ ap (λ (rs : List RecordShown). death_told rs) c.records.ensures in
    let signed : AllTellBytes (signature_told told) records told =
    subst (λ (s : List ℕ). AllTellBytes s records told) (c.as_slice.ensures.value ∙ c.in_ok-signature.ensures)
    c.in_ok-pieces.ensures.tells in
    without_markup c.args.title.now c.args.division.now c.args.zones.now c.args.report.now c.args.better.now
    c.in_ok-text.text.items (λ i. (c.type_inv.title i).fits) (λ i. (c.type_inv.better i).fits) c.in_ok-pieces.ensures.bytes
    (subst (λ (t : Option DeathTold). AllTellBytes (signature_told t) records t) same signed)
    (returns-clause-page c)
