-- The header, the blocks and the parity, one after another
use Rattle.std.proofs.Common.{◌≡◌, ◌∙◌, ◌++◌, ℕ, ap}
use Rattle.zone_spec.specs.PartStates.{PartStates}
use Rattle.report_html.specs.Pieces.{parts}
use Rattle.report_html.specs.Pictures.{strip_opening}
use Rattle.report_html.proofs.PictureZones.{strip-added}
use Rattle.report_html.proofs.picture.add_strip.Goals as goal

pub returns : goal.returns
returns c =
    let old = parts c.args.pieces.now.items in
    let blocks : c.as_slice-blocks.result.now ≡ c.args.states.now.blocks =
    c.as_slice-blocks.ensures.value ∙ ap (λ (p : PartStates). p.blocks) c.states.view_is in
    strip-added c.args.zone.now c.args.states.now c.states.inside.header c.as_slice-blocks.result.now old
    (parts c.add_strip_opening.new.pieces.items) (parts c.add_header.new.pieces.items)
    (parts c.add_used.new.pieces.items) (parts c.add_unused.new.pieces.items) (parts c.add_parity.new.pieces.items)
    (parts c.add.new.pieces.items) (ap (λ (p : PartStates). p.header) c.states.view_is) blocks
    (c.in_ok-add_strip_opening.ensures ∙ ap (λ (n : ℕ). old ++ strip_opening n) c.from.ensures) c.in_ok-add_header.ensures c.in_ok-add_used.ensures
    c.in_ok-add_unused.ensures c.in_ok-add_parity.ensures c.in_ok-add.ensures
