-- The data begin after the header
use Rattle.std.proofs.Common.{◌≡◌, ◌∙◌, ◌++◌, ◌+◌, ◌-◌, ℕ, ap, ap₂}
use Rattle.report_html.specs.Pieces.{parts}
use Rattle.report_html.specs.Pictures.{block_at, opening}
use Rattle.report_html.proofs.picture.add_blocks_opening.Goals as goal

pub returns : goal.returns
returns c =
    let z = c.args.zone.now in
    let start : c.block_at-start.result ≡ block_at z c.args.from = c.block_at-start.ensures.at in
    let end : c.block_at-end.result ≡ block_at z c.args.to = c.block_at-end.ensures.at in
    c.in_ok-add_opening.ensures
    ∙ ap₂ (λ (at wide : ℕ). parts c.args.pieces.now.items ++ opening c.args.state at wide)
    (ap (λ (a : ℕ). a + 12) start) (c.saturating_sub.ensures ∙ ap₂ (λ (a b : ℕ). a - b) end start)
