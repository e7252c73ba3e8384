-- A row of the low half and one of the high half of a byte make that of the byte. For `row`.
use Rattle.std.proofs.Common.{◌≡◌, ◌+◌, ◌*◌, ◌/◌, ℕ, get_or, ap, ◌∙◌, arith}
use Rattle.rs_decode.specs.declared.lanes.TheConstants.{ROWS}
use Rattle.rs_decode.proofs.PowerRows.{row_sum}
use Rattle.rs_decode.proofs.lanes.row.Goals as goal

pub returns : goal.returns
returns c = λ k p e.
    let i : 32 * c.args.j + (16 + c.args.factor / 16) ≡ 32 * c.args.j + 16 + c.args.factor / 16 = omega arith in
    row_sum c.args.j c.args.factor k p c.row_at-low.result c.row_at-high.result c.requires
    c.ranges.factor.fits e c.row_at-low.ensures (c.row_at-high.ensures ∙ ap (λ (n : ℕ). get_or ROWS n 0) i)
