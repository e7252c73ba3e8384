-- The table's row is the byte escaped. For `row_of`.
use Rattle.std.proofs.Common.{◌≤◌, ◌≡◌, ℕ, List, take, sym, subst}
use Rattle.std.specs.Prelude.{slice_index}
use Rattle.report_spec.specs.Escaped.{escaped_byte}
use Rattle.report_html.proofs.ByteRows.{row-text, row-len}
use Rattle.report_html.proofs.escaping.row_of.Goals as goal

pub returns-clause-len : goal.returns-clause-len
returns-clause-len c =
    subst (λ (row : List ℕ). slice_index row 7 ≤ 6) (sym c.to_le_bytes.ensures) (row-len c.args.b c.ranges.b.fits)

pub returns-clause-text : goal.returns-clause-text
returns-clause-text c =
    subst (λ (row : List ℕ). take (slice_index row 7) row ≡ escaped_byte c.args.b) (sym c.to_le_bytes.ensures)
    (row-text c.args.b c.ranges.b.fits)
