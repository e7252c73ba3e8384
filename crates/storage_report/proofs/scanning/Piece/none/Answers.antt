-- No byte of the image stands in it. For `none`.
use Rattle.std.proofs.Common.{◌≡◌, ℕ, length, refl, arith}
use Rattle.storage_report.proofs.Pieces.{none_piece}
use Rattle.storage_report.proofs.scanning.Piece.none.Goals as goal

pub returns : goal.returns
returns c = λ holds.
    let room : length c.in_ok-vec.field-0.items ≡ 65536 =
    omega (arith, c.in_ok-vec.field-0.ok.0, c.in_ok-vec.ensures.len) in
    none_piece holds (record { from = 0; len = 0; bytes = c.in_ok-vec.field-0 }) refl room
