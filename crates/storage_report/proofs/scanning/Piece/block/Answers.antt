-- A part of a piece is one of the image. For `block`.
use Rattle.std.proofs.Common.{◌≡◌, ◌∙◌, ◌+◌, ◌-◌, ℕ, List, ap, take, drop, arith}
use Rattle.storage_report.proofs.Pieces.{block_of}
use Rattle.storage_report.proofs.scanning.Piece.block.Goals as goal

pub returns : goal.returns
returns c = λ holds is.
    let d = c.args.at - c.args.self.now.from in
    let n : (d + 512) - d ≡ 512 = omega arith in
    block_of c.args.self.now c.args.at (take ((d + 512) - d) (drop d c.deref.result.now)) holds
    (ap (λ (k : ℕ). take k (drop d c.deref.result.now)) n
    ∙ ap (λ (xs : List ℕ). take 512 (drop d xs)) c.deref.ensures.value)
    c.requires.has is
