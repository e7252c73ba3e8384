-- The text of pieces is that of their parts
use Rattle.std.proofs.Common.{◌≡◌, List, [], ◌∷◌, ◌++◌, ℕ, refl, ap}
use Rattle.std.specs.Prelude.{flat_map}
use Rattle.report_spec.specs.declared.Origin.{Origin}
use Rattle.report_text.specs.declared.pieces.Piece.{Piece}
use Rattle.report_text.specs.Pieces.{parts, parts_text, piece_text}

pub rendered : (origin : Origin) (pieces : List Piece)
    → flat_map (piece_text origin) pieces ≡ parts_text origin (parts pieces)
rendered origin [] = refl
rendered origin (p ∷ ps) = ap (λ (text : List ℕ). piece_text origin p ++ text) (rendered origin ps)
