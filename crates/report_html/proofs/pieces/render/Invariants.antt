-- The text is that of the pieces so far. For the loop of `render`.
use Rattle.std.proofs.Common.{◌≡◌, take}
use Rattle.std.specs.Prelude.{flat_map}
use Rattle.report_html.specs.Pieces.{piece_text}
use Rattle.report_html.proofs.pieces.render.Given as goal

abbrev pub invariant-loop-piece : goal.invariant-loop-piece
invariant-loop-piece l = l.out.items ≡ flat_map (piece_text l.origin) (take l.piece-index l.pieces)
