-- The text of the pieces so far, all of it visible
use Rattle.std.proofs.Common.{◌≡◌, true, take}
use Rattle.std.specs.Prelude.{flat_map}
use Rattle.std.specs.List.{list_all}
use Rattle.report_spec.specs.Visible.{is_visible}
use Rattle.report_text.specs.Pieces.{piece_text}
use Rattle.report_text.proofs.pieces.render.Given as goal

abbrev pub invariant-loop-piece : goal.invariant-loop-piece
invariant-loop-piece l = record {
  text : l.out.items ≡ flat_map (piece_text l.origin) (take l.piece-index l.pieces);
  visible : list_all is_visible l.out.items ≡ true;
}
