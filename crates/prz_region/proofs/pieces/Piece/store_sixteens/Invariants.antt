-- The bytes so far are put in, the piece has its place and length, and a store is listed for each. For the loop of
-- `store_sixteens`.
use Rattle.std.proofs.Common.{◌≡◌, ◌+◌, ◌++◌, length}
use Rattle.zone_spec.specs.Parts.{AreBytes}
use Rattle.zone_spec.specs.Stores.{put, byte_stores}
use Rattle.prz_region.specs.Made.{in_span}
use Rattle.prz_region.specs.Chain.{piece_bytes, SamePlace}
use Rattle.prz_region.proofs.pieces.Piece.store_sixteens.Given as goal

abbrev pub invariant-sixteens : goal.invariant-sixteens
invariant-sixteens l = record {
  are : AreBytes l.rest;
  fits : l.place + length l.rest ≡ l.fn.at + length l.bytes;
  bytes : put (piece_bytes l.self) l.place l.rest ≡ put (piece_bytes l.fn.self) l.fn.at l.bytes;
  long : length (piece_bytes l.self) ≡ length (piece_bytes l.fn.self);
  same : SamePlace l.fn.self l.self;
  made : l.stores.made ++ in_span l.span (byte_stores l.place l.rest)
      ≡ l.fn.stores.made ++ in_span l.span (byte_stores l.fn.at l.bytes);
}

abbrev pub decreases-sixteens : goal.decreases-sixteens
decreases-sixteens l = length l.rest
