-- The bytes so far are put in, the piece has its place and length, and a store is listed for
-- each. For the loop of `store_each`.
use Rattle.std.proofs.Common.{◌≡◌, ◌+◌, ◌++◌, drop, length}
use Rattle.zone_spec.specs.Stores.{put, byte_stores}
use Rattle.prz_region.specs.Made.{in_span}
use Rattle.prz_region.specs.Chain.{piece_bytes, SamePlace}
use Rattle.prz_region.proofs.pieces.Piece.store_each.Given as goal

abbrev pub invariant-loop-byte : goal.invariant-loop-byte
invariant-loop-byte l = record {
  at : l.place ≡ l.fn.at + l.byte-index;
  bytes : put (piece_bytes l.self) l.place (drop l.byte-index l.bytes)
      ≡ put (piece_bytes l.fn.self) l.fn.at l.bytes;
  long : length (piece_bytes l.self) ≡ length (piece_bytes l.fn.self);
  same : SamePlace l.fn.self l.self;
  made : l.stores.made ++ in_span l.span (byte_stores l.place (drop l.byte-index l.bytes))
      ≡ l.fn.stores.made ++ in_span l.span (byte_stores l.fn.at l.bytes);
}
