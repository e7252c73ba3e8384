-- Each byte that is stored lies in the piece, and after the last all are put in. For
-- `Piece::store_each`.
use Rattle.std.proofs.Common.{ℕ, ◌+◌, List, [], ◌∷◌, ◌++◌, append_assoc, append-nil, drop, length, get_or, lit<, sym}
use Rattle.std.proofs.Common.{ap, ◌∙◌, arith}
use Rattle.core.specs.Mem.Slots.{slots_counts}
use Rattle.zone_spec.specs.Stores.{Store, put, byte_stores}
use Rattle.prz_region.specs.Made.{Write, in_span}
use Rattle.prz_region.specs.Chain.{piece_bytes}
use Rattle.prz_region.proofs.Cuts.{put-length}
use Rattle.prz_region.proofs.Stores.{AreBytes-one, put-next, put-end, stores-next, stores-end}
use Rattle.prz_region.proofs.pieces.Piece.store_each.Goals as goal
use Rattle.prz_region.proofs.pieces.Piece.store_each.Goals.{After-store}

pub store-requires : goal.store-requires
store-requires c =
    let inv = c.loop-byte.invariant in (
      lit< tt,
      (
        omega (arith, inv.at, inv.long, c.loop-byte-test.true, c.requires),
        AreBytes-one (get_or c.args.bytes.now c.loop-byte.byte-index 0) c.type_inv.byte.fits,
      ),
    )

pub overflow_add-place : goal.overflow_add-place
overflow_add-place c =
    let inv = c.loop-byte.invariant in
    record {
      fits = omega (
        arith,
        inv.at,
        inv.long,
        c.loop-byte-test.true,
        c.requires,
        (slots_counts c.loop-byte.self.slots).0,
        c.loop-byte.self.row.short,
      );
    }

pub loop-byte-preserved : goal.loop-byte-preserved
loop-byte-preserved c =
    let inv = c.loop-byte.invariant in
    let i : ℕ = c.loop-byte.byte-index in
    let bytes : List ℕ = c.args.bytes.now in
    let one = c.store.ensures in
    record {
      at = omega (arith, inv.at);
      bytes = ap (λ (xs : List ℕ). put xs (c.loop-byte.place + 1) (drop (i + 1) bytes)) one.bytes
          ∙ put-next (piece_bytes c.loop-byte.self) c.loop-byte.place bytes i c.loop-byte-test.true ∙ inv.bytes;
      long = ap length one.bytes
          ∙ put-length (piece_bytes c.loop-byte.self) c.loop-byte.place (get_or bytes i 0 ∷ []) ∙ inv.long;
      same = record { at = one.place.at ∙ inv.same.at; long = one.place.long ∙ inv.same.long };
      made = ap (λ (ws : List (Write ℕ)). ws ++ in_span c.args.span (byte_stores (c.loop-byte.place + 1) (drop (i + 1) bytes)))
          one.made
          ∙ append_assoc c.loop-byte.stores.made _ _
          ∙ ap (λ (ss : List Store). c.loop-byte.stores.made ++ in_span c.args.span ss)
          (stores-next c.loop-byte.place bytes i c.loop-byte-test.true)
          ∙ inv.made;
    }

pub returns-clause-bytes : goal.returns-clause-bytes
returns-clause-bytes c =
    let inv = c.loop-byte.invariant in
    sym (put-end (piece_bytes c.loop-byte.self) c.loop-byte.place c.args.bytes.now c.loop-byte.byte-index
    (omega (arith, c.loop-byte-test.false, c.loop-byte.auto.byte-index-end)))
    ∙ inv.bytes

pub returns-clause-made : goal.returns-clause-made
returns-clause-made c =
    let inv = c.loop-byte.invariant in
    sym (append-nil c.loop-byte.stores.made)
    ∙ ap (λ (ss : List Store). c.loop-byte.stores.made ++ in_span c.args.span ss)
    (sym (stores-end c.loop-byte.place c.args.bytes.now c.loop-byte.byte-index
    (omega (arith, c.loop-byte-test.false, c.loop-byte.auto.byte-index-end))))
    ∙ inv.made
