-- The bytes of a piece after one store are the old ones with the new put in at `at`, and are
-- bytes. For `Piece::store`.
use Rattle.std.proofs.Common.{◌≡◌, ℕ, ◌+◌, ◌<◌, take, drop, ◌++◌, ap, sym, subst, ◌∙◌, arith}
use Rattle.core.specs.Mem.Slots.{slots_items}
use Rattle.zone_spec.specs.Parts.{AreBytes}
use Rattle.zone_spec.specs.Stores.{put}
use Rattle.prz_region.specs.Chain.{piece_bytes}
use Rattle.prz_region.proofs.Stores.{put-parts, AreBytes-put}
use Rattle.prz_region.proofs.pieces.Piece.store.Goals as goal
use Rattle.prz_region.proofs.pieces.Piece.store.Given.{Over}

stored : (g : Over) (c : goal.After-store_array g)
    → slots_items c.store_array.new.row ≡ put (piece_bytes c.args.self.now) c.args.at c.args.bytes
stored g c =
    let long = c.store_array.ensures.sized in
    c.store_array.ensures.items
    ∙ ap (λ (n : ℕ). take c.args.at (piece_bytes c.args.self.now) ++ c.args.bytes
    ++ drop (c.args.at + n) (piece_bytes c.args.self.now)) (sym long)
    ∙ sym (put-parts (piece_bytes c.args.self.now) c.args.at c.args.bytes (omega (arith, c.requires.place, long)))

pub invariant_of-self : goal.invariant_of-self
invariant_of-self g c =
    let row = c.args.self.now.row in let places = c.store_array.ensures.places in
    record {
      row = record {
        at = places.start ∙ row.at;
        full = c.store_array.ensures.full;
        short = subst (λ (n : ℕ). n < 4294967296) (sym places.count) row.short;
        bytes = subst AreBytes (sym (stored g c))
            (AreBytes-put (piece_bytes c.args.self.now) c.args.at c.args.bytes row.bytes c.requires.bytes);
      };
    }

pub returns-clause-bytes : goal.returns-clause-bytes
returns-clause-bytes g c = stored g c.before
