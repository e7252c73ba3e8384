-- The bytes of a piece after the stores are the old ones with the new put in at `at`, and are bytes. For
-- `Piece::store_sixteen`.
use Rattle.std.proofs.Common.{◌≡◌, ℕ, ◌+◌, ◌<◌, List, take, drop, ◌++◌, ap, sym, subst, ◌∙◌, arith}
use Rattle.core.specs.Mem.Slots.{slots_items}
use Rattle.zone_spec.specs.Parts.{AreBytes}
use Rattle.zone_spec.specs.Stores.{put}
use Rattle.prz_region.specs.Made.{Write}
use Rattle.prz_region.specs.Chain.{piece_bytes}
use Rattle.prz_region.proofs.Stores.{put-parts, AreBytes-put, run-in_span}
use Rattle.prz_region.proofs.pieces.Piece.store_sixteen.Goals as goal
use Rattle.prz_region.proofs.pieces.Piece.store_sixteen.Goals.{After-store_run}

stored : (c : After-store_run)
    → slots_items c.store_run.new.row ≡ put (piece_bytes c.args.self.now) c.args.at c.args.bytes
stored c =
    let long = c.store_run.ensures.sized in
    c.store_run.ensures.items
    ∙ ap (λ (n : ℕ). take c.args.at (piece_bytes c.args.self.now) ++ c.args.bytes
    ++ drop (c.args.at + n) (piece_bytes c.args.self.now)) (sym long)
    ∙ sym (put-parts (piece_bytes c.args.self.now) c.args.at c.args.bytes (omega (arith, c.requires.place, long)))

pub invariant_of-self : goal.invariant_of-self
invariant_of-self c =
    let row = c.args.self.now.row in let places = c.store_run.ensures.places in
    record {
      row = record {
        at = places.start ∙ row.at;
        full = c.store_run.ensures.full;
        short = subst (λ (n : ℕ). n < 4294967296) (sym places.count) row.short;
        bytes = subst AreBytes (sym (stored c))
            (AreBytes-put (piece_bytes c.args.self.now) c.args.at c.args.bytes row.bytes c.requires.bytes);
      };
    }

pub returns-clause-bytes : goal.returns-clause-bytes
returns-clause-bytes c = stored c.before

pub returns-clause-made : goal.returns-clause-made
returns-clause-made c =
    c.store_run.ensures.made
    ∙ ap (λ (ws : List (Write ℕ)). c.args.stores.now.made ++ ws) (run-in_span c.args.span c.args.at c.args.bytes)
