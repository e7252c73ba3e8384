-- Sixteen bytes more are put in, and as many stores listed. For the loop of `store_sixteens`.
use Rattle.std.proofs.Common.{◌≡◌, ℕ, ◌+◌, List, ◌++◌, append_assoc, take, length, refl, sym, subst, ap, ◌∙◌, arith}
use Rattle.std.proofs.Common.{length-take, take-append-drop}
use Rattle.std.proofs.lemmas.List.{map-append}
use Rattle.zone_spec.specs.Parts.{AreBytes}
use Rattle.zone_spec.specs.Stores.{Store, put, byte_stores}
use Rattle.prz_region.specs.Made.{Write, in_span}
use Rattle.prz_region.specs.Chain.{piece_bytes}
use Rattle.prz_region.proofs.Chains.{AreBytes-take, AreBytes-drop}
use Rattle.prz_region.proofs.Cuts.{put-length}
use Rattle.prz_region.proofs.Stores.{put-append, byte_stores-append}
use Rattle.prz_region.proofs.pieces.Piece.store_sixteens.Goals as goal

pub store_sixteen-requires-clause-bytes : goal.store_sixteen-requires-clause-bytes
store_sixteen-requires-clause-bytes c =
    subst AreBytes (sym c.in-Some.ensures.cases.0) (AreBytes-take 16 c.sixteens.rest.now c.sixteens.invariant.are)

pub sixteens-init : goal.sixteens-init
sixteens-init c = record {
  are = λ i. (c.type_inv.bytes i).fits;
  fits = refl;
  bytes = refl;
  long = refl;
  same = record { at = refl; long = refl };
  made = refl;
}

pub sixteens-preserved : goal.sixteens-preserved
sixteens-preserved c =
    let inv = c.sixteens.invariant in
    let place : ℕ = c.sixteens.place in
    let rest : List ℕ = c.sixteens.rest.now in
    let front : List ℕ = c.in-Some.front.now in
    let back : List ℕ = c.in-Some.back.now in
    let cases = c.in-Some.ensures.cases in
    let whole : front ++ back ≡ rest =
    ap (λ (xs : List ℕ). xs ++ back) cases.0 ∙ ap (λ (xs : List ℕ). take 16 rest ++ xs) cases.1
    ∙ take-append-drop 16 rest in
    let long : length front ≡ 16 = omega (arith, ap length cases.0, length-take 16 rest, cases.2) in
    let one = c.store_sixteen.ensures in
    record {
      are = subst AreBytes (sym cases.1) (AreBytes-drop 16 rest inv.are);
      fits = omega (arith, inv.fits, cases.2);
      bytes = ap (λ (xs : List ℕ). put xs (place + 16) back) one.bytes
          ∙ ap (λ (n : ℕ). put (put (piece_bytes c.sixteens.self) place front) (place + n) back) (sym long)
          ∙ sym (put-append (piece_bytes c.sixteens.self) place front back)
          ∙ ap (λ (xs : List ℕ). put (piece_bytes c.sixteens.self) place xs) whole
          ∙ inv.bytes;
      long = ap length one.bytes ∙ put-length (piece_bytes c.sixteens.self) place front ∙ inv.long;
      same = record { at = one.place.at ∙ inv.same.at; long = one.place.long ∙ inv.same.long };
      made = ap (λ (ws : List (Write ℕ)). ws ++ in_span c.args.span (byte_stores (place + 16) back)) one.made
          ∙ append_assoc c.sixteens.stores.made _ _
          ∙ ap (λ (ws : List (Write ℕ)). c.sixteens.stores.made ++ ws)
          (sym (map-append _ (byte_stores place front) (byte_stores (place + 16) back))
          ∙ ap (λ (ss : List Store). in_span c.args.span ss)
          (ap (λ (n : ℕ). byte_stores place front ++ byte_stores (place + n) back) (sym long)
          ∙ sym (byte_stores-append place front back)
          ∙ ap (λ (xs : List ℕ). byte_stores place xs) whole))
          ∙ inv.made;
    }
