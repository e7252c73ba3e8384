-- A payload seated keeps the zone whole: words, seats and held bytes agree. For `Shared::seat`.
use Rattle.std.proofs.Common.{◌≡◌, ℕ, ◌+◌, ◌%◌, min, List, [], ◌∷◌, ◌++◌, length, arith, sym, ap, ap₂, ◌∙◌, subst}
use Rattle.zone_spec.specs.declared.Words.{Words}
use Rattle.prz_region.specs.CutRegion.{CutRegion, stored}
use Rattle.shared_ring.specs.declared.seats.Seat.{Seat}
use Rattle.shared_ring.specs.Seen.{SharedSeen, words_seen, words_store, IsWhole, seated}
use Rattle.shared_ring.proofs.Wholes.{seated_whole}
use Rattle.shared_ring.proofs.shared.Shared.seat.Goals as goal

-- a zone whose words were these, after a reservation of so many bytes
abbrev after : SharedSeen → Words → ℕ → List ℕ → SharedSeen
after v w n payload = record {
  region = stored v.region v.place
      (words_store v.zone.byte_order ((w.start + n) % v.zone.cap) (min v.zone.cap (w.size + n)) ∷ []);
  place = v.place;
  zone = v.zone;
  reserved = v.reserved + 1;
  seats = v.seats ++ record { ticket = v.reserved; place = w.start; stored = 0; payload = payload } ∷ [];
}

left : (v : SharedSeen) (payload : List ℕ) (w : Words) (n size : ℕ) (spans : CutRegion) (seats : List Seat)
    → w ≡ words_seen v → n ≡ length payload → size ≡ min v.zone.cap (w.size + n)
    → spans ≡ stored v.region v.place (words_store v.zone.byte_order ((w.start + n) % v.zone.cap) size ∷ [])
    → seats ≡ v.seats ++ record { ticket = v.reserved; place = w.start; stored = 0; payload = payload } ∷ []
    → seated v payload
    ≡ record {
      region = spans;
      place = v.place;
      zone = v.zone;
      reserved = v.reserved + 1;
      seats = seats;
    }
left v payload w n size spans seats e f g r s =
    ap₂ (λ (x : Words) k. after v x k payload) (sym e) (sym f)
    ∙ ap₂ (λ (c : CutRegion) (xs : List Seat). let u : SharedSeen = record {
      region = c;
      place = v.place;
      zone = v.zone;
      reserved = v.reserved + 1;
      seats = xs;
    } in u)
    (ap (λ k. stored v.region v.place (words_store v.zone.byte_order ((w.start + n) % v.zone.cap) k ∷ [])) (sym g) ∙ sym r)
    (sym s)

pub invariant_of-self : goal.invariant_of-self
invariant_of-self c =
    let v : SharedSeen = record {
      region = c.self.inside.spans;
      place = c.self.inside.place;
      zone = c.self.inside.zone;
      reserved = c.self.inside.reserved;
      seats = c.self.inside.seats.items;
    } in
    let few : length v.seats ≡ length c.args.self.now.seats = ap (λ (x : SharedSeen). length x.seats) c.self.view_is in
    let cap : v.zone.cap ≡ c.args.self.now.zone.cap = ap (λ (x : SharedSeen). x.zone.cap) c.self.view_is in (
      omega (arith, c.self.invariant.0, c.push_reserved.ensures.capacity),
      subst IsWhole
          (left v c.args.payload c.words-words.result c.len-len.result c.min.result c.store_pair.new.self
          c.push_reserved.new.self.items
          (c.words-words.ensures.value ∙ ap (λ (x : SharedSeen). words_seen x) (sym c.self.view_is))
          c.len-len.ensures.len c.min.ensures c.store_pair.ensures c.push_reserved.ensures.items)
          (seated_whole v c.args.payload c.self.invariant.1 (omega (arith, few, c.requires.seat)) c.requires.some
          (omega (arith, cap, c.requires.room))),
    )
