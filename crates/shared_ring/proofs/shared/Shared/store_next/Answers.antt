-- The byte stored is the seat's next, at its next place, and the zone stays whole. For
-- `store_next`.
use Rattle.std.proofs.Common.{◌≡◌, ℕ, ◌+◌, ◌%◌, List, [], ◌∷◌, length, arith, sym, ap, ap₂, ◌∙◌, subst, Some}
use Rattle.std.specs.Prelude.{slice_get, slice_index}
use Rattle.prz_region.specs.CutRegion.{CutRegion, stored}
use Rattle.shared_ring.specs.declared.seats.Seat.{Seat}
use Rattle.shared_ring.specs.Seats.{seats_stepped}
use Rattle.shared_ring.specs.Seen.{SharedSeen, IsWhole, byte_store, stepped}
use Rattle.shared_ring.proofs.SeatLists.{seat_read, is_seat}
use Rattle.shared_ring.proofs.Wholes.{stepped_whole}
use Rattle.shared_ring.proofs.shared.Shared.store_next.Goals as goal

-- what the stores of a step leave
left : (v : SharedSeen) (i place byte : ℕ) (x : Seat) (spans : CutRegion) (seats : List Seat)
    → place ≡ (x.place + x.stored) % v.zone.cap → byte ≡ slice_index x.payload x.stored
    → spans ≡ stored v.region v.place (byte_store place byte ∷ [])
    → seats ≡ seats_stepped v.seats i x
    → stepped v i x
    ≡ record {
      region = spans;
      place = v.place;
      zone = v.zone;
      reserved = v.reserved;
      seats = seats;
    }
left v i place byte x spans seats p b r s =
    ap₂ (λ (m k : ℕ). let w : SharedSeen = record {
      region = stored v.region v.place (byte_store m k ∷ []);
      place = v.place;
      zone = v.zone;
      reserved = v.reserved;
      seats = seats_stepped v.seats i x;
    } in w) (sym p) (sym b)
    ∙ ap₂ (λ (r : CutRegion) (xs : List Seat). let w : SharedSeen = record {
      region = r;
      place = v.place;
      zone = v.zone;
      reserved = v.reserved;
      seats = xs;
    } in w) (sym r) (sym s)

pub next_byte-place-requires-clause-seat : goal.next_byte-place-requires-clause-seat
next_byte-place-requires-clause-seat c =
    let n : length c.self.inside.seats.items ≡ length c.args.self.now.seats =
    ap (λ (x : SharedSeen). length x.seats) c.self.view_is in
    is_seat c.self.inside.zone.cap c.self.inside.seats.items c.args.i c.index.result.now c.self.invariant.1.seats
    (omega (arith, n, c.requires)) c.index.ensures

pub invariant_of-self : goal.invariant_of-self
invariant_of-self c =
    let v : SharedSeen = record {
      region = c.self.inside.spans;
      place = c.self.inside.place;
      zone = c.self.inside.zone;
      reserved = c.self.inside.reserved;
      seats = c.self.inside.seats.items;
    } in
    let n : length c.self.inside.seats.items ≡ length c.args.self.now.seats =
    ap (λ (x : SharedSeen). length x.seats) c.self.view_is in
    let e : slice_get c.self.inside.seats.items c.args.i ≡ Some c.index.result.now =
    seat_read c.self.inside.seats.items c.args.i c.index.result.now (omega (arith, n, c.requires)) c.index.ensures in (
      omega (arith, c.self.invariant.0, c.count_stored.ensures.room),
      subst IsWhole
          (left v c.args.i c.next_byte-place.result.0 c.next_byte-place.result.1 c.index.result.now c.store.new.self
          c.count_stored.new.seats.items c.next_byte-place.ensures.place c.next_byte-place.ensures.byte c.store.ensures
          (c.count_stored.ensures.seats c.index.result.now e))
          (stepped_whole v c.args.i c.index.result.now c.self.invariant.1 e),
    )

pub returns-clause-stepped : goal.returns-clause-stepped
returns-clause-stepped c = λ s g.
    let v : SharedSeen = record {
      region = c.self.inside.spans;
      place = c.self.inside.place;
      zone = c.self.inside.zone;
      reserved = c.self.inside.reserved;
      seats = c.self.inside.seats.items;
    } in
    let n : length c.self.inside.seats.items ≡ length c.args.self.now.seats =
    ap (λ (x : SharedSeen). length x.seats) c.self.view_is in
    let e : slice_get c.self.inside.seats.items c.args.i ≡ Some c.index.result.now =
    seat_read c.self.inside.seats.items c.args.i c.index.result.now (omega (arith, n, c.requires)) c.index.ensures in
    let f : slice_get c.self.inside.seats.items c.args.i ≡ Some s =
    ap (λ (x : SharedSeen). slice_get x.seats c.args.i) c.self.view_is ∙ g in
    let is : c.index.result.now ≡ s = cc (e, f) in
    sym (left v c.args.i c.next_byte-place.result.0 c.next_byte-place.result.1 c.index.result.now c.store.new.self
    c.count_stored.new.seats.items c.next_byte-place.ensures.place c.next_byte-place.ensures.byte c.store.ensures
    (c.count_stored.ensures.seats c.index.result.now e))
    ∙ ap₂ (λ (x : SharedSeen) (y : Seat). stepped x c.args.i y) c.self.view_is is
