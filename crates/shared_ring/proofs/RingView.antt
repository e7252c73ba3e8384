-- What a shared zone that stands for one of the definitions shows of it
use Rattle.std.proofs.Common.{◌≡◌, ◌≢◌, ℕ, zero, suc, ◌+◌, ◌<◌, ◌≤◌, Bool, true, false, cond, ◌==◌, nat_lt, not, List}
use Rattle.std.proofs.Common.{[], ◌∷◌, length, get_or, refl, sym, ap, ◌∙◌, arith, Some, None, Option, eq-eqb}
use Rattle.std.proofs.lemmas.Bool.{ne_eqb, lt-ltb, ltb-false, ltb-true, eqb-true}
use Rattle.std.proofs.lemmas.List.{length-map}
use Rattle.std.proofs.lemmas.List.Quantifiers.{position-Some}
use Rattle.std.proofs.lemmas.Option.{slice_get-map, slice_get_within, get_or_from_slice_get, slice_get-get_or}
use Rattle.std.proofs.lemmas.Option.{cond_some}
use Rattle.std.specs.Prelude.{slice_get, position, Contains}
use Rattle.std.specs.List.{position_or_len}
use Rattle.std.specs.Option.{option_map}
use Rattle.zone_spec.specs.declared.Zone.{Zone}
use Rattle.zone_spec.specs.Parts.{standing_words}
use Rattle.shared_spec.specs.declared.OpenCall.{OpenCall}
use Rattle.shared_spec.specs.declared.SharedRefusal.TheVariants.{NoSeat, Crowded}
use Rattle.shared_spec.specs.Calls.{SharedCall, open_count, held, open_call}
use Rattle.shared_spec.specs.Machine.{SharedZone, CanShare, opened, call_place, refusal, shown, open_calls}
use Rattle.shared_spec.specs.Runs.{SharedOperation, shared_after}
use Rattle.shared_laws.specs.Laws.{IsOldestOpen}
use Rattle.shared_laws.proofs.Positions.{none_held}
use Rattle.shared_laws.proofs.Counts.{none_open, accepts}
use Rattle.shared_laws.proofs.Seats.{as_many_are_shown}
use Rattle.shared_laws.proofs.OpenCalls.{open_calls_are_shown}
use Rattle.shared_laws.proofs.Laws.{held_by_places_law}
use Rattle.shared_ring.specs.declared.seats.Seat.{Seat}
use Rattle.shared_ring.specs.Seats.{is_of, call_of, shown_seat, way_round, held_since}
use Rattle.shared_ring.specs.Seen.{SharedSeen, bytes_of, words_seen, StandsFor}
use Rattle.shared_ring.proofs.Tickets.{AreRising, are_rising}

-- ---- finding a ticket

pub found : (t : ℕ) (seats : List Seat) (i : ℕ) → position (is_of t) seats ≡ Some i
    → (s : Seat) → slice_get seats i ≡ Some s → s.ticket ≡ t
found t seats i e s g =
    let h : is_of t (get_or seats i s) ≡ true = (position-Some (is_of t) seats i s e).1 in
    let q : get_or seats i s ≡ s = get_or_from_slice_get seats i s s g in
    eqb-true s.ticket t (ap (is_of t) (sym q) ∙ h)

none_at : (t : ℕ) (x : Seat) (xs : List Seat) (b : Bool) → is_of t x ≡ b
    → length (x ∷ xs) ≤ cond (not b) (1 + position_or_len (is_of t) xs) 0
    → (length xs ≤ position_or_len (is_of t) xs → (k : ℕ) (s : Seat) → slice_get xs k ≡ Some s → s.ticket ≢ t)
    → (k : ℕ) (s : Seat) → slice_get (x ∷ xs) k ≡ Some s → s.ticket ≢ t
none_at t x xs true f h later k s e = absurd (omega arith)
none_at t x xs false f h later zero s e =
    let q : x ≡ s = cc in
    λ n. let m : is_of t x ≡ true = eq-eqb x.ticket t (ap (λ (y : Seat). y.ticket) q ∙ n) in cc
none_at t x xs false f h later (suc k) s e = later (omega arith) k s e

none_before : (t : ℕ) (seats : List Seat) → length seats ≤ position_or_len (is_of t) seats
    → (k : ℕ) (s : Seat) → slice_get seats k ≡ Some s → s.ticket ≢ t
none_before t [] h k s e = cc
none_before t (x ∷ xs) h k s e = none_at t x xs (is_of t x) refl h (none_before t xs) k s e

not_within : (b : Bool) (n : ℕ) → cond b (Some n) None ≡ None → b ≡ false
not_within true n e = cc
not_within false n e = refl

pub not_found : (t : ℕ) (seats : List Seat) → position (is_of t) seats ≡ None
    → (k : ℕ) (s : Seat) → slice_get seats k ≡ Some s → s.ticket ≢ t
not_found t seats e = none_before t seats
    (ltb-false (position_or_len (is_of t) seats) (length seats)
    (not_within (nat_lt (position_or_len (is_of t) seats) (length seats)) (position_or_len (is_of t) seats) e))

none_past : (seats : List Seat) (i : ℕ) → slice_get seats i ≡ None → length seats ≤ i
none_past [] i e = omega arith
none_past (x ∷ xs) zero e = let n : ◌≡◌ {A = ℕ} 0 1 = cc in absurd (omega (arith, n))
none_past (x ∷ xs) (suc i) e = omega (arith, none_past xs i e)

pub the_seat : (t : ℕ) (seats : List Seat) (i : ℕ) → position (is_of t) seats ≡ Some i
    → (s : Seat) × (slice_get seats i ≡ Some s) × (s.ticket ≡ t)
the_seat t seats i e = by (slice_get seats i) refl
  where
    by : (o : Option Seat) → slice_get seats i ≡ o → (s : Seat) × (slice_get seats i ≡ Some s) × (s.ticket ≡ t)
    by None f =
        let h : (nat_lt (position_or_len (is_of t) seats) (length seats)
        ≡ true) × (position_or_len (is_of t) seats ≡ i) =
        cond_some (nat_lt (position_or_len (is_of t) seats) (length seats)) (position_or_len (is_of t) seats) i e in
        let l : position_or_len (is_of t) seats < length seats =
        ltb-true (position_or_len (is_of t) seats) (length seats) h.0 in
        absurd (omega (arith, l, h.1, none_past seats i f))
    by (Some s) f = (s, f, found t seats i e s f)

module _ (z : Zone) (image : List ℕ) (shared : SharedZone) (v : SharedSeen) (s : StandsFor z image shared v) where
  pub shown_at : (i : ℕ) (x : Seat) → slice_get v.seats i ≡ Some x
      → slice_get (open_calls z shared) i ≡ Some (shown_seat x)
  shown_at i x e = ap (λ (os : List OpenCall). slice_get os i) (sym s.shown) ∙ slice_get-map shown_seat v.seats i
      ∙ ap (option_map shown_seat) e

  pub seat_count : open_count shared.calls ≡ length v.seats
  seat_count = sym (as_many_are_shown z shared) ∙ ap length (sym s.shown) ∙ length-map v.seats shown_seat

  pub rising : AreRising (open_calls z shared)
  rising = are_rising z shared 0 shared.calls

  -- a seat's place is its call's first
  pub seat_place : (i : ℕ) (x : Seat) → slice_get v.seats i ≡ Some x → call_place z shared x.ticket 0 ≡ x.place
  seat_place i x e =
      let g : slice_get (open_calls z shared) i ≡ Some (shown_seat x) = shown_at i x e in
      let h : (c : SharedCall) × (open_call shared.calls x.ticket ≡ Some c) × (shown_seat x
      ≡ shown z shared x.ticket c) =
      (open_calls_are_shown z shared (shown_seat x)).0 (
        i,
        slice_get_within (open_calls z shared) i (shown_seat x) g,
        get_or_from_slice_get (open_calls z shared) i (shown_seat x) (shown_seat x) g,
      ) in
      sym (ap (λ (o : OpenCall). o.place) h.2)

  -- an open call has a seat
  pub has_seat : (t : ℕ) (c : SharedCall) → open_call shared.calls t ≡ Some c
      → (k : ℕ) × (x : Seat) × (slice_get v.seats k ≡ Some x) × (x.ticket ≡ t)
  has_seat t c e =
      let o : OpenCall = shown z shared t c in
      let h : Contains (open_calls z shared) o = (open_calls_are_shown z shared o).1 (c, e, refl) in
      at h.0 (slice_get v.seats h.0) refl (sym (slice_get-map shown_seat v.seats h.0)
      ∙ ap (λ (os : List OpenCall). slice_get os h.0) s.shown
      ∙ slice_get-get_or (open_calls z shared) h.0 o h.1 ∙ ap Some h.2)
    where
      at : (k : ℕ) (r : Option Seat) → slice_get v.seats k ≡ r
          → option_map shown_seat (slice_get v.seats k) ≡ Some (shown z shared t c)
          → (k : ℕ) × (x : Seat) × (slice_get v.seats k ≡ Some x) × (x.ticket ≡ t)
      at k None f g =
          let q : ◌≡◌ {A = Option OpenCall} None (Some (shown z shared t c)) = ap (option_map shown_seat) (sym f) ∙ g in
          let n : ◌≡◌ {A = ℕ} 0 1 = cc in absurd (omega (arith, n))
      at k (Some x) f g =
          let q : Some (shown_seat x) ≡ Some (shown z shared t c) = ap (option_map shown_seat) (sym f) ∙ g in
          let r : shown_seat x ≡ shown z shared t c = cc in
          (k, x, f, ap (λ (p : OpenCall). p.ticket) r)

  pub no_call : (t : ℕ) → position (is_of t) v.seats ≡ None → open_call shared.calls t ≡ None
  no_call t e = by (open_call shared.calls t) refl
    where
      by : (r : Option SharedCall) → open_call shared.calls t ≡ r → open_call shared.calls t ≡ None
      by None f = f
      by (Some c) f =
          let h : (k : ℕ) × (x : Seat) × (slice_get v.seats k ≡ Some x) × (x.ticket ≡ t) = has_seat t c f in
          absurd (not_found t v.seats e h.0 h.1 h.2 h.3)

  -- ---- what is held

  -- the first seat is the oldest open call's
  first_is_oldest : (x : Seat) → slice_get v.seats 0 ≡ Some x → IsOldestOpen shared.calls x.ticket (call_of x)
  first_is_oldest x e = record {
    is_open = s.seated 0 x e;
    oldest = λ u l. by u l (open_call shared.calls u) refl;
  }
    where
      by : (u : ℕ) → u < x.ticket → (r : Option SharedCall) → open_call shared.calls u ≡ r
          → open_call shared.calls u ≡ None
      by u l None f = f
      by u l (Some c) f =
          let h : (k : ℕ) × (y : Seat) × (slice_get v.seats k ≡ Some y) × (y.ticket ≡ u) = has_seat u c f in
          at h.0 h.1 h.2 h.3
        where
          at : (k : ℕ) (y : Seat) → slice_get v.seats k ≡ Some y → y.ticket ≡ u → open_call shared.calls u ≡ None
          at zero y g q =
              let p : Some x ≡ Some y = sym e ∙ g in
              let r : x ≡ y = cc in
              let m : x.ticket ≡ y.ticket = ap (λ (w : Seat). w.ticket) r in absurd (omega arith)
          at (suc k) y g q =
              let m : x.ticket < y.ticket =
              rising.each 0 (suc k) (shown_seat x) (shown_seat y) (shown_at 0 x e) (shown_at (suc k) y g)
              (omega arith) in
              absurd (omega arith)

module _ (z : Zone) (image : List ℕ) (os : List SharedOperation) (can : CanShare z image) where
  abbrev shared : SharedZone
  shared = shared_after z (opened z image) os

  module _ (whole : List ℕ) (v : SharedSeen) (s : StandsFor z whole shared v) where
    -- the way from the first seat's place to start is what is held
    pub held_is : held_since v.seats (words_seen v).start v.zone.cap ≡ held shared.calls
    held_is = by v.seats refl
      where
        by : (seats : List Seat) → v.seats ≡ seats
            → held_since seats (words_seen v).start v.zone.cap ≡ held shared.calls
        by [] e =
            let n : open_count shared.calls ≡ 0 = seat_count z whole shared v s ∙ ap length e in
            sym (none_held shared.calls (λ k d g. none_open shared.calls k d n g))
        by (x ∷ xs) e =
            let g : slice_get v.seats 0 ≡ Some x = ap (λ (ys : List Seat). slice_get ys 0) e in
            let law : held shared.calls ≡ way_round z.cap (call_place z shared x.ticket 0)
            (standing_words z shared.image).start =
            held_by_places_law z image os can x.ticket (call_of x) (first_is_oldest z whole shared v s x g) in
            ap (λ (y : Zone). way_round y.cap x.place (standing_words y (bytes_of v)).start) s.zone
            ∙ ap (λ (bytes : List ℕ). way_round z.cap x.place (standing_words z bytes).start) s.bytes
            ∙ ap (λ p. way_round z.cap p (standing_words z shared.image).start)
            (sym (seat_place z whole shared v s 0 x g))
            ∙ sym law

    -- ---- refusals

    pub no_seat : (n : ℕ) → length v.seats ≡ 64 → Some NoSeat ≡ refusal z shared.calls n
    no_seat n h =
        let b : (open_count shared.calls == 64) ≡ true =
        eq-eqb (open_count shared.calls) 64 (seat_count z whole shared v s ∙ h) in
        rw b refl

    not_full : length v.seats ≢ 64 → open_count shared.calls ≢ 64
    not_full h e = h (sym (seat_count z whole shared v s) ∙ e)

    pub crowded : (n : ℕ) → length v.seats ≢ 64
        → v.zone.cap < held_since v.seats (words_seen v).start v.zone.cap + n
        → Some (Crowded (held_since v.seats (words_seen v).start v.zone.cap)) ≡ refusal z shared.calls n
    crowded n h l =
        let a : (open_count shared.calls == 64) ≡ false = ne_eqb (open_count shared.calls) 64 (not_full h) in
        let c : v.zone.cap ≡ z.cap = ap (λ (y : Zone). y.cap) s.zone in
        let b : nat_lt z.cap (held shared.calls + n) ≡ true =
        lt-ltb z.cap (held shared.calls + n) (omega (arith, held_is)) in
        rw (a, b) (ap (λ m. Some (Crowded m)) held_is)

    pub fits : (n : ℕ) → length v.seats ≢ 64
        → held_since v.seats (words_seen v).start v.zone.cap + n ≤ v.zone.cap
        → None ≡ refusal z shared.calls n
    fits n h l =
        let c : v.zone.cap ≡ z.cap = ap (λ (y : Zone). y.cap) s.zone in
        sym (accepts z shared.calls n (not_full h) (omega (arith, held_is)))
