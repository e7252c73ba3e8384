-- A reservation and a step of a shared zone are the definitions'
use Rattle.std.proofs.Common.{◌≡◌, ◌≢◌, ℕ, suc, ◌+◌, ◌%◌, ◌<◌, Bool, true, false, cond, ◌==◌, List, [], ◌∷◌, ◌++◌}
use Rattle.std.proofs.Common.{length, map, take, drop, set, refl, sym, ap, ap₂, ◌∙◌, subst, arith, Some, None, Option}
use Rattle.std.proofs.Common.{Ok, Err, inl, inr, eq-eqb, append-nil, length-append, length-set}
use Rattle.std.proofs.lemmas.Bool.{cases_order, lt-ltb, ltb-true}
use Rattle.std.proofs.lemmas.List.{map-append, take-map, drop-map}
use Rattle.std.proofs.lemmas.Option.{slice_get_within}
use Rattle.std.specs.Prelude.{slice_get, slice_index, flat_map, position, is_some}
use Rattle.zone_spec.specs.declared.Zone.{Zone}
use Rattle.zone_spec.specs.Parts.{standing_words}
use Rattle.zone_spec.specs.Stores.{Store, put}
use Rattle.shared_spec.specs.declared.Next.{Next}
use Rattle.shared_spec.specs.declared.OpenCall.{OpenCall}
use Rattle.shared_spec.specs.declared.SharedRefusal.{SharedRefusal}
use Rattle.shared_spec.specs.Calls.{SharedCall, is_open_call, if_open, open_call}
use Rattle.shared_spec.specs.Machine.{SharedZone, CanShare, opened, call_place, refusal, reserved, reserved_unless}
use Rattle.shared_spec.specs.Machine.{next_stored, stepped_if, step_answer, open_calls}
use Rattle.shared_spec.specs.Runs.{SharedOperation, Reserve, StoreNext, operated, shared_after}
use Rattle.shared_spec.specs.Histories.{History, shared_zone, and_then}
use Rattle.machine_spec.specs.Zones.{zone_bytes}
use Rattle.shared_laws.specs.Seats.{after_step}
use Rattle.shared_laws.proofs.Positions.{more_left, more_last, one_more as call_more, set_there, set_elsewhere}
use Rattle.shared_laws.proofs.Counts.{open_call-some, open_call-is}
use Rattle.shared_laws.proofs.Seats.{one_more_operation, places_follow_first, shown_after_reservation, shown_after_step}
use Rattle.shared_ring.specs.declared.seats.Seat.{Seat}
use Rattle.shared_ring.specs.Seats.{is_of, call_of, shown_seat, one_more, seats_stepped, next_of}
use Rattle.shared_ring.specs.Seen.{SharedSeen, bytes_of, words_seen, StandsFor, IsLeftBy, seated, stepped, words_after}
use Rattle.shared_ring.specs.Seen.{byte_store, reserving, next_store, IsStepped}
use Rattle.prz_region.specs.CutRegion.{stored}
use Rattle.shared_ring.proofs.SeatLists.{more_cases, each_stepped, set_pieces}
use Rattle.shared_ring.proofs.Tickets.{AreRising, after_own}
use Rattle.prz_region.proofs.Cuts.{spans-length}
use Rattle.shared_ring.proofs.Regions.{before_stored, after_stored, one_stored}
use Rattle.shared_ring.proofs.RingView.{shown_at, rising, seat_place, no_call, the_seat}

-- ---- a reservation

-- a call stays open when one more is reserved
stays_open : (calls : List SharedCall) (new c : SharedCall) (t : ℕ) → open_call calls t ≡ Some c
    → open_call (calls ++ new ∷ []) t ≡ Some c
stays_open calls new c t e =
    let h : (slice_get calls t ≡ Some c) × (is_open_call c ≡ true) = open_call-some calls t c e in
    open_call-is (calls ++ new ∷ []) t c (more_left calls new c t h.0) h.1

pub reserved_stands : (z : Zone) (image : List ℕ) (os : List SharedOperation) (can : CanShare z image)
    (whole : List ℕ) (v : SharedSeen) (payload : List ℕ)
    → StandsFor z whole (shared_after z (opened z image) os) v → 0 < length payload
    → StandsFor z whole (reserved z (shared_after z (opened z image) os) payload) (seated v payload)
reserved_stands z image os can whole v payload s some =
    let shared : SharedZone = shared_after z (opened z image) os in
    let new : SharedCall = record { payload = payload; stored = 0 } in
    let n : Store = words_after v.zone (words_seen v) (length payload) in
    let start : (words_seen v).start ≡ (standing_words z shared.image).start =
    ap (λ (y : Zone). (standing_words y (bytes_of v)).start) s.zone
    ∙ ap (λ (bytes : List ℕ). (standing_words z bytes).start) s.bytes in
    record {
      zone = s.zone;
      there = omega (arith, s.there, spans-length v.region v.place (n ∷ []));
      bytes = one_stored v.region v.place n s.there
          ∙ ap (λ (y : Zone). put (bytes_of v) 4 (words_after y (standing_words y (bytes_of v)) (length payload)).bytes)
          s.zone
          ∙ ap (λ (bytes : List ℕ). put bytes 4 (words_after z (standing_words z bytes) (length payload)).bytes) s.bytes;
      before = before_stored v.region v.place (n ∷ []) ∙ s.before;
      after = after_stored v.region v.place (n ∷ []) ∙ s.after;
      reserved = omega (arith, s.reserved, length-append shared.calls (new ∷ []));
      shown = map-append shown_seat v.seats _
          ∙ ap₂ (λ (xs : List OpenCall) (o : OpenCall). xs ++ o ∷ []) s.shown
          (ap₂ (λ t p. let o : OpenCall = record {
            ticket = t;
            place = p;
            length = length payload;
            stored = 0;
          } in o) s.reserved start)
          ∙ sym (shown_after_reservation z image os can payload some);
      seated = λ i x e. elim (more_cases v.seats _ x i e) [
        | inl g ↦ stays_open shared.calls new (call_of x) x.ticket (s.seated i x g)
        | inr q ↦
            (let t : x.ticket ≡ length shared.calls = ap (λ (y : Seat). y.ticket) q ∙ s.reserved in
            ap (open_call (shared.calls ++ new ∷ [])) t
            ∙ open_call-is (shared.calls ++ new ∷ []) (length shared.calls) new (more_last shared.calls new)
            (lt-ltb 0 (length payload) some)
            ∙ ap (λ (y : Seat). Some (call_of y)) (sym q))
      ];
    }

-- ---- a step

step_shown : (t : ℕ) (x : Seat) → x.ticket ≡ t → (b : Bool) → (x.stored + 1 == length x.payload) ≡ b
    → after_step t (shown_seat x) ≡ cond b [] (shown_seat (one_more x) ∷ [])
step_shown t x e b f =
    let h : (x.ticket == t) ≡ true = eq-eqb x.ticket t e in
    rw (h, f) refl

seats_shown : (seats : List Seat) (os : List OpenCall) (t i : ℕ) (x : Seat) → map shown_seat seats ≡ os
    → slice_get seats i ≡ Some x → slice_get os i ≡ Some (shown_seat x) → x.ticket ≡ t → AreRising os
    → map shown_seat (seats_stepped seats i x) ≡ flat_map (after_step t) os
seats_shown seats os t i x m e f q r =
    by (x.stored + 1 == length x.payload) refl
    ∙ sym (after_own t os i (shown_seat x) f q r)
  where
    front : map shown_seat (take i seats) ≡ take i os
    front = sym (take-map shown_seat i seats) ∙ ap (take i) m

    back : map shown_seat (drop (suc i) seats) ≡ drop (suc i) os
    back = sym (drop-map shown_seat (suc i) seats) ∙ ap (drop (suc i)) m

    by : (b : Bool) → (x.stored + 1 == length x.payload) ≡ b
        → map shown_seat (cond b (take i seats ++ drop (i + 1) seats) (set seats i (one_more x)))
        ≡ (take i os ++ after_step t (shown_seat x)) ++ drop (suc i) os
    by true h =
        let n : i + 1 ≡ suc i = omega arith in
        ap (λ k. map shown_seat (take i seats ++ drop k seats)) n
        ∙ map-append shown_seat (take i seats) (drop (suc i) seats)
        ∙ ap₂ (λ xs ys. xs ++ ys) (front ∙ sym (append-nil (take i os))
        ∙ ap (λ xs. take i os ++ xs) (sym (step_shown t x q true h))) back
    by false h =
        ap (map shown_seat) (set_pieces seats i (one_more x) (slice_get_within seats i x e))
        ∙ map-append shown_seat (take i seats ++ one_more x ∷ []) (drop (suc i) seats)
        ∙ ap₂ (λ xs ys. xs ++ ys) (map-append shown_seat (take i seats) (one_more x ∷ [])
        ∙ ap₂ (λ xs ys. xs ++ ys) front (sym (step_shown t x q false h))) back

-- a seat's own call with a byte more stored is open, unless it was the last
more_open : (calls : List SharedCall) (x : Seat) → open_call calls x.ticket ≡ Some (call_of x)
    → x.stored + 1 ≢ length x.payload
    → open_call (set calls x.ticket (call_more (call_of x))) x.ticket ≡ Some (call_of (one_more x))
more_open calls x e n =
    let h : (slice_get calls x.ticket ≡ Some (call_of x)) × (is_open_call (call_of x) ≡ true) =
    open_call-some calls x.ticket (call_of x) e in
    let short : x.stored < length x.payload = ltb-true x.stored (length x.payload) h.1 in
    open_call-is (set calls x.ticket (call_more (call_of x))) x.ticket (call_of (one_more x))
    (set_there calls x.ticket (call_of x) (call_more (call_of x)) h.0)
    (lt-ltb (x.stored + 1) (length x.payload) (omega arith))

pub stepped_stands : (z : Zone) (whole : List ℕ) (shared : SharedZone) (v : SharedSeen) (i : ℕ) (x : Seat)
    → StandsFor z whole shared v → slice_get v.seats i ≡ Some x
    → StandsFor z whole (next_stored z shared x.ticket (call_of x)) (stepped v i x)
stepped_stands z whole shared v i x s e =
    let n : Store = byte_store ((x.place + x.stored) % v.zone.cap) (slice_index x.payload x.stored) in
    let place : (x.place + x.stored) % z.cap ≡ call_place z shared x.ticket x.stored =
    ap (λ p. (p + x.stored) % z.cap) (sym (seat_place z whole shared v s i x e))
    ∙ sym (places_follow_first z shared x.ticket x.stored) in
    let f : slice_get (open_calls z shared) i ≡ Some (shown_seat x) = shown_at z whole shared v s i x e in
    record {
      zone = s.zone;
      there = omega (arith, s.there, spans-length v.region v.place (n ∷ []));
      bytes = one_stored v.region v.place n s.there
          ∙ ap (λ (y : Zone). put (bytes_of v) (12 + (x.place + x.stored) % y.cap)
          (slice_index x.payload x.stored ∷ []))
          s.zone
          ∙ ap₂ (λ (bytes : List ℕ) p. put bytes (12 + p) (slice_index x.payload x.stored ∷ [])) s.bytes place;
      before = before_stored v.region v.place (n ∷ []) ∙ s.before;
      after = after_stored v.region v.place (n ∷ []) ∙ s.after;
      reserved = s.reserved ∙ sym (length-set shared.calls x.ticket (call_more (call_of x)));
      shown = seats_shown v.seats (open_calls z shared) x.ticket i x s.shown e f refl (rising z whole shared v s)
          ∙ sym (shown_after_step z shared x.ticket (call_of x) (s.seated i x e));
      seated = each_stepped
          (λ y. open_call (set shared.calls x.ticket (call_more (call_of x))) y.ticket ≡ Some (call_of y)) v.seats i x
          (λ j y g ne.
          let apart : y.ticket ≢ x.ticket =
          (λ q. elim (cases_order j i) [
            | inl a ↦ ne a
            | inr o ↦ elim o [
              | inl l ↦
                  (let m : y.ticket < x.ticket = (rising z whole shared v s).each j i (shown_seat y) (shown_seat x)
                  (shown_at z whole shared v s j y g) f l in omega arith)
              | inr l ↦
                  (let m : x.ticket < y.ticket = (rising z whole shared v s).each i j (shown_seat x) (shown_seat y) f
                  (shown_at z whole shared v s j y g) l in omega arith)
            ]
          ]) in
          ap if_open (set_elsewhere shared.calls x.ticket y.ticket (call_more (call_of x)) apart) ∙ s.seated j y g)
          (more_open shared.calls x (s.seated i x e));
    }

-- ---- histories

next_zone : (h : History) (o : SharedOperation) → shared_zone (and_then h o) ≡ operated h.zone (shared_zone h) o
next_zone h o = one_more_operation h.zone (opened h.zone (zone_bytes h.zone h.image)) h.operations o

left_as : (h : History) (o : SharedOperation) (v : SharedSeen) (shared : SharedZone)
    → CanShare h.zone (zone_bytes h.zone h.image) → operated h.zone (shared_zone h) o ≡ shared
    → StandsFor h.zone h.image shared v → IsLeftBy (and_then h o) v
left_as h o v shared can e s = record {
  can = can;
  stands = subst (λ (x : SharedZone). StandsFor h.zone h.image x v) (sym (next_zone h o ∙ e)) s;
}

pub left_reserved : (h : History) (v : SharedSeen) (payload : List ℕ) → IsLeftBy h v
    → None ≡ refusal h.zone (shared_zone h).calls (length payload)
    → 0 < length payload → IsLeftBy (and_then h (Reserve payload)) (seated v payload)
left_reserved h v payload l e some =
    left_as h (Reserve payload) (seated v payload) (reserved h.zone (shared_zone h) payload) l.can
    (ap (λ (o : Option SharedRefusal). reserved_unless o h.zone (shared_zone h) payload) (sym e))
    (reserved_stands h.zone (zone_bytes h.zone h.image) h.operations l.can h.image v payload l.stands some)

pub left_refused : (h : History) (v : SharedSeen) (payload : List ℕ) (why : SharedRefusal) → IsLeftBy h v
    → Some why ≡ refusal h.zone (shared_zone h).calls (length payload) → IsLeftBy (and_then h (Reserve payload)) v
left_refused h v payload why l e = left_as h (Reserve payload) v (shared_zone h) l.can
    (ap (λ (o : Option SharedRefusal). reserved_unless o h.zone (shared_zone h) payload) (sym e)) l.stands

pub left_stepped : (h : History) (v : SharedSeen) (i t : ℕ) (x : Seat) → IsLeftBy h v
    → slice_get v.seats i ≡ Some x → x.ticket ≡ t
    → IsLeftBy (and_then h (StoreNext t)) (stepped v i x)
left_stepped h v i t x l e q =
    left_as h (StoreNext t) (stepped v i x) (next_stored h.zone (shared_zone h) x.ticket (call_of x)) l.can
    (ap (λ n. stepped_if (open_call (shared_zone h).calls n) h.zone (shared_zone h) n) (sym q)
    ∙ ap (λ (o : Option SharedCall). stepped_if o h.zone (shared_zone h) x.ticket) (l.stands.seated i x e))
    (stepped_stands h.zone h.image (shared_zone h) v i x l.stands e)

pub left_idle : (h : History) (v : SharedSeen) (t : ℕ) → IsLeftBy h v → position (is_of t) v.seats ≡ None
    → IsLeftBy (and_then h (StoreNext t)) v
left_idle h v t l e = left_as h (StoreNext t) v (shared_zone h) l.can
    (ap (λ (o : Option SharedCall). stepped_if o h.zone (shared_zone h) t)
    (no_call h.zone h.image (shared_zone h) v l.stands t e)) l.stands

-- ---- the stores, in the words of a history

pub reserved_in : (h : History) (v : SharedSeen) (payload : List ℕ) → IsLeftBy h v
    → (seated v payload).region ≡ stored v.region v.place (reserving h.zone (shared_zone h) payload ∷ [])
reserved_in h v payload l =
    ap (λ (y : Zone).
    stored v.region v.place (words_after y (standing_words y (bytes_of v)) (length payload) ∷ [])) l.stands.zone
    ∙ ap (λ (bytes : List ℕ).
    stored v.region v.place (words_after h.zone (standing_words h.zone bytes) (length payload) ∷ [])) l.stands.bytes

pub stepped_in : (h : History) (v : SharedSeen) (i t : ℕ) (x : Seat) (c : SharedCall) → IsLeftBy h v
    → slice_get v.seats i ≡ Some x → x.ticket ≡ t → open_call (shared_zone h).calls t ≡ Some c
    → (stepped v i x).region ≡ stored v.region v.place (next_store h.zone (shared_zone h) t c ∷ [])
stepped_in h v i t x c l e q is =
    let call : call_of x ≡ c = (let there = l.stands.seated i x e in
    let here = ap (open_call (shared_zone h).calls) q in cc (there, here, is)) in
    ap (λ (y : Zone). stored v.region v.place
    (byte_store ((x.place + x.stored) % y.cap) (slice_index x.payload x.stored) ∷ [])) l.stands.zone
    ∙ ap (λ (p : ℕ). stored v.region v.place (byte_store p (slice_index x.payload x.stored) ∷ []))
    (ap (λ p. (p + x.stored) % h.zone.cap) (sym (seat_place h.zone h.image (shared_zone h) v l.stands i x e))
    ∙ sym (places_follow_first h.zone (shared_zone h) x.ticket x.stored))
    ∙ ap₂ (λ (n : ℕ) (d : SharedCall). stored v.region v.place (next_store h.zone (shared_zone h) n d ∷ [])) q call

pub none_open : (h : History) (v : SharedSeen) (t : ℕ) (c : SharedCall) → IsLeftBy h v
    → position (is_of t) v.seats ≡ None → open_call (shared_zone h).calls t ≡ Some c → ⊥
none_open h v t c l e is = (let none = no_call h.zone h.image (shared_zone h) v l.stands t e in cc (none, is))

-- ---- answers

pub step_answers : (h : History) (v : SharedSeen) (t i : ℕ) (x : Seat) → IsLeftBy h v → slice_get v.seats i ≡ Some x
    → x.ticket ≡ t → (next : Next) → next ≡ next_of x
    → IsStepped (step_answer (open_call (shared_zone h).calls t)) (Ok next)
step_answers h v t i x l e q next n =
    subst (λ (o : Option SharedCall). IsStepped (step_answer o) (Ok next))
    (sym (ap (open_call (shared_zone h).calls) (sym q) ∙ l.stands.seated i x e)) n

pub idle_answers : (h : History) (v : SharedSeen) (t : ℕ) → IsLeftBy h v → position (is_of t) v.seats ≡ None
    → IsStepped (step_answer (open_call (shared_zone h).calls t)) (Err (record {}))
idle_answers h v t l e =
    subst (λ (o : Option SharedCall). IsStepped (step_answer o) (Err (record {})))
    (sym (no_call h.zone h.image (shared_zone h) v l.stands t e)) tt

-- whether an open call has the ticket
pub open_told : (h : History) (v : SharedSeen) (t : ℕ) → IsLeftBy h v
    → is_some (position (is_of t) v.seats) ≡ is_some (open_call (shared_zone h).calls t)
open_told h v t l = by (position (is_of t) v.seats) refl
  where
    by : (o : Option ℕ) → position (is_of t) v.seats ≡ o
        → is_some (position (is_of t) v.seats) ≡ is_some (open_call (shared_zone h).calls t)
    by None e = ap is_some e ∙ sym (ap is_some (no_call h.zone h.image (shared_zone h) v l.stands t e))
    by (Some i) e =
        let s = the_seat t v.seats i e in
        let there : open_call (shared_zone h).calls t ≡ Some (call_of s.0) =
        ap (open_call (shared_zone h).calls) (sym s.2) ∙ l.stands.seated i s.0 s.1 in
        ap is_some e ∙ sym (ap is_some there)
