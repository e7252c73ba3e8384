-- A reservation and a step keep a shared zone whole
use Rattle.std.proofs.Common.{◌≡◌, ℕ, ◌+◌, ◌%◌, ◌^◌, ◌<◌, ◌≤◌, ◌==◌, min, Bool, true, false, cond, List, [], ◌∷◌, ◌++◌}
use Rattle.std.proofs.Common.{length, take, drop, set, sym, ap, ◌∙◌, subst, arith, Some, w32, length-append, length-set}
use Rattle.std.proofs.Common.{mod-lt}
use Rattle.std.proofs.lemmas.List.{length-take, length-drop}
use Rattle.std.specs.Prelude.{slice_get, slice_index}
use Rattle.zone_spec.specs.declared.Words.{Words}
use Rattle.zone_spec.specs.Parts.{standing_words}
use Rattle.zone_spec.specs.Stores.{Store, put}
use Rattle.ring_laws.proofs.Images.{length-put}
use Rattle.shared_laws.proofs.PlainZones.{put_start, put_size, byte_words}
use Rattle.prz_region.specs.CutRegion.{span, stored}
use Rattle.shared_ring.specs.declared.seats.Seat.{Seat}
use Rattle.shared_ring.specs.Seats.{one_more}
use Rattle.shared_ring.specs.Seen.{SharedSeen, bytes_of, words_seen, IsWhole, seated, stepped, words_store, byte_store}
use Rattle.prz_region.proofs.Cuts.{spans-length}
use Rattle.shared_ring.proofs.Regions.{one_stored}
use Rattle.shared_ring.proofs.SeatLists.{are_stepped, are_more}
use Rattle.zone_spec.specs.WordBytes.{word_bytes}

pub seated_whole : (v : SharedSeen) (payload : List ℕ) → IsWhole v → length v.seats < 64 → 0 < length payload
    → length payload ≤ v.zone.cap → IsWhole (seated v payload)
seated_whole v payload w seat some room =
    let start : ℕ = ((words_seen v).start + length payload) % v.zone.cap in
    let size : ℕ = min v.zone.cap ((words_seen v).size + length payload) in
    let s : Store = words_store v.zone.byte_order start size in
    let n : List ℕ = put (bytes_of v) s.place s.bytes in
    let below : start < v.zone.cap = mod-lt _ (omega (arith, w.start)) in
    let at : span (stored v.region v.place (s ∷ [])) v.place ≡ n = one_stored v.region v.place s w.there in
    let wide : 12 ≤ length (bytes_of v) = omega (arith, w.room, w.sized) in
    let cap : v.zone.cap < 2 ^ 32 = omega (arith, w.room, w.short) in
    let new : Seat = record { ticket = v.reserved; place = (words_seen v).start; stored = 0; payload = payload } in
    record {
      there = omega (arith, w.there, spans-length v.region v.place (s ∷ []));
      sized = ap length at
          ∙ length-put (bytes_of v) 4 (word_bytes v.zone.byte_order start ++ word_bytes v.zone.byte_order size) ∙ w.sized;
      short = w.short;
      room = w.room;
      start = subst (λ k. k < v.zone.cap)
          (sym (ap (λ xs. (standing_words v.zone xs).start) at
          ∙ put_start v.zone (bytes_of v) start size wide (omega arith) (omega arith))) below;
      size = subst (λ k. k ≤ v.zone.cap)
          (sym (ap (λ xs. (standing_words v.zone xs).size) at
          ∙ put_size v.zone (bytes_of v) start size wide (omega arith) (omega arith))) (omega arith);
      few = omega (arith, seat, length-append v.seats (new ∷ []));
      seats = are_more v.zone.cap v.seats new w.seats (record { place = w.start; stored = some; long = room });
    }

fewer : (b : Bool) (seats : List Seat) (i : ℕ) (s : Seat)
    → length (cond b (take i seats ++ drop (i + 1) seats) (set seats i (one_more s))) ≤ length seats
fewer true seats i s = omega (
  arith,
  length-append (take i seats) (drop (i + 1) seats),
  length-take i seats,
  length-drop (i + 1) seats,
)
fewer false seats i s = omega (arith, length-set seats i (one_more s))

pub stepped_whole : (v : SharedSeen) (i : ℕ) (s : Seat) → IsWhole v → slice_get v.seats i ≡ Some s
    → IsWhole (stepped v i s)
stepped_whole v i s w e =
    let p : ℕ = (s.place + s.stored) % v.zone.cap in
    let byte : Store = byte_store p (slice_index s.payload s.stored) in
    let n : List ℕ = put (bytes_of v) byte.place byte.bytes in
    let at : span (stored v.region v.place (byte ∷ [])) v.place ≡ n = one_stored v.region v.place byte w.there in
    let same : standing_words v.zone (span (stored v.region v.place (byte ∷ [])) v.place) ≡ words_seen v =
    ap (standing_words v.zone) at ∙ byte_words v.zone (bytes_of v) p (slice_index s.payload s.stored) in
    record {
      there = omega (arith, w.there, spans-length v.region v.place (byte ∷ []));
      sized = ap length at ∙ length-put (bytes_of v) (12 + p) (slice_index s.payload s.stored ∷ []) ∙ w.sized;
      short = w.short;
      room = w.room;
      start = subst (λ (x : Words). x.start < v.zone.cap) (sym same) w.start;
      size = subst (λ (x : Words). x.size ≤ v.zone.cap) (sym same) w.size;
      few = omega (arith, w.few, fewer (s.stored + 1 == length s.payload) v.seats i s);
      seats = are_stepped v.zone.cap v.seats i s e w.seats;
    }
