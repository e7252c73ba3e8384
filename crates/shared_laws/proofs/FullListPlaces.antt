-- What every run keeps: each byte of the full list stands at its place, but for those that an open call has yet to
-- store
use Rattle.std.proofs.Common.{◌≡◌, ◌≢◌, ℕ, ◌+◌, ◌-◌, ◌%◌, ◌^◌, ◌<◌, ◌≤◌, min, true, List, [], ◌∷◌, ◌++◌, length, set}
use Rattle.std.proofs.Common.{get_or, refl, sym, ap, ◌∙◌, arith, inl, inr, length-append, append_assoc, append-nil}
use Rattle.std.proofs.Common.{mod-lt, take_all, w32, Option, Some, None}
use Rattle.std.proofs.lemmas.List.{get_or_append_left, get_or-append_right}
use Rattle.std.proofs.lemmas.Bool.{cases_lt, cases_eq, cases_order, ltb-true}
use Rattle.std.proofs.Math.Nat.{mod-eq_of_lt, mod-add-mod, add-mod_right}
use Rattle.std.specs.Prelude.{slice_get, slice_index}
use Rattle.zone_spec.specs.declared.Zone.{Zone}
use Rattle.zone_spec.specs.declared.Words.{Words}
use Rattle.zone_spec.specs.Parts.{standing_words}
use Rattle.zone_spec.specs.Reading.{zone_reading}
use Rattle.zone_spec.specs.Stores.{put}
use Rattle.ring_laws.proofs.Images.{length-put}
use Rattle.shared_spec.specs.declared.SharedRefusal.{SharedRefusal}
use Rattle.shared_spec.specs.Calls.{SharedCall, is_open_call, open_count, all_bytes, since_oldest_open, held, open_call}
use Rattle.shared_spec.specs.Machine.{SharedZone, CanShare, opened, call_place, refusal, reserved, reserved_unless}
use Rattle.shared_spec.specs.Machine.{next_stored, stepped_if}
use Rattle.shared_spec.specs.Runs.{SharedOperation, Reserve, StoreNext, operated, shared_after}
use Rattle.shared_laws.proofs.Positions.{before, within, byte, open_is_held, all_bytes-more, before-more, more_left}
use Rattle.shared_laws.proofs.Positions.{more_last, there_within, more_held, one_more, all_bytes-set, before-set}
use Rattle.shared_laws.proofs.Positions.{set_there, set_elsewhere, set_held}
use Rattle.shared_laws.proofs.Places.{apart}
use Rattle.shared_laws.proofs.Counts.{open_call-some, more_count, set_count, accepted}
use Rattle.shared_laws.proofs.PlainZones.{plain_item, plain_length, put_start, put_size, put_sig, put_data, byte_words}
use Rattle.shared_laws.proofs.PlainZones.{byte_there, byte_elsewhere}
use Rattle.zone_spec.specs.WordBytes.{word_bytes}

-- the place of an item of the log at the opening and of all payloads, end to end
abbrev pub round : Zone → List ℕ → ℕ → ℕ
round z image g = (((standing_words z image).start + (z.cap - (standing_words z image).size)) + g) % z.cap

-- the log at the opening and all payloads
abbrev pub whole : Zone → List ℕ → List SharedCall → List ℕ
whole z image calls = (zone_reading z image).log ++ all_bytes calls

-- no call has yet to store this item
abbrev pub IsStored : List SharedCall → ℕ → ℕ → Type 0
IsStored calls l g =
    (i j : ℕ) (c : SharedCall) → slice_get calls i ≡ Some c → j < length c.payload → g ≡ l + (before calls i + j)
    → j < c.stored

pub record Keeps (z : Zone) (image : List ℕ) (shared : SharedZone) : Type 0 where
  pub start : shared.start ≡ (standing_words z image).start
  pub total : length shared.image ≡ z.size
  pub signed : (standing_words z shared.image).sig ≡ z.sig
  pub word_start : (standing_words z shared.image).start
      ≡ ((standing_words z image).start + length (all_bytes shared.calls)) % z.cap
  pub word_size : (standing_words z shared.image).size
      ≡ min z.cap ((standing_words z image).size + length (all_bytes shared.calls))
  pub window : held shared.calls ≤ z.cap
  pub seats : open_count shared.calls ≤ 64
  pub bytes : (g : ℕ) → g < (standing_words z image).size + length (all_bytes shared.calls)
      → (standing_words z image).size + length (all_bytes shared.calls) ≤ g + z.cap
      → IsStored shared.calls (standing_words z image).size g
      → get_or shared.image (12 + round z image g) 0 ≡ get_or (whole z image shared.calls) g 0

module _ (z : Zone) (image : List ℕ) (can : CanShare z image) where
  pub some_cap : 0 < z.cap
  some_cap = omega (arith, can.valid.room)

  pub room : 12 + z.cap ≤ z.size
  room = omega (arith, can.valid.cap)

  pub small_cap : z.cap < 2 ^ 32
  small_cap = omega (arith, room, can.valid.at_most)

  pub log_length : length (zone_reading z image).log ≡ (standing_words z image).size
  log_length = plain_length z image can.valid can.parity can.signed can.ring can.is_open

  pub round_below : (g : ℕ) → round z image g < z.cap
  round_below g = mod-lt _ some_cap

  -- ---- places

  -- the place of a call's byte is that of its item
  pub call_round : (shared : SharedZone) (t j : ℕ) → shared.start ≡ (standing_words z image).start
      → call_place z shared t j ≡ round z image ((standing_words z image).size + (before shared.calls t + j))
  call_round shared t j e =
      let w : Words = standing_words z image in
      let m : (w.start + (z.cap - w.size)) + (w.size + (before shared.calls t + j))
      ≡ ((shared.start + before shared.calls t) + j) + z.cap = omega (arith, can.ring.1) in
      sym (ap (λ n. n % z.cap) m ∙ add-mod_right ((shared.start + before shared.calls t) + j) z.cap)

  -- items less than a round apart have different places
  pub round_apart : (g h n : ℕ) → g < n → h < n → n ≤ g + z.cap → n ≤ h + z.cap → g ≢ h
      → round z image g ≢ round z image h
  round_apart g h n a b c d ne e =
      let s : ℕ = (standing_words z image).start + (z.cap - (standing_words z image).size) in
      elim (cases_order g h) [
        | inl k ↦ ne k
        | inr o ↦ elim o [
          | inl k ↦ apart (s + g) (s + h) z.cap (omega arith) (omega arith) e
          | inr k ↦ apart (s + h) (s + g) z.cap (omega arith) (omega arith) (sym e)
        ]
      ]

  -- an open call's items are among the last cap
  pub open_item : (shared : SharedZone) (t j : ℕ) (c : SharedCall) → held shared.calls ≤ z.cap
      → slice_get shared.calls t ≡ Some c → is_open_call c ≡ true → j < length c.payload
      → ((standing_words z image).size + (before shared.calls t + j)
      < (standing_words z image).size + length (all_bytes shared.calls))
      × ((standing_words z image).size + length (all_bytes shared.calls)
      ≤ ((standing_words z image).size + (before shared.calls t + j)) + z.cap)
  open_item shared t j c h e o l =
      (omega (arith, within shared.calls t c e), omega (arith, open_is_held shared.calls t c e o))

  -- ---- the opening

  pub keeps_opened : Keeps z image (opened z image)
  unfolding since_oldest_open
  keeps_opened =
      let w : Words = standing_words z image in
      record {
        start = refl;
        total = can.sized;
        signed = can.signed;
        word_start = sym ((let e : w.start + 0 ≡ w.start = omega arith in ap (λ n. n % z.cap) e)
            ∙ mod-eq_of_lt can.is_open.0);
        word_size = omega (arith, can.ring.1);
        window = omega arith;
        seats = omega arith;
        bytes = λ g h k stored.
            sym (plain_item z image can.valid can.parity can.signed can.ring can.is_open g (omega arith))
            ∙ sym (ap (λ xs. get_or xs g 0) (append-nil (zone_reading z image).log));
      }

  -- ---- a reservation

  module _ (shared : SharedZone) (kept : Keeps z image shared) where
    -- an item of what was there before
    whole_left : (payload : List ℕ) (g : ℕ) → g < (standing_words z image).size + length (all_bytes shared.calls)
        → get_or (whole z image (shared.calls ++ record { payload = payload; stored = 0 } ∷ [])) g 0
        ≡ get_or (whole z image shared.calls) g 0
    whole_left payload g h =
        let log : List ℕ = (zone_reading z image).log in
        ap (λ xs. get_or (log ++ xs) g 0) (all_bytes-more shared.calls (record { payload = payload; stored = 0 }))
        ∙ ap (λ xs. get_or xs g 0) (sym (append_assoc log (all_bytes shared.calls) payload))
        ∙ get_or_append_left (log ++ all_bytes shared.calls) payload 0 g
        (omega (arith, length-append log (all_bytes shared.calls), log_length))

    pub keeps_reserved : (payload : List ℕ) → open_count shared.calls ≢ 64
        → held shared.calls + length payload ≤ z.cap → Keeps z image (reserved z shared payload)
    keeps_reserved payload seat fits =
        let w : Words = standing_words z image in
        let v : Words = standing_words z shared.image in
        let new : SharedCall = record { payload = payload; stored = 0 } in
        let calls : List SharedCall = shared.calls ++ new ∷ [] in
        let n : ℕ = length payload in
        let a : ℕ = (v.start + n) % z.cap in
        let b : ℕ = min z.cap (v.size + n) in
        let more : length (all_bytes calls) ≡ length (all_bytes shared.calls) + n =
        ap length (all_bytes-more shared.calls new) ∙ length-append (all_bytes shared.calls) payload in
        let header : 12 ≤ length shared.image = omega (arith, kept.total, room) in
        let fits_a : a < 2 ^ 32 =
        (let m : a < z.cap = mod-lt (v.start + n) some_cap in omega (arith, small_cap)) in
        let fits_b : b < 2 ^ 32 = omega (arith, small_cap) in
        record {
          start = kept.start;
          total = length-put shared.image 4 (word_bytes z.byte_order a ++ word_bytes z.byte_order b) ∙ kept.total;
          signed = put_sig z shared.image a b header fits_a fits_b ∙ kept.signed;
          word_start = put_start z shared.image a b header fits_a fits_b
              ∙ ap (λ s. (s + n) % z.cap) kept.word_start
              ∙ mod-add-mod (w.start + length (all_bytes shared.calls)) z.cap n
              ∙ ap (λ k. k % z.cap)
              (let e : (w.start + length (all_bytes shared.calls)) + n ≡ w.start + length (all_bytes calls) =
              omega arith in e);
          word_size = put_size z shared.image a b header fits_a fits_b
              ∙ (let e : min z.cap (v.size + n) ≡ min z.cap (w.size + length (all_bytes calls)) =
              omega (arith, kept.word_size) in e);
          window = omega (arith, more_held shared.calls new);
          seats = (let ne : open_count shared.calls ≢ 64 = seat in
              omega (arith, more_count shared.calls new, kept.seats));
          bytes = λ g h k stored. elim (cases_lt g (w.size + length (all_bytes shared.calls))) [
            | inl l ↦
                put_data z shared.image a b header fits_a fits_b (round z image g)
                ∙ kept.bytes g l (omega arith) (λ i j c e m o.
                stored i j c (more_left shared.calls new c i e) m
                (o ∙ ap (λ xs. w.size + (length xs + j))
                (sym (before-more shared.calls new i (let q : i < length shared.calls =
                there_within shared.calls c i e in omega arith)))))
                ∙ sym (whole_left payload g l)
            | inr l ↦
                (let last : before calls (length shared.calls) ≡ length (all_bytes shared.calls) =
                ap length (before-more shared.calls new (length shared.calls) (omega arith))
                ∙ ap (λ cs. length (all_bytes cs)) (take_all (length shared.calls) shared.calls (omega arith)) in
                let j : ℕ = g - (w.size + length (all_bytes shared.calls)) in
                let none : j < 0 = stored (length shared.calls) j new (more_last shared.calls new) (omega arith)
                (omega arith) in
                absurd (omega arith))
          ];
        }

    -- ---- a step

    pub keeps_stepped : (t : ℕ) (c : SharedCall) → slice_get shared.calls t ≡ Some c → is_open_call c ≡ true
        → Keeps z image (next_stored z shared t c)
    keeps_stepped t c e o =
        let w : Words = standing_words z image in
        let calls : List SharedCall = set shared.calls t (one_more c) in
        let p : ℕ = call_place z shared t c.stored in
        let b : ℕ = slice_index c.payload c.stored in
        let same : all_bytes calls ≡ all_bytes shared.calls = all_bytes-set shared.calls t c e in
        let words : standing_words z (put shared.image (12 + p) (b ∷ [])) ≡ standing_words z shared.image =
        byte_words z shared.image p b in
        let short : c.stored < length c.payload = ltb-true c.stored (length c.payload) o in
        let own : ℕ = w.size + (before shared.calls t + c.stored) in
        let at : p ≡ round z image own = call_round shared t c.stored kept.start in
        let inside : (own < w.size + length (all_bytes shared.calls))
        × (w.size + length (all_bytes shared.calls) ≤ own + z.cap) =
        open_item shared t c.stored c kept.window e o short in
        let log : List ℕ = (zone_reading z image).log in
        record {
          start = kept.start;
          total = length-put shared.image (12 + p) (b ∷ []) ∙ kept.total;
          signed = ap (λ (v : Words). v.sig) words ∙ kept.signed;
          word_start = ap (λ (v : Words). v.start) words ∙ kept.word_start
              ∙ ap (λ xs. (w.start + length xs) % z.cap) (sym same);
          word_size = ap (λ (v : Words). v.size) words ∙ kept.word_size
              ∙ ap (λ xs. min z.cap (w.size + length xs)) (sym same);
          window = omega (arith, set_held shared.calls t c e, kept.window);
          seats = omega (arith, set_count shared.calls t c e, kept.seats);
          bytes = λ g h k stored.
              let n : length (all_bytes calls) ≡ length (all_bytes shared.calls) = ap length same in
              elim (cases_eq g own) [
                | inl l ↦
                    ap (λ q. get_or (put shared.image (12 + p) (b ∷ [])) (12 + q) 0)
                    (ap (round z image) l ∙ sym at)
                    ∙ byte_there shared.image p b
                    (omega (arith, kept.total, room, at, round_below own))
                    ∙ sym (ap (λ xs. get_or (log ++ xs) g 0) same
                    ∙ ap (λ i. get_or (log ++ all_bytes shared.calls) i 0) l
                    ∙ get_or-append_right log (all_bytes shared.calls) w.size own 0 log_length (omega arith)
                    ∙ (let m : own - w.size ≡ before shared.calls t + c.stored = omega arith in
                    ap (λ i. get_or (all_bytes shared.calls) i 0) m)
                    ∙ byte shared.calls t c.stored c e short)
                | inr l ↦
                    (let other : round z image g ≢ p = (λ q. round_apart g own
                    (w.size + length (all_bytes shared.calls)) (omega arith) inside.0 (omega arith) inside.1 l
                    (q ∙ at)) in
                    byte_elsewhere shared.image p (round z image g) b other
                    ∙ kept.bytes g (omega arith) (omega arith) (λ i j d f m q.
                    elim (cases_eq i t) [
                      | inl s ↦
                          (let there : slice_get shared.calls t ≡ Some d = ap (slice_get shared.calls) (sym s) ∙ f in
                          let is : c ≡ d = cc in
                          let long : j < length (one_more c).payload =
                          (let r : length c.payload ≡ length d.payload = ap (λ (x : SharedCall). length x.payload) is in
                          omega arith) in
                          let pos : g ≡ w.size + (before shared.calls t + j) =
                          q ∙ ap (λ y. w.size + (before shared.calls y + j)) s in
                          let less : j < c.stored + 1 =
                          stored t j (one_more c) (set_there shared.calls t c (one_more c) e)
                          long (pos ∙ ap (λ xs. w.size + (length xs + j)) (sym (before-set shared.calls t t c e))) in
                          let differ : j ≢ c.stored =
                          (λ r. l (pos ∙ ap (λ y. w.size + (before shared.calls t + y)) r)) in
                          let u : c.stored ≡ d.stored = ap (λ (x : SharedCall). x.stored) is in
                          omega arith)
                      | inr s ↦ stored i j d (set_elsewhere shared.calls t i (one_more c) s ∙ f) m
                          (q ∙ ap (λ xs. w.size + (length xs + j)) (sym (before-set shared.calls t i c e)))
                    ])
                    ∙ ap (λ xs. get_or (log ++ xs) g 0) (sym same))
              ];
        }

  -- ---- runs

  reserved_or : (shared : SharedZone) (payload : List ℕ) (o : Option SharedRefusal)
      → refusal z shared.calls (length payload) ≡ o → Keeps z image shared
      → Keeps z image (reserved_unless o z shared payload)
  reserved_or shared payload None e kept =
      let h : (open_count shared.calls ≢ 64) × (held shared.calls + length payload ≤ z.cap) =
      accepted z shared.calls (length payload) e in
      keeps_reserved shared kept payload h.0 h.1
  reserved_or shared payload (Some why) e kept = kept

  stepped_or : (shared : SharedZone) (t : ℕ) (o : Option SharedCall) → open_call shared.calls t ≡ o
      → Keeps z image shared → Keeps z image (stepped_if o z shared t)
  stepped_or shared t None e kept = kept
  stepped_or shared t (Some c) e kept =
      let h : (slice_get shared.calls t ≡ Some c) × (is_open_call c ≡ true) = open_call-some shared.calls t c e in
      keeps_stepped shared kept t c h.0 h.1

  pub keeps_operated : (shared : SharedZone) (o : SharedOperation) → Keeps z image shared
      → Keeps z image (operated z shared o)
  keeps_operated shared (Reserve payload) kept = reserved_or shared payload _ refl kept
  keeps_operated shared (StoreNext t) kept = stepped_or shared t _ refl kept

  pub keeps_after : (os : List SharedOperation) (shared : SharedZone) → Keeps z image shared
      → Keeps z image (shared_after z shared os)
  unfolding shared_after
  keeps_after [] shared kept = kept
  keeps_after (o ∷ os) shared kept = keeps_after os (operated z shared o) (keeps_operated shared o kept)

  pub keeps_run : (os : List SharedOperation) → Keeps z image (shared_after z (opened z image) os)
  keeps_run os = keeps_after os (opened z image) keeps_opened
