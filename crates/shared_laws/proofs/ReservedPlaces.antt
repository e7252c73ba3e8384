-- The places that an open call has yet to store hold what stood there when it was reserved
use Rattle.std.proofs.Common.{◌≡◌, ℕ, ◌+◌, ◌%◌, ◌<◌, ◌≤◌, min, true, List, [], ◌∷◌, ◌++◌, length, take, get_or, refl}
use Rattle.std.proofs.Common.{sym, ap, ◌∙◌, arith, inl, inr, take_all, w32, Option, Some, None}
use Rattle.std.proofs.lemmas.Bool.{cases_eq, lt-ltb, ltb-true}
use Rattle.std.specs.Prelude.{slice_get, slice_index}
use Rattle.zone_spec.specs.declared.Zone.{Zone}
use Rattle.zone_spec.specs.Parts.{standing_words}
use Rattle.ring_laws.proofs.Images.{put-above}
use Rattle.shared_spec.specs.declared.SharedRefusal.{SharedRefusal}
use Rattle.shared_spec.specs.Calls.{SharedCall, is_open_call, all_bytes, open_call}
use Rattle.shared_spec.specs.Machine.{SharedZone, CanShare, call_place, reserved, reserved_unless, next_stored}
use Rattle.shared_spec.specs.Machine.{stepped_if}
use Rattle.shared_spec.specs.Runs.{SharedOperation, Reserve, StoreNext, operated, shared_after}
use Rattle.shared_laws.proofs.Positions.{before-more, more_left, more_last, there_within, one_more, before-set}
use Rattle.shared_laws.proofs.Positions.{set_there, set_elsewhere}
use Rattle.shared_laws.proofs.Counts.{open_call-some}
use Rattle.shared_laws.proofs.PlainZones.{byte_elsewhere}
use Rattle.shared_laws.proofs.FullListPlaces.{Keeps, keeps_operated}
use Rattle.shared_laws.proofs.LogLaw.{apart_calls}
use Rattle.zone_spec.specs.WordBytes.{word_bytes}

-- the place of byte j of the payload that was then reserved
abbrev pub next_place : Zone → SharedZone → ℕ → ℕ
next_place z was j = ((was.start + length (all_bytes was.calls)) + j) % z.cap

pub record StillStands (z : Zone) (was : SharedZone) (payload : List ℕ) (shared : SharedZone) : Type 0 where
  pub stored : ℕ
  pub there : slice_get shared.calls (length was.calls) ≡ Some (record { payload = payload; stored = stored })
  pub start : shared.start ≡ was.start
  pub front : all_bytes (take (length was.calls) shared.calls) ≡ all_bytes was.calls
  pub others : (j : ℕ) → stored ≤ j → j < length payload
      → get_or shared.image (12 + next_place z was j) 0 ≡ get_or was.image (12 + next_place z was j) 0

-- a reservation leaves the data
reserved-data : (z : Zone) (shared : SharedZone) (payload : List ℕ) (p : ℕ)
    → get_or (reserved z shared payload).image (12 + p) 0 ≡ get_or shared.image (12 + p) 0
reserved-data z shared payload p = put-above shared.image 4 (12 + p)
    (word_bytes z.byte_order (((standing_words z shared.image).start + length payload) % z.cap)
    ++ word_bytes z.byte_order (min z.cap ((standing_words z shared.image).size + length payload))) (omega arith)

module _ (z : Zone) (image : List ℕ) (can : CanShare z image) (was : SharedZone) (payload : List ℕ) where
  pub place_then : (shared : SharedZone) (j : ℕ) → StillStands z was payload shared
      → call_place z shared (length was.calls) j ≡ next_place z was j
  place_then shared j s =
      ap (λ n. ((n + length (all_bytes (take (length was.calls) shared.calls))) + j) % z.cap) s.start
      ∙ ap (λ xs. ((was.start + length xs) + j) % z.cap) s.front

  pub stands_reserved : StillStands z was payload (reserved z was payload)
  stands_reserved =
      let new : SharedCall = record { payload = payload; stored = 0 } in
      record {
        stored = 0;
        there = more_last was.calls new;
        start = refl;
        front = before-more was.calls new (length was.calls) (omega arith)
            ∙ ap all_bytes (take_all (length was.calls) was.calls (omega arith));
        others = λ j h l. reserved-data z was payload (next_place z was j);
      }

  stands_more : (shared : SharedZone) (more : List ℕ) → StillStands z was payload shared
      → StillStands z was payload (reserved z shared more)
  stands_more shared more s =
      let new : SharedCall = record { payload = more; stored = 0 } in
      let n : length was.calls < length shared.calls = there_within shared.calls _ (length was.calls) s.there in
      record {
        stored = s.stored;
        there = more_left shared.calls new _ (length was.calls) s.there;
        start = s.start;
        front = before-more shared.calls new (length was.calls) (omega arith) ∙ s.front;
        others = λ j h l. reserved-data z shared more (next_place z was j) ∙ s.others j h l;
      }

  stands_stepped : (shared : SharedZone) (u : ℕ) (d : SharedCall) → Keeps z image shared
      → slice_get shared.calls u ≡ Some d → is_open_call d ≡ true → StillStands z was payload shared
      → StillStands z was payload (next_stored z shared u d)
  stands_stepped shared u d kept e o s =
      let t : ℕ = length was.calls in
      let own : SharedCall = record { payload = payload; stored = s.stored } in
      let short : d.stored < length d.payload = ltb-true d.stored (length d.payload) o in
      let clear : (j : ℕ) → s.stored ≤ j → j < length payload → ((t ≡ u) → (j ≡ d.stored) → ⊥)
      → get_or (next_stored z shared u d).image (12 + next_place z was j) 0
      ≡ get_or was.image (12 + next_place z was j) 0 = (λ j h l n.
      byte_elsewhere shared.image (call_place z shared u d.stored) (next_place z was j)
      (slice_index d.payload d.stored)
      (λ q. let both : (t ≡ u) × (j ≡ d.stored) = apart_calls z image can shared kept t u j d.stored own d s.there
      (lt-ltb s.stored (length payload) (omega arith)) e o l short (place_then shared j s ∙ q) in n both.0 both.1)
      ∙ s.others j h l) in
      elim (cases_eq u t) [
        | inl a ↦
            (let there : slice_get shared.calls u ≡ Some own = ap (slice_get shared.calls) a ∙ s.there in
            let is : d ≡ own = cc in
            let count : d.stored ≡ s.stored = ap (λ (x : SharedCall). x.stored) is in
            record {
              stored = s.stored + 1;
              there = ap (slice_get (next_stored z shared u d).calls) (sym a)
                  ∙ set_there shared.calls u d (one_more d) e
                  ∙ ap (λ (x : SharedCall). Some (one_more x)) is;
              start = s.start;
              front = before-set shared.calls u t d e ∙ s.front;
              others = λ j h l. clear j (omega arith) l (λ b c. omega arith);
            })
        | inr a ↦ record {
          stored = s.stored;
          there = set_elsewhere shared.calls u t (one_more d) (λ b. a (sym b)) ∙ s.there;
          start = s.start;
          front = before-set shared.calls u t d e ∙ s.front;
          others = λ j h l. clear j h l (λ b c. a (sym b));
        }
      ]

  more_or : (shared : SharedZone) (more : List ℕ) (o : Option SharedRefusal) → StillStands z was payload shared
      → StillStands z was payload (reserved_unless o z shared more)
  more_or shared more None s = stands_more shared more s
  more_or shared more (Some why) s = s

  stepped_or : (shared : SharedZone) (u : ℕ) (o : Option SharedCall) → open_call shared.calls u ≡ o
      → Keeps z image shared → StillStands z was payload shared → StillStands z was payload (stepped_if o z shared u)
  stepped_or shared u None e kept s = s
  stepped_or shared u (Some d) e kept s =
      let h : (slice_get shared.calls u ≡ Some d) × (is_open_call d ≡ true) = open_call-some shared.calls u d e in
      stands_stepped shared u d kept h.0 h.1 s

  stands_operated : (shared : SharedZone) (o : SharedOperation) → Keeps z image shared
      → StillStands z was payload shared → StillStands z was payload (operated z shared o)
  stands_operated shared (Reserve more) kept s = more_or shared more _ s
  stands_operated shared (StoreNext u) kept s = stepped_or shared u _ refl kept s

  pub stands_after : (os : List SharedOperation) (shared : SharedZone) → Keeps z image shared
      → StillStands z was payload shared → StillStands z was payload (shared_after z shared os)
  unfolding shared_after
  stands_after [] shared kept s = s
  stands_after (o ∷ os) shared kept s =
      stands_after os (operated z shared o) (keeps_operated z image can shared o kept) (stands_operated shared o kept s)
