-- A flight at the begin of its call
use Rattle.std.proofs.Common.{◌≡◌, ℕ, ◌+◌, ◌%◌, ◌^◌, ◌<◌, ◌≤◌, ◌⊎◌, min, List, [], ◌∷◌, ◌++◌, length, refl, sym, ap}
use Rattle.std.proofs.Common.{◌∙◌, subst, arith, append-nil, inl, inr}
use Rattle.std.proofs.lemmas.Bool.Decides.{eqb_tells}
use Rattle.std.proofs.lemmas.List.{nil_from_length}
use Rattle.std.proofs.lemmas.List.Sums.{sum_by-cons}
use Rattle.std.specs.List.{sum_by}
use Rattle.zone_spec.specs.declared.Zone.{Zone}
use Rattle.zone_spec.specs.declared.Words.{Words}
use Rattle.zone_spec.specs.Zones.{IsValidZone}
use Rattle.zone_spec.specs.Parts.{AreBytes, standing_words}
use Rattle.zone_spec.specs.Reading.{IsRing}
use Rattle.zone_spec.specs.Told.{Call, Append, Erase, Dump}
use Rattle.zone_spec.specs.Stores.{after_stores}
use Rattle.zone_spec.specs.Stages.{Stage, StartWord, SizeWord, stage_stores, stage_count, stores_in_turn}
use Rattle.zone_spec.specs.Calls.{append_stages, call_stages, call_stores, IsUnderway}
use Rattle.store_steps.specs.declared.place.Leg.TheVariants.{Payload}
use Rattle.store_steps.specs.declared.place.Phase.{Phase}
use Rattle.store_steps.specs.declared.place.Phase.TheVariants.{ZeroStart, Size, Start, Finished}
use Rattle.store_steps.specs.Calls.{last_of, line_of, front_of, IsOpenFor, AreCallBytes}
use Rattle.ring_laws.proofs.StoreBytes.{HasCallBytes, call_stages-all}
use Rattle.ring_laws.proofs.StoreCounts.{length-stores}
use Rattle.store_steps.specs.Flying.{Flying, payload}
use Rattle.store_steps.specs.Phases.{IsSound, IsPlaced, IsWithin, IsFinished, phase_len}
use Rattle.store_steps.specs.Machine.{stores_of, behind, stores_left, count_left, IsKept, IsFresh, StandsFor}
use Rattle.store_steps.specs.Counts.{total_of}
use Rattle.store_steps.specs.First.{first_place, erasure}
use Rattle.store_steps.proofs.StoresLeft.{counted, left_begun, count_begun, in_turn_next}
use Rattle.store_steps.proofs.Parts.{append_begins_ne, append_begins_full}
use Rattle.store_steps.proofs.Totals.{last_short, stages_append, stages_dump}
use Rattle.store_steps.proofs.FlightSteps.{underway_begins}

-- all stores of the call are left
pub record Starts (f : Flying) : Type 0 where
  pub sound : IsSound f
  pub ready : IsFinished f ⊎ (f.place.number < phase_len f f.place.phase)
  pub count : count_left f ≡ total_of f
  pub left : (image : List ℕ) → stores_left f image ≡ stores_in_turn f.zone (call_stages f.zone f.words f.call) image

starts_by : (f : Flying) (p : Phase) (st : Stage) → IsSound f → f.place.phase ≡ p → f.place.number ≡ 0
    → 0 < phase_len f p → call_stages f.zone f.words f.call ≡ st ∷ behind f p
    → stage_count f.zone st ≡ phase_len f p → ((image : List ℕ) → stores_of f image p ≡ stage_stores f.zone st image)
    → Starts f
starts_by f p st sound e n some stages count stores = record {
  sound = sound;
  ready = inr (subst (λ q. f.place.number < phase_len f q) (sym e) (omega arith));
  count =
      count_begun f p e n
      ∙ ap (λ k. k + counted f.zone (behind f p)) (sym count)
      ∙ sym (sum_by-cons (stage_count f.zone) st (behind f p))
      ∙ ap (counted f.zone) (sym stages);
  left = λ image.
      left_begun f p image e n
      ∙ ap (λ ss. ss ++ stores_in_turn f.zone (behind f p) (after_stores image ss)) (stores image)
      ∙ sym (in_turn_next f.zone st (behind f p) image)
      ∙ ap (λ gs. stores_in_turn f.zone gs image) (sym stages);
}

starts_ended : (f : Flying) → IsSound f → f.place.phase ≡ Finished → f.place.number ≡ 0
    → call_stages f.zone f.words f.call ≡ [] → Starts f
unfolding stores_in_turn
starts_ended f sound e n stages = record {
  sound = sound;
  ready = inl e;
  count = count_begun f Finished e n ∙ ap (counted f.zone) (sym stages);
  left = λ image. left_begun f Finished image e n ∙ ap (λ gs. stores_in_turn f.zone gs image) (sym stages);
}

abbrev pub started : Zone → Words → Call → Flying
started z w call = record { zone = z; words = w; call = call; made = 0; place = first_place z w call }

abbrev appending : Zone → Words → List ℕ → Phase → Flying
appending z w bytes p = record {
  zone = z;
  words = w;
  call = Append bytes;
  made = 0;
  place = record { leg = Payload; start = w.start; size = w.size; phase = p; block = 0; number = 0 };
}

module _ (z : Zone) (w : Words) (valid : IsValidZone z) (ring : IsRing w z.cap) where
  sound_append : (bytes : List ℕ) (p : Phase) → w.start < z.cap → IsWithin (appending z w bytes p) p
      → IsSound (appending z w bytes p)
  unfolding line_of
  sound_append bytes p below within = record {
    valid = valid;
    below = below;
    fits = ring.1;
    short = last_short z.cap (Append bytes);
    line = omega arith;
    number = omega arith;
    within = within;
  }

  starts_append : (bytes : List ℕ) → w.start < z.cap → Starts (started z w (Append bytes))
  unfolding stage_stores
  starts_append bytes below =
      let xs : List ℕ = last_of z.cap (Append bytes) in
      elim (eqb_tells (length xs) 0) [
        | inl e ↦ rw e.0
            (starts_ended (appending z w bytes Finished) (sound_append bytes Finished below tt) refl refl
            (stages_append z w bytes ∙ ap (append_stages z w.start w.size) (nil_from_length xs e.1)))
        | inr e ↦ rw e.0
            (let some : 0 < length xs = omega (arith, e.1) in
            elim (eqb_tells w.size z.cap) [
              | inl full ↦ rw full.0
                  (starts_by (appending z w bytes Start) Start (StartWord ((w.start + length xs) % z.cap))
                  (sound_append bytes Start below some) refl refl (omega arith)
                  (stages_append z w bytes ∙ sym (append-nil (append_stages z w.start w.size xs))
                  ∙ append_begins_full z w.start w.size xs [] full.0 some) refl (λ image. refl))
              | inr less ↦ rw less.0
                  (starts_by (appending z w bytes Size) Size (SizeWord (min z.cap (w.size + length xs)))
                  (sound_append bytes Size below some) refl refl (omega arith)
                  (stages_append z w bytes ∙ sym (append-nil (append_stages z w.start w.size xs))
                  ∙ append_begins_ne z w.start w.size xs [] less.0 some) refl (λ image. refl))
            ])
      ]

  sound_erasure : (call : Call) → length (line_of call) ≤ 36
      → IsSound (record { zone = z; words = w; call = call; made = 0; place = erasure })
  sound_erasure call line = record {
    valid = valid;
    below = omega (arith, valid.room);
    fits = omega arith;
    short = omega arith;
    line = line;
    number = omega arith;
    within = refl;
  }

  pub starts : (call : Call) → IsOpenFor call w z.cap → length (line_of call) ≤ 36 → Starts (started z w call)
  unfolding stage_stores line_of front_of
  starts (Append bytes) open_for line = starts_append bytes open_for.0
  starts Erase open_for line =
      starts_by (started z w Erase) ZeroStart (StartWord 0) (sound_erasure Erase line) refl refl (omega arith)
      refl refl (λ image. refl)
  starts (Dump head body) open_for line =
      starts_by (started z w (Dump head body)) ZeroStart (StartWord 0) (sound_erasure (Dump head body) line) refl refl
      (omega arith) (stages_dump z w head body) refl (λ image. refl)

pub placed_starts : (z : Zone) (w : Words) (call : Call) → IsPlaced (started z w call)
placed_starts z w (Append bytes) = (refl, refl)
placed_starts z w Erase = (refl, refl)
placed_starts z w (Dump line body) = (refl, refl)

pub kept_starts : (f : Flying) → Starts f → IsPlaced f → f.made ≡ 0 → IsRing f.words f.zone.cap
    → IsOpenFor f.call f.words f.zone.cap → total_of f < 2 ^ 32 → IsKept f
kept_starts f starts placed none ring open_for small = record {
  sound = starts.sound;
  placed = placed;
  ring = ring;
  is_open = open_for;
  ready = starts.ready;
  counted = omega (arith, none, starts.count);
  small = small;
}

-- steps as a begin makes them are kept
pub fresh_kept : (f : Flying) → IsFresh f → IsValidZone f.zone → length (line_of f.call) ≤ 36 → total_of f < 2 ^ 32
    → IsKept f
fresh_kept f fresh valid short small =
    let s : Flying = started f.zone f.words f.call in
    let placed : s ≡ record f { made = 0 } = ap (λ p. record s { place = p }) (sym fresh.place) in
    let e : s ≡ f = placed ∙ ap (λ m. record f { made = m }) (sym fresh.made) in
    subst IsKept e (kept_starts s (starts f.zone f.words valid fresh.ring f.call fresh.is_open short)
    (placed_starts f.zone f.words f.call) refl fresh.ring fresh.is_open small)

call_bytes : (call : Call) → AreCallBytes call → HasCallBytes call
call_bytes (Append payload) h = h
call_bytes Erase h = h
call_bytes (Dump line body) h = h

pub stands_starts : (f : Flying) (image : List ℕ) → Starts f → f.made ≡ 0 → f.words ≡ standing_words f.zone image
    → AreBytes image → AreCallBytes f.call → StandsFor f image image
unfolding call_stores
stands_starts f image starts none words bytes appended = record {
  words = sym words;
  underway =
      subst (λ n. IsUnderway f.zone f.call image image n (stores_left f image)) (sym none)
      (underway_begins f.zone f.call image (stores_left f image)
      (starts.left image ∙ ap (λ w. stores_in_turn f.zone (call_stages f.zone w f.call) image) words));
  total =
      ap (λ w. sum_by (stage_count f.zone) (call_stages f.zone w f.call)) words
      ∙ sym (length-stores f.zone starts.sound.valid (call_stages f.zone (standing_words f.zone image) f.call) image bytes
      (call_stages-all f.zone starts.sound.valid (standing_words f.zone image) f.call (call_bytes f.call appended)));
}
