-- What each step of a zone makes of its told list and of what was written
use Rattle.std.proofs.Common.{◌≡◌, ℕ, ◌+◌, ◌-◌, ◌%◌, ◌<◌, ◌≤◌, min, Bool, true, false, cond, ◌==◌, nat_lt, List, []}
use Rattle.std.proofs.Common.{◌∷◌, ◌++◌, length, length-drop, take, drop, refl, sym, ap, ◌∙◌, subst, arith, Option}
use Rattle.std.proofs.Common.{Some, None, append-nil, eqb-true}
use Rattle.std.proofs.lemmas.Bool.Decides.{nat_tests}
use Rattle.std.specs.Option.{option_map}
use Rattle.zone_spec.specs.declared.Zone.{Zone}
use Rattle.zone_spec.specs.declared.Name.{Name}
use Rattle.zone_spec.specs.Zones.{IsValidZone}
use Rattle.zone_spec.specs.Parts.{Header, IsImage, standing_words}
use Rattle.zone_spec.specs.Ring.{IsRingForm}
use Rattle.zone_spec.specs.Notices.{is_in}
use Rattle.zone_spec.specs.Stages.{Stage, StartWord, SizeWord, ParityOf, stage_stores, stores_in_turn}
use Rattle.zone_spec.specs.Stores.{after_stores}
use Rattle.zone_spec.specs.Told.{Call, Append, Erase, Dump, told_after, last_items}
use Rattle.zone_spec.specs.Calls.{call_stores, call_stages, append_stages, run_stages, image_after}
use Rattle.zone_spec.specs.Boot.{boot_stores, told_by_boot}
use Rattle.machine_spec.specs.States.{Flight, LiveZone}
use Rattle.machine_spec.specs.ZoneCalls.{begun, stepped_by, finished, total_stores}
use Rattle.machine_spec.specs.Erasures.{erase_zone}
use Rattle.machine_spec.specs.Sound.{Stands, IsLiveZone}
use Rattle.ring_laws.proofs.RingLaw.{last_items-short}
use Rattle.ring_laws.proofs.BootRing.{boot_keeps}
use Rattle.machine_laws.proofs.Sessions.{appends_tell_last_bytes}
use Rattle.history_spec.specs.Written.{with_call, with_flight}

-- a told list is the last items of what was written
abbrev pub Tells : ℕ → List ℕ → Option (List ℕ) → Type 0
Tells cap told w = Some told ≡ option_map (last_items cap) w

-- ---- lists that fit

ring_fits : (z : Zone) (image told : List ℕ) → IsRingForm z image told → length told ≤ z.cap
ring_fits z image told r = omega (arith, r.told_length, r.ring.1)

-- a sound zone's told list fits
pub live_fits : (z : Zone) (v : LiveZone) → IsLiveZone z v → length v.told ≤ z.cap
live_fits z v sound = by v.flight sound.stands
  where
    by : (o : Option Flight) → Stands z v.image v.told o → length v.told ≤ z.cap
    by None h = ring_fits z v.image v.told h
    by (Some f) h = ring_fits z f.image v.told h.ring

-- what a boot keeps is told whole
pub kept_tells : (z : Zone) (bytes : List ℕ) → IsValidZone z → IsImage z bytes
    → Tells z.cap (told_by_boot z bytes) (Some (told_by_boot z bytes))
kept_tells z bytes valid im =
    ap Some (sym (last_items-short z.cap (told_by_boot z bytes)
    (ring_fits z (after_stores bytes (boot_stores z bytes)) (told_by_boot z bytes) (boot_keeps z valid bytes im))))

-- ---- calls

last_append : (cap : ℕ) (xs ys : List ℕ) → last_items cap (last_items cap xs ++ ys) ≡ last_items cap (xs ++ ys)
last_append cap xs ys =
    appends_tell_last_bytes cap [] (xs ∷ ys ∷ []) (omega arith)
    ∙ ap (λ t. last_items cap (xs ++ t)) (append-nil ys)

-- a finished call whose told list fits
pub call_tells : (cap : ℕ) (call : Call) (told : List ℕ) (w : Option (List ℕ)) → Tells cap told w
    → length (told_after cap call told) ≤ cap → Tells cap (told_after cap call told) (option_map (with_call cap call) w)
call_tells cap call told None h fits = absurd (cc)
call_tells cap (Append payload) told (Some xs) h fits =
    let e : told ≡ last_items cap xs = cc in
    ap Some (ap (λ t. last_items cap (t ++ payload)) e ∙ last_append cap xs payload)
call_tells cap Erase told (Some xs) h fits = ap Some (sym (last_items-short cap [] fits))
call_tells cap (Dump line body) told (Some xs) h fits =
    ap Some (sym (last_items-short cap (line ++ take (cap - length line) body) fits))

-- ---- steps of a flight

-- a flight that stays
pub same_flight : (cap : ℕ) (told : List ℕ) (o : Option Flight) (w : Option (List ℕ)) → Tells cap told w
    → Tells cap told (with_flight cap o o w)
same_flight cap told None w h = h
same_flight cap told (Some f) w h = h

-- a flight that stands
more_flight : (cap : ℕ) (told : List ℕ) (o : Option Flight) (f : Flight) (w : Option (List ℕ)) → Tells cap told w
    → Tells cap told (with_flight cap o (Some f) w)
more_flight cap told None f w h = h
more_flight cap told (Some g) f w h = h

-- some stores of a zone's flight, or all
pub stepped_tells : (o : Option Flight) (z : Zone) (k : ℕ) (v : LiveZone) (w : Option (List ℕ)) → Tells z.cap v.told w
    → length (stepped_by o z k v).told ≤ z.cap
    → Tells z.cap (stepped_by o z k v).told (with_flight z.cap o (stepped_by o z k v).flight w)
stepped_tells None z k v w h fits = h
stepped_tells (Some f) z k v w h fits = by (nat_lt (f.made + k) (total_stores z f)) fits
  where
    next : Bool → LiveZone
    next b = cond b (record v {
      image = image_after z f.call f.image (f.made + k);
      flight = Some (record f { made = f.made + k });
    })
        (record {
          image = image_after z f.call f.image (total_stores z f);
          told = told_after z.cap f.call v.told;
          flight = None;
        })

    by : (b : Bool) → length (next b).told ≤ z.cap
        → Tells z.cap (next b).told (with_flight z.cap (Some f) (next b).flight w)
    by true fits = h
    by false fits = call_tells z.cap f.call v.told w h fits

-- a call begun
pub begun_tells : (z : Zone) (call : Call) (v : LiveZone) (w : Option (List ℕ)) → Tells z.cap v.told w
    → Tells z.cap (begun z call v).told (with_flight z.cap v.flight (begun z call v).flight w)
begun_tells z call v w h = by (length (call_stores z call v.image) == 0)
  where
    next : Bool → LiveZone
    next b = cond b v (record v { flight = Some (record { image = v.image; call = call; made = 0 }) })

    by : (b : Bool) → Tells z.cap (next b).told (with_flight z.cap v.flight (next b).flight w)
    by true = same_flight z.cap v.told v.flight w h
    by false = more_flight z.cap v.told v.flight _ w h

-- ---- calls that are made at once

-- stages that begin with a word store something
word_first : (z : Zone) (n : ℕ) (gs : List Stage) (image : List ℕ)
    → (0 < length (stores_in_turn z (StartWord n ∷ gs) image)) × (0 < length (stores_in_turn z (SizeWord n ∷ gs) image))
unfolding stores_in_turn stage_stores
word_first z n gs image = (omega arith, omega arith)

append_stores : (z : Zone) (start size : ℕ) (bytes : List ℕ) (rest : List Stage) (image : List ℕ) → 0 < length bytes
    → 0 < length (stores_in_turn z (append_stages z start size bytes ++ rest) image)
append_stores z start size [] rest image h = absurd (omega arith)
append_stores z start size (b ∷ bs) rest image h = by (size == z.cap)
  where
    first : Bool → List Stage
    first full = cond full [] (SizeWord (min z.cap (size + length (b ∷ bs))) ∷ [])

    by : (full : Bool) → 0 < length (stores_in_turn z (((first full
        ++ StartWord ((start + length (b ∷ bs)) % z.cap) ∷ [])
        ++ run_stages z start (take (z.cap - start) (b ∷ bs)) ++ run_stages z 0 (drop (z.cap - start) (b ∷ bs))
        ++ ParityOf Header ∷ []) ++ rest) image)
    by true = (word_first z ((start + length (b ∷ bs)) % z.cap) _ image).0
    by false = (word_first z (min z.cap (size + length (b ∷ bs))) _ image).1

-- only an append of nothing stores nothing
no_stores : (z : Zone) (call : Call) (image : List ℕ) (w : List ℕ) → IsValidZone z
    → length (call_stores z call image) ≡ 0 → with_call z.cap call w ≡ w
unfolding call_stores
no_stores z (Append []) image w valid none = append-nil w
no_stores z (Append (b ∷ bs)) image w valid none =
    let some : 0 < length (last_items z.cap (b ∷ bs)) =
    omega (arith, valid.room, length-drop (length (b ∷ bs) - z.cap) (b ∷ bs)) in
    let h = append_stores z (standing_words z image).start (standing_words z image).size (last_items z.cap (b ∷ bs)) []
    image some in
    absurd (omega (arith, h))
no_stores z Erase image w valid none =
    let some : 0 < length (stores_in_turn z (call_stages z (standing_words z image) Erase) image) =
    (word_first z 0 (SizeWord 0 ∷ ParityOf Header ∷ []) image).0 in
    absurd (omega (arith, some))
no_stores z (Dump line body) image w valid none =
    let some : 0 < length (stores_in_turn z (call_stages z (standing_words z image) (Dump line body)) image) =
    (word_first z 0 _ image).0 in
    absurd (omega (arith, some))

-- a flight with all its stores made
finished_by : (z : Zone) (f : Flight) (v : LiveZone) → v.flight ≡ Some f
    → (finished z v).told ≡ told_after z.cap f.call v.told
finished_by z f v e =
    let last : nat_lt (f.made + (total_stores z f - f.made)) (total_stores z f) ≡ false = grind (arith, nat_tests) in
    rw (e, last) refl

-- a call begun in an idle zone and finished
pub made_tells : (z : Zone) (call : Call) (v : LiveZone) (w : Option (List ℕ)) → IsValidZone z → v.flight ≡ None
    → Tells z.cap v.told w → length (finished z (begun z call v)).told ≤ z.cap
    → Tells z.cap (finished z (begun z call v)).told (option_map (with_call z.cap call) w)
made_tells z call v w valid idle h fits = by (length (call_stores z call v.image) == 0) refl fits
  where
    flying : LiveZone
    flying = record v { flight = Some (record { image = v.image; call = call; made = 0 }) }

    same : (o : Option (List ℕ)) → ((xs : List ℕ) → with_call z.cap call xs ≡ xs)
        → option_map (with_call z.cap call) o ≡ o
    same None k = refl
    same (Some xs) k = ap Some (k xs)

    by : (b : Bool) → (length (call_stores z call v.image) == 0) ≡ b
        → length (finished z (cond b v flying)).told ≤ z.cap
        → Tells z.cap (finished z (cond b v flying)).told (option_map (with_call z.cap call) w)
    by true e fits =
        let none : length (call_stores z call v.image) ≡ 0 = eqb-true (length (call_stores z call v.image)) 0 e in
        let stays : finished z v ≡ v = rw idle refl in
        rw (stays, same w (λ xs. no_stores z call v.image xs valid none)) h
    by false e fits =
        let all : (finished z flying).told ≡ told_after z.cap call v.told =
        finished_by z (record { image = v.image; call = call; made = 0 }) flying refl in
        rw all (call_tells z.cap call v.told w h (rw all at fits))

-- a zone of an erased record
pub erased_tells : (z : Zone) (name : Name) (v : LiveZone) (w : Option (List ℕ)) → IsValidZone z
    → Tells z.cap v.told w
    → (is_in name z ≡ true → v.flight ≡ None) → length (erase_zone name z v).told ≤ z.cap
    → Tells z.cap (erase_zone name z v).told (cond (is_in name z) (Some []) w)
erased_tells z name v w valid h idle fits = by (is_in name z) refl fits
  where
    nothing : (o : Option (List ℕ)) → Tells z.cap v.told o → option_map (with_call z.cap Erase) o ≡ Some []
    nothing None k = absurd (cc)
    nothing (Some xs) k = refl

    by : (b : Bool) → is_in name z ≡ b → length (cond b (finished z (begun z Erase v)) v).told ≤ z.cap
        → Tells z.cap (cond b (finished z (begun z Erase v)) v).told (cond b (Some []) w)
    by true e fits = subst (Tells z.cap (finished z (begun z Erase v)).told) (nothing w h)
        (made_tells z Erase v w valid (idle e) h fits)
    by false e fits = h
