-- What calls in other zones leave of a zone
use Rattle.std.proofs.Common.{◌≡◌, ◌≢◌, ℕ, ◌+◌, ◌-◌, ◌==◌, ◌≤◌, Bool, true, false, cond, ◌||◌, nat_lt, is_some, List}
use Rattle.std.proofs.Common.{◌∷◌, length, slice_get, Option, Some, None, Result, Ok, Err, refl, sym, ap, ◌∙◌, subst}
use Rattle.std.proofs.Common.{arith, suc, true≢false}
use Rattle.std.proofs.lemmas.Bool.Decides.{nat_tests}
use Rattle.std.proofs.lemmas.List.Quantifiers.{position-Some}
use Rattle.std.proofs.lemmas.Option.{get_or_from_slice_get}
use Rattle.zone_spec.specs.declared.Zone.{Zone}
use Rattle.zone_spec.specs.declared.ZoneName.{ZoneName}
use Rattle.zone_spec.specs.declared.Refusal.{Refusal}
use Rattle.zone_spec.specs.declared.Refusal.TheVariants.{Busy, Idle}
use Rattle.zone_spec.specs.Told.{Call, Dump as DumpCall, told_after}
use Rattle.zone_spec.specs.Stores.{after_stores}
use Rattle.zone_spec.specs.Stages.{Stage, StartWord, stage_stores, stores_in_turn}
use Rattle.zone_spec.specs.Calls.{call_stores, image_after}
use Rattle.zone_spec.specs.Layouts.{is_zone, zone_place}
use Rattle.machine_spec.specs.States.{Flight, LiveZone, LiveState}
use Rattle.machine_spec.specs.ZoneCalls.{begun, finished}
use Rattle.machine_spec.specs.LiveZones.{Target, target, target_of, target_at, ring_only, with_zone, changed}
use Rattle.machine_spec.specs.LiveCalls.{Ask, Append as AskAppend, Erase as AskErase, Dump as AskDump, asked_name}
use Rattle.machine_spec.specs.LiveCalls.{call_of, is_barred, begin, begins, make, goes_on, finish_at, and_finish}
use Rattle.machine_laws.proofs.Targets.{IsAt, target-some, ring_only-is}
use Rattle.crash_laws.specs.Standing.{IsToldLive}
use Rattle.crash_laws.proofs.Items.{other_item, set_item}

-- ---- places by name

pub target_place : (layout : List Zone) (live : LiveState) (o : Option ℕ) (t : Target)
    → target_at layout live o ≡ Some t
    → o ≡ Some t.place
target_place layout live None t e = absurd (cc)
target_place layout live (Some i) t e = by (slice_get layout i) (slice_get live.zones i) e
  where
    by : (a : Option Zone) (b : Option LiveZone) → target_of i a b ≡ Some t → Some i ≡ Some t.place
    by None b e = absurd (cc)
    by (Some z) None e = absurd (cc)
    by (Some z) (Some v) e =
        let same : record { place = i; zone = z; live = v } ≡ t = cc in ap (λ (u : Target). Some u.place) same

-- a target's zone has its name
pub named : (layout : List Zone) (live : LiveState) (name : ZoneName) (t : Target) → target layout live name ≡ Some t
    → is_zone name t.zone ≡ true
named layout live name t e =
    let p = position-Some (is_zone name) layout t.place t.zone
    (target_place layout live (zone_place layout name) t e) in
    let at = get_or_from_slice_get layout t.place t.zone t.zone (target-some layout live name t e).0 in
    ap (is_zone name) (sym at) ∙ p.1

-- the place of a zone of another name is another
pub other_place : (layout : List Zone) (live : LiveState) (name : ZoneName) (t : Target) (z : Zone) (place : ℕ)
    → slice_get layout place ≡ Some z → is_zone name z ≡ false → target layout live name ≡ Some t → place ≢ t.place
other_place layout live name t z place hz other e = λ same.
    let at = target-some layout live name t e in
    let both : Some t.zone ≡ Some z = sym at.0 ∙ ap (slice_get layout) (sym same) ∙ hz in
    let one : t.zone ≡ z = cc in
    true≢false (sym (named layout live name t e) ∙ ap (is_zone name) one ∙ other)

target_after : (layout : List Zone) (live : LiveState) (name : ZoneName) (t : Target) (new : LiveZone)
    → target layout live name ≡ Some t
    → target layout (with_zone layout live t.place t.live new) name
    ≡ Some (record { place = t.place; zone = t.zone; live = new })
target_after layout live name t new e =
    let at = target-some layout live name t e in
    rw (target_place layout live (zone_place layout name) t e, at.0, set_item live.zones t.place t.live new at.1) refl

-- ---- a call of its own, begun and finished

suc_some : (n : ℕ) → (suc n == 0) ≡ false
suc_some n = grind (arith, nat_tests)

first_stage : (z : Zone) (stages : List Stage) (image : List ℕ)
    → (length (stores_in_turn z (StartWord 0 ∷ stages) image) == 0) ≡ false
unfolding stores_in_turn stage_stores
first_stage z stages image =
    suc_some (length (stores_in_turn z stages (after_stores image (stage_stores z (StartWord 0) image))))

pub dump_stores : (z : Zone) (line body image : List ℕ)
    → (length (call_stores z (DumpCall line body) image) == 0) ≡ false
unfolding call_stores
dump_stores z line body image = first_stage z _ image

nat_lt-false : {a b : ℕ} → b ≤ a → nat_lt a b ≡ false
nat_lt-false h = grind (arith, nat_tests)

-- a zone with a whole call made
abbrev whole_call : Zone → Call → LiveZone → LiveZone
whole_call z call v = record {
  image = image_after z call v.image (length (call_stores z call v.image));
  told = told_after z.cap call v.told;
  flight = None;
}

finished_whole : (z : Zone) (call : Call) (v : LiveZone) → (length (call_stores z call v.image) == 0) ≡ false
    → finished z (begun z call v) ≡ whole_call z call v
finished_whole z call v some =
    let flight : Flight = record { image = v.image; call = call; made = 0 } in
    let flies : begun z call v ≡ record v { flight = Some flight } = rw some refl in
    let total = length (call_stores z call v.image) in
    let all : nat_lt (0 + (total - 0)) total ≡ false = nat_lt-false (omega arith) in
    ap (finished z) flies ∙ rw all refl

-- a call that was begun and finished
pub made_whole : (layout : List Zone) (live next : LiveState) (name : ZoneName) (call : Call) (barred : Bool)
    (t : Target) → target layout live name ≡ Some t
    → (length (call_stores t.zone call t.live.image) == 0) ≡ false
    → and_finish layout name (begins layout live call barred (Some t)) ≡ Ok next
    → IsToldLive t.place (told_after t.zone.cap call t.live.told) next
made_whole layout live next name call barred t e some h = by (barred || is_some t.live.flight) h
  where
    one : LiveZone
    one = begun t.zone call t.live

    mid : LiveState
    mid = with_zone layout live t.place t.live one

    last : LiveState
    last = with_zone layout mid t.place one (finished t.zone one)

    by : (b : Bool) → and_finish layout name
        (cond b (Err Busy) (Ok (changed layout live t (λ z zone. begun z call zone)))) ≡ Ok next
        → IsToldLive t.place (told_after t.zone.cap call t.live.told) next
    by true h = absurd (cc)
    by false h =
        let all : finish_at layout mid (target layout mid name) ≡ next = cc in
        let there : finish_at layout mid (target layout mid name) ≡ last =
        ap (finish_at layout mid) (target_after layout live name t one e) in
        let at = set_item live.zones t.place t.live one (target-some layout live name t e).1 in
        let whole = finished_whole t.zone call t.live some in
        subst (λ (s : LiveState). IsToldLive t.place (told_after t.zone.cap call t.live.told) s) (sym there ∙ all)
        (record {
          zone = finished t.zone one;
          at = set_item mid.zones t.place one (finished t.zone one) at;
          told_is = ap (λ (v : LiveZone). v.told) whole;
          idle = ap (λ (v : LiveZone). v.flight) whole;
        })

-- ---- calls of others

module _ (layout : List Zone) (z : Zone) (place : ℕ) (told : List ℕ) (hz : slice_get layout place ≡ Some z) where
  with_other : (live : LiveState) (i : ℕ) (old new : LiveZone) → IsToldLive place told live → place ≢ i
      → IsToldLive place told (with_zone layout live i old new)
  with_other live i old new k n = record {
    zone = k.zone;
    at = other_item live.zones i place new n ∙ k.at;
    told_is = k.told_is;
    idle = k.idle;
  }

  begins_keep : (live next : LiveState) (call : Call) (barred : Bool) (o : Option Target) → IsToldLive place told live
      → ((t : Target) → o ≡ Some t → place ≢ t.place) → begins layout live call barred o ≡ Ok next
      → IsToldLive place told next
  begins_keep live next call barred None k n h = absurd (cc)
  begins_keep live next call barred (Some t) k n h = by (barred || is_some t.live.flight) h
    where
      by : (b : Bool) → cond b (Err Busy) (Ok (changed layout live t (λ z zone. begun z call zone))) ≡ Ok next
          → IsToldLive place told next
      by true h = absurd (cc)
      by false h =
          let same : changed layout live t (λ z zone. begun z call zone) ≡ next = cc in
          subst (λ (s : LiveState). IsToldLive place told s) same
          (with_other live t.place t.live (begun t.zone call t.live) k (n t refl))

  -- a flight that goes on is not the zone's, which has none
  pub goes_on_keeps : (live next : LiveState) (change : Zone → LiveZone → LiveZone) (o : Option Target)
      → IsToldLive place told live → ((t : Target) → o ≡ Some t → IsAt layout live t)
      → goes_on layout live change o ≡ Ok next → IsToldLive place told next
  goes_on_keeps live next change None k at h = absurd (cc)
  goes_on_keeps live next change (Some t) k at h = by t.live.flight refl h
    where
      by : (o : Option Flight) → t.live.flight ≡ o → cond (is_some o) (Ok (changed layout live t change)) (Err Idle)
          ≡ Ok next → IsToldLive place told next
      by None e h = absurd (cc)
      by (Some f) e h =
          let same : changed layout live t change ≡ next = cc in
          subst (λ (s : LiveState). IsToldLive place told s) same
          (with_other live t.place t.live (change t.zone t.live) k (λ here.
          let both : Some k.zone ≡ Some t.live = sym k.at ∙ ap (slice_get live.zones) here ∙ (at t refl).1 in
          let one : k.zone ≡ t.live = cc in
          let none : Some f ≡ None = sym e ∙ ap (λ (v : LiveZone). v.flight) (sym one) ∙ k.idle in
          cc))

  finish_at_keeps : (live : LiveState) (o : Option Target) → IsToldLive place told live
      → ((t : Target) → o ≡ Some t → place ≢ t.place) → IsToldLive place told (finish_at layout live o)
  finish_at_keeps live None k n = k
  finish_at_keeps live (Some t) k n = with_other live t.place t.live (finished t.zone t.live) k (n t refl)

  and_finish_keeps : (name : ZoneName) (r : Result LiveState Refusal) (next : LiveState) → is_zone name z ≡ false
      → ((mid : LiveState) → r ≡ Ok mid → IsToldLive place told mid) → and_finish layout name r ≡ Ok next
      → IsToldLive place told next
  and_finish_keeps name (Err why) next other k h = absurd (cc)
  and_finish_keeps name (Ok mid) next other k h =
      let same : finish_at layout mid (target layout mid name) ≡ next = cc in
      subst (λ (s : LiveState). IsToldLive place told s) same
      (finish_at_keeps mid (target layout mid name) (k mid refl)
      (λ t e. other_place layout mid name t z place hz other e))

  pub begin_keeps : (live next : LiveState) (ask : Ask) → IsToldLive place told live
      → is_zone (asked_name live ask) z ≡ false → begin layout live ask ≡ Ok next → IsToldLive place told next
  begin_keeps live next (AskAppend name payload) k other h =
      begins_keep live next (call_of (AskAppend name payload)) (is_barred layout live (AskAppend name payload))
      (ring_only (target layout live name)) k
      (λ t e. other_place layout live name t z place hz other (ring_only-is (target layout live name) t e).0) h
  begin_keeps live next (AskErase name) k other h =
      begins_keep live next (call_of (AskErase name)) (is_barred layout live (AskErase name))
      (target layout live name) k
      (λ t e. other_place layout live name t z place hz other e) h
  begin_keeps live next (AskDump time packed body) k other h =
      begins_keep live next (call_of (AskDump time packed body)) (is_barred layout live (AskDump time packed body))
      (target layout live (asked_name live (AskDump time packed body))) k
      (λ t e. other_place layout live (asked_name live (AskDump time packed body)) t z place hz other e) h

  pub make_keeps : (live next : LiveState) (ask : Ask) → IsToldLive place told live
      → is_zone (asked_name live ask) z ≡ false → make layout live ask ≡ Ok next → IsToldLive place told next
  make_keeps live next ask k other h =
      and_finish_keeps (asked_name live ask) (begin layout live ask) next other
      (λ mid e. begin_keeps live mid ask k other e) h
