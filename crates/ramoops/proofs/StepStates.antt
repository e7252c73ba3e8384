-- A step in the machine is a step in the state for which it stands
use Rattle.std.proofs.Common.{◌≡◌, ℕ, ◌<◌, Bool, true, false, cond, is_some, List, length, slice_get, get_or, refl, sym}
use Rattle.std.proofs.Common.{ap, ◌∙◌, subst, Option, Some, None, Ok, Err}
use Rattle.std.specs.Option.{option_map}
use Rattle.zone_spec.specs.declared.Zone.{Zone}
use Rattle.zone_spec.specs.declared.ZoneName.{ZoneName}
use Rattle.zone_spec.specs.declared.Refusal.TheVariants.{NoZone, Idle}
use Rattle.zone_spec.specs.Layouts.{zone_place}
use Rattle.machine_spec.specs.States.{Flight, LiveZone, LiveState}
use Rattle.store_steps.specs.Flying.{Flying}
use Rattle.machine_spec.specs.ZoneCalls.{stepped, stores_left}
use Rattle.machine_spec.specs.LiveZones.{Target, target_at, target, with_zone}
use Rattle.machine_spec.specs.LiveCalls.{goes_on, step}
use Rattle.ramoops.specs.Storing.{stores_left_of}
use Rattle.ramoops.specs.declared.zones.HeldZone.{HeldZone}
use Rattle.ramoops.proofs.FlightStores.{flight_total}
use Rattle.ramoops.specs.LiveSeen.{LiveSeen, StandsLive, StandsForSome, Leaves, ChangesZone}
use Rattle.zone_spec.specs.Stores.{Store}
use Rattle.ramoops.specs.Made.{MakesStores, MadeAt}
use Rattle.ramoops.specs.Places.{flies_at, held_at, flies_in}
use Rattle.ramoops.specs.Running.{IsRunning}
use Rattle.prz_region.specs.CutRegion.{span}
use Rattle.zone_spec.specs.Ring.{IsRingForm}
use Rattle.std.proofs.lemmas.Option.{slice_get_read, slice_get_within}
use Rattle.ramoops.proofs.Begun.{here, target_is, same_some, same_flies}
use Rattle.ramoops.proofs.CallPremises.{own, over, idle_ring}

module _ (v : LiveSeen) (i : ℕ) (name : ZoneName) (place : zone_place v.layout name ≡ Some i)
    (below : i < length v.layout) where
  target_here : (s : LiveState) (stands : StandsLive v.layout v.mem v s) → let at =
      here v.layout v.mem v s stands i below in target v.layout s name
      ≡ Some (record { place = i; zone = at.zone; live = at.live })
  target_here s stands =
      let at = here v.layout v.mem v s stands i below in
      ap (target_at v.layout s) place ∙ target_is v.layout v.mem v s stands i at.zone at.live at.of_layout at.of_state

  -- what a target shows, in every state for which the machine stands
  pub target_shows : {X : Type 0} (f : Target → X) (x : X)
      → ((s : LiveState) (stands : StandsLive v.layout v.mem v s) → let at = here v.layout v.mem v s stands i below in
      f (record { place = i; zone = at.zone; live = at.live }) ≡ x)
      → (layout : List Zone) (mem : ℕ) (s : LiveState) → StandsLive layout mem v s
      → option_map f (target layout s name) ≡ Some x
  target_shows f x shows layout mem s stands =
      over layout mem v s (λ l m. option_map f (target l s name) ≡ Some x) stands
      (let o = own layout mem v s stands in ap (option_map f) (target_here s o) ∙ ap Some (shows s o))

  goes : (s : LiveState) (stands : StandsLive v.layout v.mem v s) (change : Zone → LiveZone → LiveZone) (b : Bool)
      → flies_at (slice_get v.zones i) ≡ b → let at = here v.layout v.mem v s stands i below in
      goes_on v.layout s change (target v.layout s name) ≡ cond b
      (Ok (with_zone v.layout s i at.live (change at.zone at.live))) (Err Idle)
  goes s stands change b e =
      let at = here v.layout v.mem v s stands i below in
      let same : is_some at.live.flight ≡ b = sym (same_some v.layout v.mem v s stands i at.zone at.held at.live
      at.of_layout at.of_held at.of_state) ∙ ap flies_at (sym at.of_held) ∙ e in
      ap (goes_on v.layout s change) (target_here s stands)
      ∙ ap (λ (t : Bool). cond t (Ok (with_zone v.layout s i at.live (change at.zone at.live))) (Err Idle)) same

  -- a flight that stands goes on
  pub goes_leaves : (change : Zone → LiveZone → LiveZone) (w : LiveSeen) → flies_at (slice_get v.zones i) ≡ true
      → ChangesZone change i v w → (layout : List Zone) (mem : ℕ) (s : LiveState) → StandsLive layout mem v s
      → Leaves layout mem (goes_on layout s change (target layout s name)) w
  goes_leaves change w flies next layout mem s stands =
      over layout mem v s (λ l m. Leaves l m (goes_on l s change (target l s name)) w) stands
      (let o = own layout mem v s stands in
      let at = here v.layout v.mem v s o i below in
      record {
        next = with_zone v.layout s i at.live (change at.zone at.live);
        done = goes s o change true flies;
        stands = next v.layout v.mem s at.zone at.live o at.of_layout at.of_state;
      })

  -- and makes its stores there
  pub made_there : (stores : Zone → LiveZone → List Store) (w : LiveSeen) → MakesStores stores i v w
      → (layout : List Zone) (mem : ℕ) (s : LiveState) → StandsLive layout mem v s
      → MadeAt (target layout s name) stores v.spans w.spans
  made_there stores w makes layout mem s stands =
      over layout mem v s (λ l m. MadeAt (target l s name) stores v.spans w.spans) stands
      (let o = own layout mem v s stands in
      let at = here v.layout v.mem v s o i below in
      subst (λ (t : Option Target). MadeAt t stores v.spans w.spans) (sym (target_here s o))
      (makes v.layout v.mem s at.zone at.live o at.of_layout at.of_state))

  -- where none stands there is none to go on
  pub goes_idle : (change : Zone → LiveZone → LiveZone) → flies_at (slice_get v.zones i) ≡ false
      → (layout : List Zone) (mem : ℕ) (s : LiveState) → StandsLive layout mem v s
      → goes_on layout s change (target layout s name) ≡ Err Idle
  goes_idle change flies layout mem s stands =
      over layout mem v s (λ l m. goes_on l s change (target l s name) ≡ Err Idle) stands
      (goes s (own layout mem v s stands) change false flies)

pub goes_nowhere : (v : LiveSeen) (name : ZoneName) (change : Zone → LiveZone → LiveZone)
    → zone_place v.layout name ≡ None → (layout : List Zone) (mem : ℕ) (s : LiveState) → StandsLive layout mem v s
    → goes_on layout s change (target layout s name) ≡ Err NoZone
goes_nowhere v name change place layout mem s stands =
    over layout mem v s (λ l m. goes_on l s change (target l s name) ≡ Err NoZone) stands
    (ap (λ (o : Option ℕ). goes_on v.layout s change (target_at v.layout s o)) place)

pub step_nowhere : (v : LiveSeen) (name : ZoneName) (k : ℕ) → zone_place v.layout name ≡ None
    → (layout : List Zone) (mem : ℕ) (s : LiveState) → StandsLive layout mem v s → step layout s name k ≡ Err NoZone
step_nowhere v name k place layout mem s stands =
    over layout mem v s (λ l m. step l s name k ≡ Err NoZone) stands
    (ap (λ (o : Option ℕ). goes_on v.layout s (λ z zone. stepped z k zone) (target_at v.layout s o)) place)

-- the told list of a zone, by what is read of the machine's fields
pub ring_of : (v x : LiveSeen) (j i : ℕ) (z : Zone) (h held : HeldZone) (o : Option ℕ) → v ≡ x → IsRunning v
    → o ≡ Some j → o ≡ Some i → slice_get x.layout i ≡ Some z → slice_get x.zones i ≡ Some held
    → h ≡ get_or v.zones j h → (h.told ≡ held.told) × (h.told.capacity ≡ z.cap)
    × (held.flight ≡ None → IsRingForm z (span x.spans i) h.told.items)
ring_of v x j i z h held o e running oj oi ez eh at =
    let same : j ≡ i = (let s : Some j ≡ Some i = sym oj ∙ oi in cc) in
    let eh' : slice_get v.zones i ≡ Some held = ap (λ (y : LiveSeen). slice_get y.zones i) e ∙ eh in
    let ez' : slice_get v.layout i ≡ Some z = ap (λ (y : LiveSeen). slice_get y.layout i) e ∙ ez in
    let gh : slice_get v.zones i ≡ Some h = slice_get_read v.zones (length v.zones) i h refl
    (slice_get_within v.zones i held eh') (at ∙ ap (λ (k : ℕ). get_or v.zones k h) same) in
    let both : h ≡ held = (let s : Some h ≡ Some held = sym gh ∙ eh' in cc) in (
      ap (λ (k : HeldZone). k.told) both,
      (running.held i z h ez' gh).room,
      λ idle. subst (λ (y : LiveSeen). IsRingForm z (span y.spans i) h.told.items) e
          (idle_ring v i z h running ez' gh (ap (λ (k : HeldZone). k.flight) both ∙ idle)).0,
    )

-- whether a flight stands in a zone that keeps its place
pub flies_after : (v w : LiveSeen) (name : ZoneName) (i : ℕ) (b : Bool) → w.layout ≡ v.layout
    → zone_place v.layout name ≡ Some i → flies_at (slice_get w.zones i) ≡ b → flies_in w name ≡ b
flies_after v w name i b same place flies = ap (λ (o : Option ℕ). flies_at (held_at w.zones o))
    (ap (λ (l : List Zone). zone_place l name) same ∙ place) ∙ flies

-- what is kept of the zone at a place, by what is read of the machine's fields, is told what the state's zone is
-- told, and flies where that flies
pub record ToldAlike (h : HeldZone) (live : LiveZone) : Type 0 where
  pub told : live.told ≡ h.told.items
  pub flies : is_some live.flight ≡ is_some h.flight

pub held_here : (v x : LiveSeen) (i : ℕ) (below : i < length x.layout) (h : HeldZone) → v ≡ x → h ≡ get_or v.zones i h
    → (s : LiveState) (stands : StandsLive x.layout x.mem x s)
    → ToldAlike h (here x.layout x.mem x s stands i below).live
held_here v x i below h e eh s stands =
    let at = here x.layout x.mem x s stands i below in
    let gh : slice_get x.zones i ≡ Some h = slice_get_read x.zones (length x.zones) i h refl
    (slice_get_within x.zones i at.held at.of_held) (eh ∙ ap (λ (y : LiveSeen). get_or y.zones i h) e) in
    let same : at.held ≡ h = (let k : Some at.held ≡ Some h = sym at.of_held ∙ gh in cc) in
    record {
      told = at.stands_for.told ∙ ap (λ (k : HeldZone). k.told.items) same;
      flies = sym (same_flies at.zone (span x.spans i) at.held.flight at.live.flight at.stands_for.flight)
          ∙ ap (λ (k : HeldZone). is_some k.flight) same;
    }

-- as many stores are left of the flight
same_left : (z : Zone) (bytes : List ℕ) (o : Option Flying) (p : Option Flight) → StandsForSome z bytes o p
    → stores_left p z ≡ stores_left_of o
same_left z bytes None None s = refl
same_left z bytes None (Some f) s = absurd s
same_left z bytes (Some f) None s = absurd s
same_left z bytes (Some f) (Some g) s = rw (flight_total z bytes f g s, s.made) refl

pub left_here : (v x : LiveSeen) (i : ℕ) (below : i < length x.layout) (h : HeldZone) → v ≡ x → h ≡ get_or v.zones i h
    → (s : LiveState) (stands : StandsLive x.layout x.mem x s)
    → let at = here x.layout x.mem x s stands i below in stores_left at.live.flight at.zone ≡ stores_left_of h.flight
left_here v x i below h e eh s stands =
    let at = here x.layout x.mem x s stands i below in
    let gh : slice_get x.zones i ≡ Some h = slice_get_read x.zones (length x.zones) i h refl
    (slice_get_within x.zones i at.held at.of_held) (eh ∙ ap (λ (y : LiveSeen). get_or y.zones i h) e) in
    let same : at.held ≡ h = (let k : Some at.held ≡ Some h = sym at.of_held ∙ gh in cc) in
    same_left at.zone (span x.spans i) at.held.flight at.live.flight at.stands_for.flight
    ∙ ap (λ (k : HeldZone). stores_left_of k.flight) same
