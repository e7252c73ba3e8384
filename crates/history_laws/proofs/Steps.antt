-- Each operation of a live state leaves a zone told the last bytes written to it
use Rattle.std.proofs.Common.{◌≡◌, ℕ, ◌≤◌, Bool, true, false, cond, ◌&&◌, ◌||◌, ◌==◌, is_some, List, [], ◌∷◌, length}
use Rattle.std.proofs.Common.{slice_get, set, refl, sym, ap, ◌∙◌, subst, zero, suc, inl, inr, Option, Some, None}
use Rattle.std.proofs.Common.{Result, Ok, Err, eq-eqb}
use Rattle.std.specs.Option.{option_map, option_map_or, option_and_then}
use Rattle.std.proofs.lemmas.Bool.{ne_eqb}
use Rattle.zone_spec.specs.declared.Zone.{Zone}
use Rattle.zone_spec.specs.declared.Name.{Name}
use Rattle.zone_spec.specs.declared.Refusal.{Refusal}
use Rattle.zone_spec.specs.declared.Refusal.TheVariants.{Busy, Idle}
use Rattle.zone_spec.specs.Told.{Call}
use Rattle.zone_spec.specs.Notices.{is_in}
use Rattle.zone_spec.specs.Layouts.{IsLayout, zone_place}
use Rattle.machine_spec.specs.States.{Flight, LiveZone, LiveState, Live}
use Rattle.machine_spec.specs.ZoneCalls.{begun, finished}
use Rattle.machine_spec.specs.LiveZones.{Target, target, target_at, target_of, flies, changed}
use Rattle.machine_spec.specs.LiveCalls.{Ask, Append as AskAppend, Erase as AskErase, Dump as AskDump, call_of}
use Rattle.machine_spec.specs.LiveCalls.{asked_name, asked_zone, is_barred, begins, begin, goes_on, finish_at}
use Rattle.machine_spec.specs.LiveCalls.{and_finish, make}
use Rattle.machine_spec.specs.Erasures.{erase_zone, erased}
use Rattle.machine_spec.specs.Sound.{IsState}
use Rattle.machine_laws.proofs.Lists.{get-set, get-zip-map, none_any}
use Rattle.machine_laws.proofs.Targets.{IsAt, target-some, ring_only-is, no_flight, busy-false}
use Rattle.history_spec.specs.Written.{with_call, with_flight}
use Rattle.history_laws.specs.Laws.{TellsWritten}
use Rattle.history_laws.proofs.ZoneSteps.{Tells, live_fits, same_flight, made_tells, erased_tells}

-- ---- what was answered

-- a call that was begun went to an idle zone
pub record Began (layout : List Zone) (live next : LiveState) (call : Call) (o : Option Target) : Type 0 where
  pub t : Target
  pub target_is : o ≡ Some t
  pub idle : t.live.flight ≡ None
  pub next_is : changed layout live t (λ z zone. begun z call zone) ≡ next

pub began : (layout : List Zone) (live next : LiveState) (call : Call) (barred : Bool) (o : Option Target)
    → begins layout live call barred o ≡ Ok next → Began layout live next call o
began layout live next call barred None h = absurd (cc)
began layout live next call barred (Some t) h = by (barred || is_some t.live.flight) refl h
  where
    by : (b : Bool) → (barred || is_some t.live.flight) ≡ b
        → cond b (Err Busy) (Ok (changed layout live t (λ z zone. begun z call zone))) ≡ Ok next
        → Began layout live next call (Some t)
    by true e h = absurd (cc)
    by false e h = record { t = t; target_is = refl; idle = busy-false barred t.live.flight e; next_is = cc }

-- a step that was made went to some zone
pub went : (layout : List Zone) (live next : LiveState) (change : Zone → LiveZone → LiveZone) (o : Option Target)
    → goes_on layout live change o ≡ Ok next → (t : Target) × (o ≡ Some t) × (changed layout live t change ≡ next)
went layout live next change None h = absurd (cc)
went layout live next change (Some t) h = by (is_some t.live.flight) h
  where
    by : (b : Bool) → cond b (Ok (changed layout live t change)) (Err Idle) ≡ Ok next
        → (u : Target) × (let s : Option Target = Some t in s ≡ Some u) × (changed layout live u change ≡ next)
    by true h = (t, refl, cc)
    by false h = absurd (cc)

-- ---- targets

target_place : (layout : List Zone) (live : LiveState) (o : Option ℕ) (t : Target) → target_at layout live o ≡ Some t
    → o ≡ Some t.place
target_place layout live None t e = absurd (cc)
target_place layout live (Some i) t e = by (slice_get layout i) (slice_get live.zones i) e
  where
    by : (a : Option Zone) (b : Option LiveZone) → target_of i a b ≡ Some t → Some i ≡ Some t.place
    by None b e = absurd (cc)
    by (Some z) None e = absurd (cc)
    by (Some z) (Some v) e =
        let same : record { place = i; zone = z; live = v } ≡ t = cc in ap (λ (u : Target). Some u.place) same

pub asked_target : (layout : List Zone) (live : LiveState) (ask : Ask) (t : Target)
    → asked_zone layout live ask ≡ Some t → target layout live (asked_name live ask) ≡ Some t
asked_target layout live (AskAppend name payload) t e = (ring_only-is (target layout live name) t e).0
asked_target layout live (AskErase name) t e = e
asked_target layout live (AskDump time packed body) t e = e

get-same : (zones : List LiveZone) (i : ℕ) (v new : LiveZone) → slice_get zones i ≡ Some v
    → slice_get (set zones i new) i ≡ Some new
get-same [] i v new e = absurd (cc)
get-same (x ∷ xs) zero v new e = refl
get-same (x ∷ xs) (suc i) v new e = get-same xs i v new e

-- ---- one zone of a live state

-- the i-th zone's flight
abbrev flight_in : ℕ → LiveState → Option Flight
flight_in i live = option_and_then (λ (zone : LiveZone). zone.flight) (slice_get live.zones i)

module _ (layout : List Zone) (mem : ℕ) (lies : IsLayout layout mem) (i : ℕ) (z : Zone)
    (hz : slice_get layout i ≡ Some z) (w : Option (List ℕ)) where
  flights : (live next : LiveState) (v u : LiveZone) → slice_get live.zones i ≡ Some v
      → slice_get next.zones i ≡ Some u → Tells z.cap u.told (with_flight z.cap v.flight u.flight w)
      → Tells z.cap u.told (with_flight z.cap (flight_in i live) (flight_in i next) w)
  flights live next v u e f h = rw (e, f) h

  -- a zone of the place that a target has is the target's
  same_zone : (live : LiveState) (t : Target) → IsAt layout live t → i ≡ t.place → t.zone ≡ z
  same_zone live t there e = let g : slice_get layout t.place ≡ Some z = ap (slice_get layout) (sym e) ∙ hz in cc

  -- the zone is told what was written, flights included
  abbrev pub FlownTells : LiveState → LiveState → Type 0
  FlownTells live next =
      TellsWritten i z (with_flight z.cap (flight_in i live) (flight_in i next) w) (Live next)

  -- a change of one zone
  pub changed_tells : (live : LiveState) (t : Target) (change : Zone → LiveZone → LiveZone) → IsAt layout live t
      → IsState layout mem (Live (changed layout live t change)) → TellsWritten i z w (Live live)
      → ((v : LiveZone) → Tells z.cap v.told w → length (change z v).told ≤ z.cap
      → Tells z.cap (change z v).told (with_flight z.cap v.flight (change z v).flight w))
      → FlownTells live (changed layout live t change)
  changed_tells live t change there state h step = λ u hu.
      elim (get-set live.zones t.place i (change t.zone t.live) u hu) [
        | inl s ↦
            (let old : slice_get live.zones i ≡ Some t.live = ap (slice_get live.zones) s.0 ∙ there.1 in
            let new : change z t.live ≡ u = ap (λ y. change y t.live) (sym (same_zone live t there s.0)) ∙ s.1 in
            let fits : length (change z t.live).told ≤ z.cap =
            rw new (live_fits z u (state.zones.1 i z u hz hu)) in
            flights live (changed layout live t change) t.live u old hu
            (subst (λ (x : LiveZone). Tells z.cap x.told (with_flight z.cap t.live.flight x.flight w)) new
            (step t.live (h t.live old) fits)))
        | inr s ↦ flights live (changed layout live t change) u u s.1 hu (same_flight z.cap u.told u.flight w (h u s.1))
      ]

  pub went_tells : (live next : LiveState) (change : Zone → LiveZone → LiveZone) (o : Option Target)
      → ((t : Target) → o ≡ Some t → IsAt layout live t)
      → goes_on layout live change o ≡ Ok next → IsState layout mem (Live next) → TellsWritten i z w (Live live)
      → ((v : LiveZone) → Tells z.cap v.told w → length (change z v).told ≤ z.cap
      → Tells z.cap (change z v).told (with_flight z.cap v.flight (change z v).flight w))
      → FlownTells live next
  went_tells live next change o there e state h step =
      let g = went layout live next change o e in
      subst (FlownTells live) g.2
      (changed_tells live g.0 change (there g.0 g.1) (subst (λ n. IsState layout mem (Live n)) (sym g.2) state) h step)

  -- ---- a call that is made

  made_place : (live next : LiveState) (ask : Ask) (b : Began layout live next (call_of ask)
      (asked_zone layout live ask))
      → target layout next (asked_name live ask)
      ≡ Some (record { place = b.t.place; zone = b.t.zone; live = begun b.t.zone (call_of ask) b.t.live })
  made_place live next ask b =
      let there : target layout live (asked_name live ask) ≡ Some b.t = asked_target layout live ask b.t b.target_is in
      let at : IsAt layout live b.t = target-some layout live (asked_name live ask) b.t there in
      let place : zone_place layout (asked_name live ask) ≡ Some b.t.place =
      target_place layout live (zone_place layout (asked_name live ask)) b.t there in
      let new : LiveZone = begun b.t.zone (call_of ask) b.t.live in
      let zone : slice_get next.zones b.t.place ≡ Some new =
      ap (λ (n : LiveState). slice_get n.zones b.t.place) (sym b.next_is)
      ∙ get-same live.zones b.t.place b.t.live new at.1 in
      rw (place, at.0, zone) refl

  pub made_zone : (live : LiveState) (ask : Ask) (t : Target) (u : LiveZone) → IsAt layout live t
      → t.live.flight ≡ None → TellsWritten i z w (Live live) → length u.told ≤ z.cap
      → slice_get (set (set live.zones t.place (begun t.zone (call_of ask) t.live)) t.place
      (finished t.zone (begun t.zone (call_of ask) t.live))) i ≡ Some u
      → Tells z.cap u.told (cond (t.place == i) (option_map (with_call z.cap (call_of ask)) w) w)
  made_zone live ask t u there idle h fits hu = elim (get-set (set live.zones t.place
      (begun t.zone (call_of ask) t.live)) t.place i (finished t.zone (begun t.zone (call_of ask) t.live)) u hu) [
        | inl s ↦
            (let old : slice_get live.zones i ≡ Some t.live = ap (slice_get live.zones) s.0 ∙ there.1 in
            let new : finished z (begun z (call_of ask) t.live) ≡ u =
            ap (λ y. finished y (begun y (call_of ask) t.live)) (sym (same_zone live t there s.0)) ∙ s.1 in
            let own : (t.place == i) ≡ true = eq-eqb t.place i (sym s.0) in
            rw own (subst (λ (x : LiveZone). Tells z.cap x.told (option_map (with_call z.cap (call_of ask)) w)) new
            (made_tells z (call_of ask) t.live w (lies.valid i z hz).0 idle (h t.live old) (rw new fits))))
        | inr s ↦ elim (get-set live.zones t.place i (begun t.zone (call_of ask) t.live) u s.1) [
          | inl r ↦ absurd (s.0 r.0)
          | inr r ↦
              (let other : (t.place == i) ≡ false = ne_eqb t.place i (λ e. s.0 (sym e)) in
              rw other (h u r.1))
        ]
      ]

  pub make_tells : (live next : LiveState) (ask : Ask) → make layout live ask ≡ Ok next
      → IsState layout mem (Live next) → TellsWritten i z w (Live live)
      → TellsWritten i z (cond (option_map_or (λ (t : Target). t.place == i) (asked_zone layout live ask) false)
      (option_map (with_call z.cap (call_of ask)) w) w) (Live next)
  make_tells live next ask e state h = by (begin layout live ask) refl e
    where
      by : (r : Result LiveState Refusal) → begin layout live ask ≡ r
          → and_finish layout (asked_name live ask) r ≡ Ok next
          → TellsWritten i z (cond (option_map_or (λ (t : Target). t.place == i) (asked_zone layout live ask) false)
          (option_map (with_call z.cap (call_of ask)) w) w) (Live next)
      by (Err why) b e = absurd (cc)
      by (Ok mid) b e =
          let k = began layout live mid (call_of ask) (is_barred layout live ask) (asked_zone layout live ask) b in
          let there : IsAt layout live k.t = target-some layout live (asked_name live ask) k.t
          (asked_target layout live ask k.t k.target_is) in
          let done : finish_at layout mid (target layout mid (asked_name live ask)) ≡ next = cc in
          let one : LiveZone = begun k.t.zone (call_of ask) k.t.live in
          let two : LiveZone = finished k.t.zone one in
          let last : finish_at layout mid (Some (record { place = k.t.place; zone = k.t.zone; live = one })) ≡ next =
          ap (finish_at layout mid) (sym (made_place live mid ask k)) ∙ done in
          let zones : set (set live.zones k.t.place one) k.t.place two ≡ next.zones =
          ap (λ (m : LiveState). set m.zones k.t.place two) k.next_is ∙ ap (λ (n : LiveState). n.zones) last in
          λ u hu. subst (λ o. Tells z.cap u.told (cond (option_map_or (λ (t : Target). t.place == i) o false)
          (option_map (with_call z.cap (call_of ask)) w) w)) (sym k.target_is)
          (made_zone live ask k.t u there k.idle h (live_fits z u (state.zones.1 i z u hz hu))
          (ap (λ zs. slice_get zs i) zones ∙ hu))

  -- ---- an erased record

  pub erased_record : (live : LiveState) (name : Name) → flies layout live (λ y. is_in name y) ≡ false
      → IsState layout mem (Live (erased layout live name)) → TellsWritten i z w (Live live)
      → TellsWritten i z (cond (is_in name z) (Some []) w) (Live (erased layout live name))
  erased_record live name none state h = λ u hu.
      let r = get-zip-map (λ (pair : Zone × LiveZone). erase_zone name pair.0 pair.1) layout live.zones i z u hz hu in
      let fits : length (erase_zone name z r.0).told ≤ z.cap = rw r.2 (live_fits z u (state.zones.1 i z u hz hu)) in
      subst (λ (x : LiveZone). Tells z.cap x.told (cond (is_in name z) (Some []) w)) r.2
      (erased_tells z name r.0 w (lies.valid i z hz).0 (h r.0 r.1)
      (λ e. no_flight r.0.flight (is_in name z) (none_any (λ (pair : Zone × LiveZone). is_in name pair.0 && is_some
      pair.1.flight) layout live.zones i z r.0 none hz r.1) e) fits)
