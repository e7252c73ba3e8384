-- What keeps a live state sound
use Rattle.std.proofs.Common.{◌≡◌, ℕ, ◌+◌, Bool, true, false, cond, ◌&&◌, ◌||◌, is_some, List, length, flat_map}
use Rattle.std.proofs.Common.{slice_get, refl, sym, ap, ◌∙◌, subst, arith, inl, inr, Option, Some, None, Result, Ok}
use Rattle.std.proofs.Common.{Err, length-set, length-append}
use Rattle.zone_spec.specs.declared.Zone.{Zone}
use Rattle.zone_spec.specs.declared.ZoneName.{ZoneName}
use Rattle.zone_spec.specs.declared.Kind.TheVariants.{Dump as DumpKind}
use Rattle.zone_spec.specs.Zones.{IsValidZone}
use Rattle.zone_spec.specs.Parts.{standing_words, AreBytes}
use Rattle.zone_spec.specs.Told.{Call, Append, Erase, Dump}
use Rattle.zone_spec.specs.Ring.{IsRingForm}
use Rattle.zone_spec.specs.declared.Name.{Name}
use Rattle.zone_spec.specs.declared.Refusal.{Refusal}
use Rattle.zone_spec.specs.declared.Refusal.TheVariants.{Busy, Idle}
use Rattle.zone_spec.specs.TimeLines.{line_text}
use Rattle.zone_spec.specs.Calls.{CanBegin}
use Rattle.zone_spec.specs.Records.{is_of}
use Rattle.zone_spec.specs.Notices.{is_in}
use Rattle.zone_spec.specs.Layouts.{zones_end, IsLayout}
use Rattle.machine_spec.specs.Zones.{EachZone}
use Rattle.machine_spec.specs.States.{LiveZone, LiveState, Live}
use Rattle.machine_spec.specs.ZoneCalls.{begun, finished}
use Rattle.machine_spec.specs.LiveZones.{Target, target, ring_only, flies, with_zone, changed}
use Rattle.machine_spec.specs.LiveCalls.{Ask, Append as AskAppend, Erase as AskErase, Dump as AskDump, begins, begin}
use Rattle.machine_spec.specs.LiveCalls.{goes_on, step, finish_at, and_finish}
use Rattle.machine_spec.specs.Erasures.{erase_zone, erased}
use Rattle.machine_spec.specs.Sound.{Stands, IsLiveZone, IsState, IsAsk}
use Rattle.machine_laws.proofs.Lists.{get-set, each-zip-map, none_any, bytes-join, bytes-right, images_are}
use Rattle.machine_laws.proofs.Zones.{begun-sound, finished-sound, erased-sound}
use Rattle.machine_laws.proofs.TimeLines.{line_fits}
use Rattle.machine_laws.proofs.Targets.{IsAt, target-some, open_ring, ring_only-is, no_flight, busy-false}

module _ (layout : List Zone) (mem : ℕ) (lies : IsLayout layout mem) where
  -- a live state of sound zones
  pub live_state : (live : LiveState) → EachZone layout live.zones IsLiveZone
      → zones_end layout + length live.rest ≡ mem → AreBytes live.rest → IsState layout mem (Live live)
  live_state live each total bytes =
      let im = images_are layout live.zones (each.0, λ i z v hz hv. (each.1 i z v hz hv).size) in
      record {
        zones = each;
        image = (
          omega (
            arith,
            total,
            im.0,
            length-append (flat_map (λ (zone : LiveZone). zone.image) live.zones)
                live.rest,
          ),
          bytes-join _ live.rest im.1 bytes,
        );
      }

  rest_of : (live : LiveState) → IsState layout mem (Live live)
      → (zones_end layout + length live.rest ≡ mem) × AreBytes live.rest
  rest_of live state =
      let im = images_are layout live.zones (state.zones.0, λ i z v hz hv. (state.zones.1 i z v hz hv).size) in (
        omega (
          arith,
          state.image.0,
          im.0,
          length-append (flat_map (λ (zone : LiveZone). zone.image) live.zones)
              live.rest,
        ),
        bytes-right (flat_map (λ (zone : LiveZone). zone.image) live.zones) live.rest state.image.1,
      )

  -- a zone's standing replaced by a sound one
  pub with_zone-sound : (live : LiveState) (t : Target) (new : LiveZone) → IsState layout mem (Live live)
      → IsAt layout live t → IsLiveZone t.zone new
      → IsState layout mem (Live (with_zone layout live t.place t.live new))
  with_zone-sound live t new state at zone =
      let rest = rest_of live state in
      live_state (with_zone layout live t.place t.live new) (
        length-set live.zones t.place new ∙ state.zones.0,
        λ i z v hz hv. elim (get-set live.zones t.place i new v hv) [
          | inl s ↦ (let same : t.zone ≡ z = (let g : slice_get layout t.place
              ≡ Some z = ap (slice_get layout) (sym s.0) ∙ hz in let k : Some t.zone ≡ Some z = sym at.0 ∙ g in cc) in
              subst (λ u. IsLiveZone z u) s.1 (subst (λ y. IsLiveZone y new) same zone))
          | inr o ↦ state.zones.1 i z v hz o.1
        ],
      ) rest.0 rest.1

  valid_at : (live : LiveState) (t : Target) → IsAt layout live t → IsValidZone t.zone
  valid_at live t at = (lies.valid t.place t.zone at.0).0

  begins-sound : (live : LiveState) (call : Call) (busy : Bool) (o : Option Target) (next : LiveState)
      → IsState layout mem (Live live)
      → ((t : Target) → o ≡ Some t → IsAt layout live t)
      → ((t : Target) → o ≡ Some t → t.live.flight ≡ None → IsRingForm t.zone t.live.image t.live.told
      → CanBegin t.zone t.live.image call)
      → begins layout live call busy o ≡ Ok next → IsState layout mem (Live next)
  begins-sound live call busy None next state at can e = let n : ◌≡◌ {A = ℕ} 0 1 = cc in absurd (omega (arith, n))
  begins-sound live call busy (Some t) next state at can e = by (busy || is_some t.live.flight) refl e
    where
      by : (b : Bool) → (busy || is_some t.live.flight) ≡ b
          → cond b (Err Busy) (Ok (changed layout live t (λ z zone. begun z call zone))) ≡ Ok next
          → IsState layout mem (Live next)
      by true h e = let n : ◌≡◌ {A = ℕ} 0 1 = cc in absurd (omega (arith, n))
      by false h e =
          let s : changed layout live t (λ z zone. begun z call zone) ≡ next = cc in
          let here : IsAt layout live t = at t refl in
          let none : t.live.flight ≡ None = busy-false busy t.live.flight h in
          let zone : IsLiveZone t.zone t.live = state.zones.1 t.place t.zone t.live here.0 here.1 in
          let ring : IsRingForm t.zone t.live.image t.live.told =
          subst (Stands t.zone t.live.image t.live.told) none zone.stands in
          subst (λ v. IsState layout mem (Live v)) s (with_zone-sound live t _ state here
          (begun-sound t.zone (valid_at live t here) t.live call zone none (can t refl none ring)))

  changed-sound : (live : LiveState) (t : Target) (change : Zone → LiveZone → LiveZone)
      → IsState layout mem (Live live) → IsAt layout live t
      → ((z : Zone) (v : LiveZone) → IsValidZone z → IsLiveZone z v → IsLiveZone z (change z v))
      → IsState layout mem (Live (changed layout live t change))
  changed-sound live t change state at step =
      with_zone-sound live t _ state at (step t.zone t.live (valid_at live t at)
      (state.zones.1 t.place t.zone t.live at.0 at.1))

  pub goes_on-sound : (live : LiveState) (change : Zone → LiveZone → LiveZone) (o : Option Target) (next : LiveState)
      → IsState layout mem (Live live)
      → ((t : Target) → o ≡ Some t → IsAt layout live t) → ((z : Zone) (v : LiveZone) → IsValidZone z → IsLiveZone z v
      → IsLiveZone z (change z v))
      → goes_on layout live change o ≡ Ok next → IsState layout mem (Live next)
  goes_on-sound live change None next state at step e = let n : ◌≡◌ {A = ℕ} 0 1 = cc in absurd (omega (arith, n))
  goes_on-sound live change (Some t) next state at step e = by (is_some t.live.flight) e
    where
      by : (b : Bool) → cond b (Ok (changed layout live t change)) (Err Idle) ≡ Ok next → IsState layout mem (Live next)
      by false e = let n : ◌≡◌ {A = ℕ} 0 1 = cc in absurd (omega (arith, n))
      by true e = let s : changed layout live t change ≡ next = cc in
          subst (λ v. IsState layout mem (Live v)) s (changed-sound live t change state (at t refl) step)

  finish_at-sound : (live : LiveState) (o : Option Target) → IsState layout mem (Live live)
      → ((t : Target) → o ≡ Some t → IsAt layout live t) → IsState layout mem (Live (finish_at layout live o))
  finish_at-sound live None state at = state
  finish_at-sound live (Some t) state at = changed-sound live t (λ z zone. finished z zone) state (at t refl)
      (λ z v valid sound. finished-sound z valid v sound)

  -- a call that may be asked
  pub begin-sound : (live : LiveState) (ask : Ask) (next : LiveState) → IsAsk ask → IsState layout mem (Live live)
      → begin layout live ask ≡ Ok next → IsState layout mem (Live next)
  begin-sound live (AskAppend name payload) next fit state e =
      begins-sound live (Append payload) false (ring_only (target layout live name)) next state
      (λ t h. target-some layout live name t (ring_only-is (target layout live name) t h).0)
      (λ t h f ring. (
        open_ring t.zone.name.kind (standing_words t.zone t.live.image) t.zone.cap
            (ring_only-is (target layout live name) t h).1 ring.is_open,
        fit,
      )) e
  begin-sound live (AskErase name) next fit state e =
      begins-sound live Erase false (target layout live name) next state (λ t h. target-some layout live name t h)
      (λ t h f ring. tt) e
  begin-sound live (AskDump time packed body) next fit state e =
      let line = line_fits time packed fit.0 in
      let name : ZoneName = record { kind = DumpKind; index = live.cursor } in
      begins-sound live (Dump (line_text time packed) body) (flies layout live (λ z. is_of DumpKind z.name.kind))
      (target layout live name) next state
      (λ t h. target-some layout live name t h)
      (λ t h f ring. (
        line.0,
        omega (arith, line.1, (valid_at live t (target-some layout live name t h)).room),
        line.2,
        fit.1,
      )) e

  pub and_finish-sound : (name : ZoneName) (r : Result LiveState Refusal) (next : LiveState)
      → ((mid : LiveState) → r ≡ Ok mid → IsState layout mem (Live mid)) → and_finish layout name r ≡ Ok next
      → IsState layout mem (Live next)
  and_finish-sound name (Err why) next h e = let n : ◌≡◌ {A = ℕ} 0 1 = cc in absurd (omega (arith, n))
  and_finish-sound name (Ok mid) next h e =
      let s : finish_at layout mid (target layout mid name) ≡ next = cc in
      subst (λ v. IsState layout mem (Live v)) s (finish_at-sound mid (target layout mid name) (h mid refl)
      (λ t k. target-some layout mid name t k))

  -- ---- erased records
  pub erased-state : (live : LiveState) (name : Name) → IsState layout mem (Live live)
      → flies layout live (λ z. is_in name z) ≡ false → IsState layout mem (Live (erased layout live name))
  erased-state live name state none =
      let rest = rest_of live state in
      live_state (erased layout live name)
      (each-zip-map layout live.zones IsLiveZone IsLiveZone (λ (pair : Zone × LiveZone). erase_zone name pair.0 pair.1)
      (λ i z v hz hv sound. erased-sound z (lies.valid i z hz).0 name v sound
      (λ e. no_flight v.flight (is_in name z) (none_any (λ (pair : Zone × LiveZone). is_in name pair.0 && is_some
      pair.1.flight) layout live.zones i z v none hz hv) e)) state.zones)
      rest.0 rest.1
