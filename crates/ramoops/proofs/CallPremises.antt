-- What a call needs of the zone that it goes to, and that the machine stays one that stands for a sound state
use Rattle.std.proofs.Common.{◌≡◌, ℕ, ◌+◌, ◌%◌, ◌<◌, Bool, true, false, cond, ◌==◌, ◌&&◌, not, is_some, List, []}
use Rattle.std.proofs.Common.{length, slice_get, get_or, set, refl, sym, ap, ◌∙◌, subst, arith, Option, Some, None}
use Rattle.std.proofs.Common.{Result, Err, true≢false, ◌||◌}
use Rattle.std.proofs.lemmas.List.Quantifiers.{position-Some}
use Rattle.std.proofs.lemmas.Option.{slice_get-get_or, slice_get_read, slice_get_within}
use Rattle.std.proofs.Common.{inl, inr}
use Rattle.std.proofs.lemmas.Bool.{and_parts}
use Rattle.std.proofs.lemmas.List.{set-get_or}
use Rattle.circular_buffer.specs.Buffer.{Buffer}
use Rattle.zone_spec.specs.Layouts.{IsLayout}
use Rattle.machine_spec.specs.Zones.{dump_zones}
use Rattle.machine_spec.specs.ZoneCalls.{begun}
use Rattle.machine_laws.proofs.Lists.{get-set}
use Rattle.prz_read.proofs.LimitedBoot.{span-is}
use Rattle.zone_spec.specs.declared.Zone.{Zone}
use Rattle.zone_spec.specs.declared.ZoneName.{ZoneName}
use Rattle.zone_spec.specs.declared.Kind.{Kind}
use Rattle.zone_spec.specs.declared.Kind.TheVariants.{Dump as DumpKind, Console, Ftrace, Pmsg}
use Rattle.zone_spec.specs.declared.Refusal.{Refusal}
use Rattle.zone_spec.specs.declared.Refusal.TheVariants.{Busy}
use Rattle.zone_spec.specs.Records.{is_of}
use Rattle.zone_spec.specs.Zones.{IsValidZone}
use Rattle.zone_spec.specs.Parts.{IsImage, standing_words}
use Rattle.zone_spec.specs.Ring.{IsRingForm}
use Rattle.zone_spec.specs.Calls.{CanBegin}
use Rattle.zone_spec.specs.Told.{Call}
use Rattle.zone_spec.specs.Layouts.{is_zone, zone_place}
use Rattle.machine_spec.specs.States.{Flight, LiveZone, LiveState, Live}
use Rattle.machine_spec.specs.LiveZones.{is_dump, flies_dump, with_zone}
use Rattle.machine_spec.specs.LiveCalls.{Ask, Append, Erase, Dump, call_of, begin}
use Rattle.machine_spec.specs.Operations.{Begin, answered, left_by}
use Rattle.machine_spec.specs.Sound.{Stands, IsLiveZone, IsState, IsAsk}
use Rattle.machine_laws.proofs.Targets.{open_ring}
use Rattle.machine_laws.proofs.TimeLines.{line_fits}
use Rattle.machine_laws.proofs.Operations.{operation-sound}
use Rattle.prz_region.specs.CutRegion.{CutRegion, span}
use Rattle.store_steps.specs.Flying.{Flying}
use Rattle.ramoops.specs.declared.zones.HeldZone.{HeldZone}
use Rattle.ramoops.specs.LiveSeen.{LiveSeen, StandsForSome, StandsForZone, StandsLive, Leaves}
use Rattle.ramoops.specs.Running.{IsHeld, IsRunning}
use Rattle.ramoops.specs.Places.{unless_dump, ring_at, place_asked, barred, flies_at}
use Rattle.ramoops.proofs.Changes.{Changes, changed_stands}
use Rattle.ramoops.proofs.Begun.{here, begin_is, begin_busy}

-- a machine stands for a state over its own layout
pub own : (layout : List Zone) (mem : ℕ) (v : LiveSeen) (s : LiveState) → StandsLive layout mem v s
    → StandsLive v.layout v.mem v s
own layout mem v s stands =
    subst (λ (l : List Zone). StandsLive l v.mem v s) (sym stands.same_layout)
    (subst (λ (m : ℕ). StandsLive layout m v s) (sym stands.same_mem) stands)

pub over : (layout : List Zone) (mem : ℕ) (v : LiveSeen) (s : LiveState) (Q : List Zone → ℕ → Type 0)
    → StandsLive layout mem v s → Q v.layout v.mem → Q layout mem
over layout mem v s Q stands q = subst (λ (m : ℕ). Q layout m) stands.same_mem
    (subst (λ (l : List Zone). Q l v.mem) stands.same_layout q)

-- no flight stands where nothing is in the way
none_flies : (b : Bool) (o : Option HeldZone) (h : HeldZone) → o ≡ Some h → (b || flies_at o) ≡ false → h.flight ≡ None
none_flies b o h e free = by b h.flight (ap (λ (p : Option HeldZone). b || flies_at p) (sym e) ∙ free)
  where
    by : (c : Bool) (p : Option Flying) → (c || is_some p) ≡ false → p ≡ None
    by true p k = absurd (true≢false k)
    by false None k = refl
    by false (Some f) k = absurd (true≢false k)

pub no_flight : (z : Zone) (bytes : List ℕ) (o : Option Flying) (p : Option Flight) → o ≡ None
    → StandsForSome z bytes o p
    → p ≡ None
no_flight z bytes None None e s = refl
no_flight z bytes None (Some f) e s = absurd s
no_flight z bytes (Some f) p e s = let n : ◌≡◌ {A = ℕ} 0 1 = cc in absurd (omega (arith, n))

pub same_kind : (k l : Kind) → is_of k l ≡ true → l ≡ k
same_kind DumpKind DumpKind e = refl
same_kind DumpKind Console e = absurd (true≢false (sym e))
same_kind DumpKind Ftrace e = absurd (true≢false (sym e))
same_kind DumpKind Pmsg e = absurd (true≢false (sym e))
same_kind Console DumpKind e = absurd (true≢false (sym e))
same_kind Console Console e = refl
same_kind Console Ftrace e = absurd (true≢false (sym e))
same_kind Console Pmsg e = absurd (true≢false (sym e))
same_kind Ftrace DumpKind e = absurd (true≢false (sym e))
same_kind Ftrace Console e = absurd (true≢false (sym e))
same_kind Ftrace Ftrace e = refl
same_kind Ftrace Pmsg e = absurd (true≢false (sym e))
same_kind Pmsg DumpKind e = absurd (true≢false (sym e))
same_kind Pmsg Console e = absurd (true≢false (sym e))
same_kind Pmsg Ftrace e = absurd (true≢false (sym e))
same_kind Pmsg Pmsg e = refl

-- a ring's place is not a dump zone's
ring_kind : (layout : List Zone) (o : Option ℕ) (i : ℕ) (z : Zone) → ring_at layout o ≡ Some i
    → slice_get layout i ≡ Some z → is_of DumpKind z.name.kind ≡ false
ring_kind layout None i z e h = let n : ◌≡◌ {A = ℕ} 0 1 = cc in absurd (omega (arith, n))
ring_kind layout (Some j) i z e h = by (slice_get layout j) refl e
  where
    by : (a : Option Zone) → slice_get layout j ≡ a → unless_dump j a ≡ Some i → is_of DumpKind z.name.kind ≡ false
    by None k e = let n : ◌≡◌ {A = ℕ} 0 1 = cc in absurd (omega (arith, n))
    by (Some y) k e = at (is_of DumpKind y.name.kind) refl e
      where
        at : (t : Bool) → is_of DumpKind y.name.kind ≡ t → cond t None (Some j) ≡ Some i
            → is_of DumpKind z.name.kind ≡ false
        at true d e = let n : ◌≡◌ {A = ℕ} 0 1 = cc in absurd (omega (arith, n))
        at false d e =
            let same : j ≡ i = cc in
            let zones : y ≡ z = (let g : Some y ≡ Some z = sym k ∙ ap (slice_get layout) same ∙ h in cc) in
            ap (λ (x : Zone). is_of DumpKind x.name.kind) (sym zones) ∙ d

-- a dump's place is a dump zone's
dump_kind : (layout : List Zone) (n i : ℕ) (z : Zone) → zone_place layout (record { kind = DumpKind; index = n })
    ≡ Some i → slice_get layout i ≡ Some z → z.name.kind ≡ DumpKind
dump_kind layout n i z e h =
    let name : ZoneName = record { kind = DumpKind; index = n } in
    let p = position-Some (is_zone name) layout i z e in
    let at : get_or layout i z ≡ z = (let g : Some (get_or layout i z)
    ≡ Some z = sym (slice_get-get_or layout i z p.0) ∙ h in cc) in
    let both : is_zone name z ≡ true = ap (is_zone name) (sym at) ∙ p.1 in
    same_kind DumpKind z.name.kind (and_parts (is_of DumpKind z.name.kind) (z.name.index == n) both).0

asked_dump : (layout : List Zone) (cursor i : ℕ) (z : Zone) (ask : Ask) → place_asked layout cursor ask ≡ Some i
    → slice_get layout i ≡ Some z → is_dump (call_of ask) ≡ true → z.name.kind ≡ DumpKind
asked_dump layout cursor i z (Append name payload) place h d = absurd (true≢false (sym d))
asked_dump layout cursor i z (Erase name) place h d = absurd (true≢false (sym d))
asked_dump layout cursor i z (Dump time packed body) place h d = dump_kind layout cursor i z place h

-- what a call needs of its zone
pub record Free (z : Zone) (bytes : List ℕ) (h : HeldZone) (ask : Ask) : Type 0 where
  pub valid : IsValidZone z
  pub image : IsImage z bytes
  pub ring : IsRingForm z bytes h.told.items
  pub idle : h.flight ≡ None
  pub can : CanBegin z bytes (call_of ask)

can_begin : (v : LiveSeen) (i : ℕ) (ask : Ask) (z : Zone) (bytes told : List ℕ) → IsValidZone z → IsAsk ask
    → place_asked v.layout v.cursor ask ≡ Some i → slice_get v.layout i ≡ Some z
    → IsRingForm z bytes told → CanBegin z bytes (call_of ask)
can_begin v i (Append name payload) z bytes told valid fit place h ring = (
  open_ring z.name.kind (standing_words z bytes) z.cap (ring_kind v.layout (zone_place v.layout name) i z place h)
      ring.is_open,
  fit,
)
can_begin v i (Erase name) z bytes told valid fit place h ring = tt
can_begin v i (Dump time packed body) z bytes told valid fit place h ring =
    let line = line_fits time packed fit.0 in (
      line.0,
      (let a = line.1 in let b = valid.room in omega (arith, a, b)),
      line.2,
      fit.1,
    )

-- a zone without a flight is in ring form with its told list, and its bytes are of its size
pub idle_ring : (v : LiveSeen) (i : ℕ) (z : Zone) (h : HeldZone) → IsRunning v → slice_get v.layout i ≡ Some z
    → slice_get v.zones i ≡ Some h → h.flight ≡ None
    → IsRingForm z (span v.spans i) h.told.items × IsImage z (span v.spans i)
idle_ring v i z h running ez eh idle =
    let at = here v.layout v.mem v running.state running.stands i (slice_get_within v.layout i z ez) in
    let same_z : at.zone ≡ z = (let g : Some at.zone ≡ Some z = sym at.of_layout ∙ ez in cc) in
    let same_h : at.held ≡ h = (let g : Some at.held ≡ Some h = sym at.of_held ∙ eh in cc) in
    let stands : StandsForZone z (span v.spans i) h at.live =
    subst (λ (y : Zone). StandsForZone y (span v.spans i) h at.live) same_z
    (subst (λ (g : HeldZone). StandsForZone at.zone (span v.spans i) g at.live) same_h at.stands_for) in
    let zone : IsLiveZone z at.live = running.sound.zones.1 i z at.live ez at.of_state in
    let none : at.live.flight ≡ None = no_flight z (span v.spans i) h.flight at.live.flight idle stands.flight in (
      subst (IsRingForm z (span v.spans i)) stands.told (subst (λ (b : List ℕ). IsRingForm z b at.live.told)
          stands.image (subst (Stands z at.live.image at.live.told) none zone.stands)),
      subst (IsImage z) stands.image zone.size,
    )

module _ (v : LiveSeen) (running : IsRunning v) (i : ℕ) (ask : Ask) (fit : IsAsk ask)
    (place : place_asked v.layout v.cursor ask ≡ Some i)
    (free : (barred v.layout v.zones ask || flies_at (slice_get v.zones i)) ≡ false) where
  -- the zone at the call's place is free for it
  pub free_zone : (z : Zone) (h : HeldZone) → slice_get v.layout i ≡ Some z → slice_get v.zones i ≡ Some h
      → Free z (span v.spans i) h ask
  free_zone z h ez eh =
      let idle : h.flight ≡ None = none_flies (barred v.layout v.zones ask) (slice_get v.zones i) h eh free in
      let ring = idle_ring v i z h running ez eh idle in
      let valid : IsValidZone z = (running.lies.valid i z ez).0 in
      record {
        valid = valid;
        image = ring.1;
        ring = ring.0;
        idle = idle;
        can = can_begin v i ask z (span v.spans i) h.told.items valid fit place ez ring.0;
      }

-- the same by what a call reads of the machine's fields
pub free_here : (v w : LiveSeen) (i : ℕ) (ask : Ask) (zs : List Zone) (d : Zone) (all : List (List ℕ))
    (bytes : List ℕ) (h : HeldZone) → v ≡ w → IsRunning v → IsAsk ask
    → place_asked w.layout w.cursor ask ≡ Some i → i < length w.layout
    → (barred w.layout w.zones ask || flies_at (slice_get w.zones i)) ≡ false
    → zs ≡ v.layout → all ≡ v.spans.spans → bytes ≡ get_or all i bytes → h ≡ get_or v.zones i h
    → Free (get_or zs i d) bytes h ask × (slice_get v.layout i ≡ Some (get_or zs i d))
    × (slice_get v.zones i ≡ Some h) × (bytes ≡ span v.spans i)
free_here v w i ask zs d all bytes h e running fit place below free ezs eall eb eh =
    let place' : place_asked v.layout v.cursor ask ≡ Some i =
    subst (λ (x : LiveSeen). place_asked x.layout x.cursor ask ≡ Some i) (sym e) place in
    let below' : i < length v.layout = subst (λ (x : LiveSeen). i < length x.layout) (sym e) below in
    let free' : (barred v.layout v.zones ask || flies_at (slice_get v.zones i)) ≡ false =
    subst (λ (x : LiveSeen). (barred x.layout x.zones ask || flies_at (slice_get x.zones i)) ≡ false) (sym e)
    free in
    let ez : slice_get v.layout i ≡ Some (get_or zs i d) =
    slice_get-get_or v.layout i d below' ∙ ap (λ (l : List Zone). Some (get_or l i d)) (sym ezs) in
    let gh : slice_get v.zones i ≡ Some h = slice_get_read v.zones (length v.zones) i h refl
    (let n = running.stands.kept in omega (arith, below', n)) eh in
    let gb : bytes ≡ span v.spans i = span-is v.spans i all bytes eall eb
    (let n = running.stands.spans in omega (arith, below', n)) in (
      subst (λ (b : List ℕ). Free (get_or zs i d) b h ask) (sym gb)
          (free_zone v running i ask fit place' free' (get_or zs i d) h ez gh),
      ez,
      gh,
      gb,
    )

-- after a change of one zone the machine stands for a sound state, if it stands for a state at all that is sound
pub runs_after : (v w : LiveSeen) (i : ℕ) (z : Zone) (bytes : List ℕ) (g : HeldZone) → IsRunning v
    → slice_get v.layout i ≡ Some z → Changes v w i bytes g → IsHeld z g
    → (next : LiveState) → StandsLive v.layout v.mem w next → IsState v.layout v.mem (Live next) → IsRunning w
runs_after v w i z bytes g running ez ch held next stands sound = record {
  lies = subst (λ (l : List Zone). IsLayout l w.mem) (sym ch.layout)
      (subst (IsLayout v.layout) (sym ch.mem) running.lies);
  held = λ j y k ey ek. by j y k (ap (λ (l : List Zone). slice_get l j) (sym ch.layout) ∙ ey)
      (ap (λ (hs : List HeldZone). slice_get hs j) (sym ch.zones) ∙ ek);
  state = next;
  stands = own v.layout v.mem w next stands;
  sound = subst (λ (l : List Zone). IsState l w.mem (Live next)) (sym ch.layout)
      (subst (λ (m : ℕ). IsState v.layout m (Live next)) (sym ch.mem) sound);
}
  where
    by : (j : ℕ) (y : Zone) (k : HeldZone) → slice_get v.layout j ≡ Some y → slice_get (set v.zones i g) j ≡ Some k
        → IsHeld y k
    by j y k ey ek = elim (get-set v.zones i j g k ek) [
      | inl a ↦ (let same : z ≡ y = (let n : Some z ≡ Some y = sym ez ∙ ap (slice_get v.layout) (sym a.0) ∙ ey in
          cc) in subst (λ (x : Zone). IsHeld x k) same (subst (IsHeld z) a.1 held))
      | inr o ↦ running.held j y k ey o.1
    ]

-- a span put in its own place changes nothing
pub same_span : (c : CutRegion) (i : ℕ) → set c.spans i (span c i) ≡ c.spans
same_span c i = set-get_or c.spans i []

-- ---- the machine after a call was begun
pub record Begun (v w : LiveSeen) (i : ℕ) (z : Zone) (h g : HeldZone) (ask : Ask) : Type 0 where
  pub changes : Changes v w i (span v.spans i) g
  pub cursor : w.cursor ≡ v.cursor
  pub told : g.told ≡ h.told
  pub flies : (f : Flying) → g.flight ≡ Some f → f.call ≡ call_of ask
  pub begun : (live : LiveZone) → StandsForZone z (span v.spans i) h live
      → StandsForZone z (span v.spans i) g (begun z (call_of ask) live)

-- an idle zone's change moves no cursor
pub still : (o : Option Flight) (p : Option Flight) → o ≡ None → (flies_dump o && not (is_some p)) ≡ false
still None p e = refl
still (Some f) p e = let n : ◌≡◌ {A = ℕ} 0 1 = cc in absurd (omega (arith, n))

module _ (v w : LiveSeen) (i : ℕ) (z : Zone) (h g : HeldZone) (ask : Ask) (idle : h.flight ≡ None)
    (place : place_asked v.layout v.cursor ask ≡ Some i)
    (free : (barred v.layout v.zones ask || flies_at (slice_get v.zones i)) ≡ false)
    (ez : slice_get v.layout i ≡ Some z) (eh : slice_get v.zones i ≡ Some h) (b : Begun v w i z h g ask) where
  begun_own : (s : LiveState) → StandsLive v.layout v.mem v s → Leaves v.layout v.mem (begin v.layout s ask) w
  begun_own s stands =
      let at = here v.layout v.mem v s stands i (slice_get_within v.layout i z ez) in
      let same_z : at.zone ≡ z = (let k : Some at.zone ≡ Some z = sym at.of_layout ∙ ez in cc) in
      let same_h : at.held ≡ h = (let k : Some at.held ≡ Some h = sym at.of_held ∙ eh in cc) in
      let zone : StandsForZone z (span v.spans i) h at.live =
      subst (λ (y : Zone). StandsForZone y (span v.spans i) h at.live) same_z
      (subst (λ (k : HeldZone). StandsForZone at.zone (span v.spans i) k at.live) same_h at.stands_for) in
      record {
        next = with_zone v.layout s i at.live (begun z (call_of ask) at.live);
        done = begin_is v.layout v.mem v s stands ask i z h at.live place ez eh at.of_state free;
        stands = changed_stands v.layout v.mem v w s i z (span v.spans i) g at.live (begun z (call_of ask) at.live)
            stands ez at.of_state b.changes (b.begun at.live zone)
            (b.cursor ∙ ap (λ (t : Bool). cond t ((v.cursor + 1) % dump_zones v.layout) v.cursor)
            (sym (still at.live.flight (begun z (call_of ask) at.live).flight
            (no_flight z (span v.spans i) h.flight at.live.flight idle zone.flight))));
      }

  -- every state for which it stood has the call begun
  pub begun_leaves : (layout : List Zone) (mem : ℕ) (s : LiveState) → StandsLive layout mem v s
      → Leaves layout mem (begin layout s ask) w
  begun_leaves layout mem s stands = over layout mem v s (λ l m. Leaves l m (begin l s ask) w) stands
      (begun_own s (own layout mem v s stands))

  -- and it stays one that stands for a sound state
  pub begun_runs : IsRunning v → IsAsk ask → IsRunning w
  begun_runs running fit =
      let after = begun_own running.state running.stands in
      let sound : IsState v.layout v.mem (Live after.next) =
      subst (λ (r : Result LiveState Refusal). IsState v.layout v.mem (left_by (Live running.state) (answered r)))
      after.done
      (operation-sound v.layout v.mem running.lies (Live running.state) (Begin ask) fit running.sound) in
      runs_after v w i z (span v.spans i) g running ez b.changes (record {
        room = ap (λ (t : Buffer ℕ). t.capacity) b.told ∙ (running.held i z h ez eh).room;
        dump = λ f e d. asked_dump v.layout v.cursor i z ask place ez (ap is_dump (sym (b.flies f e)) ∙ d);
      }) after.next after.stands sound

-- the same by what a call reads of the machine's fields, where the i-th zone has become g
pub started : (v x : LiveSeen) (i : ℕ) (ask : Ask) (call : Call) (zs : List Zone) (d : Zone) (all : List (List ℕ))
    (bytes : List ℕ) (h g : HeldZone) → v ≡ x → IsRunning v → IsAsk ask
    → place_asked x.layout x.cursor ask ≡ Some i → i < length x.layout
    → (barred x.layout x.zones ask || flies_at (slice_get x.zones i)) ≡ false
    → zs ≡ v.layout → all ≡ v.spans.spans → bytes ≡ get_or all i bytes → h ≡ get_or v.zones i h → call ≡ call_of ask
    → g.told ≡ h.told → ((f : Flying) → g.flight ≡ Some f → f.call ≡ call)
    → ((live : LiveZone) → StandsForZone (get_or zs i d) bytes h live
    → StandsForZone (get_or zs i d) bytes g (begun (get_or zs i d) call live))
    → let w : LiveSeen = record v { zones = set v.zones i g } in
    IsRunning w × ((layout : List Zone) (mem : ℕ) (s : LiveState) → StandsLive layout mem x s
    → Leaves layout mem (begin layout s ask) w)
started v x i ask call zs d all bytes h g e running fit place below free ezs eall eb eh ec told flies step =
    let z : Zone = get_or zs i d in
    let w : LiveSeen = record v { zones = set v.zones i g } in
    let f = free_here v x i ask zs d all bytes h e running fit place below free ezs eall eb eh in
    let place' : place_asked v.layout v.cursor ask ≡ Some i =
    subst (λ (y : LiveSeen). place_asked y.layout y.cursor ask ≡ Some i) (sym e) place in
    let free' : (barred v.layout v.zones ask || flies_at (slice_get v.zones i)) ≡ false =
    subst (λ (y : LiveSeen). (barred y.layout y.zones ask || flies_at (slice_get y.zones i)) ≡ false) (sym e)
    free in
    let b : Begun v w i z h g ask = record {
      changes = record { layout = refl; mem = refl; spans = sym (same_span v.spans i); rest = refl; zones = refl };
      cursor = refl;
      told = told;
      flies = λ k n. flies k n ∙ ec;
      begun = subst (λ (c : Call). (live : LiveZone) → StandsForZone z (span v.spans i) h live
          → StandsForZone z (span v.spans i) g (begun z c live)) ec
          (subst (λ (y : List ℕ). (live : LiveZone) → StandsForZone z y h live
          → StandsForZone z y g (begun z call live)) f.3 step);
    } in (
      begun_runs v w i z h g ask f.0.idle place' free' f.1 f.2 b running fit,
      λ layout mem s stands. begun_leaves v w i z h g ask f.0.idle place' free' f.1 f.2 b layout mem s
          (subst (λ (y : LiveSeen). StandsLive layout mem y s) (sym e) stands),
    )

-- a call in whose way a flight stands is refused
pub begun_busy : (v : LiveSeen) (i : ℕ) (ask : Ask) → place_asked v.layout v.cursor ask ≡ Some i → i < length v.layout
    → (barred v.layout v.zones ask || flies_at (slice_get v.zones i)) ≡ true
    → (layout : List Zone) (mem : ℕ) (s : LiveState) → StandsLive layout mem v s → begin layout s ask ≡ Err Busy
begun_busy v i ask place below taken layout mem s stands =
    over layout mem v s (λ l m. begin l s ask ≡ Err Busy) stands (by (own layout mem v s stands))
  where
    by : StandsLive v.layout v.mem v s → begin v.layout s ask ≡ Err Busy
    by stands =
        let at = here v.layout v.mem v s stands i below in
        begin_busy v.layout v.mem v s stands ask i at.zone at.held at.live place at.of_layout at.of_held at.of_state
        taken
