-- A log appended in a zone that is told nothing yet
use Rattle.std.proofs.Common.{◌≡◌, ℕ, zero, suc, ◌+◌, ◌%◌, ◌<◌, ◌≤◌, Bool, true, false, cond, not, ◌&&◌, ◌==◌, is_some}
use Rattle.std.proofs.Common.{List, [], ◌∷◌, length, slice_get, get_or, set, refl, sym, ap, ap₂, ◌∙◌, subst, arith}
use Rattle.std.proofs.Common.{Option, Some, None, true≢false, eqb-true}
use Rattle.std.proofs.lemmas.Option.{slice_get-get_or, slice_get_read, slice_get_within}
use Rattle.std.proofs.Math.Bool.{and-false}
use Rattle.std.proofs.lemmas.List.{nil_from_length}
use Rattle.circular_buffer.specs.Buffer.{Buffer}
use Rattle.zone_spec.specs.declared.Zone.{Zone}
use Rattle.zone_spec.specs.Zones.{IsValidZone}
use Rattle.zone_spec.specs.Parts.{IsImage, AreBytes, standing_words}
use Rattle.zone_spec.specs.Ring.{IsRingForm, IsOpen}
use Rattle.zone_spec.specs.Calls.{CanBegin, call_stores}
use Rattle.zone_spec.specs.Told.{Call, Append}
use Rattle.machine_spec.specs.Zones.{dump_zones}
use Rattle.machine_spec.specs.States.{Flight, LiveZone, LiveState}
use Rattle.machine_spec.specs.ZoneCalls.{begun, finished}
use Rattle.machine_spec.specs.LiveZones.{is_dump, flies_dump, with_zone}
use Rattle.machine_spec.specs.Moved.{is_blank, with_log}
use Rattle.machine_spec.specs.Sound.{IsLiveZone}
use Rattle.machine_laws.proofs.Zones.{begun-sound}
use Rattle.machine_laws.proofs.LiveStates.{with_zone-sound}
use Rattle.prz_read.proofs.LimitedBoot.{span-is}
use Rattle.prz_region.specs.CutRegion.{span}
use Rattle.store_steps.specs.Flying.{Flying}
use Rattle.ramoops.specs.declared.zones.HeldZone.{HeldZone}
use Rattle.ramoops.specs.LiveSeen.{LiveSeen, StandsForZone, StandsLive, ChangesZone}
use Rattle.ramoops.specs.Running.{IsRunning}
use Rattle.ramoops.specs.Refilling.{IsBlankAt, SaysBlank}
use Rattle.ramoops.proofs.Changes.{Changes, changed_stands}
use Rattle.ramoops.proofs.Begun.{here}
use Rattle.ramoops.proofs.CallPremises.{own, over, no_flight, still, idle_ring, runs_after, same_span}
use Rattle.ramoops.proofs.StepStates.{held_here}

-- ---- a blank zone

open_empty : (z : Zone) (bytes told : List ℕ) → IsValidZone z → IsRingForm z bytes told → told ≡ []
    → IsOpen (standing_words z bytes) z.cap
open_empty z bytes told valid ring none =
    let size : (standing_words z bytes).size ≡ 0 = ring.told_length ∙ ap length none in
    let below : (standing_words z bytes).start ≤ (standing_words z bytes).size = ring.ring.0 in
    (omega (arith, size, below, valid.cap), λ h. omega (arith, size, below))

-- what an append needs of its zone
pub record Blank (z : Zone) (bytes log : List ℕ) (h : HeldZone) : Type 0 where
  pub valid : IsValidZone z
  pub image : IsImage z bytes
  pub ring : IsRingForm z bytes h.told.items
  pub idle : h.flight ≡ None
  pub can : CanBegin z bytes (Append log)

blank_zone : (v : LiveSeen) (i : ℕ) (z : Zone) (h : HeldZone) (log : List ℕ) → IsRunning v → AreBytes log
    → (h.flight ≡ None) × (h.told.items ≡ []) → slice_get v.layout i ≡ Some z → slice_get v.zones i ≡ Some h
    → Blank z (span v.spans i) log h
blank_zone v i z h log running bytes blank ez eh =
    let ring = idle_ring v i z h running ez eh blank.0 in
    let valid : IsValidZone z = (running.lies.valid i z ez).0 in
    record {
      valid = valid;
      image = ring.1;
      ring = ring.0;
      idle = blank.0;
      can = (open_empty z (span v.spans i) h.told.items valid ring.0 blank.1, bytes);
    }

-- the same by what is read of the machine's fields
pub blank_here : (v w : LiveSeen) (i : ℕ) (log : List ℕ) (zs : List Zone) (d : Zone) (all : List (List ℕ))
    (bytes : List ℕ) (h : HeldZone) → v ≡ w → IsRunning v → AreBytes log → i < length w.layout → IsBlankAt i w
    → zs ≡ v.layout → all ≡ v.spans.spans → bytes ≡ get_or all i bytes → h ≡ get_or v.zones i h
    → Blank (get_or zs i d) bytes log h × (slice_get v.layout i ≡ Some (get_or zs i d))
    × (slice_get v.zones i ≡ Some h) × (bytes ≡ span v.spans i)
blank_here v w i log zs d all bytes h e running fit below blank ezs eall eb eh =
    let below' : i < length v.layout = subst (λ (x : LiveSeen). i < length x.layout) (sym e) below in
    let ez : slice_get v.layout i ≡ Some (get_or zs i d) =
    slice_get-get_or v.layout i d below' ∙ ap (λ (l : List Zone). Some (get_or l i d)) (sym ezs) in
    let gh : slice_get v.zones i ≡ Some h = slice_get_read v.zones (length v.zones) i h refl
    (let n = running.stands.kept in omega (arith, below', n)) eh in
    let gb : bytes ≡ span v.spans i = span-is v.spans i all bytes eall eb
    (let n = running.stands.spans in omega (arith, below', n)) in
    let none : (h.flight ≡ None) × (h.told.items ≡ []) =
    blank h (ap (λ (x : LiveSeen). slice_get x.zones i) (sym e) ∙ gh) in (
      subst (λ (b : List ℕ). Blank (get_or zs i d) b log h) (sym gb)
          (blank_zone v i (get_or zs i d) h log running fit none ez gh),
      ez,
      gh,
      gb,
    )

-- ---- the append begun

-- the machine after it
record LogBegun (v w : LiveSeen) (i : ℕ) (z : Zone) (h g : HeldZone) (log : List ℕ) : Type 0 where
  changes : Changes v w i (span v.spans i) g
  cursor : w.cursor ≡ v.cursor
  told : g.told ≡ h.told
  flies : (f : Flying) → g.flight ≡ Some f → f.call ≡ Append log
  begins : (live : LiveZone) → StandsForZone z (span v.spans i) h live
      → StandsForZone z (span v.spans i) g (begun z (Append log) live)

module _ (v w : LiveSeen) (i : ℕ) (z : Zone) (h g : HeldZone) (log : List ℕ) (idle : h.flight ≡ None)
    (ez : slice_get v.layout i ≡ Some z) (eh : slice_get v.zones i ≡ Some h) (b : LogBegun v w i z h g log) where
  stands_begun : (s : LiveState) (live : LiveZone) → StandsLive v.layout v.mem v s → slice_get s.zones i ≡ Some live
      → StandsLive v.layout v.mem w (with_zone v.layout s i live (begun z (Append log) live))
  stands_begun s live stands el =
      let at = here v.layout v.mem v s stands i (slice_get_within v.layout i z ez) in
      let zone : StandsForZone z (span v.spans i) h live =
      stands.zones i z (span v.spans i) h live ez at.of_spans eh el in
      changed_stands v.layout v.mem v w s i z (span v.spans i) g live (begun z (Append log) live)
      stands ez el b.changes (b.begins live zone)
      (b.cursor ∙ ap (λ (t : Bool). cond t ((v.cursor + 1) % dump_zones v.layout) v.cursor)
      (sym (still live.flight (begun z (Append log) live).flight
      (no_flight z (span v.spans i) h.flight live.flight idle zone.flight))))

  log_changes : ChangesZone (λ y live. begun y (Append log) live) i v w
  log_changes layout mem s y live stands ey el =
      let o = own layout mem v s stands in
      let same : z ≡ y = (let k : Some z ≡ Some y = sym ez ∙ ap (λ (l : List Zone). slice_get l i) stands.same_layout
      ∙ ey in cc) in
      subst (λ (x : Zone). StandsLive layout mem w (with_zone layout s i live (begun x (Append log) live))) same
      (over layout mem v s (λ l m. StandsLive l m w (with_zone l s i live (begun z (Append log) live))) stands
      (stands_begun s live o el))

  log_runs : IsRunning v → Blank z (span v.spans i) log h → IsRunning w
  log_runs running blank =
      let at = here v.layout v.mem v running.state running.stands i (slice_get_within v.layout i z ez) in
      let zone : StandsForZone z (span v.spans i) h at.live =
      running.stands.zones i z (span v.spans i) h at.live ez at.of_spans eh at.of_state in
      let none : at.live.flight ≡ None = no_flight z (span v.spans i) h.flight at.live.flight idle zone.flight in
      let sound : IsLiveZone z at.live = running.sound.zones.1 i z at.live ez at.of_state in
      let can : CanBegin z at.live.image (Append log) =
      subst (λ (x : List ℕ). CanBegin z x (Append log)) (sym zone.image) blank.can in
      let new : IsLiveZone z (begun z (Append log) at.live) =
      begun-sound z blank.valid at.live (Append log) sound none can in
      runs_after v w i z (span v.spans i) g running ez b.changes (record {
        room = ap (λ (t : Buffer ℕ). t.capacity) b.told ∙ (running.held i z h ez eh).room;
        dump = λ f e d. absurd (true≢false (sym d ∙ ap is_dump (b.flies f e)));
      }) (with_zone v.layout running.state i at.live (begun z (Append log) at.live))
      (stands_begun running.state at.live running.stands at.of_state)
      (with_zone-sound v.layout v.mem running.lies running.state
      (record { place = i; zone = z; live = at.live }) (begun z (Append log) at.live) running.sound
      (ez, at.of_state) new)

-- the same by what is read of the machine's fields, where the i-th zone has become g
pub log_started : (v x : LiveSeen) (i : ℕ) (log : List ℕ) (call : Call) (zs : List Zone) (d : Zone)
    (all : List (List ℕ)) (bytes : List ℕ) (h g : HeldZone) → v ≡ x → IsRunning v → AreBytes log
    → i < length x.layout → IsBlankAt i x → zs ≡ v.layout → all ≡ v.spans.spans → bytes ≡ get_or all i bytes
    → h ≡ get_or v.zones i h → call ≡ Append log
    → g.told ≡ h.told → ((f : Flying) → g.flight ≡ Some f → f.call ≡ call)
    → ((live : LiveZone) → StandsForZone (get_or zs i d) bytes h live
    → StandsForZone (get_or zs i d) bytes g (begun (get_or zs i d) call live))
    → let w : LiveSeen = record v { zones = set v.zones i g } in
    IsRunning w × ChangesZone (λ z live. begun z (Append log) live) i x w
log_started v x i log call zs d all bytes h g e running fit below blank ezs eall eb eh ec told flies step =
    let z : Zone = get_or zs i d in
    let w : LiveSeen = record v { zones = set v.zones i g } in
    let f = blank_here v x i log zs d all bytes h e running fit below blank ezs eall eb eh in
    let b : LogBegun v w i z h g log = record {
      changes = record { layout = refl; mem = refl; spans = sym (same_span v.spans i); rest = refl; zones = refl };
      cursor = refl;
      told = told;
      flies = λ k n. flies k n ∙ ec;
      begins = subst (λ (c : Call). (live : LiveZone) → StandsForZone z (span v.spans i) h live
          → StandsForZone z (span v.spans i) g (begun z c live)) ec
          (subst (λ (y : List ℕ). (live : LiveZone) → StandsForZone z y h live
          → StandsForZone z y g (begun z call live)) f.3 step);
    } in (
      log_runs v w i z h g log f.0.idle f.1 f.2 b running
          (subst (λ (y : List ℕ). Blank z y log h) f.3 f.0),
      λ layout mem s y live stands. log_changes v w i z h g log f.0.idle f.1 f.2 b layout mem s y live
          (subst (λ (u : LiveSeen). StandsLive layout mem u s) (sym e) stands),
    )

-- ---- whether a zone is blank

none_flies : (o : Option Flying) → is_some o ≡ false → o ≡ None
none_flies None e = refl
none_flies (Some f) e = absurd (true≢false e)

pub says_blank : (v x : LiveSeen) (i : ℕ) (h : HeldZone) (says : Bool) → i < length x.layout → v ≡ x → IsRunning v
    → h ≡ get_or v.zones i h → says ≡ (not (is_some h.flight) && (length h.told.items == 0)) → SaysBlank i x says
says_blank v x i h says below e running eh is = record {
  blank = λ yes k ek.
      let gh : slice_get x.zones i ≡ Some h = ap (λ (y : LiveSeen). slice_get y.zones i) (sym e)
      ∙ slice_get_read v.zones (length v.zones) i h refl
      (slice_get_within v.zones i k (ap (λ (y : LiveSeen). slice_get y.zones i) e ∙ ek)) eh in
      let same : h ≡ k = (let g : Some h ≡ Some k = sym gh ∙ ek in cc) in
      subst (λ (y : HeldZone). (y.flight ≡ None) × (y.told.items ≡ [])) same
      (both (is_some h.flight) refl (sym is ∙ yes));
  same = λ layout mem s z live stands ez el.
      let o = own layout mem x s stands in
      let at = here x.layout x.mem x s o i below in
      let told = held_here v x i below h e eh s o in
      let same_l : at.live ≡ live = (let k : Some at.live ≡ Some live = sym at.of_state ∙ el in cc) in
      ap is_blank (sym same_l)
      ∙ ap₂ (λ (b : Bool) (n : ℕ). not b && (n == 0)) told.flies (ap length told.told) ∙ sym is;
}
  where
    both : (b : Bool) → is_some h.flight ≡ b → (not (is_some h.flight) && (length h.told.items == 0)) ≡ true
        → (h.flight ≡ None) × (h.told.items ≡ [])
    both true eb t = absurd (true≢false (sym (rw eb at t)))
    both false eb t = (
      none_flies h.flight eb,
      nil_from_length h.told.items (let r : (length h.told.items == 0) ≡ true = rw eb at t in eqb-true _ _ r),
    )

-- ---- the whole append

set_again : {X : Type 0} (xs : List X) (i : ℕ) (x y : X) → set (set xs i x) i y ≡ set xs i y
set_again [] i x y = refl
set_again (z ∷ zs) zero x y = refl
set_again {X = X} (z ∷ zs) (suc i) x y = ap (λ (ys : List X). z ∷ ys) (set_again zs i x y)

set_here : {X : Type 0} (xs : List X) (i : ℕ) (x : X) → slice_get xs i ≡ Some x → set xs i x ≡ xs
set_here [] i x e = refl
set_here {X = X} (z ∷ zs) zero x e = let same : z ≡ x = cc in ap (λ (y : X). y ∷ zs) (sym same)
set_here {X = X} (z ∷ zs) (suc i) x e = ap (λ (ys : List X). z ∷ ys) (set_here zs i x e)

get_set : {X : Type 0} (xs : List X) (i : ℕ) (x y : X) → slice_get xs i ≡ Some x → slice_get (set xs i y) i ≡ Some y
get_set [] i x y e = let n : None ≡ Some x = e in cc
get_set (z ∷ zs) zero x y e = refl
get_set (z ∷ zs) (suc i) x y e = get_set zs i x y e

-- an append moves no cursor
no_turn : (o p : Option Flight) → o ≡ None → (flies_dump o && not (is_some p)) ≡ false
no_turn None p e = refl
no_turn (Some f) p e = let n : None ≡ Some f = sym e in cc

begun_turn : (z : Zone) (log : List ℕ) (live : LiveZone) (o : Option Flight) (t : Bool) → live.flight ≡ None
    → (flies_dump (cond t live (record live {
      flight = Some (record
          { image = live.image; call = Append log; made = 0 });
    })).flight && not (is_some o)) ≡ false
begun_turn z log live o true e = no_turn live.flight o e
begun_turn z log live o false e = refl

zone_twice : (layout : List Zone) (s : LiveState) (i : ℕ) (a b c : LiveZone)
    → (flies_dump a.flight && not (is_some b.flight)) ≡ false → (flies_dump a.flight && not (is_some c.flight)) ≡ false
    → (flies_dump b.flight && not (is_some c.flight)) ≡ false
    → with_zone layout (with_zone layout s i a b) i b c ≡ with_zone layout s i a c
zone_twice layout s i a b c ab ac bc = rw (ab, ac, bc, set_again s.zones i b c) refl

blank_idle : (live : LiveZone) → is_blank live ≡ true → live.flight ≡ None
blank_idle live e = by live.flight e
  where
    by : (o : Option Flight) → (not (is_some o) && (length live.told == 0)) ≡ true → o ≡ None
    by None h = refl
    by (Some f) h = absurd (true≢false (sym h))

pub log_added : (u v w : LiveSeen) (i : ℕ) (log : List ℕ) → SaysBlank i u true
    → ChangesZone (λ z live. begun z (Append log) live) i u v → ChangesZone (λ z live. finished z live) i v w
    → ChangesZone (λ z live. with_log z live log) i u w
log_added u v w i log says begins ends layout mem s z live stands ez el =
    let blank : is_blank live ≡ true = says.same layout mem s z live stands ez el in
    let idle : live.flight ≡ None = blank_idle live blank in
    let b : LiveZone = begun z (Append log) live in
    let mid : StandsLive layout mem v (with_zone layout s i live b) = begins layout mem s z live stands ez el in
    let end : StandsLive layout mem w (with_zone layout (with_zone layout s i live b) i b (finished z b)) =
    ends layout mem (with_zone layout s i live b) z b mid ez (get_set s.zones i live b el) in
    let whole : StandsLive layout mem w (with_zone layout s i live (finished z b)) =
    subst (λ (x : LiveState). StandsLive layout mem w x)
    (zone_twice layout s i live b (finished z b) (no_turn live.flight b.flight idle)
    (no_turn live.flight (finished z b).flight idle)
    (begun_turn z log live (finished z b).flight (length (call_stores z (Append log) live.image) == 0) idle)) end in
    subst (λ (t : Bool). StandsLive layout mem w (with_zone layout s i live (cond t (finished z b) live))) (sym blank)
    whole

none_turns : (o : Option Flight) → (flies_dump o && not (is_some o)) ≡ false
none_turns None = refl
none_turns (Some f) = and-false (flies_dump (Some f))

pub log_left : (u : LiveSeen) (i : ℕ) (log : List ℕ) → SaysBlank i u false
    → ChangesZone (λ z live. with_log z live log) i u u
log_left u i log says layout mem s z live stands ez el =
    let taken : is_blank live ≡ false = says.same layout mem s z live stands ez el in
    subst (λ (t : Bool). StandsLive layout mem u (with_zone layout s i live
    (cond t (finished z (begun z (Append log) live)) live))) (sym taken)
    (subst (λ (x : LiveState). StandsLive layout mem u x) (sym same) stands)
  where
    same : with_zone layout s i live live ≡ s
    same = rw (none_turns live.flight, set_here s.zones i live el) refl

pub blank_tells : (o : Option Flying) (n m : ℕ) → is_some o ≡ false → n ≡ m
    → (n == 0) ≡ (not (is_some o) && (m == 0))
blank_tells None n m e same = ap (λ (k : ℕ). k == 0) same
blank_tells (Some f) n m e same = absurd (true≢false e)

pub flying_tells : (o : Option Flying) (m : ℕ) → is_some o ≡ true → false ≡ (not (is_some o) && (m == 0))
flying_tells None m e = absurd (true≢false (sym e))
flying_tells (Some f) m e = refl
