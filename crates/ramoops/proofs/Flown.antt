-- The next stores of a flight in the machine are those of the state for which it stands
use Rattle.std.proofs.Common.{◌≡◌, ℕ, zero, suc, ◌+◌, ◌%◌, ◌<◌, ◌≤◌, Bool, true, false, cond, ◌&&◌, not, is_some, List}
use Rattle.std.proofs.Common.{[], ◌∷◌, length, slice_get, get_or, set, filter, refl, sym, ap, ◌∙◌, subst, arith, Option}
use Rattle.std.proofs.Common.{Some, None, true≢false}
use Rattle.std.proofs.lemmas.List.Sums.{length-filter}
use Rattle.std.proofs.lemmas.Option.{slice_get-get_or, slice_get_read, slice_get_within}
use Rattle.std.proofs.lemmas.Bool.{and_parts}
use Rattle.circular_buffer.proofs.Places.{slice_get-set_same}
use Rattle.ramoops.specs.Places.{flies_at}
use Rattle.zone_spec.specs.declared.Zone.{Zone}
use Rattle.zone_spec.specs.declared.Kind.TheVariants.{Dump as DumpKind}
use Rattle.zone_spec.specs.Records.{is_of}
use Rattle.machine_spec.specs.Zones.{dump_zones}
use Rattle.machine_spec.specs.States.{Flight, LiveZone, LiveState}
use Rattle.machine_spec.specs.ZoneCalls.{stepped}
use Rattle.machine_spec.specs.LiveZones.{is_dump, flies_dump, with_zone}
use Rattle.machine_spec.specs.Sound.{Stands, IsLiveZone}
use Rattle.machine_laws.proofs.Zones.{stepped-sound}
use Rattle.machine_laws.proofs.LiveStates.{with_zone-sound}
use Rattle.prz_region.specs.CutRegion.{CutRegion, span, stored}
use Rattle.store_steps.specs.Flying.{Flying}
use Rattle.ramoops.specs.declared.zones.HeldZone.{HeldZone}
use Rattle.ramoops.specs.declared.zones.Stored.{Stored}
use Rattle.ramoops.specs.LiveSeen.{LiveSeen, StandsForSome, StandsForZone, StandsLive, StoresNext}
use Rattle.ramoops.specs.Made.{StoresIn, MakesStores, next_stores}
use Rattle.ramoops.specs.Running.{IsHeld, IsRunning}
use Rattle.ramoops.specs.Storing.{CanStore, HasParity, is_next, is_last_of_dump}
use Rattle.ramoops.specs.Cursors.{cursor_after}
use Rattle.ramoops.proofs.Changes.{Changes, changed_stands, only_span}
use Rattle.ramoops.proofs.Begun.{here}
use Rattle.ramoops.proofs.FlightStores.{flight_total}
use Rattle.ramoops.proofs.CallPremises.{own, over, runs_after}

can_by : (z : Zone) (live : LiveZone) (o : Option Flying) (p : Option Flight) (bytes : List ℕ) → IsLiveZone z live
    → live.image ≡ bytes → Stands z live.image live.told p → StandsForSome z bytes o p → CanStore bytes o
can_by z live None p bytes sound image stands s = tt
can_by z live (Some f) None bytes sound image stands s = absurd s
can_by z live (Some f) (Some g) bytes sound image stands s = (
  let a = s.made in let b = flight_total z bytes f g s in let c = stands.left in omega (arith, a, b, c),
  ap length (sym image)
      ∙ sound.size.0 ∙ ap (λ (y : Zone). y.size) (sym s.zone),
)

parity_by : (z : Zone) (bytes : List ℕ) (o : Option Flying) (p : Option Flight) (n : ℕ) → StandsForSome z bytes o p
    → n ≡ z.parity → HasParity n o
parity_by z bytes None p n s e = tt
parity_by z bytes (Some f) None n s e = absurd s
parity_by z bytes (Some f) (Some g) n s e = e ∙ ap (λ (y : Zone). y.parity) (sym s.zone)

-- a layout with a dump zone has some
filter_some : (p : Zone → Bool) (zs : List Zone) (i : ℕ) (z : Zone) → slice_get zs i ≡ Some z → p z ≡ true
    → 0 < length (filter p zs)
filter_some p [] i z e k = let n : ◌≡◌ {A = ℕ} 0 1 = cc in absurd (omega (arith, n))
filter_some p (y ∷ ys) zero z e k = let same : y ≡ z = cc in rw (ap p same ∙ k) (omega arith)
filter_some p (y ∷ ys) (suc i) z e k = by (p y) (filter_some p ys i z e k)
  where
    by : (t : Bool) → 0 < length (filter p ys) → 0 < length (cond t (y ∷ filter p ys) (filter p ys))
    by true n = omega arith
    by false n = n

some_dump : (layout : List Zone) (i : ℕ) (z : Zone) → slice_get layout i ≡ Some z → z.name.kind ≡ DumpKind
    → 0 < dump_zones layout
some_dump layout i z e k =
    let n = length-filter (λ (y : Zone). is_of DumpKind y.name.kind) layout in
    let m = filter_some (λ (y : Zone). is_of DumpKind y.name.kind) layout i z e (ap (is_of DumpKind) k) in
    subst (λ (x : ℕ). 0 < x) n m

-- a flight is a dump's where that of the machine is
dump_of : (z : Zone) (bytes : List ℕ) (o : Option Flying) (p : Option Flight) (b : Bool) → StandsForSome z bytes o p
    → (flies_dump p && b) ≡ true → (f : Flying) × (o ≡ Some f) × (is_dump f.call ≡ true)
dump_of z bytes None None b s e = absurd (true≢false (sym e))
dump_of z bytes None (Some g) b s e = absurd s
dump_of z bytes (Some f) None b s e = absurd s
dump_of z bytes (Some f) (Some g) b s e = (f, refl, ap is_dump s.call ∙ (and_parts (is_dump g.call) b e).0)

next_some : (o : Option Stored) → is_next o ≡ true → is_some o ≡ true
next_some None e = absurd (true≢false (sym e))
next_some (Some s) e = refl

some_is : {X : Type 0} (o : Option X) → is_some o ≡ true → (x : X) × (o ≡ Some x)
some_is None e = absurd (true≢false (sym e))
some_is (Some x) e = (x, refl)

module _ (v : LiveSeen) (running : IsRunning v) (i : ℕ) (z : Zone) (h : HeldZone) (ez : slice_get v.layout i ≡ Some z)
    (eh : slice_get v.zones i ≡ Some h) where
  -- what stands at the place in a state for which the machine stands
  zone_here : (s : LiveState) (live : LiveZone) → StandsLive v.layout v.mem v s → slice_get s.zones i ≡ Some live
      → StandsForZone z (span v.spans i) h live
  zone_here s live stands el =
      let below : i < length v.spans.spans = (let w = slice_get_within v.layout i z ez in let n = stands.spans in
      omega (arith, w, n)) in
      stands.zones i z (span v.spans i) h live ez (slice_get-get_or v.spans.spans i [] below) eh el

  -- stores are left of a flight, and the told list has room for a time line
  pub can_store : CanStore (span v.spans i) h.flight × (36 ≤ h.told.capacity)
  can_store =
      let at = here v.layout v.mem v running.state running.stands i (slice_get_within v.layout i z ez) in
      let zone = running.sound.zones.1 i z at.live ez at.of_state in
      let stands = zone_here running.state at.live running.stands at.of_state in (
        can_by z at.live h.flight at.live.flight (span v.spans i) zone stands.image zone.stands stands.flight,
        (let a = (running.lies.valid i z ez).0.room in let b = (running.held i z h ez eh).room in omega (arith, a, b)),
      )

  -- an encoder for the zone is one for its flight
  pub has_parity : (n : ℕ) → n ≡ z.parity → HasParity n h.flight
  has_parity n e =
      let at = here v.layout v.mem v running.state running.stands i (slice_get_within v.layout i z ez) in
      let stands = zone_here running.state at.live running.stands at.of_state in
      parity_by z (span v.spans i) h.flight at.live.flight n stands.flight e

  -- the machine after k stores
  pub record Stores (k : ℕ) (w : LiveSeen) (bytes : List ℕ) (g : HeldZone) (r : Option Stored) : Type 0 where
    pub changes : Changes v w i bytes g
    pub flies : is_some h.flight ≡ is_some r
    pub goes_on : is_some g.flight ≡ is_next r
    pub same_call : (f e : Flying) → h.flight ≡ Some f → g.flight ≡ Some e → e.call ≡ f.call
    pub capacity : g.told.capacity ≡ h.told.capacity
    pub stored : (y : Zone) (live : LiveZone) → h.told.capacity ≡ y.cap → StandsForZone y (span v.spans i) h live
        → StandsForZone y bytes g (stepped y k live)
    pub last : (y : Zone) (live : LiveZone) → StandsForZone y (span v.spans i) h live
        → (flies_dump live.flight && not (is_some (stepped y k live).flight)) ≡ is_last_of_dump r
    pub turned : w.cursor ≡ cursor_after v.layout r v.cursor

  -- a dump's last store is in a layout with dump zones
  pub dumps : (k : ℕ) (r : Option Stored) → ((y : Zone) (live : LiveZone) → StandsForZone y (span v.spans i) h live
      → (flies_dump live.flight && not (is_some (stepped y k live).flight)) ≡ is_last_of_dump r)
      → is_last_of_dump r ≡ true → 0 < dump_zones v.layout
  dumps k r last e =
      let at = here v.layout v.mem v running.state running.stands i (slice_get_within v.layout i z ez) in
      let stands = zone_here running.state at.live running.stands at.of_state in
      let f = dump_of z (span v.spans i) h.flight at.live.flight (not (is_some (stepped z k at.live).flight))
      stands.flight (last z at.live stands ∙ e) in
      some_dump v.layout i z ez ((running.held i z h ez eh).dump f.0 f.1 f.2)

  module _ (k : ℕ) (w : LiveSeen) (bytes : List ℕ) (g : HeldZone) (r : Option Stored) (st : Stores k w bytes g r)
    where
      stored_own : (s : LiveState) (live : LiveZone) → StandsLive v.layout v.mem v s → slice_get s.zones i ≡ Some live
          → StandsLive v.layout v.mem w (with_zone v.layout s i live (stepped z k live))
      stored_own s live stands el =
          let zone = zone_here s live stands el in
          changed_stands v.layout v.mem v w s i z bytes g live (stepped z k live) stands ez el st.changes
          (st.stored z live (running.held i z h ez eh).room zone)
          (st.turned ∙ ap (λ (t : Bool). cond t ((v.cursor + 1) % dump_zones v.layout) v.cursor)
          (sym (st.last z live zone)))

      pub stores_next : StoresNext k i v w
      stores_next layout mem s y live stands ey el =
          let same : z ≡ y = (let both : Some z ≡ Some y = sym ez
          ∙ ap (λ (l : List Zone). slice_get l i) stands.same_layout ∙ ey in cc) in
          subst (λ (x : Zone). StandsLive layout mem w (with_zone layout s i live (stepped x k live))) same
          (over layout mem v s (λ l m. StandsLive l m w (with_zone l s i live (stepped z k live))) stands
          (stored_own s live (own layout mem v s stands) el))

      held_after : IsHeld z g
      held_after = record {
        room = st.capacity ∙ (running.held i z h ez eh).room;
        dump = λ m e d.
            let n : is_some h.flight ≡ true = st.flies ∙ next_some r (sym st.goes_on ∙ ap is_some e) in
            let f = some_is h.flight n in
            (running.held i z h ez eh).dump f.0 f.1 (ap is_dump (sym (st.same_call f.0 m f.1 e)) ∙ d);
      }

      pub store_runs : IsRunning w
      store_runs =
          let at = here v.layout v.mem v running.state running.stands i (slice_get_within v.layout i z ez) in
          let zone = running.sound.zones.1 i z at.live ez at.of_state in
          runs_after v w i z bytes g running ez st.changes held_after
          (with_zone v.layout running.state i at.live (stepped z k at.live))
          (stored_own running.state at.live running.stands at.of_state)
          (with_zone-sound v.layout v.mem running.lies running.state (record { place = i; zone = z; live = at.live })
          (stepped z k at.live) running.sound (ez, at.of_state)
          (stepped-sound z (running.lies.valid i z ez).0 k at.live zone))

-- the same by what a store reads of the machine's fields
pub zone_at : (v x : LiveSeen) (i : ℕ) (h : HeldZone) → v ≡ x → IsRunning v → i < length x.layout
    → h ≡ get_or v.zones i h → (z : Zone) × (slice_get v.layout i ≡ Some z) × (slice_get v.zones i ≡ Some h)
zone_at v x i h e running below eh =
    let below' : i < length v.layout = subst (λ (y : LiveSeen). i < length y.layout) (sym e) below in
    let at = here v.layout v.mem v running.state running.stands i below' in (
      at.zone,
      at.of_layout,
      slice_get_read v.zones (length v.zones) i h refl
          (let n = running.stands.kept in omega (arith, below', n)) eh,
    )

-- flights at a place, by the zone there
pub flies_here : (hs : List HeldZone) (i : ℕ) (h : HeldZone) → slice_get hs i ≡ Some h
    → flies_at (slice_get hs i) ≡ is_some h.flight
flies_here hs i h e = ap flies_at e

pub flies_set : (hs : List HeldZone) (i : ℕ) (h g : HeldZone) → slice_get hs i ≡ Some h
    → flies_at (slice_get (set hs i g) i) ≡ is_some g.flight
flies_set hs i h g e = ap flies_at (slice_get-set_same hs i g (slice_get_within hs i h e))

-- nothing stored changes nothing
set_same : (hs : List HeldZone) (i : ℕ) (h : HeldZone) → slice_get hs i ≡ Some h → set hs i h ≡ hs
set_same [] i h e = refl
set_same (k ∷ ks) zero h e = let s : k ≡ h = cc in ap (λ (x : HeldZone). x ∷ ks) (sym s)
set_same (k ∷ ks) (suc i) h e = ap (λ (xs : List HeldZone). k ∷ xs) (set_same ks i h e)

pub idle_same : (v : LiveSeen) (spans : CutRegion) (i : ℕ) (h g : HeldZone) (cursor : ℕ) → spans ≡ v.spans → g ≡ h
    → slice_get v.zones i ≡ Some h → cursor ≡ v.cursor
    → record v { spans = spans; zones = set v.zones i g; cursor = cursor } ≡ v
idle_same v spans i h g cursor es eg eh ec =
    ap (λ (x : CutRegion). record v { spans = x; zones = set v.zones i g; cursor = cursor }) es
    ∙ ap (λ (xs : List HeldZone). record v { zones = xs; cursor = cursor })
    (ap (set v.zones i) eg ∙ set_same v.zones i h eh)
    ∙ ap (λ (n : ℕ). record v { cursor = n }) ec

-- a store by what it reads and writes of the machine's fields
pub stored_by : (k : ℕ) (v x : LiveSeen) (i : ℕ) (h g : HeldZone) (new : CutRegion) (r : Option Stored) (cursor : ℕ)
    → v ≡ x
    → IsRunning v → i < length x.layout → h ≡ get_or v.zones i h
    → StoresIn i v.spans new → is_some h.flight ≡ is_some r → is_some g.flight ≡ is_next r
    → ((f m : Flying) → h.flight ≡ Some f → g.flight ≡ Some m → m.call ≡ f.call)
    → g.told.capacity ≡ h.told.capacity
    → ((y : Zone) (live : LiveZone) → h.told.capacity ≡ y.cap → StandsForZone y (span v.spans i) h live
    → StandsForZone y (span new i) g (stepped y k live))
    → ((y : Zone) (live : LiveZone) → StandsForZone y (span v.spans i) h live
    → (flies_dump live.flight && not (is_some (stepped y k live).flight)) ≡ is_last_of_dump r)
    → cursor ≡ cursor_after v.layout r v.cursor
    → let w : LiveSeen = record v { spans = new; zones = set v.zones i g; cursor = cursor } in
    IsRunning w × StoresNext k i x w
stored_by k v x i h g new r cursor e running below eh others flies goes_on same_call capacity stored last turned =
    let z = zone_at v x i h e running below eh in
    let w : LiveSeen = record v { spans = new; zones = set v.zones i g; cursor = cursor } in
    let st : Stores v running i z.0 h z.1 z.2 k w (span new i) g r = record {
      changes = record {
        layout = refl;
        mem = refl;
        spans = only_span v.spans new i
            (let n = running.stands.spans in let w = slice_get_within v.layout i z.0 z.1 in omega (arith, n, w)) others;
        rest = ap (λ (c : CutRegion). c.rest) others.made;
        zones = refl;
      };
      flies = flies;
      goes_on = goes_on;
      same_call = same_call;
      capacity = capacity;
      stored = stored;
      last = last;
      turned = turned;
    } in (
      store_runs v running i z.0 h z.1 z.2 k w (span new i) g r st,
      subst (λ (y : LiveSeen). StoresNext k i y w) e
          (stores_next v running i z.0 h z.1 z.2 k w (span new i) g r st),
    )

-- and which stores they are
pub stores_made : (k : ℕ) (v x : LiveSeen) (i : ℕ) (h : HeldZone) (new : CutRegion) → v ≡ x → IsRunning v
    → i < length x.layout → h ≡ get_or v.zones i h
    → ((y : Zone) (live : LiveZone) → StandsForZone y (span v.spans i) h live
    → new ≡ stored v.spans i (next_stores k y live))
    → (w : LiveSeen) → w.spans ≡ new → MakesStores (next_stores k) i x w
stores_made k v x i h new e running below eh made w ew layout mem s y live stands ey el =
    let own_stands : StandsLive layout mem v s = subst (λ (u : LiveSeen). StandsLive layout mem u s) (sym e) stands in
    let z = zone_at v x i h e running below eh in
    let within : i < length v.spans.spans = (let n = own_stands.spans in let m = slice_get_within layout i y ey in
    omega (arith, n, m)) in
    ew ∙ made y live (own_stands.zones i y (span v.spans i) h live ey (slice_get-get_or v.spans.spans i [] within) z.2 el)
    ∙ ap (λ (u : LiveSeen). stored u.spans i (next_stores k y live)) e

-- a zone that is read of the layout
pub zone_read : (layout zs : List Zone) (i : ℕ) (d z : Zone) → zs ≡ layout → slice_get layout i ≡ Some z
    → get_or zs i d ≡ z
zone_read layout zs i d z e ez =
    let at : slice_get layout i ≡ Some (get_or layout i d) =
    slice_get-get_or layout i d (slice_get_within layout i z ez) in
    let same : Some (get_or layout i d) ≡ Some z = sym at ∙ ez in
    ap (λ (l : List Zone). get_or l i d) e ∙ (let both : get_or layout i d ≡ z = cc in both)
