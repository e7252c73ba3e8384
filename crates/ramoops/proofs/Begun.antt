-- A call begun in the machine is begun in the state for which it stands
use Rattle.std.proofs.Common.{◌≡◌, ℕ, ◌<◌, Bool, true, false, cond, ◌||◌, is_some, List, length, slice_get, get_or, []}
use Rattle.std.proofs.Common.{refl, sym, ap, ◌∙◌, arith, Option, Some, None, Ok, Err}
use Rattle.std.proofs.lemmas.Option.{slice_get_within, slice_get-get_or}
use Rattle.circular_buffer.proofs.Places.{slice_get-some}
use Rattle.zone_spec.specs.declared.Zone.{Zone}
use Rattle.prz_region.specs.CutRegion.{span}
use Rattle.zone_spec.specs.declared.Kind.TheVariants.{Dump as DumpKind}
use Rattle.zone_spec.specs.declared.Refusal.TheVariants.{Busy}
use Rattle.zone_spec.specs.Records.{is_of}
use Rattle.zone_spec.specs.Layouts.{zone_place}
use Rattle.zone_spec.specs.Told.{Call}
use Rattle.machine_spec.specs.States.{Flight, LiveZone, LiveState}
use Rattle.machine_spec.specs.ZoneCalls.{begun}
use Rattle.machine_spec.specs.LiveZones.{target_of, target_at, target, ring_only, with_zone}
use Rattle.machine_spec.specs.LiveCalls.{Ask, Append, Erase, Dump, call_of, asked_zone, is_barred, begins, begin}
use Rattle.ramoops.specs.declared.zones.HeldZone.{HeldZone}
use Rattle.store_steps.specs.Flying.{Flying}
use Rattle.ramoops.specs.LiveSeen.{LiveSeen, StandsForSome, StandsForZone, StandsLive}
use Rattle.ramoops.specs.Places.{unless_dump, ring_at, place_asked, barred, flies_at}
use Rattle.ramoops.proofs.Changes.{any_flies}

-- a flight stands in the machine where one stands in the state
pub same_flies : (z : Zone) (bytes : List ℕ) (o : Option Flying) (p : Option Flight) → StandsForSome z bytes o p
    → is_some o ≡ is_some p
same_flies z bytes None None s = refl
same_flies z bytes None (Some f) s = absurd s
same_flies z bytes (Some f) None s = absurd s
same_flies z bytes (Some f) (Some g) s = refl

-- the target of a place
ring_target : (layout : List Zone) (s : LiveState) (o : Option ℕ)
    → ring_only (target_at layout s o) ≡ target_at layout s (ring_at layout o)
ring_target layout s None = refl
ring_target layout s (Some i) = by (slice_get layout i) (slice_get s.zones i) refl refl
  where
    by : (a : Option Zone) (b : Option LiveZone) → slice_get layout i ≡ a → slice_get s.zones i ≡ b
        → ring_only (target_of i (slice_get layout i) (slice_get s.zones i))
        ≡ target_at layout s (unless_dump i (slice_get layout i))
    by None b ea eb = rw (ea) refl
    by (Some z) None ea eb = rw (ea, eb) (at (is_of DumpKind z.name.kind))
      where
        at : (t : Bool) → None ≡ target_at layout s (cond t None (Some i))
        at true = refl
        at false = rw (ea, eb) refl
    by (Some z) (Some l) ea eb = rw (ea, eb) (at (is_of DumpKind z.name.kind))
      where
        at : (t : Bool) → cond t None (Some (record { place = i; zone = z; live = l }))
            ≡ target_at layout s (cond t None (Some i))
        at true = refl
        at false = rw (ea, eb) refl

module _ (layout : List Zone) (mem : ℕ) (v : LiveSeen) (s : LiveState) (stands : StandsLive layout mem v s) where
  pub zone_asked : (ask : Ask) → asked_zone layout s ask ≡ target_at layout s (place_asked layout v.cursor ask)
  zone_asked (Append name payload) = ring_target layout s (zone_place layout name)
  zone_asked (Erase name) = refl
  zone_asked (Dump time packed body) = ap (λ (n : ℕ). target layout s (record { kind = DumpKind; index = n }))
      stands.cursor

  pub same_some : (i : ℕ) (z : Zone) (h : HeldZone) (l : LiveZone) → slice_get layout i ≡ Some z
      → slice_get v.zones i ≡ Some h → slice_get s.zones i ≡ Some l → is_some h.flight ≡ is_some l.flight
  same_some i z h l ez eh el =
      let below : i < length v.spans.spans = (let w = slice_get_within layout i z ez in let n = stands.spans in
      omega (arith, w, n)) in
      same_flies z (get_or v.spans.spans i []) h.flight l.flight
      (stands.zones i z (get_or v.spans.spans i []) h l ez (slice_get-get_or v.spans.spans i [] below) eh el).flight

  pub same_barred : (ask : Ask) → is_barred layout s ask ≡ barred layout v.zones ask
  same_barred (Append name payload) = refl
  same_barred (Erase name) = refl
  same_barred (Dump time packed body) = sym (any_flies (λ (z : Zone). is_of DumpKind z.name.kind)
      layout v.zones s.zones stands.kept stands.count same_some)

  pub target_is : (i : ℕ) (z : Zone) (l : LiveZone) → slice_get layout i ≡ Some z → slice_get s.zones i ≡ Some l
      → target_at layout s (Some i) ≡ Some (record { place = i; zone = z; live = l })
  target_is i z l ez el = rw (ez, el) refl

  begins_at : (call : Call) (busy : Bool) (i : ℕ) (z : Zone) (l : LiveZone) → (busy || is_some l.flight) ≡ false
      → begins layout s call busy (Some (record { place = i; zone = z; live = l }))
      ≡ Ok (with_zone layout s i l (begun z call l))
  begins_at call busy i z l free = ap (λ (t : Bool). cond t (Err Busy) (Ok (with_zone layout s i l (begun z call l))))
      free

  begins_not : (call : Call) (busy : Bool) (i : ℕ) (z : Zone) (l : LiveZone) → (busy || is_some l.flight) ≡ true
      → begins layout s call busy (Some (record { place = i; zone = z; live = l })) ≡ Err Busy
  begins_not call busy i z l taken = ap (λ (t : Bool). cond t (Err Busy)
      (Ok (with_zone layout s i l (begun z call l)))) taken

  asked_is : (ask : Ask) (i : ℕ) (z : Zone) (l : LiveZone) → place_asked layout v.cursor ask ≡ Some i
      → slice_get layout i ≡ Some z → slice_get s.zones i ≡ Some l
      → begin layout s ask ≡ begins layout s (call_of ask) (is_barred layout s ask)
      (Some (record { place = i; zone = z; live = l }))
  asked_is ask i z l place ez el = ap (begins layout s (call_of ask) (is_barred layout s ask))
      (zone_asked ask ∙ ap (target_at layout s) place ∙ target_is i z l ez el)

  busy_is : (ask : Ask) (i : ℕ) (z : Zone) (h : HeldZone) (l : LiveZone) → slice_get layout i ≡ Some z
      → slice_get v.zones i ≡ Some h → slice_get s.zones i ≡ Some l
      → (is_barred layout s ask || is_some l.flight) ≡ (barred layout v.zones ask || flies_at (slice_get v.zones i))
  busy_is ask i z h l ez eh el =
      ap (λ (t : Bool). t || is_some l.flight) (same_barred ask)
      ∙ ap (λ (t : Bool). barred layout v.zones ask || t) (sym (same_some i z h l ez eh el))
      ∙ ap (λ (o : Option HeldZone). barred layout v.zones ask || flies_at o) (sym eh)

  -- a call that may begin is begun in its zone
  pub begin_is : (ask : Ask) (i : ℕ) (z : Zone) (h : HeldZone) (l : LiveZone)
      → place_asked layout v.cursor ask ≡ Some i → slice_get layout i ≡ Some z → slice_get v.zones i ≡ Some h
      → slice_get s.zones i ≡ Some l → (barred layout v.zones ask || flies_at (slice_get v.zones i)) ≡ false
      → begin layout s ask ≡ Ok (with_zone layout s i l (begun z (call_of ask) l))
  begin_is ask i z h l place ez eh el free = asked_is ask i z l place ez el
      ∙ begins_at (call_of ask) (is_barred layout s ask) i z l (busy_is ask i z h l ez eh el ∙ free)

  pub begin_busy : (ask : Ask) (i : ℕ) (z : Zone) (h : HeldZone) (l : LiveZone)
      → place_asked layout v.cursor ask ≡ Some i → slice_get layout i ≡ Some z → slice_get v.zones i ≡ Some h
      → slice_get s.zones i ≡ Some l → (barred layout v.zones ask || flies_at (slice_get v.zones i)) ≡ true
      → begin layout s ask ≡ Err Busy
  begin_busy ask i z h l place ez eh el taken = asked_is ask i z l place ez el
      ∙ begins_not (call_of ask) (is_barred layout s ask) i z l (busy_is ask i z h l ez eh el ∙ taken)

  -- the zone at a place of the layout, with all that stands there
  pub record Here (i : ℕ) : Type 0 where
    pub zone : Zone
    pub held : HeldZone
    pub live : LiveZone
    pub of_layout : slice_get layout i ≡ Some zone
    pub of_spans : slice_get v.spans.spans i ≡ Some (span v.spans i)
    pub of_held : slice_get v.zones i ≡ Some held
    pub of_state : slice_get s.zones i ≡ Some live
    pub stands_for : StandsForZone zone (span v.spans i) held live

  pub here : (i : ℕ) → i < length layout → Here i
  here i below =
      let z = slice_get-some layout i below in
      let h = slice_get-some v.zones i (let n = stands.kept in omega (arith, below, n)) in
      let l = slice_get-some s.zones i (let n = stands.count in omega (arith, below, n)) in
      let b : slice_get v.spans.spans i ≡ Some (span v.spans i) =
      slice_get-get_or v.spans.spans i [] (let n = stands.spans in omega (arith, below, n)) in
      record {
        zone = z.0;
        held = h.0;
        live = l.0;
        of_layout = z.1;
        of_spans = b;
        of_held = h.1;
        of_state = l.1;
        stands_for = stands.zones i z.0 (span v.spans i) h.0 l.0 z.1 b h.1 l.1;
      }
