-- The zones that operations go to
use Rattle.std.proofs.Common.{◌≡◌, ℕ, Bool, true, false, cond, ◌&&◌, ◌||◌, is_some, List, slice_get, refl, sym, ap, ◌∙◌}
use Rattle.std.proofs.Common.{subst, arith, Option, Some, None, true≢false}
use Rattle.zone_spec.specs.declared.Zone.{Zone}
use Rattle.zone_spec.specs.declared.Words.{Words}
use Rattle.zone_spec.specs.declared.ZoneName.{ZoneName}
use Rattle.zone_spec.specs.declared.Kind.{Kind}
use Rattle.zone_spec.specs.declared.Kind.TheVariants.{Dump as DumpKind, Console, Ftrace, Pmsg}
use Rattle.zone_spec.specs.Ring.{IsOpen, IsOpenUnlessDump}
use Rattle.zone_spec.specs.Records.{is_of}
use Rattle.zone_spec.specs.Layouts.{zone_place}
use Rattle.machine_spec.specs.States.{Flight, LiveZone, LiveState}
use Rattle.machine_spec.specs.LiveZones.{Target, target_of, target_at, target, ring_only}

target_at-some : (layout : List Zone) (live : LiveState) (o : Option ℕ) (t : Target)
    → target_at layout live o ≡ Some t → (slice_get layout t.place ≡ Some t.zone)
    × (slice_get live.zones t.place ≡ Some t.live)
target_at-some layout live None t e = let n : ◌≡◌ {A = ℕ} 0 1 = cc in absurd (omega (arith, n))
target_at-some layout live (Some i) t e = by (slice_get layout i) (slice_get live.zones i) refl refl e
  where
    by : (a : Option Zone) (b : Option LiveZone) → slice_get layout i ≡ a → slice_get live.zones i ≡ b
        → target_of i a b ≡ Some t → (slice_get layout t.place ≡ Some t.zone)
        × (slice_get live.zones t.place ≡ Some t.live)
    by None b h k e = let n : ◌≡◌ {A = ℕ} 0 1 = cc in absurd (omega (arith, n))
    by (Some z) None h k e = let n : ◌≡◌ {A = ℕ} 0 1 = cc in absurd (omega (arith, n))
    by (Some z) (Some v) h k e =
        let s : record { place = i; zone = z; live = v } ≡ t = cc in
        subst (λ (u : Target). (slice_get layout u.place ≡ Some u.zone)
        × (slice_get live.zones u.place ≡ Some u.live)) s (h, k)

-- a target is of the layout and of the live zones
abbrev pub IsAt : List Zone → LiveState → Target → Type 0
IsAt layout live t = (slice_get layout t.place ≡ Some t.zone) × (slice_get live.zones t.place ≡ Some t.live)

pub target-some : (layout : List Zone) (live : LiveState) (name : ZoneName) (t : Target)
    → target layout live name ≡ Some t → IsAt layout live t
target-some layout live name t e = target_at-some layout live (zone_place layout name) t e

pub open_ring : (kind : Kind) (w : Words) (cap : ℕ) → is_of DumpKind kind ≡ false → IsOpenUnlessDump kind w cap
    → IsOpen w cap
open_ring DumpKind w cap h o = absurd (true≢false h)
open_ring Console w cap h o = o
open_ring Ftrace w cap h o = o
open_ring Pmsg w cap h o = o

pub ring_only-is : (o : Option Target) (t : Target) → ring_only o ≡ Some t
    → (o ≡ Some t) × (is_of DumpKind t.zone.name.kind ≡ false)
ring_only-is None t e = let n : ◌≡◌ {A = ℕ} 0 1 = cc in absurd (omega (arith, n))
ring_only-is (Some u) t e = by (is_of DumpKind u.zone.name.kind) refl e
  where
    by : (b : Bool) → is_of DumpKind u.zone.name.kind ≡ b → cond b None (Some u) ≡ Some t
        → (Some u ≡ Some t) × (is_of DumpKind t.zone.name.kind ≡ false)
    by true h e = let n : ◌≡◌ {A = ℕ} 0 1 = cc in absurd (omega (arith, n))
    by false h e = let s : u ≡ t = cc in (e, ap (λ (v : Target). is_of DumpKind v.zone.name.kind) (sym s) ∙ h)

pub no_flight : (o : Option Flight) (b : Bool) → (b && is_some o) ≡ false → b ≡ true → o ≡ None
no_flight None b h e = refl
no_flight (Some f) true h e = absurd (true≢false h)
no_flight (Some f) false h e = absurd (true≢false (sym e))

pub busy-false : (busy : Bool) (o : Option Flight) → (busy || is_some o) ≡ false → o ≡ None
busy-false true o e = absurd (true≢false e)
busy-false false None e = refl
busy-false false (Some f) e = absurd (true≢false e)
