-- The stores that a call makes, in every state for which the machine stands
use Rattle.std.specs.Prelude.{◌≡◌, ℕ, zero, suc, List, [], ◌++◌, length, take, drop, slice_get, Option, Some, None}
use Rattle.zone_spec.specs.declared.Zone.{Zone}
use Rattle.zone_spec.specs.Stores.{Store}
use Rattle.zone_spec.specs.Calls.{call_stores}
use Rattle.zone_spec.specs.Boot.{boot_stores}
use Rattle.prz_region.specs.Made.{Write, in_span}
use Rattle.prz_region.specs.CutRegion.{CutRegion, span, cut_at, stored}
use Rattle.machine_spec.specs.States.{Flight, LiveZone, LiveState}
use Rattle.machine_spec.specs.ZoneCalls.{stores_left}
use Rattle.machine_spec.specs.LiveZones.{Target}
use Rattle.ramoops.specs.LiveSeen.{LiveSeen, StandsLive}

-- the next k stores of a flight's call, or all that are left; none where no flight stands
abbrev pub next_of : Option Flight → Zone → ℕ → List Store
next_of None z k = []
next_of (Some f) z k = take k (drop f.made (call_stores z f.call f.image))

abbrev pub next_stores : ℕ → Zone → LiveZone → List Store
next_stores k z live = next_of live.flight z k

-- all that are left
abbrev pub left_stores : Zone → LiveZone → List Store
left_stores z live = next_of live.flight z (stores_left live.flight z)

-- some stores were made in the i-th span, and nowhere else
pub record StoresIn (i : ℕ) (old new : CutRegion) : Type 0 where
  pub stores : List Store
  pub made : new ≡ stored old i stores

-- just these stores were made in the i-th zone, in every state for which the machine stood
abbrev pub MakesStores : (Zone → LiveZone → List Store) → ℕ → LiveSeen → LiveSeen → Type 0
MakesStores stores i old new =
    (layout : List Zone) (mem : ℕ) (s : LiveState) (z : Zone) (live : LiveZone) → StandsLive layout mem old s
    → slice_get layout i ≡ Some z → slice_get s.zones i ≡ Some live → new.spans ≡ stored old.spans i (stores z live)

-- just these in the zone that a call goes to; none where there is none
abbrev pub MadeAt : Option Target → (Zone → LiveZone → List Store) → CutRegion → CutRegion → Type 0
MadeAt None stores old new = new ≡ old
MadeAt (Some t) stores old new = new ≡ stored old t.place (stores t.zone t.live)

-- a boot's stores in a zone, if there is one
abbrev pub boot_stores_in : Option Zone → List ℕ → List Store
boot_stores_in None bytes = []
boot_stores_in (Some z) bytes = boot_stores z bytes

-- a boot's stores in the first n zones, which hold these bytes: one zone after the other
unfoldable pub boot_writes : List Zone → CutRegion → ℕ → List (Write ℕ)
boot_writes layout cut zero = []
boot_writes layout cut (suc n) = boot_writes layout cut n ++ in_span n (boot_stores_in (slice_get layout n) (span cut n))
