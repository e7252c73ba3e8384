-- What a contract sees of a live machine, and the states that it stands for
use Rattle.std.specs.Prelude.{◌≡◌, ℕ, List, length, slice_get, Option, Some, None, Result, Ok}
use Rattle.zone_spec.specs.declared.Zone.{Zone}
use Rattle.zone_spec.specs.declared.Refusal.{Refusal}
use Rattle.zone_spec.specs.declared.ZoneName.{ZoneName}
use Rattle.zone_spec.specs.Layouts.{zone_place}
use Rattle.zone_spec.specs.Ring.{IsRingForm}
use Rattle.circular_buffer.specs.Buffer.{Buffer}
use Rattle.store_steps.specs.Flying.{Flying}
use Rattle.store_steps.specs.Machine.{StandsFor}
use Rattle.prz_region.specs.CutRegion.{CutRegion, span}
use Rattle.machine_spec.specs.States.{Flight, LiveZone, LiveState}
use Rattle.machine_spec.specs.ZoneCalls.{stepped, stores_left}
use Rattle.machine_spec.specs.LiveZones.{with_zone}
use Rattle.ramoops.specs.declared.zones.HeldZone.{HeldZone}

-- the zones of the layout and the bytes of the image, the zones' bytes and those behind them, what is kept of each
-- zone, and the number of the next dump's zone
pub record LiveSeen : Type 0 where
  pub layout : List Zone
  pub mem : ℕ
  pub spans : CutRegion
  pub zones : List HeldZone
  pub cursor : ℕ

-- a flight and its zone's bytes stand for a flight of the definitions: its call on the zone, so many of its stores
-- made, on the image that the zone had
pub record StandsForFlight (z : Zone) (bytes : List ℕ) (seen : Flying) (f : Flight) : Type 0 where
  pub zone : seen.zone ≡ z
  pub call : seen.call ≡ f.call
  pub made : seen.made ≡ f.made
  pub image : StandsFor seen bytes f.image

-- both are none, or one stands for the other
abbrev pub StandsForSome : Zone → List ℕ → Option Flying → Option Flight → Type 0
StandsForSome z bytes None None = Unit {0}
StandsForSome z bytes None (Some f) = ⊥
StandsForSome z bytes (Some seen) None = ⊥
StandsForSome z bytes (Some seen) (Some f) = StandsForFlight z bytes seen f

-- a zone's bytes and what is kept of it stand for a live zone
pub record StandsForZone (z : Zone) (bytes : List ℕ) (seen : HeldZone) (zone : LiveZone) : Type 0 where
  pub image : zone.image ≡ bytes
  pub told : zone.told ≡ seen.told.items
  pub flight : StandsForSome z bytes seen.flight zone.flight

-- the machine stands for a live state over this layout
pub record StandsLive (layout : List Zone) (mem : ℕ) (v : LiveSeen) (s : LiveState) : Type 0 where
  pub same_layout : v.layout ≡ layout
  pub same_mem : v.mem ≡ mem
  pub spans : length v.spans.spans ≡ length layout
  pub kept : length v.zones ≡ length layout
  pub count : length s.zones ≡ length layout
  pub zones : (i : ℕ) (z : Zone) (bytes : List ℕ) (seen : HeldZone) (zone : LiveZone) → slice_get layout i ≡ Some z
      → slice_get v.spans.spans i ≡ Some bytes
      → slice_get v.zones i ≡ Some seen → slice_get s.zones i ≡ Some zone → StandsForZone z bytes seen zone
  pub rest : s.rest ≡ v.spans.rest
  pub cursor : s.cursor ≡ v.cursor

-- an operation is done, and the machine stands for the state that it leaves
pub record Leaves (layout : List Zone) (mem : ℕ) (answer : Result LiveState Refusal) (v : LiveSeen) : Type 0 where
  pub next : LiveState
  pub done : answer ≡ Ok next
  pub stands : StandsLive layout mem v next

-- the i-th zone changed so, in every state for which the machine stood
abbrev pub ChangesZone : (Zone → LiveZone → LiveZone) → ℕ → LiveSeen → LiveSeen → Type 0
ChangesZone change i old new =
    (layout : List Zone) (mem : ℕ) (s : LiveState) (z : Zone) (live : LiveZone) → StandsLive layout mem old s
    → slice_get layout i ≡ Some z → slice_get s.zones i ≡ Some live
    → StandsLive layout mem new (with_zone layout s i live (change z live))

-- the next k stores of the i-th zone's flight, or all that are left, if one stands there
abbrev pub StoresNext : ℕ → ℕ → LiveSeen → LiveSeen → Type 0
StoresNext k i old new = ChangesZone (λ z live. stepped z k live) i old new

-- how many are left of it, in every state for which the machine stands
abbrev pub IsLeftAt : ℕ → LiveSeen → ℕ → Type 0
IsLeftAt i v n =
    (layout : List Zone) (mem : ℕ) (s : LiveState) (z : Zone) (live : LiveZone) → StandsLive layout mem v s
    → slice_get layout i ≡ Some z → slice_get s.zones i ≡ Some live → stores_left live.flight z ≡ n

-- a zone's told list is kept in a ring of the zone's capacity; where no flight stands, the zone's bytes are in ring
-- form with it
abbrev pub RingOf : LiveSeen → ZoneName → Buffer ℕ → Type 0
RingOf v name told =
    (i : ℕ) (z : Zone) (held : HeldZone) → zone_place v.layout name ≡ Some i → slice_get v.layout i ≡ Some z
    → slice_get v.zones i ≡ Some held
    → (told ≡ held.told) × (told.capacity ≡ z.cap) × (held.flight ≡ None → IsRingForm z (span v.spans i) told.items)
