-- What holds of every state of a session
use Rattle.std.specs.Prelude.{◌≡◌, ℕ, ◌^◌, ◌<◌, List, length, take, Option, Some, None}
use Rattle.std.specs.List.{AllByRecursion}
use Rattle.zone_spec.specs.declared.Zone.{Zone}
use Rattle.zone_spec.specs.declared.Time.{Time}
use Rattle.zone_spec.specs.Parts.{AreBytes, IsImage}
use Rattle.zone_spec.specs.Stores.{after_stores}
use Rattle.zone_spec.specs.Told.{Call}
use Rattle.zone_spec.specs.Calls.{call_stores, image_after, CanBegin}
use Rattle.zone_spec.specs.Ring.{IsRingForm}
use Rattle.zone_spec.specs.Boot.{boot_stores}
use Rattle.zone_spec.specs.Cut.{Cut, ByCall, ByBoot}
use Rattle.machine_spec.specs.Zones.{EachZone}
use Rattle.machine_spec.specs.States.{Flight, OffZone, LiveZone, Session, Off, Live}
use Rattle.machine_spec.specs.Off.{fresh}
use Rattle.machine_spec.specs.LiveCalls.{Ask, Append, Erase, Dump}
use Rattle.machine_spec.specs.Stop.{cut_of, session_image}
use Rattle.machine_spec.specs.BootPart.{IsWithinErasure, boot_cut}
use Rattle.machine_spec.specs.Operations.{Operation, Flip, Begin, Make, session_after}

-- a zone's image is that after the stores made of a flight that began on a zone in ring form, and stores
-- are left
pub record IsInFlight (z : Zone) (image told : List ℕ) (f : Flight) : Type 0 where
  pub size : IsImage z f.image
  pub ring : IsRingForm z f.image told
  pub can : CanBegin z f.image f.call
  pub now : image ≡ image_after z f.call f.image f.made
  pub left : f.made < length (call_stores z f.call f.image)

-- without a flight a zone is in ring form
abbrev pub Stands : Zone → List ℕ → List ℕ → Option Flight → Type 0
Stands z image told None = IsRingForm z image told
Stands z image told (Some f) = IsInFlight z image told f

-- a live zone's image is of bytes, and stands for its told list
pub record IsLiveZone (z : Zone) (zone : LiveZone) : Type 0 where
  pub size : IsImage z zone.image
  pub stands : Stands z zone.image zone.told zone.flight

-- a flight that the zone was in at its stop, and that its cut is of
pub record IsCutFlight (z : Zone) (zone : OffZone) (cut : Cut) (told : List ℕ) (f : Flight) : Type 0 where
  pub told_is : zone.told ≡ Some told
  pub cut_is : cut ≡ cut_of z f
  pub at_stop : IsInFlight z zone.stop told f

-- a boot that began on these bytes of the zone, was cut within its erasure after count stores in it, and
-- left its cut and its stop
pub record IsCutErasure (z : Zone) (zone : OffZone) (cut : Cut) (before : List ℕ) (count : ℕ) : Type 0 where
  pub size : IsImage z before
  pub within : IsWithinErasure z before count
  pub cut_is : cut ≡ boot_cut z before count
  pub at_stop : zone.stop ≡ after_stores before (take count (boot_stores z before))

-- a zone with a told list and no cut was at its stop in ring form with that list; a zone cut by a flight
-- was at its stop in that flight; a zone cut by a boot's erasure was at its stop within it
pub record IsOffZone (z : Zone) (zone : OffZone) : Type 0 where
  pub size : IsImage z zone.stop
  pub idle : (told : List ℕ) → zone.told ≡ Some told → zone.cut ≡ None → IsRingForm z zone.stop told
  pub in_flight : (cut : Cut) (call : Call) → zone.cut ≡ Some cut → cut.by ≡ ByCall call
      → (told : List ℕ) × (f : Flight) × IsCutFlight z zone cut told f
  pub in_erasure : (cut : Cut) → zone.cut ≡ Some cut → cut.by ≡ ByBoot
      → (before : List ℕ) × (count : ℕ) × IsCutErasure z zone cut before count

-- the zones of a state are so
abbrev pub AreZones : List Zone → Session → Type 0
AreZones layout (Off off) = EachZone layout off.zones IsOffZone
AreZones layout (Live live) = EachZone layout live.zones IsLiveZone

-- an image of mem bytes
abbrev pub IsMemory : ℕ → List ℕ → Type 0
IsMemory mem image = (length image ≡ mem) × AreBytes image

-- a sound state: its zones are so, and its image is of mem bytes
pub record IsState (layout : List Zone) (mem : ℕ) (session : Session) : Type 0 where
  pub zones : AreZones layout session
  pub image : IsMemory mem (session_image session)

-- a time that a dump can be written at
abbrev pub IsTime : Time → Type 0
IsTime time = (time.secs < 2 ^ 63) × (time.micros < 1000000)

-- a call that may be asked: its payload is of bytes, and its time can be written
abbrev pub IsAsk : Ask → Type 0
IsAsk (Append zone payload) = AreBytes payload
IsAsk (Erase zone) = Unit {0}
IsAsk (Dump time packed body) = IsTime time × AreBytes body

-- an operation that may be asked
abbrev pub IsOperation : Operation → Type 0
IsOperation (Flip place mask) = mask < 256
IsOperation (Begin ask) = IsAsk ask
IsOperation (Make ask) = IsAsk ask
IsOperation other = Unit {0}

-- a state after some operations on some image of mem bytes
pub record IsReached (layout : List Zone) (mem : ℕ) (session : Session) : Type 0 where
  pub image : List ℕ
  pub operations : List Operation
  pub size : length image ≡ mem
  pub bytes : AreBytes image
  pub fit : AllByRecursion IsOperation operations
  pub state : session_after layout (Off (fresh layout image)) operations ≡ session
