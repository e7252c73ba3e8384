-- How a zone stands that was told a list, and has no call begun since
use Rattle.std.specs.Prelude.{◌≡◌, ℕ, List, slice_get, Some, None}
use Rattle.zone_spec.specs.declared.Zone.{Zone}
use Rattle.machine_spec.specs.States.{LiveZone, LiveState, OffZone, OffState, Session, Off, Live}
use Rattle.machine_spec.specs.Zones.{zone_bytes}

-- the zone at this place of a live machine was told this, and no flight stands there
pub record IsToldLive (place : ℕ) (told : List ℕ) (live : LiveState) : Type 0 where
  pub zone : LiveZone
  pub at : slice_get live.zones place ≡ Some zone
  pub told_is : zone.told ≡ told
  pub idle : zone.flight ≡ None

-- the same of a machine that is off: the zone has no cut, and its bytes are those of its stop
pub record IsToldOff (z : Zone) (place : ℕ) (told : List ℕ) (off : OffState) : Type 0 where
  pub zone : OffZone
  pub at : slice_get off.zones place ≡ Some zone
  pub told_is : zone.told ≡ Some told
  pub whole : zone.cut ≡ None
  pub undamaged : zone_bytes z off.image ≡ zone.stop

-- the same of either
abbrev pub IsTold : Zone → ℕ → List ℕ → Session → Type 0
IsTold z place told (Live live) = IsToldLive place told live
IsTold z place told (Off off) = IsToldOff z place told off
