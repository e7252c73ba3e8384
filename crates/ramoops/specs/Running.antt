-- What is so of every live machine
use Rattle.std.specs.Prelude.{◌≡◌, ℕ, true, slice_get, Some}
use Rattle.zone_spec.specs.declared.Zone.{Zone}
use Rattle.zone_spec.specs.declared.Kind.TheVariants.{Dump}
use Rattle.zone_spec.specs.Layouts.{IsLayout}
use Rattle.store_steps.specs.Flying.{Flying}
use Rattle.machine_spec.specs.States.{LiveState, Live}
use Rattle.machine_spec.specs.LiveZones.{is_dump}
use Rattle.machine_spec.specs.Sound.{IsState}
use Rattle.ramoops.specs.declared.zones.HeldZone.{HeldZone}
use Rattle.ramoops.specs.LiveSeen.{LiveSeen, StandsLive}

-- the told list's ring has the zone's capacity, and a dump flies in dump zones alone
pub record IsHeld (z : Zone) (held : HeldZone) : Type 0 where
  pub room : held.told.capacity ≡ z.cap
  pub dump : (f : Flying) → held.flight ≡ Some f → is_dump f.call ≡ true → z.name.kind ≡ Dump

-- the machine stands for a sound state: every zone without a flight is in ring form with its told list, every other
-- is a flight's image of one that was
pub record IsRunning (v : LiveSeen) : Type 0 where
  pub lies : IsLayout v.layout v.mem
  pub held : (i : ℕ) (z : Zone) (held : HeldZone) → slice_get v.layout i ≡ Some z → slice_get v.zones i ≡ Some held
      → IsHeld z held
  pub state : LiveState
  pub stands : StandsLive v.layout v.mem v state
  pub sound : IsState v.layout v.mem (Live state)
