-- The scan of a memory dump, and how a command ends that asked for a ring which is not there
use Rattle.std.specs.Prelude.{◌≡◌, ℕ, List, take, Option, IfSome}
use Rattle.zone_spec.specs.declared.Zone.{Zone}
use Rattle.salvage_spec.specs.Rings.{rings}
use Rattle.salvage_spec.specs.declared.RingFault.{RingFault}
use Rattle.salvage_spec.specs.declared.RingFault.TheVariants.{NoZone, NoRing, Memory}
use Rattle.salvage.specs.Scans.{Scanned}
use Rattle.command_spec.specs.Commands.{dump_limit}
use Rattle.script_spec.specs.declared.Cause.TheVariants.{NoZone as NoZoneCause, NoRing as NoRingCause}
use Rattle.command_spec.specs.declared.Stop.{Stop}
use Rattle.command_spec.specs.declared.Stop.TheVariants.{Memory as MemoryStop, Refused}

-- a scan, from its first byte on, of the front of a store's bytes, where these are told
pub record ScansFrom (zones : List Zone) (holds : Option (List ℕ)) (scan : Scanned) : Type 0 where
  pub dump : List ℕ
  pub read : IfSome holds (λ bytes. dump ≡ take dump_limit bytes)
  pub scan_is : scan ≡ record { image = dump; zones = zones; rest = rings dump zones }

-- as the first line of a script
abbrev pub ring_stop : RingFault → Stop
ring_stop NoZone = Refused 1 NoZoneCause
ring_stop NoRing = Refused 1 NoRingCause
ring_stop Memory = MemoryStop
