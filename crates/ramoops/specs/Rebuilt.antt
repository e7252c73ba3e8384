-- What holds of a store that was told logs for which its zones have room
use Rattle.std.specs.Prelude.{◌≡◌, ℕ, List, length}
use Rattle.zone_spec.specs.declared.Zone.{Zone}
use Rattle.zone_spec.specs.Reading.{zone_reading}
use Rattle.zone_spec.specs.Records.{Saved, listed_of}
use Rattle.zone_spec.specs.Damage.{IsLogWithinBounds}
use Rattle.machine_spec.specs.States.{OffState, Off}
use Rattle.machine_spec.specs.Boot.{booted}
use Rattle.machine_spec.specs.Erasures.{saved_logs}
use Rattle.machine_spec.specs.Moved.{moved}
use Rattle.machine_spec.specs.Sound.{IsMemory, IsState}
use Rattle.machine_spec.specs.Headline.{EachOffZone}
use Rattle.move_laws.specs.Moves.{IsToldLog, ReadsLog, log_of}
use Rattle.move_laws.specs.Listed.{TakesInOrder}

-- the state is sound, so the headline holds from then on. Each zone is told the log that was found of its name, or
-- nothing, and reads that: at once with nothing corrected and nothing bad, and after damage within bounds. A boot
-- lists the records of the logs, and no other
pub record ReadsAsTold (layout : List Zone) (mem : ℕ) (zones : List Saved) : Type 0 where
  pub sound : IsState layout mem (Off (moved layout mem zones))
  pub told : EachOffZone layout (moved layout mem zones) (IsToldLog zones)
  pub clean : EachOffZone layout (moved layout mem zones) (λ z zone now. ReadsLog zones z now)
  pub damaged : (off : OffState) → off.zones ≡ (moved layout mem zones).zones → IsMemory mem off.image
      → EachOffZone layout off (λ z zone now. IsLogWithinBounds z zone.stop now (length (log_of zones z))
      → (zone_reading z now).log ≡ log_of zones z)
  pub lists : TakesInOrder layout zones
      → listed_of (saved_logs layout (booted layout (moved layout mem zones))) ≡ listed_of zones
