-- All that a boot reads of the zones of a sound state
use Rattle.std.specs.Prelude.{◌≡◌, ℕ, List, Some, None}
use Rattle.zone_spec.specs.declared.Zone.{Zone}
use Rattle.zone_spec.specs.Parts.{Part, Header, IsPartOf}
use Rattle.zone_spec.specs.PartReadings.{part_reading}
use Rattle.zone_spec.specs.Damage.{IsWithinBounds}
use Rattle.zone_spec.specs.Layouts.{IsLayout}
use Rattle.machine_spec.specs.States.{OffZone, OffState, Off}
use Rattle.machine_spec.specs.Sound.{IsState}
use Rattle.machine_spec.specs.Headline.{EachOffZone, ReadsLastWritten}
use Rattle.damage_laws.specs.Idle.{IdleReads}
use Rattle.machine_laws.specs.Sessions.{ReadsAsAtStop}
use Rattle.machine_laws.specs.Logs.{LogBytesComeOf}
use Rattle.machine_laws.specs.Boots.{ReadsCut, ReportsExactly}

-- what is read of a zone: the headline; a part within bounds reads as at the stop; an idle zone whose
-- header alone is within bounds reads what it was told in the blocks within bounds; a zone that stands
-- as at its stop reads as told; where each byte of its log comes from; what a zone reads that was cut;
-- and its report is exact
pub record ReadsZone (z : Zone) (zone : OffZone) (now : List ℕ) : Type 0 where
  pub last_written : ReadsLastWritten z zone now
  pub parts : (part : Part) → IsPartOf z part → IsWithinBounds z zone.stop now part
      → (part_reading z now part).bytes ≡ (part_reading z zone.stop part).bytes
  pub idle : (told : List ℕ) → zone.told ≡ Some told → zone.cut ≡ None → IsWithinBounds z zone.stop now Header
      → IdleReads z zone.stop now told
  pub as_at_stop : ReadsAsAtStop z zone now
  pub bytes : LogBytesComeOf z now
  pub cut : ReadsCut z zone now
  pub reported : ReportsExactly z zone now

-- so is each zone of a sound state read
abbrev pub SoundStateReadsZones : Type 0
SoundStateReadsZones = (layout : List Zone) (mem : ℕ) (off : OffState) → IsLayout layout mem
    → IsState layout mem (Off off) → EachOffZone layout off ReadsZone
