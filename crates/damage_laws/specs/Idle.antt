-- What damage within bounds leaves of a part, and of a zone that was told something and whose call no
-- stop cut
use Rattle.std.specs.Prelude.{◌≡◌, ℕ, ◌*◌, ◌/◌, ◌<◌, if◌then◌else◌, ◌==◌, List, length, slice_get, Some}
use Rattle.zone_spec.specs.declared.Zone.{Zone}
use Rattle.zone_spec.specs.declared.State.TheVariants.{Empty, Found}
use Rattle.zone_spec.specs.declared.Verdict.TheVariants.{AsTold}
use Rattle.zone_spec.specs.Zones.{IsValidZone}
use Rattle.zone_spec.specs.Parts.{Part, Header, Block, IsImage, IsPartOf}
use Rattle.zone_spec.specs.PartReadings.{part_reading, words_read}
use Rattle.zone_spec.specs.Reading.{zone_reading, log_places}
use Rattle.zone_spec.specs.Ring.{IsRingForm}
use Rattle.zone_spec.specs.Damage.{IsWithinBounds, BlocksWithinBounds}
use Rattle.zone_spec.specs.Verdicts.{verdict_of}

-- a part within bounds reads as at its zone's stop
abbrev pub PartReadsAsAtStop : Type 0
PartReadsAsAtStop = (z : Zone) (stop now : List ℕ) (part : Part) → IsValidZone z → IsImage z stop → IsImage z now
    → IsPartOf z part
    → IsWithinBounds z stop now part → (part_reading z now part).bytes ≡ (part_reading z stop part).bytes

-- the log has the told length, its places in blocks within bounds read their told bytes, and the whole
-- is as told where the blocks within the told length are within bounds
pub record IdleReads (z : Zone) (stop now told : List ℕ) : Type 0 where
  pub size : length (zone_reading z now).log ≡ length told
  pub places : (i place : ℕ) → slice_get (log_places (words_read z now).start (words_read z now).size) i ≡ Some place
      → IsWithinBounds z stop now (Block (place / z.block)) → slice_get (zone_reading z now).log i ≡ slice_get told i
  pub whole : BlocksWithinBounds z stop now (length told) → verdict_of (Some told) (zone_reading z now).log ≡ AsTold
  pub state : (zone_reading z now).state ≡ (if length told == 0 then Empty else Found)

-- so of a zone that was in ring form at its stop, and whose header is within bounds
abbrev pub IdleZoneReadsTold : Type 0
IdleZoneReadsTold = (z : Zone) (stop now told : List ℕ) → IsValidZone z → IsImage z stop → IsImage z now
    → IsRingForm z stop told
    → IsWithinBounds z stop now Header → IdleReads z stop now told
