-- What calls, boots and readings make of a zone in ring form, at every parity and block size
use Rattle.std.specs.Prelude.{◌≡◌, ℕ, if◌then◌else◌, ◌==◌, List, length}
use Rattle.zone_spec.specs.declared.Zone.{Zone}
use Rattle.zone_spec.specs.declared.State.TheVariants.{Empty, Found}
use Rattle.zone_spec.specs.Zones.{IsValidZone}
use Rattle.zone_spec.specs.Parts.{IsImage, standing_words}
use Rattle.zone_spec.specs.Reading.{zone_reading}
use Rattle.zone_spec.specs.Told.{Call, told_after}
use Rattle.zone_spec.specs.Stores.{after_stores}
use Rattle.zone_spec.specs.Calls.{CanBegin, call_stores, image_after}
use Rattle.zone_spec.specs.Ring.{IsRingForm}
use Rattle.zone_spec.specs.Boot.{boot_stores, told_by_boot}

-- a whole call leaves a zone in ring form for what the call means
abbrev pub CallKeepsRingForm : Type 0
CallKeepsRingForm = (z : Zone) (call : Call) (image told : List ℕ) → IsValidZone z → IsImage z image
    → IsRingForm z image told → CanBegin z image call
    → IsRingForm z (image_after z call image (length (call_stores z call image))) (told_after z.cap call told)

-- a boot leaves any zone in ring form for what it kept
abbrev pub BootLeavesRingForm : Type 0
BootLeavesRingForm = (z : Zone) (now : List ℕ) → IsValidZone z → IsImage z now
    → IsRingForm z (after_stores now (boot_stores z now)) (told_by_boot z now)

-- a zone in ring form reads its told list, and the words that stand
pub record ReadsTold (z : Zone) (image told : List ℕ) : Type 0 where
  pub log : (zone_reading z image).log ≡ told
  pub words : (zone_reading z image).words ≡ standing_words z image
  pub state : (zone_reading z image).state ≡ (if length told == 0 then Empty else Found)

-- so reads every zone in ring form
abbrev pub RingFormReadsTold : Type 0
RingFormReadsTold = (z : Zone) (image told : List ℕ) → IsValidZone z → IsRingForm z image told → ReadsTold z image told

-- so a zone that a boot has finished reads what it kept
abbrev pub FinishedZoneReadsTold : Type 0
FinishedZoneReadsTold = (z : Zone) (now : List ℕ) → IsValidZone z → IsImage z now
    → ReadsTold z (after_stores now (boot_stores z now)) (told_by_boot z now)
