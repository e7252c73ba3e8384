-- What a boot promises, in each state for which the machine stood
use Rattle.std.specs.Prelude.{◌≡◌, ℕ, List, slice_get, Some}
use Rattle.zone_spec.specs.declared.Zone.{Zone}
use Rattle.zone_spec.specs.Records.{Saved}
use Rattle.machine_spec.specs.States.{OffZone, OffState, Off, Live}
use Rattle.machine_spec.specs.Boot.{booted}
use Rattle.machine_spec.specs.Report.{ZoneReport, report}
use Rattle.machine_spec.specs.Erasures.{saved_logs}
use Rattle.machine_spec.specs.Sound.{IsState}
use Rattle.machine_spec.specs.Headline.{EachOffZone}
use Rattle.machine_laws.specs.ZoneReads.{ReadsZone}
use Rattle.machine_laws.specs.CutBoots.{MakesOwnStores, ReadsAfter, HoldsAfter, IsLeftOrStopped}
use Rattle.machine_spec.specs.BootPart.{boot_parted, boot_made}
use Rattle.ramoops.specs.LiveSeen.{LiveSeen, StandsLive}
use Rattle.ramoops.specs.OffSeen.{OffSeen, StandsOff}

-- the live state, the saved logs and the report are those of a boot; a sound state stays sound, and each of its zones
-- reads as it must
pub record Booted (layout : List Zone) (mem : ℕ) (s : OffState) (after : LiveSeen) (saved : List Saved)
    (told : List ZoneReport) : Type 0 where
  pub live : StandsLive layout mem after (booted layout s)
  pub logs : saved ≡ saved_logs layout (booted layout s)
  pub reports : told ≡ report layout s
  pub sound : IsState layout mem (Off s) → IsState layout mem (Live (booted layout s))
  pub reads : IsState layout mem (Off s) → EachOffZone layout s ReadsZone

-- what a cut boot leaves of the i-th zone: its own of the stores made; what it reads; what is known of it; and, of a
-- sound state, its stop
pub record PartsZone (layout : List Zone) (mem : ℕ) (s : OffState) (limit i : ℕ) (z : Zone) : Type 0 where
  pub stores : MakesOwnStores layout s limit i z
  pub reads : ReadsAfter layout s limit i z
  pub holds : (old new : OffZone) → slice_get s.zones i ≡ Some old
      → slice_get (boot_parted layout limit s).zones i ≡ Some new → HoldsAfter layout s limit i z old new
  pub stops : IsState layout mem (Off s) → (old new : OffZone) → slice_get s.zones i ≡ Some old
      → slice_get (boot_parted layout limit s).zones i ≡ Some new
      → IsLeftOrStopped s (boot_parted layout limit s) z (old, new)

-- the state and the number of stores made are those of a boot that is cut after so many; a sound state stays sound;
-- and each zone is left as it must be
pub record BootedInPart (layout : List Zone) (mem : ℕ) (s : OffState) (limit : ℕ) (after : OffSeen)
    (made : ℕ) : Type 0 where
  pub off : StandsOff layout mem after (boot_parted layout limit s)
  pub count : made ≡ boot_made layout limit s
  pub sound : IsState layout mem (Off s) → IsState layout mem (Off (boot_parted layout limit s))
  pub zones : (i : ℕ) (z : Zone) → slice_get layout i ≡ Some z → PartsZone layout mem s limit i z
