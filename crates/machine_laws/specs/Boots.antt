-- What a boot reads and reports of the zones of a sound state, cut ones too
use Rattle.std.specs.Prelude.{◌≡◌, ℕ, ◌-◌, ◌↔◌, List, length, Option, Some, None}
use Rattle.zone_spec.specs.declared.Zone.{Zone}
use Rattle.zone_spec.specs.declared.CallKind.TheVariants.{Erase}
use Rattle.zone_spec.specs.Reading.{zone_reading}
use Rattle.zone_spec.specs.Boot.{boot_fixes, boot_stores}
use Rattle.zone_spec.specs.Told.{Call}
use Rattle.zone_spec.specs.Damage.{IsNotDamagedFurther}
use Rattle.zone_spec.specs.Verdicts.{verdict_of}
use Rattle.zone_spec.specs.Cut.{Cut, ByCall, ByBoot, CutReport}
use Rattle.zone_spec.specs.Layouts.{IsLayout}
use Rattle.machine_spec.specs.States.{OffZone, OffState, Off}
use Rattle.machine_spec.specs.Report.{zone_report}
use Rattle.machine_spec.specs.Sound.{IsState, IsCutErasure}
use Rattle.damage_laws.specs.Exact.{IsExactVerdict, IsExactReport, ReportsCall}
use Rattle.machine_spec.specs.Headline.{EachOffZone}
use Rattle.damage_laws.specs.CutCalls.{CutReads}
use Rattle.damage_laws.specs.CutErasures.{BootCutReads}

-- every verdict is exact
abbrev pub VerdictIsExact : Type 0
VerdictIsExact = (told : Option (List ℕ)) (log : List ℕ) → IsExactVerdict told log (verdict_of told log)

-- a zone's report has its cut erasure, exactly: with the numbers of each boot's erasure that the cut is
-- of, and there is one
pub record ReportsErasure (z : Zone) (zone : OffZone) (now : List ℕ) (cut : Cut) : Type 0 where
  pub boot : (before : List ℕ) × (count : ℕ) × IsCutErasure z zone cut before count
  pub exact : (before : List ℕ) (count : ℕ) → IsCutErasure z zone cut before count
      → (r : CutReport) × ((zone_report z zone now).cut ≡ Some r)
      × IsExactReport z (zone_reading z now).words cut Erase (count - length (boot_fixes z before))
      (length (boot_stores z before) - length (boot_fixes z before)) r

-- a zone's report is exact: its verdict is on the told list and the log, and it has a cut exactly where
-- the zone has, with the numbers of the flight or of the boot's erasure
pub record ReportsExactly (z : Zone) (zone : OffZone) (now : List ℕ) : Type 0 where
  pub verdict : IsExactVerdict zone.told (zone_reading z now).log (zone_report z zone now).verdict
  pub whole : ((zone_report z zone now).cut ≡ None) ↔ (zone.cut ≡ None)
  pub cut_call : (cut : Cut) (call : Call) → zone.cut ≡ Some cut → cut.by ≡ ByCall call → ReportsCall z zone now cut
  pub cut_erasure : (cut : Cut) → zone.cut ≡ Some cut → cut.by ≡ ByBoot → ReportsErasure z zone now cut

-- so is the report of each zone of a sound state
abbrev pub ReportIsExact : Type 0
ReportIsExact = (layout : List Zone) (mem : ℕ) (off : OffState) → IsLayout layout mem → IsState layout mem (Off off)
    → EachOffZone layout off ReportsExactly

-- a zone that was cut within its erasure reads as such a zone does, for each boot whose erasure it is,
-- and there is one
pub record ReadsErasure (z : Zone) (zone : OffZone) (now : List ℕ) (cut : Cut) : Type 0 where
  pub boot : (before : List ℕ) × (count : ℕ) × IsCutErasure z zone cut before count
  pub reads : (before : List ℕ) (count : ℕ) → IsCutErasure z zone cut before count
      → BootCutReads z before zone.stop now cut

-- what a zone reads whose call a stop cut, or whose erasure a boot's end cut
pub record ReadsCut (z : Zone) (zone : OffZone) (now : List ℕ) : Type 0 where
  pub call : (told : List ℕ) (cut : Cut) (call : Call) → zone.told ≡ Some told → zone.cut ≡ Some cut
      → cut.by ≡ ByCall call → IsNotDamagedFurther z zone.stop now
      → CutReads z cut call told zone.stop now
  pub erasure : (cut : Cut) → zone.cut ≡ Some cut → cut.by ≡ ByBoot → ReadsErasure z zone now cut

-- so reads each zone of a sound state
abbrev pub CutZonesRead : Type 0
CutZonesRead = (layout : List Zone) (mem : ℕ) (off : OffState) → IsLayout layout mem → IsState layout mem (Off off)
    → EachOffZone layout off ReadsCut
