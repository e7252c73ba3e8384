-- What a sink is given of a storage
use Rattle.std.specs.Prelude.{◌≡◌, ℕ, List, [], Option}
use Rattle.std.specs.Io.KnownBytes.{Appends}
use Rattle.outside.specs.Outside.{Rose, AppendsFront}
use Rattle.command_spec.specs.declared.Stop.{Stop}
use Rattle.command_spec.specs.declared.Stop.TheVariants.{Memory, SinkFault}
use Rattle.storage_spec.specs.Zones.{zones_in}
use Rattle.report_spec.specs.declared.Division.TheVariants.{Storage as OfSizes}
use Rattle.region_report.specs.Reports.{ReportHeld}
use Rattle.report_tool.specs.declared.showing.Format.{Format}
use Rattle.report_tool.specs.Shown.{ShowsZones}
use Rattle.storage_report.specs.declared.storage.HeldStorage.{HeldStorage}
use Rattle.storage_report.specs.Reports.{IsStorageReport}

-- a text is the report of a storage in a format
abbrev pub ShowsStorage : Format → List ℕ → HeldStorage → ℕ → ReportHeld → List ℕ → Type 0
ShowsStorage format path h lines report text =
    ShowsZones format path (OfSizes h.storage.sizes) (zones_in h.storage.machine h.storage.sizes) lines [] report text

-- the report was written to the sink
pub record IsReported (format : Format) (path : List ℕ) (h : HeldStorage) (names : List ℕ) (lines : ℕ)
    (given now : Option (List ℕ)) (report : ReportHeld) : Type 0 where
  pub read : IsStorageReport h.storage names h.bytes.items report
  pub text : List ℕ
  pub shown : ShowsStorage format path h lines report text
  pub appended : Appends given now text

-- or the sink failed, after it had taken some front of what the format shows
pub record IsCutShort (format : Format) (path : List ℕ) (h : HeldStorage) (names : List ℕ) (lines : ℕ)
    (given now : Option (List ℕ)) (put_before put_now : ℕ) : Type 0 where
  pub report : ReportHeld
  pub read : IsStorageReport h.storage names h.bytes.items report
  pub text : List ℕ
  pub shown : ShowsStorage format path h lines report text
  pub appended : AppendsFront given now text
  pub rose : Rose put_before put_now

-- why it was not reported. Where memory ran out the sink was given nothing, and did not fail
abbrev pub IsUnreported : Format → List ℕ → HeldStorage → List ℕ → ℕ → Option (List ℕ) → Option (List ℕ) → ℕ → ℕ
    → Stop → Type 0
IsUnreported format path h names lines given now put_before put_now Memory =
    (now ≡ given) × (put_now ≡ put_before)
IsUnreported format path h names lines given now put_before put_now SinkFault =
    IsCutShort format path h names lines given now put_before put_now
IsUnreported format path h names lines given now put_before put_now other = ⊥
