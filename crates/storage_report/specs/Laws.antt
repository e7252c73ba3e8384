-- The report of a copy
use Rattle.std.specs.Prelude.{ℕ, List}
use Rattle.storage_spec.specs.declared.Storage.{Storage}
use Rattle.region_report.specs.Reports.{ReportHeld}
use Rattle.storage_report.specs.Held.{ShowsTheSame}
use Rattle.storage_report.specs.Reports.{IsStorageReport}

-- is that of the image
abbrev pub ReportOfImage : Type 0
ReportOfImage = (s : Storage) (names image copy : List ℕ) (report : ReportHeld) → ShowsTheSame s image copy
    → IsStorageReport s names copy report → IsStorageReport s names image report
