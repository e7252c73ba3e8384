-- The warnings of a report
use Rattle.std.specs.Prelude.{ℕ, List, Option, Some, None}
use Rattle.zone_spec.specs.Records.{Saved}
use Rattle.prz_read.specs.Saving.{saved}
use Rattle.pstore_records.specs.Counts.{bad_in}
use Rattle.report_spec.specs.declared.Warning.{Warning}
use Rattle.report_spec.specs.Deaths.{DeathTold, death_told}
use Rattle.report_spec.specs.Warnings.{warnings_of}
use Rattle.region_report.specs.Counted.{zones_counted}
use Rattle.region_report.specs.Reports.{ReportHeld}

-- how many parts of the record that tells are bad
abbrev pub teller_bad : List Saved → Option DeathTold → ℕ
teller_bad zones None = 0
teller_bad zones (Some told) = bad_in told.teller.name (zones_counted told.teller.name zones)

-- the warnings of a report in which this tells why the machine died
abbrev pub warnings_by : ReportHeld → Option DeathTold → List Warning
warnings_by report told =
    warnings_of report.origin report.records told (teller_bad (saved report.logs) told) report.parts

unfoldable pub warnings : ReportHeld → List Warning
warnings report = warnings_by report (death_told report.records)
