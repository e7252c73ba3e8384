-- The files that are made of a report's records
use Rattle.std.specs.Prelude.{◌≡◌, ◌⊎◌, ℕ, Bool, true, false, Option}
use Rattle.outside.specs.Outside.{Rose}
use Rattle.region_report.specs.Reports.{ReportHeld}
use Rattle.report_tool.specs.Saved.{Files, Makes, MakesFirst, files_of}
use Rattle.report_run.specs.declared.failures.Failure.{Failure}
use Rattle.report_run.specs.declared.failures.Failure.TheVariants.{Memory, Unsaved}
use Rattle.report_run.specs.States.{Folder}

-- why not all were made: `Unsaved` was answered, or memory ran out and it was not
abbrev pub IsKeptBack : ℕ → ℕ → Failure → Type 0
IsKeptBack before now (Unsaved why) = Rose before now
IsKeptBack before now Memory = now ≡ before
IsKeptBack before now other = ⊥

-- no file was made: the folder itself can fail, even for a report without records. Or the first were made, and not all
abbrev pub MakesSome : ReportHeld → Option Files → Option Files → Type 0
MakesSome report before now = (now ≡ before) ⊎ MakesFirst report.origin report.records before now

-- its records were saved
pub record AreSaved (report : ReportHeld) (before now : Folder) : Type 0 where
  pub made : Makes before.files now.files (files_of report.origin report.records)
  pub no_fault : now.faults ≡ before.faults

-- that is done if it is asked for, and else no file is made
abbrev pub IsSaved : Bool → ReportHeld → Folder → Folder → Type 0
IsSaved true report before now = AreSaved report before now
IsSaved false report before now = now ≡ before

-- they were to be saved, and not all were
pub record IsUnsaved (saves : Bool) (report : ReportHeld) (before now : Folder) (why : Failure) : Type 0 where
  pub is_asked : saves ≡ true
  pub made : MakesSome report before.files now.files
  pub cause : IsKeptBack before.faults now.faults why
