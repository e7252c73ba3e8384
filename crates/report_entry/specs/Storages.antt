-- Which images are storages of the kernel's pstore_zone, and the report of one
use Rattle.std.specs.Prelude.{◌≡◌, ⊤, ℕ, true, if◌then◌else◌, ◌==◌, List, [], ◌++◌, length, Some, Result, Ok, Err}
use Rattle.std.specs.List.{filter, list_all}
use Rattle.std.specs.declared.string.String.{String}
use Rattle.std.specs.declared.alloc.Global.{Global}
use Rattle.grammar_spec.specs.declared.faults.ParamFault.{ParamFault}
use Rattle.kernel_line.specs.declared.layout.Module.TheVariants.{PstoreBlk}
use Rattle.kernel_line.specs.declared.words.LineFault.{LineFault}
use Rattle.kernel_line.specs.Line.{is_of, IsFaultBefore}
use Rattle.region_report.specs.Reports.{ReportHeld}
use Rattle.report_tool.specs.declared.showing.Format.{Format}
use Rattle.psz_spec.specs.declared.Sizes.{Sizes}
use Rattle.storage_words.specs.declared.Storages.{Storages}
use Rattle.storage_words.specs.declared.Storages.TheVariants.{Never, Shown, All}
use Rattle.storage_spec.specs.Found.{front_of}
use Rattle.storage_words.specs.Division.{storage_of}
use Rattle.storage_spec.specs.Told.{storage_lines}
use Rattle.storage_words.specs.Words.{is_of_storage, storages_by}
use Rattle.storage_report.specs.declared.storage.HeldStorage.{HeldStorage}
use Rattle.storage_report.specs.declared.storage.NoStorage.{NoStorage}
use Rattle.storage_report.specs.declared.storage.NoStorage.TheVariants.{Stopped, Undivided as NotDivided}
use Rattle.storage_report.specs.Given.{IsReported}
use Rattle.report_entry.specs.declared.reports.Reported.{Reported}
use Rattle.report_entry.specs.declared.reports.Refusal.{Refusal}
use Rattle.report_entry.specs.declared.reports.Refusal.TheVariants.{Memory, Undivided}
use Rattle.report_entry.specs.Memory.{text_bytes}

-- ---- words

-- behind those of a kernel's command line that give the sizes of a storage, unless one says something else
abbrev pub with_storage_words : List (List ℕ) → List (List ℕ) → List (List ℕ)
with_storage_words words line =
    if list_all is_of_storage words then filter (is_of PstoreBlk) line ++ words else words

-- why they were not added
pub record IsLineFault (words line : List (List ℕ)) (fault : LineFault) : Type 0 where
  pub taken : list_all is_of_storage words ≡ true
  pub fault_is : IsFaultBefore PstoreBlk line words fault

-- by a device tree none is a storage
abbrev pub storages_in : List (String Global) → List ℕ → Result Storages ParamFault
storages_in words tree = if length tree == 0 then storages_by words else Ok Never

-- ---- an image

abbrev pub no_storage : NoStorage → Refusal
no_storage (Stopped stop) = Memory
no_storage (NotDivided fault) = Undivided fault

-- why it is not known whether an image is a storage, or why it is none of the sizes that words give
abbrev pub IsUnheldBy : Sizes → List ℕ → Refusal → Type 0
IsUnheldBy sizes image Memory = ⊤
IsUnheldBy sizes image (Undivided fault) = storage_of sizes (front_of image) ≡ Err fault
IsUnheldBy sizes image other = ⊥

abbrev pub IsUnheld : Storages → List ℕ → Refusal → Type 0
IsUnheld Never image why = ⊥
IsUnheld Shown image why = why ≡ Memory
IsUnheld (All sizes) image why = IsUnheldBy sizes image why

-- the text is the lines on the storage, and then its report, with ten lines of the newest dump
pub record IsStorageReport (h : HeldStorage) (format : Format) (name : List ℕ) (r : Reported) : Type 0 where
  pub hint : r.hint ≡ length (storage_lines name h.storage h.bytes.items)
  pub report : ReportHeld
  pub reported : IsReported format name h [] 10 (Some (storage_lines name h.storage h.bytes.items))
      (Some (text_bytes r.text)) report
