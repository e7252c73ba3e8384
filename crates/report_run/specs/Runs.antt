-- The run over files, one after another
use Rattle.std.specs.Prelude.{◌≡◌, ◌⊎◌, ◌≤◌, ℕ, nat_lt, Bool, true, false, ◌&&◌, List}
use Rattle.std.specs.Prelude.{Option, Some, None, ◌+◌, [], ◌∷◌, string_bytes}
use Rattle.outside.specs.Outside.{Rose}
use Rattle.storage_spec.specs.Found.{most_storage}
use Rattle.region_report.specs.Reports.{ReportHeld}
use Rattle.report_entry.specs.declared.laying.Layouts.{Layouts}
use Rattle.report_entry.specs.declared.laying.Layouts.TheVariants.{Given, Sought}
use Rattle.report_run.specs.declared.plans.Asked.{Asked}
use Rattle.report_run.specs.declared.plans.WholeMemory.{WholeMemory}
use Rattle.report_run.specs.declared.plans.Wanted.{Wanted}
use Rattle.report_run.specs.declared.plans.Wanted.TheVariants.{Front, UpTo, Whole}
use Rattle.report_run.specs.declared.failures.Failure.{Failure}
use Rattle.report_run.specs.declared.failures.Failure.TheVariants.{Memory, Unopened, Unwritten as NoOutput}
use Rattle.report_run.specs.declared.running.FileEnd.{FileEnd}
use Rattle.report_run.specs.declared.running.FileEnd.TheVariants.{Done, Failed, Unwritten}
use Rattle.report_run.specs.declared.running.NamedFile.{NamedFile}
use Rattle.report_run.specs.Messages.{Seen, IsMessage, IsCounted}
use Rattle.report_run.specs.Reports.{IsReport, IsNoReport}
use Rattle.report_run.specs.Saving.{IsSaved, IsUnsaved}
use Rattle.report_run.specs.States.{State, Reads}
use Rattle.report_run.specs.Memories.{IsMemoryDone, IsMemoryUndone}

-- how much of a file is wanted
abbrev pub wanted : Option WholeMemory → Layouts → Wanted
wanted (Some whole) layouts = Whole
wanted None (Given plan) = Front plan.mem
wanted None (Sought known) = UpTo most_storage

-- `Unopened` was answered, or memory ran out
abbrev pub IsUnopened : ℕ → ℕ → Failure → Type 0
IsUnopened before now (Unopened why) = Rose before now
IsUnopened before now Memory = now ≡ before
IsUnopened before now other = ⊥

-- ---- an image

pub record IsImageDone (asked : Asked) (path : List ℕ) (holds : Option (List ℕ)) (a b : State) : Type 0 where
  pub report : ReportHeld
  pub reported : IsReport asked.layouts asked path holds a.out b.out a.errors b.errors report
  pub no_fault : b.out_faults ≡ a.out_faults
  pub saved : IsSaved asked.saves report a.files b.files

-- it was not reported: no file was made
pub record IsUnseen (asked : Asked) (path : List ℕ) (holds : Option (List ℕ)) (read_before read_now : ℕ) (a b : State)
    (why : Failure) : Type 0 where
  pub cause : IsNoReport asked.layouts asked path holds read_before read_now a.out b.out a.out_faults b.out_faults
      a.errors b.errors why
  pub files_same : b.files ≡ a.files

-- or it was reported, and its records were not saved
pub record IsUnkept (asked : Asked) (path : List ℕ) (holds : Option (List ℕ)) (read_before read_now : ℕ) (a b : State)
    (why : Failure) : Type 0 where
  pub report : ReportHeld
  pub reported : IsReport asked.layouts asked path holds a.out b.out a.errors b.errors report
  pub no_read_fault : read_now ≡ read_before
  pub no_put_fault : b.out_faults ≡ a.out_faults
  pub cause : IsUnsaved asked.saves report a.files b.files why

abbrev pub IsImageUndone : Asked → List ℕ → Option (List ℕ) → ℕ → ℕ → State → State → Failure → Type 0
IsImageUndone asked path holds read_before read_now a b why =
    IsUnseen asked path holds read_before read_now a b why ⊎ IsUnkept asked path holds read_before read_now a b why

-- ---- a file: an image, or a whole memory

abbrev pub IsContentDone : Option WholeMemory → Asked → List ℕ → Option (List ℕ) → State → State → Type 0
IsContentDone None asked path holds a b = IsImageDone asked path holds a b
IsContentDone (Some whole) asked path holds a b = IsMemoryDone asked.layouts asked whole path holds a b

abbrev pub IsContentUndone : Option WholeMemory → Asked → List ℕ → Option (List ℕ) → ℕ → ℕ → State → State → Failure
    → Type 0
IsContentUndone None asked path holds read_before read_now a b why =
    IsImageUndone asked path holds read_before read_now a b why
IsContentUndone (Some whole) asked path holds read_before read_now a b why =
    IsMemoryUndone asked.layouts asked whole path holds read_before read_now a b why

pub record IsDone (asked : Asked) (path : List ℕ) (holds : Option (List ℕ)) (before now : Reads) (a b : State)
    : Type 0 where
  pub done : IsContentDone asked.memory asked path holds a b
  pub no_fault : now ≡ before

-- it could not be opened: nothing was done
pub record IsClosed (before now : Reads) (a b : State) (why : Failure) : Type 0 where
  pub cause : IsUnopened before.unopened now.unopened why
  pub no_read_fault : now.unread ≡ before.unread
  pub same : b ≡ a

-- or it was opened, and not all of what it holds was done
pub record IsHalfDone (asked : Asked) (path : List ℕ) (holds : Option (List ℕ)) (before now : Reads) (a b : State)
    (why : Failure) : Type 0 where
  pub opened : now.unopened ≡ before.unopened
  pub undone : IsContentUndone asked.memory asked path holds before.unread now.unread a b why

abbrev pub IsUndone : Asked → List ℕ → Option (List ℕ) → Reads → Reads → State → State → Failure → Type 0
IsUndone asked path holds before now a b why =
    IsClosed before now a b why ⊎ IsHalfDone asked path holds before now a b why

-- ---- how it ended

-- standard output took no more, or all else
abbrev pub end_of : Failure → FileEnd
end_of NoOutput = Unwritten
end_of other = Failed

-- its message was told
pub record IsFailed (asked : Asked) (path : List ℕ) (holds : Option (List ℕ)) (before now : Reads) (a b : State)
    (end : FileEnd) : Type 0 where
  pub why : Failure
  pub end_is : end ≡ end_of why
  pub between : Seen
  pub undone : IsUndone asked path holds before now a (record b { errors = between }) why
  pub told : IsMessage path why between b.errors

abbrev pub IsPath : FileEnd → Asked → List ℕ → Option (List ℕ) → Reads → Reads → State → State → Type 0
IsPath Done asked path holds before now a b = IsDone asked path holds before now a b
IsPath end asked path holds before now a b = IsFailed asked path holds before now a b end

-- ---- one of several files

-- whether it is told how many came before
abbrev pub is_counted : Asked → ℕ → Bool
is_counted asked all = asked.counts && nat_lt 1 all

pub record IsStep (asked : Asked) (i all : ℕ) (path : List ℕ) (holds : Option (List ℕ)) (reads_before reads_now : Reads)
    (a b : State) (end : FileEnd) : Type 0 where
  pub later : reads_before.unread ≤ reads_now.unread
  pub between : Seen
  pub counted : IsCounted (is_counted asked all) i all a.errors between
  pub is_path : IsPath end asked path holds reads_before reads_now (record a { errors = between }) b

-- no other file is opened where there is nothing left to write to
abbrev pub ends_run : FileEnd → Bool
ends_run Unwritten = true
ends_run end = false

-- one that failed is remembered
abbrev pub with_end : FileEnd → FileEnd → FileEnd
with_end so_far Done = so_far
with_end so_far end = end

-- the status is 0 if all was done, and standard error took every line
abbrev pub status_of : FileEnd → Bool → ℕ
status_of Done false = 0
status_of end is_lost = 1

-- the files from number i on, of so many: each is opened by its path, and shown by its name
unfoldable pub AreSteps : Asked → (List ℕ → Wanted → Option (List ℕ)) → ℕ → ℕ → List NamedFile → Reads → State
    → FileEnd → Reads → State → FileEnd → Type 0
AreSteps asked content all i [] reads_before a so_far reads_now b ended =
    (reads_now ≡ reads_before) × (b ≡ a) × (ended ≡ so_far)
AreSteps asked content all i (file ∷ files) reads_before a so_far reads_now b ended =
    (between : Reads) × (m : State) × (end : FileEnd)
    × IsStep asked i all (string_bytes file.name)
    (content (string_bytes file.path) (wanted asked.memory asked.layouts)) reads_before between a m end
    × (((ends_run end ≡ true) × (reads_now ≡ between) × (b ≡ m) × (ended ≡ end))
    ⊎ ((ends_run end ≡ false)
    × AreSteps asked content all (i + 1) files between m (with_end so_far end) reads_now b ended))
