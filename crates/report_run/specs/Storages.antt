-- An image that is a storage of the kernel's pstore_zone, or one whose layout is looked for
use Rattle.std.specs.Prelude.{◌≡◌, ◌⊎◌, ℕ, List, [], Option, Some, None}
use Rattle.command_spec.specs.declared.Stop.{Stop}
use Rattle.storage_words.specs.declared.Storages.{Storages}
use Rattle.storage_spec.specs.Told.{storage_lines}
use Rattle.storage_report.specs.declared.storage.HeldStorage.{HeldStorage}
use Rattle.storage_report.specs.declared.storage.NoStorage.{NoStorage}
use Rattle.storage_report.specs.Held.{IsLookedAt, IsNotLookedAt}
use Rattle.storage_report.specs.Given.{IsReported, IsUnreported}
use Rattle.layout_spec.specs.declared.Known.{Known}
use Rattle.region_report.specs.Reports.{ReportHeld}
use Rattle.report_run.specs.declared.plans.Asked.{Asked}
use Rattle.report_run.specs.declared.failures.Failure.{Failure}
use Rattle.report_run.specs.declared.failures.Failure.TheVariants.{Memory}
use Rattle.report_run.specs.Failures.{stop_failure, no_storage_failure}
use Rattle.report_run.specs.Images.{TellsLayout, IsNotTold, IsSoughtReport, IsNoSoughtReport}
use Rattle.report_run.specs.Messages.{Seen}
use Rattle.report_run.specs.Plans.{map_of}

abbrev pub names_of : Option (List ℕ) → List ℕ
names_of None = []
names_of (Some map) = map

-- it was not looked at, or no kernel divides it by the sizes that words give
pub record IsUnfound (storages : Storages) (holds : Option (List ℕ)) (before now : ℕ) (why : Failure) : Type 0 where
  pub none : NoStorage
  pub cause : IsNotLookedAt storages holds before now none
  pub is : why ≡ no_storage_failure none

-- ---- the report of a storage, and the lines on it behind

abbrev pub lines_on : List ℕ → HeldStorage → List ℕ
lines_on path h = storage_lines path h.storage h.bytes.items

pub record IsStorageShown (asked : Asked) (path : List ℕ) (h : HeldStorage) (given now : Option (List ℕ)) (a b : Seen)
    (report : ReportHeld) : Type 0 where
  pub between : Option (List ℕ)
  pub reported : IsReported asked.format path h (names_of (map_of asked.map)) asked.lines given between report
  pub lines : TellsLayout asked.format (lines_on path h) between now a b

-- memory ran out before
pub record IsUnbegun (given now : Option (List ℕ)) (put_before put_now : ℕ) (a b : Seen) (why : Failure) : Type 0 where
  pub why_is : why ≡ Memory
  pub unput : now ≡ given
  pub no_put_fault : put_now ≡ put_before
  pub silent : b ≡ a

-- or the report stopped
pub record IsStorageStopped (asked : Asked) (path : List ℕ) (h : HeldStorage) (given now : Option (List ℕ))
    (put_before put_now : ℕ) (a b : Seen) (why : Failure) : Type 0 where
  pub stop : Stop
  pub cause : IsUnreported asked.format path h (names_of (map_of asked.map)) asked.lines given now put_before put_now
      stop
  pub why_is : why ≡ stop_failure stop
  pub silent : b ≡ a

-- or the lines failed behind it
pub record IsStorageUnended (asked : Asked) (path : List ℕ) (h : HeldStorage) (given now : Option (List ℕ))
    (put_before put_now : ℕ) (a b : Seen) (why : Failure) : Type 0 where
  pub between : Option (List ℕ)
  pub report : ReportHeld
  pub reported : IsReported asked.format path h (names_of (map_of asked.map)) asked.lines given between report
  pub cause : IsNotTold asked.format (lines_on path h) between now put_before put_now a b why

abbrev pub IsStorageUnshown : Asked → List ℕ → HeldStorage → Option (List ℕ) → Option (List ℕ) → ℕ → ℕ → Seen → Seen
    → Failure → Type 0
IsStorageUnshown asked path h given now put_before put_now a b why =
    IsUnbegun given now put_before put_now a b why
    ⊎ (IsStorageStopped asked path h given now put_before put_now a b why
    ⊎ IsStorageUnended asked path h given now put_before put_now a b why)

-- ---- an image that is no text log

-- it is a storage
pub record IsAsStorage (asked : Asked) (path : List ℕ) (holds given now : Option (List ℕ)) (a b : Seen)
    (report : ReportHeld) : Type 0 where
  pub storage : HeldStorage
  pub held : IsLookedAt asked.storages holds (Some storage)
  pub reported : IsStorageShown asked path storage given now a b report

-- or a layout was looked for
pub record IsAsLaid (asked : Asked) (known : Known) (path : List ℕ) (holds given now : Option (List ℕ)) (a b : Seen)
    (report : ReportHeld) : Type 0 where
  pub no_storage : IsLookedAt asked.storages holds None
  pub reported : IsSoughtReport asked known path holds given now a b report

abbrev pub IsUnloggedReport : Asked → Known → List ℕ → Option (List ℕ) → Option (List ℕ) → Option (List ℕ)
    → Seen → Seen → ReportHeld → Type 0
IsUnloggedReport asked known path holds given now a b report =
    IsAsStorage asked path holds given now a b report ⊎ IsAsLaid asked known path holds given now a b report

-- none was found: nothing was given out
pub record IsUnseenStorage (storages : Storages) (holds : Option (List ℕ)) (read_before read_now : ℕ)
    (given now : Option (List ℕ)) (put_before put_now : ℕ) (a b : Seen) (why : Failure) : Type 0 where
  pub cause : IsUnfound storages holds read_before read_now why
  pub unput : now ≡ given
  pub no_put_fault : put_now ≡ put_before
  pub silent : b ≡ a

pub record IsNotAsStorage (asked : Asked) (path : List ℕ) (holds : Option (List ℕ)) (read_before read_now : ℕ)
    (given now : Option (List ℕ)) (put_before put_now : ℕ) (a b : Seen) (why : Failure) : Type 0 where
  pub no_read_fault : read_now ≡ read_before
  pub storage : HeldStorage
  pub held : IsLookedAt asked.storages holds (Some storage)
  pub cause : IsStorageUnshown asked path storage given now put_before put_now a b why

pub record IsNotAsLaid (asked : Asked) (known : Known) (path : List ℕ) (holds : Option (List ℕ))
    (read_before read_now : ℕ) (given now : Option (List ℕ)) (put_before put_now : ℕ) (a b : Seen) (why : Failure)
    : Type 0 where
  pub no_storage : IsLookedAt asked.storages holds None
  pub cause : IsNoSoughtReport asked known path holds read_before read_now given now put_before put_now a b why

abbrev pub IsNoUnloggedReport : Asked → Known → List ℕ → Option (List ℕ) → ℕ → ℕ → Option (List ℕ) → Option (List ℕ)
    → ℕ → ℕ → Seen → Seen → Failure → Type 0
IsNoUnloggedReport asked known path holds read_before read_now given now put_before put_now a b why =
    IsUnseenStorage asked.storages holds read_before read_now given now put_before put_now a b why
    ⊎ (IsNotAsStorage asked path holds read_before read_now given now put_before put_now a b why
    ⊎ IsNotAsLaid asked known path holds read_before read_now given now put_before put_now a b why)
