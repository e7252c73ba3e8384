-- What the report of a storage depends on: each zone's first 52 bytes, and the logs of the listed records
use Rattle.std.specs.Prelude.{◌≡◌, ℕ, List}
use Rattle.std.specs.List.{AllByRecursion}
use Rattle.psz_spec.specs.declared.Zone.{Zone}
use Rattle.psz_spec.specs.Layouts.{zones_of}
use Rattle.psz_read.specs.Laws.{ReadsTheSame}
use Rattle.storage_spec.specs.declared.Storage.{Storage}
use Rattle.storage_spec.specs.Zones.{readings_in}
use Rattle.storage_spec.specs.Records.{held_in}
use Rattle.storage_spec.specs.Told.{storage_lines}

-- two images have the same bytes there; others may differ
abbrev pub ReadTheSame : Storage → List ℕ → List ℕ → Type 0
ReadTheSame s a b = AllByRecursion (λ (z : Zone). ReadsTheSame s.machine z a b) (zones_of s.sizes)

abbrev pub SameReadings : Type 0
SameReadings = (s : Storage) (a b : List ℕ) → ReadTheSame s a b
    → readings_in s.machine s.sizes a ≡ readings_in s.machine s.sizes b

abbrev pub SameRecords : Type 0
SameRecords = (s : Storage) (a b : List ℕ) → ReadTheSame s a b
    → held_in s.machine s.sizes a ≡ held_in s.machine s.sizes b

abbrev pub SameLines : Type 0
SameLines = (s : Storage) (name a b : List ℕ) → ReadTheSame s a b → storage_lines name s a ≡ storage_lines name s b
