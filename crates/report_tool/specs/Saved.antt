-- Files made in a folder
use Rattle.std.specs.Prelude.{◌≡◌, ℕ, ◌<◌, List, ◌++◌, length, map, take, ⊤, Option, Some, None}
use Rattle.report_spec.specs.declared.Origin.{Origin}
use Rattle.report_spec.specs.Origins.{name_in}
use Rattle.report_spec.specs.Packed.{RecordShown}

abbrev pub Files : Type 0
Files = List (List ℕ × List ℕ)

-- these files were made, where the folder tells them
abbrev pub Makes : Option Files → Option Files → Files → Type 0
Makes None None files = ⊤
Makes None (Some now) files = ⊥
Makes (Some before) None files = ⊥
Makes (Some before) (Some now) files = now ≡ before ++ files

-- the files of records: each under its name in a mounted pstore
abbrev pub files_of : Origin → List RecordShown → Files
files_of origin records = map (λ (r : RecordShown). (name_in origin r.name, r.content)) records

-- the files of the first records were made, and at least one was not
pub record MakesFirst (origin : Origin) (records : List RecordShown) (before now : Option Files) : Type 0 where
  pub count : ℕ
  pub within : count < length records
  pub made : Makes before now (files_of origin (take count records))
