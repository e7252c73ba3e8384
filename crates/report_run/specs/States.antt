-- The outputs, the files that were made, and how often the outside failed
use Rattle.std.specs.Prelude.{ℕ, List, Option}
use Rattle.report_tool.specs.Saved.{Files}
use Rattle.report_run.specs.Messages.{Seen}

-- the files that were made of records, and how often `Unsaved` was answered
pub record Folder : Type 0 where
  pub files : Option Files
  pub faults : ℕ

abbrev pub folder : Option Files → ℕ → Folder
folder files faults = record { files = files; faults = faults }

pub record State : Type 0 where
  pub out : Option (List ℕ)
  pub out_faults : ℕ
  pub errors : Seen
  pub files : Folder

abbrev pub state : Option (List ℕ) → ℕ → Seen → Folder → State
state out out_faults errors files = record { out = out; out_faults = out_faults; errors = errors; files = files }

-- how often `Unopened` was answered, and how often a file that was opened was not read
pub record Reads : Type 0 where
  pub unopened : ℕ
  pub unread : ℕ

abbrev pub reads : ℕ → ℕ → Reads
reads unopened unread = record { unopened = unopened; unread = unread }
