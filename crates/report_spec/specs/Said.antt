-- What the kernel says in a log after some words, and by it how far above its map it runs
use Rattle.std.specs.Prelude.{ℕ, nat_eq, if◌then◌else◌, List, [], ◌∷◌, length, codes}
use Rattle.std.specs.List.{starts_with}
use Rattle.zone_spec.specs.declared.Name.{Name}
use Rattle.zone_spec.specs.declared.Name.TheVariants.{Dump, Console, Pmsg, Ftrace}
use Rattle.zone_spec.specs.RecordsHeld.{RecordHeld}
use Rattle.death_spec.specs.declared.Line.{Line}
use Rattle.death_spec.specs.Lines.{part, lines_from, said}
use Rattle.symbol_spec.specs.Shifts.{shift_of}

-- what follows these words in the first of lines in which the kernel says them
unfoldable pub said_after : List ℕ → List ℕ → List Line → List ℕ
said_after text words [] = []
said_after text words (line ∷ lines) =
    if starts_with nat_eq (said text line) words then part (said text line) (length words) (length (said text line))
    else said_after text words lines

abbrev pub console_or : Name → (content rest : List ℕ) → List ℕ
console_or (Dump index packed) content rest = rest
console_or Console content rest = content
console_or Pmsg content rest = rest
console_or Ftrace content rest = rest

-- the console's log; empty without one
unfoldable pub console_in : List RecordHeld → List ℕ
console_in [] = []
console_in (r ∷ rs) = console_or r.name r.content (console_in rs)

abbrev pub offset_said : List ℕ → List ℕ
offset_said log = said_after log (codes "Kernel Offset: ") (lines_from log 0)

-- how far above a map the kernel ran that traced its functions. The console says it: a boot erases both zones, and a
-- dump can be of an earlier boot
abbrev pub shift_in : (map : List ℕ) → List RecordHeld → ℕ
shift_in map records = shift_of map (offset_said (console_in records))
