-- The line that tells why the machine died
use Rattle.std.specs.Prelude.{ℕ, Bool, false, not, ◌&&◌, ◌||◌, if◌then◌else◌, List, [], ◌∷◌, Option}
use Rattle.std.specs.Prelude.{Some, None}
use Rattle.std.specs.Option.{option_or}
use Rattle.death_spec.specs.declared.Line.{Line}
use Rattle.death_spec.specs.declared.Mark.{Mark}
use Rattle.death_spec.specs.declared.Mark.TheVariants.{Panic, Fault, SoftLockup, HardLockup, StackOverflow}
use Rattle.death_spec.specs.declared.Mark.TheVariants.{SystemError, Oops, Warning, HungTask, Stall, End}
use Rattle.death_spec.specs.Marks.{is_mark}
use Rattle.death_spec.specs.Lines.{lines_from, kind}

abbrev pub is_panic : Option Mark → Bool
is_panic kind = is_mark Panic kind

abbrev pub is_fault : Option Mark → Bool
is_fault kind =
    is_mark Fault kind || is_mark SoftLockup kind || is_mark HardLockup kind || is_mark StackOverflow kind
    || is_mark SystemError kind

abbrev pub is_warning : Option Mark → Bool
is_warning kind = is_mark Warning kind || is_mark HungTask kind || is_mark Stall kind

-- the last line of a kind
unfoldable pub last_of : List ℕ → (Option Mark → Bool) → List Line → Option Line
last_of text counts [] = None
last_of text counts (line ∷ lines) =
    option_or (last_of text counts lines) (if counts (kind text line) then Some line else None)

abbrev pub last_in : List ℕ → (Option Mark → Bool) → Option Line
last_in text counts = last_of text counts (lines_from text 0)

-- a line of an oops
abbrev pub is_of_oops : Option Mark → Bool
is_of_oops kind = is_fault kind || is_mark Oops kind

-- a fault opens a report. The head of an oops does if no report is open: else it belongs to the fault above it
abbrev pub opens : Bool → Option Mark → Bool
opens is_open kind = is_fault kind || (is_mark Oops kind && not is_open)

-- another report begins, or this one ends: `---[ end trace`, `---[ end Kernel panic`
abbrev pub ends_report : Bool → Option Mark → Bool
ends_report is_open kind = opens is_open kind || is_panic kind || is_warning kind || is_mark End kind

-- whether the report of an oops is open behind a line
abbrev pub open_behind : Bool → Option Mark → Bool
open_behind is_open kind = is_of_oops kind || (is_open && not (ends_report is_open kind))

-- the last line that opens the report of an oops
unfoldable pub last_opening : List ℕ → Bool → List Line → Option Line
last_opening text is_open [] = None
last_opening text is_open (line ∷ lines) =
    option_or (last_opening text (open_behind is_open (kind text line)) lines)
    (if opens is_open (kind text line) then Some line else None)

abbrev pub last_oops : List ℕ → Option Line
last_oops text = last_opening text false (lines_from text 0)

-- the last panic; without one the last oops; without one the last warning
unfoldable pub telling_line : List ℕ → Option Line
telling_line text = option_or (last_in text is_panic) (option_or (last_oops text) (last_in text is_warning))
