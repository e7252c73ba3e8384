-- What a panic is about, if something else caused it: a report above it
use Rattle.std.specs.Prelude.{ℕ, Bool, true, false, not, ◌&&◌, ◌||◌, nat_eq, if◌then◌else◌, List, [], ◌∷◌, map, Option}
use Rattle.std.specs.Prelude.{Some, None}
use Rattle.std.specs.List.{starts_with}
use Rattle.std.specs.Option.{option_or}
use Rattle.death_spec.specs.declared.Line.{Line}
use Rattle.death_spec.specs.declared.Mark.{Mark}
use Rattle.death_spec.specs.declared.Mark.TheVariants.{Processor, SoftLockup, HardLockup, HungTask, Stall, StackOverflow}
use Rattle.death_spec.specs.declared.Mark.TheVariants.{SystemError}
use Rattle.death_spec.specs.declared.Cause.{Cause}
use Rattle.death_spec.specs.declared.Cause.TheVariants.{LastOops, OopsOfInit, LastSoftLockup, LastHardLockup}
use Rattle.death_spec.specs.declared.Cause.TheVariants.{LastHungTask, LastStall, OpenFault, OpenWarning}
use Rattle.death_spec.specs.declared.Cause.TheVariants.{OpenStackOverflow, OpenSystemError}
use Rattle.death_spec.specs.declared.Opened.{Opened}
use Rattle.death_spec.specs.declared.causes.TheConstants.{CAUSES, FIRST_PROCESS}
use Rattle.death_spec.specs.Marks.{is_mark}
use Rattle.death_spec.specs.Lines.{lines_from, part, said, kind}
use Rattle.death_spec.specs.Telling.{is_panic, is_fault, is_warning, is_of_oops, opens, ends_report}

-- ---- which reports a panic can be about

-- whether words stand anywhere in a text
unfoldable pub stand_in : List ℕ → List ℕ → Bool
stand_in words [] = false
stand_in words (b ∷ bs) = starts_with nat_eq (b ∷ bs) words || stand_in words bs

-- the rows of `CAUSES`
abbrev pub cause_rows : List (Cause × List ℕ)
cause_rows = map (λ (row : Cause × record { now : List ℕ }). (row.0, row.1.now)) CAUSES.now

-- the first row whose words stand in a text
unfoldable pub cause_in : List (Cause × List ℕ) → List ℕ → Option Cause
cause_in [] text = None
cause_in (row ∷ rows) text = if stand_in row.1 text then Some row.0 else cause_in rows text

abbrev pub is_sought : Cause → Option Mark → Bool
is_sought LastOops kind = is_of_oops kind
is_sought OopsOfInit kind = is_of_oops kind
is_sought LastSoftLockup kind = is_mark SoftLockup kind
is_sought LastHardLockup kind = is_mark HardLockup kind
is_sought LastHungTask kind = is_mark HungTask kind
is_sought LastStall kind = is_mark Stall kind
is_sought OpenFault kind = is_fault kind
is_sought OpenWarning kind = is_warning kind
is_sought OpenStackOverflow kind = is_mark StackOverflow kind
is_sought OpenSystemError kind = is_mark SystemError kind

-- whether only the report counts that is open at the panic
abbrev pub is_open_only : Cause → Bool
is_open_only LastOops = false
is_open_only OopsOfInit = false
is_open_only LastSoftLockup = false
is_open_only LastHardLockup = false
is_open_only LastHungTask = false
is_open_only LastStall = false
is_open_only OpenFault = true
is_open_only OpenWarning = true
is_open_only OpenStackOverflow = true
is_open_only OpenSystemError = true

abbrev pub is_of_init : Cause → Bool
is_of_init LastOops = false
is_of_init OopsOfInit = true
is_of_init LastSoftLockup = false
is_of_init LastHardLockup = false
is_of_init LastHungTask = false
is_of_init LastStall = false
is_of_init OpenFault = false
is_of_init OpenWarning = false
is_of_init OpenStackOverflow = false
is_of_init OpenSystemError = false

-- ---- the reports of a log, one after the other

-- whether the report of an oops is open
abbrev pub in_oops : Option Opened → Bool
in_oops None = false
in_oops (Some report) = is_of_oops (Some report.mark)

-- the report that is open after a line
abbrev pub open_after : Option Opened → Option Mark → Line → Option Opened
open_after opened None line = opened
open_after opened (Some mark) line =
    if opens (in_oops opened) (Some mark) || is_warning (Some mark) then Some (record { head = line; mark = mark })
    else if ends_report (in_oops opened) (Some mark) then None else opened

-- the report that is open after lines
unfoldable pub open_below : List ℕ → Option Opened → List Line → Option Opened
open_below text opened [] = opened
open_below text opened (line ∷ lines) = open_below text (open_after opened (kind text line) line) lines

-- the first line of the open report, if that is sought
abbrev pub head_of : Cause → Option Opened → Option Line
head_of cause None = None
head_of cause (Some report) = if is_sought cause (Some report.mark) then Some report.head else None

-- a line in which a report says that it is of process 1
abbrev pub names_init : List ℕ → Option Mark → Line → Bool
names_init text kind line = is_mark Processor kind && stand_in FIRST_PROCESS.now (said text line)

-- a line that opens a report that is sought
abbrev pub opens_sought : Cause → Option Opened → Option Mark → Bool
opens_sought cause opened kind = (opens (in_oops opened) kind || is_warning kind) && is_sought cause kind

-- the report that a line adds to those found
abbrev pub found : List ℕ → Cause → Option Opened → Option Mark → Line → Option Line
found text cause opened kind line =
    if is_of_init cause then (if names_init text kind line then head_of cause opened else None)
    else if opens_sought cause opened kind then Some line else None

-- the last report that counts
unfoldable pub last_found : List ℕ → Cause → Option Opened → List Line → Option Line
last_found text cause opened [] = None
last_found text cause opened (line ∷ lines) =
    option_or (last_found text cause (open_after opened (kind text line) line) lines)
    (found text cause opened (kind text line) line)

-- ---- the cause

-- the report that lines have of a kind: the one that is open below them, or the last one
abbrev pub report_of : List ℕ → Cause → List Line → Option Line
report_of text cause lines =
    if is_open_only cause then head_of cause (open_below text None lines) else last_found text cause None lines

abbrev pub report_above : List ℕ → Line → Option Cause → Option Line
report_above text line None = None
report_above text line (Some cause) =
    report_of (part text 0 line.start) cause (lines_from (part text 0 line.start) 0)

-- what a line is about: of a panic, by its words, the report above it
unfoldable pub cause_of : List ℕ → Line → Option Line
cause_of text line =
    if is_panic (kind text line) then report_above text line (cause_in cause_rows (said text line)) else None
