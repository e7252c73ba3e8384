-- A call trace: the functions that had called one another, the last one first
use Rattle.std.specs.Prelude.{ℕ, ◌+◌, ◌-◌, ◌==◌, Bool, true, not, ◌&&◌, ◌||◌, nat_eq, nat_lt, if◌then◌else◌, List, []}
use Rattle.std.specs.Prelude.{◌∷◌, map, length, take, drop, slice_index, bytes_eq, codes, Option, Some, None, false}
use Rattle.std.specs.List.{filter, take_while, starts_with}
use Rattle.death_spec.specs.declared.Line.{Line}
use Rattle.death_spec.specs.declared.Span.{Span}
use Rattle.death_spec.specs.declared.Way.{Way}
use Rattle.death_spec.specs.declared.Way.TheVariants.{Dying, Waiting}
use Rattle.death_spec.specs.declared.frames.TheConstants.{FRAMES}
use Rattle.death_spec.specs.declared.Class.TheVariants.{Blank, Word, Name, Symbol}
use Rattle.death_spec.specs.declared.Mark.TheVariants.{Offset, Unsure, Stack, Address, Bare}
use Rattle.death_spec.specs.Marks.{run, begins}
use Rattle.death_spec.specs.Lines.{lines_from, said}

-- ---- entries

-- behind an address such as `[<ffffffff80002a3c>] `, if there is one
abbrev pub past_address : List ℕ → ℕ
past_address words =
    if begins Address words then run Word words + run Blank (drop (run Word words) words) else 0

-- PowerPC prints two addresses
abbrev pub past_addresses : List ℕ → ℕ
past_addresses words = past_address words + past_address (drop (past_address words) words)

-- where a name begins: 32-bit ARM can have it in parentheses behind the address
abbrev pub name_at : List ℕ → ℕ
name_at words =
    if nat_lt 0 (past_addresses words) && slice_index words (past_addresses words) == 40
    then past_addresses words + 1 else past_addresses words

abbrev pub unplaced : List ℕ → List ℕ
unplaced words = drop (name_at words) words

-- `name+0x1f/0x30`, or `name from caller+0x1f/0x30` (32-bit ARM)
abbrev pub is_named : List ℕ → Bool
is_named words = nat_lt 0 (run Name words) && begins Offset (drop (run Name words) words) && not (begins Bare words)

abbrev pub is_entry : List ℕ → Bool
is_entry words = is_named (unplaced words)

-- also `? name+0x1f/0x30`, which the stack holds but perhaps no call left; an address without a name; the name of a
-- stack, `<TASK>`; and a line in which the kernel says nothing
abbrev pub is_of_trace : List ℕ → Bool
is_of_trace words =
    length words == 0 || begins Stack words || begins Unsure (unplaced words) || begins Bare (unplaced words)
    || is_entry words

abbrev pub name_in : List ℕ → Line → Span
name_in text line =
    let start = line.text + name_at (said text line) in
    record { start = start; end = start + run Name (unplaced (said text line)) }

-- the entries of a trace whose first line is at a place
unfoldable pub entries : List ℕ → ℕ → List Line
entries text at =
    filter (λ line. is_entry (said text line)) (take_while (λ line. is_of_trace (said text line)) (lines_from text at))

-- the entries of a trace from its first one on
abbrev pub entries_of : List ℕ → Option Line → List Line
entries_of text None = []
entries_of text (Some line) = line ∷ entries text line.next

-- ---- the entries that are not to blame

-- the rows of `FRAMES`
abbrev pub frame_rows : List (Way × List ℕ)
frame_rows = map (λ (row : Way × record { now : List ℕ }). (row.0, row.1.now)) FRAMES.now

-- whether a row is about a name: the same name, or, before a star, the front of it
abbrev pub fits : List ℕ → List ℕ → Bool
fits words name =
    if slice_index words (length words - 1) == 42
    then starts_with nat_eq name (take (length words - 1) words) else bytes_eq name words

-- what waits is to blame, but for a task that hangs
abbrev pub counts : Bool → Way → Bool
counts hangs Dying = true
counts hangs Waiting = hangs

unfoldable pub is_passed : List (Way × List ℕ) → Bool → List ℕ → Bool
is_passed [] hangs name = false
is_passed (row ∷ rows) hangs name =
    if counts hangs row.0 && fits row.1 name then true else is_passed rows hangs name

-- whether the function that words begin with is not to blame
abbrev pub is_helper : Bool → List ℕ → Bool
is_helper hangs words = is_passed frame_rows hangs (take (run Symbol words) words)

-- the first entry that is to blame
unfoldable pub to_blame : List ℕ → Bool → List Line → Option Line
to_blame text hangs [] = None
to_blame text hangs (line ∷ lines) =
    if is_helper hangs (unplaced (said text line)) then to_blame text hangs lines else Some line
