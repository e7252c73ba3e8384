-- A table of the dumps by telling line: for each line how many dumps have it, and the newest of them
use Rattle.std.specs.Prelude.{ℕ, nat_lt, Bool, true, false, not, if◌then◌else◌, List, [], ◌∷◌, ◌++◌, length, take, map}
use Rattle.std.specs.Prelude.{filter, flat_map, bytes_eq, codes, Option, Some, None}
use Rattle.std.specs.List.{fold, list_any}
use Rattle.std.specs.Option.{is_some, option_copied, option_map}
use Rattle.zone_spec.specs.declared.Time.{Time}
use Rattle.death_spec.specs.declared.Death.{Death}
use Rattle.death_spec.specs.Lines.{part}
use Rattle.death_spec.specs.Reports.{death_of}
use Rattle.report_spec.specs.Packed.{RecordShown, readable}
use Rattle.report_spec.specs.Newest.{newest}
use Rattle.report_html.specs.declared.causes.Crash.{Crash}
use Rattle.report_html.specs.declared.words.TheConstants.{CAUSES}
use Rattle.report_html.specs.Pieces.{Part, Words, Count, Bytes, Moment, Link}
use Rattle.report_html.specs.Listed.{dump_number}

-- ---- the dumps

-- a dump, and its telling line if it has one
pub record CrashShown : Type 0 where
  pub dump : RecordShown
  pub line : Option (List ℕ)

abbrev pub telling_line : List ℕ → Option (List ℕ)
telling_line text = option_map (λ (d : Death). part text d.telling.text d.telling.end) (death_of text)

abbrev pub crash_of : RecordShown → CrashShown
crash_of r = record { dump = r; line = telling_line (readable r) }

abbrev pub is_dump : RecordShown → Bool
is_dump r = is_some (dump_number r.name)

abbrev pub crashes_of : List RecordShown → List CrashShown
crashes_of records = map crash_of (filter is_dump records)

-- ---- their telling lines

-- no line is the same as no line
abbrev pub is_same_line : Option (List ℕ) → Option (List ℕ) → Bool
is_same_line None None = true
is_same_line None (Some other) = false
is_same_line (Some line) None = false
is_same_line (Some line) (Some other) = bytes_eq line other

abbrev pub has_line_of : CrashShown → CrashShown → Bool
has_line_of c other = is_same_line c.line other.line

-- one dump more: it is kept if none that is kept has its line
abbrev pub with_first : List CrashShown → CrashShown → List CrashShown
with_first firsts c = if list_any (has_line_of c) firsts then firsts else firsts ++ c ∷ []

-- the first dump of each telling line, in order
abbrev pub firsts_of : List CrashShown → List CrashShown
firsts_of crashes = fold with_first [] crashes

-- the first 15 lines have rows
abbrev pub rows_of : List CrashShown → List CrashShown
rows_of crashes = take 15 (firsts_of crashes)

-- whether the line of a dump has none of these rows
abbrev pub has_no_row : List CrashShown → CrashShown → Bool
has_no_row rows c = not (list_any (has_line_of c) rows)

-- ---- the table

abbrev pub time_cell : Option Time → List Part
time_cell None = []
time_cell (Some time) = Moment time ∷ []

-- a link to a dump, and its time
abbrev pub newest_cells : Option RecordShown → List Part
newest_cells None = Words (codes "</td><td>") ∷ []
newest_cells (Some r) = Link r.name ∷ Words (codes "</td><td>") ∷ [] ++ time_cell r.time

-- how many dumps these are, what they tell, and the newest of them
abbrev pub row_parts : Part → List CrashShown → List Part
row_parts line crashes =
    Words (codes "<tr><td class=\"n\">") ∷ Count (length crashes) ∷ Words (codes " &times;</td><td class=\"wrap\">")
    ∷ line ∷ Words (codes "</td><td>") ∷ []
    ++ newest_cells (newest (map (λ (c : CrashShown). c.dump) crashes)) ++ Words (codes "</td></tr>\n") ∷ []

abbrev pub line_part : Option (List ℕ) → Part
line_part None = Words (codes "no telling line")
line_part (Some line) = Bytes line

-- the row of those with the line of this one
abbrev pub cause_parts : List CrashShown → CrashShown → List Part
cause_parts crashes first = row_parts (line_part first.line) (filter (has_line_of first) crashes)

-- the last row, of those whose line has no row
abbrev pub others_parts : List CrashShown → List Part
others_parts [] = []
others_parts (c ∷ cs) = row_parts (Words (codes "other telling lines")) (c ∷ cs)

abbrev pub table_parts : List CrashShown → List Part
table_parts crashes =
    Words CAUSES.now ∷ [] ++ flat_map (cause_parts crashes) (rows_of crashes)
    ++ others_parts (filter (has_no_row (rows_of crashes)) crashes) ++ Words (codes "</table></div>\n") ∷ []

-- one dump has no table
abbrev pub table_of : List CrashShown → List Part
table_of crashes = if nat_lt 1 (length crashes) then table_parts crashes else []

abbrev pub causes_parts : List RecordShown → List Part
causes_parts records = table_of (crashes_of records)

-- ---- what of it comes from the image

abbrev pub line_bytes : Option (List ℕ) → List (List ℕ)
line_bytes None = []
line_bytes (Some line) = line ∷ []

abbrev pub lines_of : List CrashShown → List (List ℕ)
lines_of crashes = if nat_lt 1 (length crashes) then flat_map (λ c. line_bytes c.line) (rows_of crashes) else []

abbrev pub causes_bytes : List RecordShown → List (List ℕ)
causes_bytes records = lines_of (crashes_of records)

-- ---- what the code holds

abbrev pub crash_in : Crash → CrashShown
crash_in c = record { dump = c.dump.now; line = option_copied c.line }

abbrev pub crashes_in : List Crash → List CrashShown
crashes_in crashes = map crash_in crashes
