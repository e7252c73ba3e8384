-- A table of zones, in which neighbours that are empty and read alike share a row
use Rattle.std.specs.Prelude.{ℕ, Bool, true, false, ◌==◌, ◌&&◌, if◌then◌else◌, List, [], ◌∷◌, ◌++◌, length, codes}
use Rattle.std.specs.Prelude.{Option, Some, None}
use Rattle.std.specs.Option.{option_copied}
use Rattle.zone_spec.specs.declared.Kind.{Kind}
use Rattle.zone_spec.specs.declared.Kind.TheVariants.{Dump, Console, Ftrace, Pmsg}
use Rattle.zone_spec.specs.declared.State.{State}
use Rattle.zone_spec.specs.declared.State.TheVariants.{Unsigned, Empty, Invalid, Found}
use Rattle.zone_spec.specs.declared.Zone.{Zone}
use Rattle.zone_spec.specs.Reading.{ZoneReading}
use Rattle.zone_spec.specs.Records.{Saved}
use Rattle.zone_spec.specs.PartStates.{PartStates}
use Rattle.report_html.specs.declared.zone_rows.Row.{Row}
use Rattle.report_html.specs.declared.words.TheConstants.{CELL, STRIP}
use Rattle.report_html.specs.Pieces.{Part, Words, Count}
use Rattle.report_html.specs.Pictures.{zone_name, read_words, is_alike, strip_parts}

-- ---- which zones share a row

-- the first zone of a row, with its reading and its parts, and the last one
pub record ZoneRow : Type 0 where
  pub first : Saved × PartStates
  pub last : Zone

abbrev pub kind_number : Kind → ℕ
kind_number Dump = 0
kind_number Console = 1
kind_number Ftrace = 2
kind_number Pmsg = 3

abbrev pub is_same_form : Zone → Zone → Bool
is_same_form z y =
    (kind_number z.name.kind == kind_number y.name.kind) && (z.size == y.size) && (z.cap == y.cap)
    && (z.blocks == y.blocks)

abbrev pub is_empty : State → Bool
is_empty Unsigned = false
is_empty Empty = true
is_empty Invalid = false
is_empty Found = false

abbrev pub has_same_numbers : ZoneReading → ZoneReading → Bool
has_same_numbers r q =
    (r.words.start == q.words.start) && (r.words.size == q.words.size) && (r.corrected == q.corrected)
    && (r.bad == q.bad)

abbrev pub are_both_empty : ZoneReading → ZoneReading → Bool
are_both_empty r q = is_empty r.state && is_empty q.state && has_same_numbers r q

abbrev pub are_empty_alike : Option ZoneReading → Option ZoneReading → Bool
are_empty_alike None other = false
are_empty_alike (Some r) None = false
are_empty_alike (Some r) (Some q) = are_both_empty r q

abbrev pub is_unused : PartStates → Bool
is_unused p = length p.blocks == 0

-- no block of them is in use, and their headers read alike
abbrev pub have_same_parts : PartStates → PartStates → Bool
have_same_parts p q = is_alike p.header q.header && is_unused p && is_unused q

abbrev pub shares_row : Saved × PartStates → Saved × PartStates → Bool
shares_row d e = is_same_form d.0.0 e.0.0 && are_empty_alike d.0.1 e.0.1 && have_same_parts d.1 e.1

abbrev pub row_of : Saved × PartStates → ZoneRow
row_of d = record { first = d; last = d.0.0 }

-- whether a zone joins the row that is held
abbrev pub is_joined : Option ZoneRow → Saved × PartStates → Bool
is_joined None d = false
is_joined (Some w) d = shares_row w.first d

abbrev pub longer : Option ZoneRow → Saved × PartStates → ZoneRow
longer None d = row_of d
longer (Some w) d = record { first = w.first; last = d.0.0 }

-- the row that is held with one zone more
abbrev pub next_row : Option ZoneRow → Saved × PartStates → ZoneRow
next_row held d = if is_joined held d then longer held d else row_of d

-- ---- the table

-- the words of a header as it reads, corrected bytes and bad parts
abbrev pub reading_cells : ZoneReading → List Part
reading_cells r =
    Words CELL.now ∷ Count r.words.start ∷ Words CELL.now ∷ Count r.words.size ∷ Words CELL.now ∷ Count r.corrected
    ∷ Words CELL.now ∷ Count r.bad ∷ []

abbrev pub unread_cells : List Part
unread_cells = Words (codes "</td><td colspan=\"4\">") ∷ []

abbrev pub read_cells : Option ZoneReading → List Part
read_cells None = unread_cells
read_cells (Some r) = reading_cells r

-- up to which zone of its kind a row goes, if it has several
abbrev pub up_to : (from to : ℕ) → List Part
up_to from to = if from == to then [] else Words (codes " to ") ∷ Count to ∷ []

abbrev pub each_words : (from to : ℕ) → List ℕ
each_words from to = if from == to then [] else codes " each"

abbrev pub name_parts : Zone → Zone → List Part
name_parts first last =
    Words (codes "<tr><th scope=\"row\">") ∷ [] ++ zone_name first ++ up_to first.name.index last.name.index

-- the state, the place and the size
abbrev pub place_cells : Zone → Zone → Option ZoneReading → List Part
place_cells first last r =
    Words (codes "</th><td>") ∷ Words (read_words r) ∷ Words CELL.now ∷ Count first.at ∷ Words CELL.now
    ∷ Count first.size ∷ Words (each_words first.name.index last.name.index) ∷ []

-- the names of a row's zones, their state, place and size, what was read of each, and below them the strip of the first
abbrev pub zone_parts : ZoneRow → List Part
zone_parts w =
    name_parts w.first.0.0 w.last ++ place_cells w.first.0.0 w.last w.first.0.1 ++ read_cells w.first.0.1
    ++ Words STRIP.now ∷ [] ++ strip_parts w.first.0.0 w.first.1 ++ Words (codes "</td></tr>\n") ∷ []

abbrev pub held_parts : Option ZoneRow → List Part
held_parts None = []
held_parts (Some w) = zone_parts w

-- the row that is held, if a zone does not join it
abbrev pub done_parts : Option ZoneRow → Saved × PartStates → List Part
done_parts held d = if is_joined held d then [] else held_parts held

-- the rows from the one that is held on
unfoldable pub rows_after : Option ZoneRow → List (Saved × PartStates) → List Part
rows_after held [] = held_parts held
rows_after held (d ∷ ds) = done_parts held d ++ rows_after (Some (next_row held d)) ds

-- ---- what the code holds

abbrev pub zone_in : Row → Saved × PartStates
zone_in w = ((w.first.now, option_copied w.reading), w.states.now)

abbrev pub row_in : Row → ZoneRow
row_in w = record { first = zone_in w; last = w.last.now }
