-- The lines of a record, and the last of them
use Rattle.std.specs.Prelude.{ℕ, ◌+◌, ◌-◌, Bool, true, false, ◌&&◌, not, ◌==◌, nat_lt, if◌then◌else◌, List, [], ◌∷◌, ◌++◌}
use Rattle.std.specs.Prelude.{length, flat_map, codes, Option, Some, None}
use Rattle.death_spec.specs.declared.Line.{Line}
use Rattle.death_spec.specs.Lines.{lines_from, part}
use Rattle.report_spec.specs.Doubts.{doubts_between, has_doubt}
use Rattle.report_spec.specs.Escaped.{is_plain}
use Rattle.report_spec.specs.declared.Packing.{Packing}
use Rattle.report_spec.specs.declared.Packing.TheVariants.{Plain, Whole, Part as PartOfText}
use Rattle.report_spec.specs.Packed.{RecordShown, fault_words, said}
use Rattle.report_text.specs.Pieces.{Part, Words, Bytes}

-- ---- the last lines

abbrev pub is_empty : List ℕ → Bool
is_empty [] = true
is_empty (b ∷ bs) = false

-- how many newlines have a byte after them
unfoldable pub breaks : List ℕ → ℕ
breaks [] = 0
breaks (b ∷ bs) = (if (b == 10) && not (is_empty bs) then 1 else 0) + breaks bs

-- the longest end of bytes that has at most so many lines
unfoldable pub last_lines : ℕ → List ℕ → List ℕ
last_lines most [] = []
last_lines most (b ∷ bs) = if nat_lt (breaks (b ∷ bs)) most then b ∷ bs else last_lines most bs

-- ---- rows that fit a terminal

-- the columns that a byte takes at most
abbrev pub columns : ℕ → ℕ
columns b = if b == 9 then 8 else (if is_plain b then 1 else 4)

abbrev pub row_unless_empty : List ℕ → List (List ℕ)
row_unless_empty [] = []
row_unless_empty (b ∷ bs) = (b ∷ bs) ∷ []

-- the rows of a row that is begun and takes so many columns, and of the bytes after it: a line is cut before it takes
-- more than 76
unfoldable pub rows_from : List ℕ → ℕ → List ℕ → List (List ℕ)
rows_from row taken [] = row_unless_empty row
rows_from row taken (b ∷ bs) =
    if b == 10 then row ∷ rows_from [] 0 bs
    else (if nat_lt 76 (taken + columns b) then row ∷ rows_from (b ∷ []) (columns b) bs
    else rows_from (row ++ b ∷ []) (taken + columns b) bs)

-- a row, behind these two columns
abbrev pub row_parts : List ℕ → List ℕ → List Part
row_parts lead row = Words lead ∷ Bytes row ∷ Words (10 ∷ []) ∷ []

abbrev pub rows_parts : List ℕ → List (List ℕ) → List Part
rows_parts lead rows = flat_map (row_parts lead) rows

-- the rows of lines
abbrev pub lines_parts : List ℕ → List ℕ → List Part
lines_parts lead bytes = rows_parts lead (rows_from [] 0 bytes)

-- ---- lines of which bytes can be doubtful

-- the two columns before a line: `>` if it tells, `~` if a byte of it is doubtful
abbrev pub lead : (tells doubtful : Bool) → List ℕ
lead false false = codes "  "
lead false true = codes "~ "
lead true false = codes "> "
lead true true = codes ">~"

abbrev pub line_rows : (tells : Bool) → List Bool → List ℕ → Line → List Part
line_rows tells doubts text line =
    lines_parts (lead tells (has_doubt doubts line.start line.next)) (part text line.start line.next)

-- the lines of a text with these doubts
unfoldable pub seen_lines : (tells : Bool) → List Bool → List ℕ → List Part
seen_lines tells doubts text = flat_map (line_rows tells doubts text) (lines_from text 0)

-- ---- a record's end

-- where at most so many last lines begin
abbrev pub tail_place : ℕ → List ℕ → ℕ
tail_place most bytes = length bytes - length (last_lines most bytes)

abbrev pub tail_rows : ℕ → List Bool → List ℕ → List Part
tail_rows most doubts bytes =
    seen_lines false (doubts_between doubts (tail_place most bytes) (length bytes)) (last_lines most bytes)

-- a packed text that goes no further, and why
abbrev pub break_parts : Packing (List ℕ) → List Part
break_parts Plain = []
break_parts (Whole taken) = []
break_parts (PartOfText fault text) =
    Words (codes "  (breaks off: ") ∷ Words (fault_words fault) ∷ Words (codes ")" ++ 10 ∷ []) ∷ []

-- a heading and at most so many last lines of a record, without its notice, if there is one
abbrev pub tail_parts : List ℕ → ℕ → Option RecordShown → List Part
tail_parts heading most None = []
tail_parts heading most (Some r) = Words heading ∷ tail_rows most r.doubts (said r) ++ break_parts r.packing
