-- A log as a page shows it: line by line, each in its level's colour, with a mark if a byte of it is doubtful
use Rattle.std.specs.Prelude.{ℕ, Bool, true, false, ◌==◌, if◌then◌else◌, List, ◌++◌, flat_map, codes, Option, Some, None}
use Rattle.death_spec.specs.declared.Line.{Line}
use Rattle.death_spec.specs.Lines.{lines_from, level_of, is_kernels, part}
use Rattle.report_spec.specs.Doubts.{has_doubt}
use Rattle.report_spec.specs.Escaped.{escaped}

-- a line with its newline
abbrev pub line_bytes : List ℕ → Line → List ℕ
line_bytes text line = part text line.start line.next

abbrev pub level_words : ℕ → List ℕ
level_words level =
    if level == 0 then codes "<i class=\"l0\">" else (if level == 1 then codes "<i class=\"l1\">"
    else (if level == 2 then codes "<i class=\"l2\">" else (if level == 3 then codes "<i class=\"l3\">"
    else (if level == 4 then codes "<i class=\"l4\">" else (if level == 5 then codes "<i class=\"l5\">"
    else codes "<i class=\"l7\">")))))

-- a line of a program tells nothing of the kernel: its level is not shown
abbrev pub level_shown : List ℕ → Line → Option ℕ
level_shown text line = if is_kernels text line then level_of text line else None

-- bytes, marked if one of them is doubtful
abbrev pub marked : (doubtful : Bool) → List ℕ → List ℕ
marked false bytes = escaped bytes
marked true bytes = codes "<u title=\"in a bad block\">" ++ escaped bytes ++ codes "</u>"

-- a line without a level, and one of level 6, which tells of nothing wrong, is plain
abbrev pub line_by : (doubtful : Bool) → Option ℕ → List ℕ → List ℕ
line_by doubtful None bytes = marked doubtful bytes
line_by doubtful (Some level) bytes =
    if level == 6 then marked doubtful bytes else level_words level ++ marked doubtful bytes ++ codes "</i>"

abbrev pub line_text : List Bool → List ℕ → Line → List ℕ
line_text doubts text line =
    line_by (has_doubt doubts line.start line.next) (level_shown text line) (line_bytes text line)

-- the lines of a text with these doubts
unfoldable pub log_text : List Bool → List ℕ → List ℕ
log_text doubts text = flat_map (line_text doubts text) (lines_from text 0)
