-- A line's text, and the script as a list of lines
use Rattle.std.specs.Prelude.{ℕ, ◌+◌, ◌==◌, Bool, ◌&&◌, ◌||◌, if◌then◌else◌, nat_le, List, [], ◌∷◌, length, slice_index}
use Rattle.std.specs.Prelude.{Option, Some, None, Result, Ok, Err}
use Rattle.std.specs.List.{slice_split, list_all}
use Rattle.grammar_spec.specs.declared.line.Line.{Line}
use Rattle.grammar_spec.specs.declared.line.Line.TheVariants.{Blank}
use Rattle.grammar_spec.specs.Fields.{Text}
use Rattle.grammar_spec.specs.Rows.{line_of_fields}

-- an empty line, or a comment: `#` first, and no byte below 20 hexadecimal
abbrev pub is_blank : Text → Bool
is_blank text = (length text == 0) || ((slice_index text 0 == 0x23) && list_all (λ b. nat_le 0x20 b) text)

-- the fields of a line stand between single spaces
abbrev pub fields_of : Text → List Text
fields_of text = slice_split (λ b. b == 0x20) text

-- a line without its newline
unfoldable pub line_of : Text → Option Line
line_of text = if is_blank text then Some Blank else line_of_fields (fields_of text)

-- what is read at line n, before the lines that are read behind it
abbrev pub with_line : Option Line → ℕ → Result (List Line) ℕ → Result (List Line) ℕ
with_line None n others = Err n
with_line (Some line) n (Ok lines) = Ok (line ∷ lines)
with_line (Some line) n (Err later) = Err later

-- The lines of these texts, of which the first is line n, or the number of the first that is none.
-- The last text is what stands behind the last newline: a line without its newline, if it is not empty.
unfoldable pub lines_from : ℕ → List Text → Result (List Line) ℕ
lines_from n [] = Ok []
lines_from n (rest ∷ []) = if length rest == 0 then Ok [] else Err n
lines_from n (text ∷ next ∷ texts) = with_line (line_of text) n (lines_from (n + 1) (next ∷ texts))

-- the lines of a script, or the number of its first line outside the grammar
unfoldable pub script_of : List ℕ → Result (List Line) ℕ
script_of script = lines_from 1 (slice_split (λ b. b == 0x0a) script)
