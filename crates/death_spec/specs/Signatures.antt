-- A name for a death, such as `BUG: kernel NULL pointer dereference in boom_write`. Machines that die alike have the
-- same one, whatever their addresses, tasks and uptimes
use Rattle.std.specs.Prelude.{ℕ, ◌+◌, Bool, not, ◌&&◌, ◌||◌, ◌==◌, nat_eq, nat_le, if◌then◌else◌, List, [], ◌∷◌, ◌++◌}
use Rattle.std.specs.Prelude.{map, length, take, drop, codes, Option, Some, None}
use Rattle.std.specs.List.{starts_with}
use Rattle.std.specs.Option.{option_or}
use Rattle.death_spec.specs.declared.Line.{Line as LineOf}
use Rattle.death_spec.specs.declared.Span.{Span}
use Rattle.death_spec.specs.declared.Death.{Death}
use Rattle.death_spec.specs.declared.Blame.{Blame}
use Rattle.death_spec.specs.declared.Blame.TheVariants.{Nobody, Report, Line}
use Rattle.death_spec.specs.declared.Piece.{Piece}
use Rattle.death_spec.specs.declared.Piece.TheVariants.{Between, Name, Number}
use Rattle.death_spec.specs.declared.kinds.TheConstants.{KINDS}
use Rattle.death_spec.specs.declared.Class.TheVariants.{Symbol}
use Rattle.death_spec.specs.declared.Mark.TheVariants.{Numbered, Message}
use Rattle.death_spec.specs.Marks.{run, mark_of, is_mark, is_digit}
use Rattle.death_spec.specs.Lines.{part, said, unnumbered, is_a}
use Rattle.death_spec.specs.Reports.{place_in}

-- ---- numbers

abbrev pub is_letter : ℕ → Bool
is_letter b = (nat_le 65 b && nat_le b 90) || (nat_le 97 b && nat_le b 122)

abbrev pub is_alphanumeric : ℕ → Bool
is_alphanumeric b = is_letter b || is_digit b

-- what a byte is a part of that follows no word and no number
abbrev pub piece_alone : ℕ → Piece
piece_alone b = if is_digit b then Number else if is_letter b || b == 95 then Name else Between

-- what a byte is a part of
abbrev pub piece_of : Piece → ℕ → Piece
piece_of Between b = piece_alone b
piece_of Name b = if is_alphanumeric b || b == 95 then Name else Between
piece_of Number b = if is_alphanumeric b || b == 44 then Number else piece_alone b

-- what a text without numbers has for a byte: `..` for the first of a number, nothing for its others
abbrev pub shown_as : Piece → Piece → ℕ → List ℕ
shown_as before Between b = b ∷ []
shown_as before Name b = b ∷ []
shown_as Between Number b = codes ".."
shown_as Name Number b = codes ".."
shown_as Number Number b = []

-- a text with `..` in place of each number: `unknown-block(179,2)` is `unknown-block(..)`, `ext4` stays
unfoldable pub numberless : Piece → List ℕ → List ℕ
numberless before [] = []
numberless before (b ∷ bs) = shown_as before (piece_of before b) b ++ numberless (piece_of before b) bs

-- ---- the kind

-- the first place at which words stand in a text, or its length
unfoldable pub place_of_words : List ℕ → List ℕ → ℕ
place_of_words words [] = 0
place_of_words words (b ∷ bs) =
    if starts_with nat_eq (b ∷ bs) words then 0 else 1 + place_of_words words bs

-- what stands before words
abbrev pub before_words : List ℕ → List ℕ → List ℕ
before_words words text = take (place_of_words words text) text

-- the rows of `KINDS`
abbrev pub kind_rows : List (Blame × List ℕ × List ℕ × List ℕ)
kind_rows =
    map
    (λ (row : Blame × record { now : List ℕ } × record { now : List ℕ } × record { now : List ℕ }).
    (row.0, row.1.now, row.2.now, row.3.now))
    KINDS.now

-- whose function is named with a telling line, and what a signature has for the line
unfoldable pub kind_in : List (Blame × List ℕ × List ℕ × List ℕ) → List ℕ → Blame × List ℕ
kind_in [] words = (Report, numberless Between words)
kind_in (row ∷ rows) words =
    if starts_with nat_eq words row.1
    then (row.0, row.2 ++ numberless Between (before_words row.3 (drop (length row.1) words))) else kind_in rows words

-- ---- the function

-- its name without what a compiler added, as `.cold` or `.isra.0`: up to a point behind the first byte
abbrev pub symbol_of : List ℕ → List ℕ
symbol_of name = take (1 + run Symbol (drop 1 name)) name

abbrev pub blamed : Blame → List ℕ → Death → Option Span
blamed Nobody text death = None
blamed Report text death = death.function
blamed Line text death = option_or (place_in text (Some death.telling)) death.function

abbrev pub in_function : List ℕ → Option Span → List ℕ
in_function text None = []
in_function text (Some s) = codes " in " ++ symbol_of (part text s.start s.end)

-- ---- the signature

-- what a line says
abbrev pub words_of : List ℕ → LineOf → List ℕ
words_of text line =
    if is_mark Numbered (mark_of (said text line)) then unnumbered (said text line) else said text line

-- the message of a check, else the telling line
abbrev pub signed_by : List ℕ → LineOf → Option LineOf → LineOf
signed_by text telling None = telling
signed_by text telling (Some message) = if is_a text Message message then message else telling

abbrev pub signed_words : List ℕ → Death → List ℕ
signed_words text death = words_of text (signed_by text death.telling death.message)

unfoldable pub signature_of : List ℕ → Death → List ℕ
signature_of text death =
    (kind_in kind_rows (signed_words text death)).1
    ++ in_function text (blamed (kind_in kind_rows (signed_words text death)).0 text death)
