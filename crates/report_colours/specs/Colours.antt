-- A report's text with colours for a terminal (ECMA-48, SGR)
use Rattle.std.specs.Prelude.{ℕ, ◌%◌, Bool, not, ◌&&◌, ◌||◌, ◌==◌, nat_eq, nat_le, if◌then◌else◌, List, [], ◌∷◌, ◌++◌}
use Rattle.std.specs.Prelude.{length, take, drop, map, codes, Option, Some, None}
use Rattle.std.specs.Option.{option_and_then, option_map}
use Rattle.std.specs.List.{list_any, before_first, ends_with, slice_split, join_with_byte}
use Rattle.grammar_spec.specs.Numbers.{begins}
use Rattle.kernel_line.specs.Region.{long_digits}

-- the escape byte, and what stands behind it
abbrev pub escape : List ℕ → List ℕ
escape code = 27 ∷ 91 ∷ code ++ 109 ∷ []

abbrev pub red : List ℕ
red = escape (codes "31")

abbrev pub bold_red : List ℕ
bold_red = escape (codes "1;31")

abbrev pub yellow : List ℕ
yellow = escape (codes "33")

abbrev pub no_colour : List ℕ
no_colour = escape (codes "0")

abbrev pub is_bracket : ℕ → Bool
is_bracket b = b == 62

-- what stands in the four bytes behind `  <`
abbrev pub level_field : List ℕ → List ℕ
level_field line = take 4 (drop 3 line)

-- whether a line begins as `  <4>[` does, or as `> <4>[`, if it tells of the death
abbrev pub has_level : List ℕ → Bool
has_level line = begins (codes "  <") line || begins (codes "> <") line

-- the level of such a line: the kernel's number from 0 to 7, whatever wrote the line
abbrev pub level_of : List ℕ → Option ℕ
level_of line =
    if has_level line && list_any is_bracket (level_field line)
    then option_map (λ n. n % 8) (long_digits 10 (before_first is_bracket (level_field line))) else None

-- whether a line says why the machine died
abbrev pub tells_death : List ℕ → Bool
tells_death line = begins (codes "died: ") line

-- whether a line of the table of zones tells of bad parts, in its last column
abbrev pub has_bad : List ℕ → Bool
has_bad line =
    (begins (codes "dump ") line || begins (codes "console ") line || begins (codes "ftrace ") line
    || begins (codes "pmsg ") line) && not (ends_with nat_eq line (codes " 0"))

-- an error is red, a warning yellow
abbrev pub level_colour : Option ℕ → Option (List ℕ)
level_colour None = None
level_colour (Some level) = if nat_le level 3 then Some red else if level == 4 then Some yellow else None

abbrev pub colour_of : List ℕ → Option (List ℕ)
colour_of line =
    if tells_death line then Some bold_red else if has_bad line then Some red else level_colour (level_of line)

-- a colour begins before a line and ends behind it
abbrev pub in_colour : Option (List ℕ) → List ℕ → List ℕ
in_colour None line = line
in_colour (Some colour) line = colour ++ line ++ no_colour

abbrev pub coloured_line : List ℕ → List ℕ
coloured_line line = in_colour (colour_of line) line

abbrev pub is_newline : ℕ → Bool
is_newline b = b == 10

-- the lines of a text, each in its colour; without the colours they are the text
unfoldable pub coloured : List ℕ → List ℕ
coloured text = join_with_byte 10 (map coloured_line (slice_split is_newline text))
