-- Rows of what is known of a death, or of the end of a log
use Rattle.std.specs.Prelude.{ℕ, List, [], ◌∷◌, ◌++◌, codes, Option, Some, None}
use Rattle.zone_spec.specs.declared.Time.{Time}
use Rattle.death_spec.specs.declared.Span.{Span}
use Rattle.death_spec.specs.Lines.{part}
use Rattle.report_spec.specs.Facts.{MachineTold, seconds_from}
use Rattle.report_html.specs.Pieces.{Part, Words, Bytes, Moment, Long}

-- the head of the table, and the time of the record that tells
abbrev pub when_parts : Option Time → List Part
when_parts None = Words (codes "<table class=\"fact\">\n<tr><th scope=\"row\">When</th><td>no date") ∷ []
when_parts (Some time) =
    Words (codes "<table class=\"fact\">\n<tr><th scope=\"row\">When</th><td><b>") ∷ Moment time
    ∷ Words (codes "</b>") ∷ []

-- in the same row, how long the machine had been up, if a line tells it
abbrev pub up_parts : List ℕ → List Part
up_parts [] = Words (codes "</td></tr>\n") ∷ []
up_parts (b ∷ bs) =
    Words (codes ", ") ∷ Bytes (b ∷ bs) ∷ Words (codes " s after boot") ∷ Long (seconds_from 0 (b ∷ bs))
    ∷ Words (codes "</td></tr>\n") ∷ []

-- a row of bytes; none if there are none
abbrev pub bytes_parts : (label bytes : List ℕ) → List Part
bytes_parts label [] = []
bytes_parts label (b ∷ bs) =
    Words (codes "<tr><th scope=\"row\">") ∷ Words label ∷ Words (codes "</th><td>") ∷ Bytes (b ∷ bs)
    ∷ Words (codes "</td></tr>\n") ∷ []

-- what a log says of the machine
abbrev pub machine_parts : MachineTold → List Part
machine_parts m =
    bytes_parts (codes "Hardware") m.hardware ++ bytes_parts (codes "Modules") m.modules
    ++ bytes_parts (codes "Version") m.version ++ bytes_parts (codes "Kernel offset") m.offset
    ++ bytes_parts (codes "Command line") m.cmdline

-- ---- what of it comes from the image

abbrev pub named_bytes : List ℕ → Option Span → List (List ℕ)
named_bytes text None = []
named_bytes text (Some span) = part text span.start span.end ∷ []

abbrev pub some_bytes : List ℕ → List (List ℕ)
some_bytes [] = []
some_bytes (b ∷ bs) = (b ∷ bs) ∷ []

abbrev pub machine_bytes : MachineTold → List (List ℕ)
machine_bytes m =
    some_bytes m.hardware ++ some_bytes m.modules ++ some_bytes m.version ++ some_bytes m.offset
    ++ some_bytes m.cmdline
