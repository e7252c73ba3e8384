-- Why the machine died: the line that tells it, what is known of it, and the lines around it
use Rattle.std.specs.Prelude.{ℕ, Bool, true, false, if◌then◌else◌, List, [], ◌∷◌, ◌++◌, length, codes, Option, Some}
use Rattle.std.specs.Prelude.{None}
use Rattle.zone_spec.specs.declared.Name.{Name}
use Rattle.zone_spec.specs.Records.{Saved}
use Rattle.death_spec.specs.declared.Line.{Line}
use Rattle.death_spec.specs.declared.Span.{Span}
use Rattle.death_spec.specs.declared.Death.{Death}
use Rattle.death_spec.specs.Lines.{part}
use Rattle.report_spec.specs.declared.Mended.{Mended}
use Rattle.report_spec.specs.Packed.{RecordShown, readable}
use Rattle.report_spec.specs.Newest.{newest, is_console, console_of}
use Rattle.report_spec.specs.Deaths.{DeathTold, stamped, has_line, death_time}
use Rattle.report_spec.specs.Doubts.{doubts_between}
use Rattle.report_spec.specs.Ends.{end_told}
use Rattle.report_spec.specs.Facts.{uptime_of, machine_of}
use Rattle.report_spec.specs.Excerpts.{place_above, below}
use Rattle.report_html.specs.declared.words.TheConstants.{NO_CPU, NO_FUNCTION, READ, TOLD}
use Rattle.report_html.specs.Pieces.{Part, Words, Bytes, Log, Named, Link}
use Rattle.report_html.specs.Facts.{when_parts, up_parts, bytes_parts, machine_parts, some_bytes, named_bytes, machine_bytes}
use Rattle.report_html.specs.Reads.{read_parts}
use Rattle.report_html.specs.Ended.{ended_parts, end_parts, end_bytes}
use Rattle.report_html.specs.Before.{told_before, before_parts, before_bytes}

-- ---- the line

-- the panic below it, where the telling line is its cause
abbrev pub second_parts : List ℕ → Option Line → List Part
second_parts text None = []
second_parts text (Some line) = Words (codes "\n") ∷ Bytes (part text line.text line.end) ∷ []

abbrev pub said_parts : List ℕ → Death → List Part
said_parts text d =
    Words (codes "<pre class=\"why\">") ∷ Bytes (part text d.telling.text d.telling.end)
    ∷ second_parts text d.second ++ Words (codes "</pre>\n") ∷ []

-- what a record tells; or how the log ends, if none tells of a death
abbrev pub why_parts : List RecordShown → Option DeathTold → List Part
why_parts records None = ended_parts (end_told records)
why_parts records (Some t) = said_parts (readable t.teller) t.death

-- ---- what is known of it

-- a row of the table. What stands in its place if there is no such part
abbrev pub fact_parts : (label missing text : List ℕ) → Option Span → List Part
fact_parts label missing text None = Words missing ∷ []
fact_parts label missing text (Some span) =
    Words (codes "<tr><th scope=\"row\">") ∷ Words label ∷ Words (codes "</th><td>")
    ∷ Bytes (part text span.start span.end) ∷ Words (codes "</td></tr>\n") ∷ []

-- what the report below the line names
abbrev pub context_parts : List ℕ → Death → List Part
context_parts text d =
    fact_parts (codes "CPU") NO_CPU.now text d.cpu ++ fact_parts (codes "Task") [] text d.task
    ++ fact_parts (codes "Kernel") [] text d.kernel
    ++ fact_parts (codes "Function") NO_FUNCTION.now text d.function

-- ---- the lines around it

abbrev pub log_parts : List Bool → List ℕ → (from to : ℕ) → List Part
log_parts doubts text from to = Log (doubts_between doubts from to) (part text from to) ∷ []

abbrev pub marked_parts : List Bool → List ℕ → Line → List Part
marked_parts doubts text line =
    Words (codes "<mark>") ∷ Log (doubts_between doubts line.start line.next) (part text line.start line.next)
    ∷ Words (codes "</mark>") ∷ []

-- the lines below the telling line, up to 16 below the last one that tells
abbrev pub rest_parts : List Bool → List ℕ → ℕ → Option Line → List Part
rest_parts doubts text at None = log_parts doubts text at (below text at 16)
rest_parts doubts text at (Some line) =
    log_parts doubts text at line.start ++ marked_parts doubts text line
    ++ log_parts doubts text line.next (below text line.next 16)

-- where they end
abbrev pub rest_end : List ℕ → ℕ → Option Line → ℕ
rest_end text at None = below text at 16
rest_end text at (Some line) = below text line.next 16

-- eight lines above the telling line, and the lines below
abbrev pub excerpt_parts : List Bool → List ℕ → Death → List Part
excerpt_parts doubts text d =
    log_parts doubts text (place_above text d.telling.start 8) d.telling.start ++ marked_parts doubts text d.telling
    ++ rest_parts doubts text d.telling.next d.second

-- lines that are folded, under these words
abbrev pub folded_parts : (words : List ℕ) → List Bool → (bytes : List ℕ) → List Part
folded_parts words doubts [] = []
folded_parts words doubts (b ∷ bs) =
    Words (codes "<details>\n<summary>") ∷ Words words ∷ Words (codes "</summary>\n<pre class=\"log\">\n")
    ∷ Log doubts (b ∷ bs) ∷ Words (codes "</pre>\n</details>\n") ∷ []

-- where the lines begin that are not folded, with the record's name as their anchor
abbrev pub shown_opening : Name → List Part
shown_opening name = Words (codes "<pre class=\"log\" id=\"") ∷ Named name ∷ Words (codes "\">\n") ∷ []

-- all lines of the record that tells: those around the telling line, and those before and after, folded
abbrev pub before_folded : List Bool → List ℕ → ℕ → List Part
before_folded doubts text to = folded_parts (codes "Lines before") (doubts_between doubts 0 to) (part text 0 to)

abbrev pub after_folded : List Bool → List ℕ → ℕ → List Part
after_folded doubts text from =
    folded_parts (codes "Lines after") (doubts_between doubts from (length text)) (part text from (length text))

abbrev pub around_parts : Name → List Bool → List ℕ → Death → List Part
around_parts name doubts text d =
    before_folded doubts text (place_above text d.telling.start 8) ++ shown_opening name
    ++ excerpt_parts doubts text d ++ Words (codes "</pre>\n") ∷ []
    ++ after_folded doubts text (rest_end text d.telling.next d.second)

-- ---- all of it

-- whether the console has the telling line too
abbrev pub shared_words : Bool → List ℕ
shared_words true = codes "\nthe console has the same line"
shared_words false = codes "\nthe console lacks this line: it can be of another boot"

-- a dump outlives boots, and the console does not
abbrev pub console_words : DeathTold → Option RecordShown → List ℕ
console_words t None = []
console_words t (Some console) =
    if is_console t.teller.name then []
    else shared_words (has_line (readable console) (stamped (readable t.teller) t.death.telling))

-- by which record it is mended
abbrev pub mended_parts : Option (Mended (List ℕ)) → List Part
mended_parts None = []
mended_parts (Some mended) =
    Words (codes ", with bytes of ") ∷ Link mended.by ∷ Words (codes " where its own are bad") ∷ []

-- which record tells: a link, by which it is mended, whether the console tells the same, how it read, and the heading
-- of the lines
abbrev pub teller_parts : List Saved → Name → Option (Mended (List ℕ)) → List ℕ → List Part
teller_parts zones name mended words =
    Words (codes "<tr><th scope=\"row\">Told by</th><td>") ∷ Link name ∷ [] ++ mended_parts mended
    ++ Words words ∷ Words READ.now ∷ [] ++ read_parts zones name ++ Words TOLD.now ∷ Named name
    ∷ Words (codes "</h2>\n") ∷ []

-- when, what is known, its signature, the machine, what was before it, by which record of these zones, and the lines
abbrev pub death_parts : List ℕ → List Saved → List RecordShown → DeathTold → List Part
death_parts signature zones records t =
    when_parts (death_time t (newest records)) ++ up_parts (uptime_of (readable t.teller) t.death.telling)
    ++ context_parts (readable t.teller) t.death ++ bytes_parts (codes "Signature") signature
    ++ machine_parts (machine_of t (console_of records)) ++ before_parts (told_before t.teller.name records)
    ++ teller_parts zones t.teller.name t.teller.mended (console_words t (console_of records))
    ++ around_parts t.teller.name t.teller.doubts (readable t.teller) t.death

-- of the records, by the one that tells; or by the one whose end is told
abbrev pub died_parts : List ℕ → List Saved → List RecordShown → Option DeathTold → List Part
died_parts signature zones records None = end_parts zones (end_told records)
died_parts signature zones records (Some t) = death_parts signature zones records t

-- ---- what of it comes from the image

abbrev pub second_bytes : List ℕ → Option Line → List (List ℕ)
second_bytes text None = []
second_bytes text (Some line) = part text line.text line.end ∷ []

abbrev pub said_bytes : List ℕ → Death → List (List ℕ)
said_bytes text d = part text d.telling.text d.telling.end ∷ second_bytes text d.second

abbrev pub context_bytes : List ℕ → Death → List (List ℕ)
context_bytes text d =
    named_bytes text d.cpu ++ named_bytes text d.task ++ named_bytes text d.kernel ++ named_bytes text d.function

abbrev pub rest_bytes : List ℕ → ℕ → Option Line → List (List ℕ)
rest_bytes text at None = part text at (below text at 16) ∷ []
rest_bytes text at (Some line) =
    part text at line.start ∷ part text line.start line.next ∷ part text line.next (below text line.next 16) ∷ []

abbrev pub excerpt_bytes : List ℕ → Death → List (List ℕ)
excerpt_bytes text d =
    part text (place_above text d.telling.start 8) d.telling.start ∷ part text d.telling.start d.telling.next
    ∷ rest_bytes text d.telling.next d.second

abbrev pub around_bytes : List ℕ → Death → List (List ℕ)
around_bytes text d =
    some_bytes (part text 0 (place_above text d.telling.start 8)) ++ excerpt_bytes text d
    ++ some_bytes (part text (rest_end text d.telling.next d.second) (length text))

abbrev pub why_bytes : Option DeathTold → List (List ℕ)
why_bytes None = []
why_bytes (Some t) = said_bytes (readable t.teller) t.death

abbrev pub death_bytes : List ℕ → List RecordShown → DeathTold → List (List ℕ)
death_bytes signature records t =
    some_bytes (uptime_of (readable t.teller) t.death.telling) ++ context_bytes (readable t.teller) t.death
    ++ some_bytes signature ++ machine_bytes (machine_of t (console_of records))
    ++ before_bytes (told_before t.teller.name records) ++ around_bytes (readable t.teller) t.death

abbrev pub died_bytes : List ℕ → List RecordShown → Option DeathTold → List (List ℕ)
died_bytes signature records None = end_bytes (end_told records)
died_bytes signature records (Some t) = death_bytes signature records t
