-- What was before the death: the newest of the other dumps that tell
use Rattle.std.specs.Prelude.{ℕ, Bool, false, ◌==◌, if◌then◌else◌, List, [], ◌∷◌, ◌++◌, filter, codes, Option, Some}
use Rattle.std.specs.Prelude.{None}
use Rattle.std.specs.Option.{is_some, option_map, option_or}
use Rattle.zone_spec.specs.declared.Name.{Name}
use Rattle.zone_spec.specs.declared.Time.{Time}
use Rattle.death_spec.specs.declared.Line.{Line}
use Rattle.death_spec.specs.declared.Span.{Span}
use Rattle.death_spec.specs.declared.Death.{Death}
use Rattle.death_spec.specs.Lines.{part}
use Rattle.report_spec.specs.Packed.{RecordShown, readable}
use Rattle.report_spec.specs.Newest.{newest, is_newer}
use Rattle.report_spec.specs.Deaths.{DeathTold, told_by, other_told}
use Rattle.report_html.specs.Pieces.{Part, Words, Bytes, Moment, Link}
use Rattle.report_html.specs.Facts.{named_bytes}

-- ---- which record

abbrev pub is_other : Name → RecordShown → Bool
is_other name r = is_some (other_told name r)

-- by the newest of the others that tell. Dumps alone have a time
abbrev pub told_before : Name → List RecordShown → Option DeathTold
told_before name records = told_by (newest (filter (is_other name) records))

-- one record more: it is held in place of the one before if it is newer and tells
abbrev pub teller_in : Option DeathTold → Option RecordShown
teller_in told = option_map (λ (t : DeathTold). t.teller) told

abbrev pub newer_told : Name → Option DeathTold → RecordShown → Option DeathTold
newer_told name held r = if is_newer r (teller_in held) then option_or (other_told name r) held else held

-- ---- its row

abbrev pub time_after : Option Time → List Part
time_after None = []
time_after (Some time) = Words (codes ", ") ∷ Moment time ∷ []

abbrev pub line_below : List ℕ → Line → List Part
line_below text line = Words (codes "\n") ∷ Bytes (part text line.text line.end) ∷ []

abbrev pub named_below : (words text : List ℕ) → Option Span → List Part
named_below words text None = []
named_below words text (Some span) = Words words ∷ Bytes (part text span.start span.end) ∷ []

-- what the report below the line names
abbrev pub context_below : List ℕ → Death → List Part
context_below text d =
    named_below (codes "\nCPU ") text d.cpu ++ named_below (codes "\nFunction ") text d.function
    ++ named_below (codes "\nTask ") text d.task

-- a link to the record, its time, and below them its telling line and what its report names
abbrev pub before_parts : Option DeathTold → List Part
before_parts None = []
before_parts (Some t) =
    Words (codes "<tr><th scope=\"row\">Before it</th><td>") ∷ Link t.teller.name ∷ [] ++ time_after t.teller.time
    ++ line_below (readable t.teller) t.death.telling ++ context_below (readable t.teller) t.death
    ++ Words (codes "</td></tr>\n") ∷ []

-- what of it comes from the image
abbrev pub before_bytes : Option DeathTold → List (List ℕ)
before_bytes None = []
before_bytes (Some t) =
    part (readable t.teller) t.death.telling.text t.death.telling.end ∷ [] ++ named_bytes (readable t.teller) t.death.cpu
    ++ named_bytes (readable t.teller) t.death.function ++ named_bytes (readable t.teller) t.death.task
