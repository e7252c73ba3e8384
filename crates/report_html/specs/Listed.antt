-- The list of records: the summary of each, and which is unfolded
use Rattle.std.specs.Option.{option_map}
use Rattle.std.specs.Prelude.{ℕ, ◌==◌, Bool, true, false, if◌then◌else◌, List, [], ◌∷◌, ◌++◌, codes, Option, Some, None}
use Rattle.zone_spec.specs.declared.Name.{Name}
use Rattle.zone_spec.specs.declared.Name.TheVariants.{Dump, Console, Pmsg, Ftrace}
use Rattle.death_spec.specs.declared.Line.{Line}
use Rattle.death_spec.specs.declared.Span.{Span}
use Rattle.death_spec.specs.declared.Death.{Death}
use Rattle.death_spec.specs.Lines.{lines_from, part}
use Rattle.death_spec.specs.Reports.{death_of}
use Rattle.report_spec.specs.Packed.{RecordShown, readable}
use Rattle.report_spec.specs.Newest.{is_console}
use Rattle.report_spec.specs.Deaths.{DeathTold}
use Rattle.report_html.specs.Pieces.{Part, Words, Bytes}

-- ---- what a summary tells

-- the function that the report below the telling line names
abbrev pub below_parts : List ℕ → Option Span → List Part
below_parts text None = []
below_parts text (Some span) =
    Words (codes "\n<span>") ∷ Bytes (part text span.start span.end) ∷ Words (codes "</span>") ∷ []

-- the telling line of a crash log
abbrev pub telling_parts : List ℕ → Option Death → List Part
telling_parts text None = Words (codes "no telling line") ∷ []
telling_parts text (Some d) = Bytes (part text d.telling.text d.telling.end) ∷ below_parts text d.function

-- dumps and the console are crash logs
abbrev pub above_parts : Name → List ℕ → List Part
above_parts (Dump index packed) text = telling_parts text (death_of text)
above_parts Console text = telling_parts text (death_of text)
above_parts Pmsg text = Words (codes "messages of user space") ∷ []
above_parts Ftrace text = Words (codes "function trace") ∷ []

-- the line above the name of a record with this text
abbrev pub say_parts : Name → List ℕ → List Part
say_parts name text =
    Words (codes "<span class=\"say\">") ∷ [] ++ above_parts name text ++ Words (codes "</span>\n<b>") ∷ []

abbrev pub first_parts : List ℕ → List Line → List Part
first_parts text [] = []
first_parts text (line ∷ lines) =
    Words (codes "<span>") ∷ Bytes (part text line.start line.end) ∷ Words (codes "</span>") ∷ []

-- the first line of a dump, such as `Oops#7 Part1`
abbrev pub head_parts : Name → List ℕ → List Part
head_parts (Dump index packed) text = first_parts text (lines_from text 0)
head_parts Console text = []
head_parts Pmsg text = []
head_parts Ftrace text = []

-- ---- which record is unfolded

-- the number of a dump's zone
abbrev pub dump_number : Name → Option ℕ
dump_number (Dump index packed) = Some index
dump_number Console = None
dump_number Pmsg = None
dump_number Ftrace = None

-- the newest dump, unless it tells why the machine died: then its lines stand above the list
abbrev pub unfolded : Option RecordShown → Option DeathTold → Option ℕ
unfolded None told = None
unfolded (Some dump) None = dump_number dump.name
unfolded (Some dump) (Some told) = if is_console told.teller.name then dump_number dump.name else None

abbrev pub is_numbered : ℕ → Name → Bool
is_numbered number (Dump index packed) = index == number
is_numbered number Console = false
is_numbered number Pmsg = false
is_numbered number Ftrace = false

abbrev pub is_unfolded : Option ℕ → Name → Bool
is_unfolded None name = false
is_unfolded (Some number) name = is_numbered number name

-- ---- which record tells

abbrev pub teller_name : Option DeathTold → Option Name
teller_name told = option_map (λ (t : DeathTold). t.teller.name) told

abbrev pub is_same_record : Name → Name → Bool
is_same_record (Dump index packed) name = is_numbered index name
is_same_record Console name = is_console name
is_same_record Pmsg name = false
is_same_record Ftrace name = false

abbrev pub is_teller : Option Name → Name → Bool
is_teller None name = false
is_teller (Some teller) name = is_same_record teller name

abbrev pub mark_parts : Bool → List Part
mark_parts true = Words (codes "<mark>tells why it died</mark>") ∷ []
mark_parts false = []

-- where a record to fold begins
abbrev pub fold_parts : Bool → List Part
fold_parts true = Words (codes "<details open>\n<summary>") ∷ []
fold_parts false = Words (codes "<details>\n<summary>") ∷ []

-- ---- what of it comes from the image

abbrev pub below_bytes : List ℕ → Option Span → List (List ℕ)
below_bytes text None = []
below_bytes text (Some span) = part text span.start span.end ∷ []

abbrev pub telling_bytes : List ℕ → Option Death → List (List ℕ)
telling_bytes text None = []
telling_bytes text (Some d) = part text d.telling.text d.telling.end ∷ below_bytes text d.function

abbrev pub above_bytes : Name → List ℕ → List (List ℕ)
above_bytes (Dump index packed) text = telling_bytes text (death_of text)
above_bytes Console text = telling_bytes text (death_of text)
above_bytes Pmsg text = []
above_bytes Ftrace text = []

abbrev pub first_bytes : List ℕ → List Line → List (List ℕ)
first_bytes text [] = []
first_bytes text (line ∷ lines) = part text line.start line.end ∷ []

abbrev pub head_bytes : Name → List ℕ → List (List ℕ)
head_bytes (Dump index packed) text = first_bytes text (lines_from text 0)
head_bytes Console text = []
head_bytes Pmsg text = []
head_bytes Ftrace text = []

-- the lines of the record that tells stand above the list
abbrev pub content_bytes : Bool → List ℕ → List (List ℕ)
content_bytes true text = []
content_bytes false text = text ∷ []

-- what a summary tells of a record, and what people read of it
abbrev pub record_bytes : Option Name → RecordShown → List (List ℕ)
record_bytes teller r =
    above_bytes r.name (readable r) ++ head_bytes r.name (readable r)
    ++ content_bytes (is_teller teller r.name) (readable r)
