-- The tables of zones and of records
use Rattle.std.specs.Prelude.{ℕ, List, [], ◌∷◌, ◌++◌, length, codes, Option, Some, None}
use Rattle.zone_spec.specs.declared.Kind.{Kind}
use Rattle.zone_spec.specs.declared.Kind.TheVariants.{Dump as DumpKind, Console as ConsoleKind, Ftrace as FtraceKind}
use Rattle.zone_spec.specs.declared.Kind.TheVariants.{Pmsg as PmsgKind}
use Rattle.zone_spec.specs.declared.State.{State}
use Rattle.zone_spec.specs.declared.State.TheVariants.{Unsigned, Empty, Invalid, Found}
use Rattle.zone_spec.specs.declared.Time.{Time}
use Rattle.zone_spec.specs.Reading.{ZoneReading}
use Rattle.zone_spec.specs.Records.{Saved}
use Rattle.report_spec.specs.Packed.{RecordShown}
use Rattle.report_text.specs.Pieces.{Part, Words, Count, Moment, Named}

-- ---- zones

abbrev pub kind_words : Kind → List ℕ
kind_words DumpKind = codes "dump    "
kind_words ConsoleKind = codes "console "
kind_words FtraceKind = codes "ftrace  "
kind_words PmsgKind = codes "pmsg    "

abbrev pub state_words : State → List ℕ
state_words Unsigned = codes " unsigned "
state_words Empty = codes " empty    "
state_words Invalid = codes " invalid  "
state_words Found = codes " found    "

abbrev pub read_words : Option ZoneReading → List ℕ
read_words None = codes " not read "
read_words (Some r) = state_words r.state

-- the words of a header, corrected bytes and bad parts
abbrev pub reading_parts : ZoneReading → List Part
reading_parts r =
    Count 11 r.words.start ∷ Count 11 r.words.size ∷ Count 10 r.corrected ∷ Count 6 r.bad ∷ []

abbrev pub read_parts : Option ZoneReading → List Part
read_parts None = []
read_parts (Some r) = reading_parts r

-- a zone's name, state, place and size, and what was read
abbrev pub zone_row : Saved → List Part
zone_row zone =
    Words (kind_words zone.0.name.kind) ∷ Count 5 zone.0.name.index ∷ Words (read_words zone.1) ∷ Count 9 zone.0.at
    ∷ Count 9 zone.0.size ∷ read_parts zone.1 ++ Words (10 ∷ []) ∷ []

-- ---- records

-- a time, or as many blanks
abbrev pub time_parts : Option Time → List Part
time_parts None = Words (codes "                              ") ∷ []
time_parts (Some time) = Moment time ∷ []

-- the length of a record's content, its time, and its name
abbrev pub record_row : RecordShown → List Part
record_row r =
    Count 10 (length r.content) ∷ Words (codes "  ") ∷ time_parts r.time
    ++ Words (codes "  ") ∷ Named r.name ∷ Words (codes "\n") ∷ []
