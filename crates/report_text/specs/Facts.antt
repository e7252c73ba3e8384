-- The first lines of a text: why the machine died, and what is known of it
use Rattle.std.specs.Prelude.{ℕ, ◌/◌, ◌%◌, Bool, true, false, nat_lt, if◌then◌else◌, List, [], ◌∷◌, ◌++◌, flat_map, codes}
use Rattle.std.specs.Prelude.{length, Option, Some, None}
use Rattle.zone_spec.specs.declared.Name.{Name}
use Rattle.zone_spec.specs.declared.Time.{Time}
use Rattle.death_spec.specs.declared.Line.{Line}
use Rattle.death_spec.specs.declared.Span.{Span}
use Rattle.death_spec.specs.declared.Death.{Death}
use Rattle.death_spec.specs.Lines.{part}
use Rattle.report_spec.specs.declared.Mended.{Mended}
use Rattle.report_spec.specs.declared.Packing.{Packing}
use Rattle.report_spec.specs.declared.Packing.TheVariants.{Plain, Whole, Part as PartOfText}
use Rattle.report_spec.specs.declared.Warning.{Warning}
use Rattle.report_spec.specs.declared.Warning.TheVariants.{ConsoleTells, BadTeller, BadHeaders, NoLog, ManyBad}
use Rattle.report_spec.specs.Packed.{RecordShown, readable}
use Rattle.report_spec.specs.Newest.{newest, is_console, console_of}
use Rattle.report_spec.specs.Deaths.{DeathTold, stamped, has_line, death_time}
use Rattle.report_spec.specs.Ends.{EndTold, end_told, end_words}
use Rattle.report_spec.specs.Facts.{uptime_of, seconds_from, MachineTold, machine_of, machine_ended}
use Rattle.report_text.specs.Pieces.{Part, Words, Count, Bytes, Moment, Long, Named}

-- ---- why

abbrev pub second_parts : List ℕ → Option Line → List Part
second_parts text None = []
second_parts text (Some line) =
    Words (codes "  led to     ") ∷ Bytes (part text line.text line.end) ∷ Words (codes "\n") ∷ []

-- ---- facts, each a line that is not there if no record names it

abbrev pub fact_parts : List ℕ → List ℕ → Option Span → List Part
fact_parts label text None = []
fact_parts label text (Some span) =
    Words label ∷ Bytes (part text span.start span.end) ∷ Words (codes "\n") ∷ []

-- a function at `+0x0` mostly only follows the one that is meant
abbrev pub next_words : Bool → List ℕ
next_words true = codes " (mostly the function just before it)\n"
next_words false = codes "\n"

abbrev pub function_parts : List ℕ → Bool → Option Span → List Part
function_parts text is_next None = []
function_parts text is_next (Some span) =
    Words (codes "  in         ") ∷ Bytes (part text span.start span.end) ∷ Words (next_words is_next) ∷ []

-- a fact of bytes, of which at most 160 are shown
abbrev pub bytes_fact : List ℕ → List ℕ → List Part
bytes_fact label [] = []
bytes_fact label (b ∷ bs) =
    Words label ∷ Bytes (part (b ∷ bs) 0 160) ∷ Words (if nat_lt 160 (length (b ∷ bs)) then codes " ..\n" else codes "\n")
    ∷ []

-- the telling line, the panic that it was the cause of, the function that the report below it names, and the signature
abbrev pub reason_parts : List ℕ → List ℕ → Death → List Part
reason_parts signature text d =
    Words (codes "died: ") ∷ Bytes (part text d.telling.text d.telling.end) ∷ Words (codes "\n") ∷ []
    ++ second_parts text d.second ++ function_parts text d.is_next d.function
    ++ bytes_fact (codes "  signature  ") signature

abbrev pub when_parts : Option Time → List Part
when_parts None = []
when_parts (Some time) = Words (codes "  when       ") ∷ Moment time ∷ Words (codes "\n") ∷ []

-- how long the machine had been up
abbrev pub up_parts : List ℕ → List Part
up_parts [] = []
up_parts (b ∷ bs) =
    Words (codes "  up         ") ∷ Bytes (b ∷ bs) ∷ Words (codes " s") ∷ Long (seconds_from 0 (b ∷ bs))
    ∷ Words (codes "\n") ∷ []

-- what else that report names
abbrev pub named_parts : List ℕ → Death → List Part
named_parts text d =
    fact_parts (codes "  task       ") text d.task ++ fact_parts (codes "  cpu        ") text d.cpu ++ fact_parts (codes "  kernel     ") text d.kernel

abbrev pub machine_parts : MachineTold → List Part
machine_parts m =
    bytes_fact (codes "  hardware   ") m.hardware ++ bytes_fact (codes "  modules    ") m.modules
    ++ bytes_fact (codes "  version    ") m.version ++ bytes_fact (codes "  offset     ") m.offset
    ++ bytes_fact (codes "  cmdline    ") m.cmdline

abbrev pub packing_words : Packing (List ℕ) → List ℕ
packing_words Plain = []
packing_words (Whole taken) = codes ", inflated"
packing_words (PartOfText fault text) = codes ", inflated in part"

-- whether the console has the telling line too: a dump outlives boots, and the console does not
abbrev pub shared_words : Bool → List ℕ
shared_words true = codes "; the console has the same line"
shared_words false = codes "; the console lacks this line: it can be of another boot"

abbrev pub console_words : DeathTold → Option RecordShown → List ℕ
console_words t None = []
console_words t (Some console) =
    if is_console t.teller.name then []
    else shared_words (has_line (readable console) (stamped (readable t.teller) t.death.telling))

-- by which record it is mended
abbrev pub mended_parts : Option (Mended (List ℕ)) → List Part
mended_parts None = []
mended_parts (Some mended) =
    Words (codes ", with bytes of ") ∷ Named mended.by ∷ Words (codes " where its own are bad") ∷ []

abbrev pub name_parts : RecordShown → List Part
name_parts r = Words (codes "  told by    ") ∷ Named r.name ∷ Words (packing_words r.packing) ∷ []

-- the record that tells, and the image
abbrev pub teller_parts : RecordShown → List Part
teller_parts r = name_parts r ++ mended_parts r.mended

abbrev pub image_parts : List ℕ → List ℕ → List Part
image_parts words title =
    Words words ∷ Words (codes "\n  image      ") ∷ Bytes title ∷ Words (codes "\n") ∷ []

abbrev pub source_parts : RecordShown → List ℕ → List ℕ → List Part
source_parts r words title = teller_parts r ++ image_parts words title

abbrev pub death_parts : List ℕ → List ℕ → DeathTold → (dump console : Option RecordShown) → List Part
death_parts title signature t dump console =
    reason_parts signature (readable t.teller) t.death ++ when_parts (death_time t dump)
    ++ up_parts (uptime_of (readable t.teller) t.death.telling) ++ named_parts (readable t.teller) t.death
    ++ machine_parts (machine_of t console) ++ source_parts t.teller (console_words t console) title

-- ---- no death

abbrev pub ended_parts : List ℕ → List ℕ → Line → List Part
ended_parts words text line =
    Words words ∷ Words (codes "\n  last line  ") ∷ Bytes (part text line.text line.end) ∷ Words (codes "\n") ∷ []

abbrev pub end_parts : List ℕ → EndTold → List Part
end_parts title t =
    ended_parts (end_words t) (readable t.teller) t.ended.line
    ++ when_parts t.teller.time ++ up_parts (uptime_of (readable t.teller) t.ended.line)
    ++ machine_parts (machine_ended t) ++ source_parts t.teller [] title

-- neither a dump nor the console has a line of the kernel's
abbrev pub unknown_parts : List ℕ → List Part
unknown_parts title =
    Words (codes "no death: no record tells of the kernel\n  image      ") ∷ Bytes title ∷ Words (codes "\n") ∷ []

abbrev pub unless_ended : List ℕ → Option EndTold → List Part
unless_ended title None = unknown_parts title
unless_ended title (Some t) = end_parts title t

-- why the machine died, or how the log ends, with what is known of it
abbrev pub first_parts : List ℕ → List ℕ → List RecordShown → Option DeathTold → List Part
first_parts title signature records None = unless_ended title (end_told records)
first_parts title signature records (Some t) =
    death_parts title signature t (newest records) (console_of records)

-- ---- warnings

-- a warning with a number
abbrev pub counted_warning : List ℕ → ℕ → List ℕ → List Part
counted_warning words n end = Words words ∷ Count 1 n ∷ Words end ∷ []

-- the console tells, and not this dump
abbrev pub lacking : Name → List Part
lacking dump =
    Words (codes "  careful    the newest dump, ") ∷ Named dump ∷ Words (codes ", does not have all of this\n") ∷ []

abbrev pub plain_warning : List ℕ → List Part
plain_warning words = Words words ∷ []

abbrev pub warning_parts : Warning → List Part
warning_parts (ConsoleTells dump) = lacking dump
warning_parts (BadTeller bad) =
    counted_warning (codes "  careful    bad parts in the record that tells: ") bad
    (codes "; its lines can be wrong\n")
warning_parts (BadHeaders count) =
    counted_warning (codes "  careful    bad headers: ") count (codes "; a log lost there may be newer\n")
warning_parts NoLog =
    plain_warning (codes "  careful    no zone has a log: the region is blank, or the place or the parameters are wrong\n")
warning_parts (ManyBad bad) =
    counted_warning (codes "  careful    zones with bad parts: ") bad
    (codes "; the place or the parameters may be wrong\n")

abbrev pub warnings_parts : List Warning → List Part
warnings_parts warnings = flat_map warning_parts warnings

-- the words of a layout that explains the image better, if there are any
abbrev pub better_parts : List ℕ → List Part
better_parts words = bytes_fact (codes "  careful    another layout explains it better; give only these words: ") words

-- ---- one line

abbrev pub short_time : Option Time → List Part
short_time None = Words (codes "-") ∷ []
short_time (Some time) = Moment time ∷ []

abbrev pub short_end : Option EndTold → List Part
short_end None = Words (codes "  -  no death: no record tells of the kernel\n") ∷ []
short_end (Some t) =
    Words (codes "  -  ") ∷ Words (end_words t) ∷ Words (codes "\n") ∷ []

-- when it was, and the signature; or how the log ends
abbrev pub short_parts : List ℕ → List RecordShown → Option DeathTold → List Part
short_parts signature records None = short_end (end_told records)
short_parts signature records (Some t) =
    Words (codes "  ") ∷ short_time (death_time t (newest records)) ++ Words (codes "  ") ∷ Bytes signature
    ∷ Words (codes "\n") ∷ []
