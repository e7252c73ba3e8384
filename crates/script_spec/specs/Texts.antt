-- The texts that lines of scripts put, as bytes; each line ends with a newline
use Rattle.std.specs.Prelude.{ℕ, Bool, ◌==◌, if◌then◌else◌, List, [], ◌∷◌, ◌++◌, length, take, filter, flat_map, sum_by}
use Rattle.std.specs.Prelude.{zip, codes, decimal, Option, Some, None}
use Rattle.zone_spec.specs.declared.ZoneName.{ZoneName}
use Rattle.zone_spec.specs.declared.Zone.{Zone}
use Rattle.zone_spec.specs.declared.State.{State}
use Rattle.zone_spec.specs.declared.State.TheVariants.{Unsigned, Empty, Invalid, Found}
use Rattle.zone_spec.specs.declared.CallKind.{CallKind}
use Rattle.zone_spec.specs.declared.CallKind.TheVariants.{Append, Erase as EraseKind, Dump as DumpKind}
use Rattle.zone_spec.specs.declared.HeaderSeen.{HeaderSeen}
use Rattle.zone_spec.specs.declared.HeaderSeen.TheVariants.{Pair, Foreign}
use Rattle.zone_spec.specs.declared.Verdict.{Verdict}
use Rattle.zone_spec.specs.declared.Verdict.TheVariants.{NothingTold, AsTold, Differs}
use Rattle.zone_spec.specs.declared.Time.{Time}
use Rattle.zone_spec.specs.declared.Name.{Name}
use Rattle.zone_spec.specs.Reading.{ZoneReading}
use Rattle.zone_spec.specs.TimeLines.{six_digits}
use Rattle.zone_spec.specs.Names.{name_text}
use Rattle.zone_spec.specs.Records.{Saved, Listed, listed_of, found}
use Rattle.zone_spec.specs.Notices.{is_in, content}
use Rattle.zone_spec.specs.Cut.{CutReport}
use Rattle.machine_spec.specs.Report.{ZoneReport}
use Rattle.machine_spec.specs.Moved.{fits}
use Rattle.grammar_spec.specs.Fields.{Text}
use Rattle.grammar_spec.specs.Printed.{zone_text}

abbrev pub newline : Text
newline = 10 ∷ []

-- the first k texts end to end
abbrev pub front : List Text → ℕ → Text
front texts k = flat_map (λ text. text) (take k texts)

-- all of them
abbrev pub whole : List Text → Text
whole texts = flat_map (λ text. text) texts

-- ---- a boot

abbrev pub state_text : State → Text
state_text Unsigned = codes "unsigned"
state_text Empty = codes "empty"
state_text Invalid = codes "invalid"
state_text Found = codes "found"

abbrev pub verdict_text : Verdict → Text
verdict_text NothingTold = codes "nothing told"
verdict_text AsTold = codes "as told"
verdict_text (Differs told seen first) =
    codes "differs told " ++ decimal told ++ codes " read " ++ decimal seen ++ codes " first " ++ decimal first

-- `boot ZONE STATE start S size Z corrected X bad Y VERDICT`
abbrev pub boot_line : ZoneName → ZoneReading → Verdict → Text
boot_line name reading verdict =
    codes "boot " ++ zone_text name ++ codes " " ++ state_text reading.state
    ++ codes " start " ++ decimal reading.words.start ++ codes " size " ++ decimal reading.words.size
    ++ codes " corrected " ++ decimal reading.corrected ++ codes " bad " ++ decimal reading.bad
    ++ codes " " ++ verdict_text verdict ++ newline

abbrev pub call_text : CallKind → Text
call_text Append = codes "write"
call_text EraseKind = codes "erase"
call_text DumpKind = codes "dump"

abbrev pub seen_text : HeaderSeen → Text
seen_text (Pair j) = codes "pair " ++ decimal j
seen_text Foreign = codes "foreign"

-- a run of blocks: `A-B`, or the number of one block alone
abbrev pub run_text : ℕ × ℕ → Text
run_text run = if run.0 == run.1 then decimal run.0 else decimal run.0 ++ codes "-" ++ decimal run.1

-- runs, joined by commas, or `none`
abbrev pub runs_text : List (ℕ × ℕ) → Text
runs_text [] = codes "none"
runs_text (run ∷ runs) = run_text run ++ flat_map (λ next. codes "," ++ run_text next) runs

-- `cut ZONE CALL K of N header H blocks B`
abbrev pub cut_line : ZoneName → CutReport → Text
cut_line name cut =
    codes "cut " ++ zone_text name ++ codes " " ++ call_text cut.kind
    ++ codes " " ++ decimal cut.made ++ codes " of " ++ decimal cut.total
    ++ codes " header " ++ seen_text cut.header ++ codes " blocks " ++ runs_text cut.runs ++ newline

-- the line of a cut, where the zone has one
abbrev pub cut_text : ZoneName → Option CutReport → Text
cut_text name None = []
cut_text name (Some cut) = cut_line name cut

-- the lines of a zone by its saved reading and its report
abbrev pub zone_lines : Option ZoneReading → ZoneReport → Text
zone_lines None report = []
zone_lines (Some reading) report = boot_line report.name reading report.verdict ++ cut_text report.name report.cut

-- the lines of a boot by the logs that it saved and what it reports, both in layout order
abbrev pub boot_text : List Saved → List ZoneReport → Text
boot_text zones reports = flat_map (λ (pair : Saved × ZoneReport). zone_lines pair.0.1 pair.1) (zip zones reports)

-- `boot stopped after K stores`
abbrev pub part_text : ℕ → Text
part_text made = codes "boot stopped after " ++ decimal made ++ codes " stores" ++ newline

-- ---- records

-- ` SECS.MICROS`, where a record has a time
abbrev pub time_text : Option Time → Text
time_text None = []
time_text (Some time) = codes " " ++ decimal time.secs ++ codes "." ++ six_digits time.micros

-- `NAME LENGTH`: the length is that of the content with its notice
abbrev pub record_text : List Saved → Listed → Text
record_text zones r = name_text r.name ++ codes " " ++ decimal (length (content zones r))

-- `records N`, and a line for each record
abbrev pub listing : List Saved → Text
listing zones =
    codes "records " ++ decimal (length (listed_of zones)) ++ newline
    ++ flat_map (λ r. record_text zones r ++ time_text r.time ++ newline) (listed_of zones)

-- a record's name, length and content
abbrev pub extract_text : List Saved → Listed → Text
extract_text zones r = record_text zones r ++ newline ++ content zones r ++ newline

-- ---- a move

-- the readings that a record's notice counts over: of its zones that were found
abbrev pub counted : List Saved → Name → List ZoneReading
counted zones name = flat_map (λ (zone : Saved). found zone.1)
    (filter (λ (zone : Saved). is_in name zone.0) zones)

-- `moved NAME L corrected X bad Y`, or `left ..` where the record does not fit: the length is that of the content
-- without its notice, and the counts are there also where there is none
abbrev pub move_line : Bool → List Saved → Listed → Text
move_line fit zones r =
    (if fit then codes "moved " else codes "left ") ++ name_text r.name ++ codes " " ++ decimal (length r.content)
    ++ codes " corrected " ++ decimal (sum_by (λ (z : ZoneReading). z.corrected) (counted zones r.name))
    ++ codes " bad " ++ decimal (sum_by (λ (z : ZoneReading). z.bad) (counted zones r.name)) ++ newline

-- `move M to M2 records N`, and a line for each record
abbrev pub move_text : ℕ → ℕ → List Zone → List Saved → Text
move_text from to layout zones =
    codes "move " ++ decimal from ++ codes " to " ++ decimal to ++ codes " records "
    ++ decimal (length (listed_of zones)) ++ newline
    ++ flat_map (λ r. move_line (fits layout zones r.name) zones r) (listed_of zones)
