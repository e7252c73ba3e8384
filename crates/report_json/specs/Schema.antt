-- The data of a report's line, schema 2
use Rattle.std.specs.Prelude.{◌≡◌, ℕ, ◌-◌, ◌<◌, Bool, true, false, if◌then◌else◌, List, [], ◌∷◌, ◌++◌, length, map}
use Rattle.std.specs.Prelude.{take, slice_get, Option, Some, None, replicate, codes}
use Rattle.std.specs.Str.{is_utf8}
use Rattle.std.specs.Str.Lossy.{utf8_valid_len}
use Rattle.json.specs.Lex.{tokens}
use Rattle.json.specs.Print.{print}
use Rattle.base64.specs.Engines.{standard}
use Rattle.base64.specs.GeneralPurpose.{encode_of}
use Rattle.serde_json.specs.Data.{Data, null, boolean, number, unsigned, string, array, object, member, no_members}
use Rattle.serde_json.specs.View.{items_of}
use Rattle.serde_json.specs.Written.{IsInOrder}
use Rattle.zone_spec.specs.declared.Kind.{Kind}
use Rattle.zone_spec.specs.declared.Kind.TheVariants.{Dump, Console, Ftrace, Pmsg}
use Rattle.zone_spec.specs.declared.State.{State}
use Rattle.zone_spec.specs.declared.State.TheVariants.{Unsigned, Empty, Invalid, Found}
use Rattle.zone_spec.specs.declared.Name.{Name}
use Rattle.zone_spec.specs.declared.Time.{Time}
use Rattle.zone_spec.specs.declared.Words.{Words}
use Rattle.zone_spec.specs.declared.Zone.{Zone}
use Rattle.zone_spec.specs.declared.ZoneName.{ZoneName}
use Rattle.zone_spec.specs.declared.params.Params.{Params}
use Rattle.zone_spec.specs.Orders.{order_text, byte_order_text}
use Rattle.zone_spec.specs.Reading.{ZoneReading}
use Rattle.zone_spec.specs.Records.{Saved}
use Rattle.prz_read.specs.Saving.{saved}
use Rattle.pstore_records.specs.Counts.{corrected_in, bad_in}
use Rattle.pmsg_spec.specs.declared.Entry.{Entry}
use Rattle.pmsg_spec.specs.Payloads.{payload, priority_of, tag_of, text_of}
use Rattle.death_spec.specs.declared.Line.{Line}
use Rattle.death_spec.specs.declared.Span.{Span}
use Rattle.death_spec.specs.declared.Death.{Death}
use Rattle.death_spec.specs.Lines.{part}
use Rattle.death_spec.specs.Reports.{trace_of}
use Rattle.death_spec.specs.declared.Ending.{Ending}
use Rattle.death_spec.specs.declared.Ending.TheVariants.{Restarted, SwitchedOff, Reset, BrokenOff}
use Rattle.zone_spec.specs.declared.PartState.{PartState}
use Rattle.zone_spec.specs.declared.PartState.TheVariants.{Read, Bad}
use Rattle.zone_spec.specs.PartStates.{PartStates}
use Rattle.psz_spec.specs.declared.Sizes.{Sizes}
use Rattle.report_spec.specs.declared.Division.{Division}
use Rattle.report_spec.specs.declared.Division.TheVariants.{Region, Storage}
use Rattle.report_spec.specs.declared.Mended.{Mended}
use Rattle.report_spec.specs.declared.Origin.{Origin}
use Rattle.report_spec.specs.Origins.{name_in}
use Rattle.report_spec.specs.declared.Packing.{Packing}
use Rattle.report_spec.specs.declared.Packing.TheVariants.{Plain, Whole, Part}
use Rattle.report_spec.specs.Packed.{RecordShown, fault_words, readable}
use Rattle.report_spec.specs.Deaths.{DeathTold, death_told}
use Rattle.report_spec.specs.declared.DumpReason.{DumpReason}
use Rattle.report_spec.specs.declared.DumpReason.TheVariants.{Panic, Oops, Emergency, Restart, Halt, PowerOff}
use Rattle.report_spec.specs.declared.DumpReason.TheVariants.{ShutDown}
use Rattle.report_spec.specs.declared.Warning.{Warning}
use Rattle.report_spec.specs.declared.Warning.TheVariants.{ConsoleTells, BadTeller, BadHeaders, NoLog, ManyBad}
use Rattle.report_spec.specs.Facts.{uptime_of, MachineTold, machine_of, machine_ended, signature_told}
use Rattle.report_spec.specs.Newest.{console_of}
use Rattle.report_spec.specs.Ends.{EndTold, reason_of, end_told}
use Rattle.region_report.specs.Counted.{zones_counted}
use Rattle.region_report.specs.Reports.{ReportHeld}
use Rattle.region_report.specs.Warned.{warnings_by}

abbrev pub count : ℕ → Data
count n = number (unsigned n)

abbrev pub parameters_with : Data → Data → Params → Data
parameters_with byte_order order p = object (
    member (codes "block_size") (count p.block) (
    member (codes "byte_order") byte_order (
    member (codes "console_size") (count p.console) (
    member (codes "cpus") (count p.cpus) (
    member (codes "ecc") (count p.ecc) (
    member (codes "ecc_console") (count p.ecc_console) (
    member (codes "ecc_dump") (count p.ecc_dump) (
    member (codes "ecc_ftrace") (count p.ecc_ftrace) (
    member (codes "ecc_pmsg") (count p.ecc_pmsg) (
    member (codes "ftrace_sig") (count p.ftrace_sig) (
    member (codes "ftrace_size") (count p.ftrace) (
    member (codes "mem_size") (count p.mem) (
    member (codes "order") order (
    member (codes "pmsg_size") (count p.pmsg) (
    member (codes "record_size") (count p.dump) no_members)))))))))))))))

abbrev pub parameters_data : Params → Data
parameters_data p = parameters_with (string (byte_order_text p.byte_order)) (string (order_text p.order)) p

-- in bytes
abbrev pub sizes_data : Sizes → Data
sizes_data s = object (
    member (codes "console_size") (count s.console) (
    member (codes "cpus") (count s.cpus) (
    member (codes "ftrace_size") (count s.ftrace) (
    member (codes "kmsg_size") (count s.dump) (
    member (codes "pmsg_size") (count s.pmsg) (
    member (codes "total_size") (count s.total) no_members))))))

abbrev pub division_data : Division → Data
division_data (Region p) = parameters_data p
division_data (Storage s) = sizes_data s

-- the corrected bytes of a header or block, 0 where it is clean; or the word bad
abbrev pub part_data : PartState → Data
part_data (Read corrected) = count corrected
part_data Bad = string (codes "bad")

-- each block of a zone, null where it is unused
abbrev pub blocks_data : Zone → List PartState → List Data
blocks_data z used = map part_data used ++ replicate (z.blocks - length used) null

abbrev pub words_data : Words → Data
words_data words = object (
    member (codes "signature") (count words.sig) (
    member (codes "size") (count words.size) (
    member (codes "start") (count words.start) no_members)))

abbrev pub kind_text : Kind → List ℕ
kind_text Dump = codes "dump"
kind_text Console = codes "console"
kind_text Ftrace = codes "ftrace"
kind_text Pmsg = codes "pmsg"

abbrev pub state_text : State → List ℕ
state_text Unsigned = codes "unsigned"
state_text Empty = codes "empty"
state_text Invalid = codes "invalid"
state_text Found = codes "found"

-- where a zone lies, and how
abbrev pub layout_data : Zone → Data
layout_data z = object (
    member (codes "at") (count z.at) (
    member (codes "block_size") (count z.block) (
    member (codes "capacity") (count z.cap) (
    member (codes "parity") (count z.parity) (
    member (codes "size") (count z.size) no_members)))))

abbrev pub zone_with : ZoneName → ZoneReading → Data → Data → Data → Data
zone_with name reading header blocks layout = object (
    member (codes "bad") (count reading.bad) (
    member (codes "blocks") blocks (
    member (codes "corrected") (count reading.corrected) (
    member (codes "header") header (
    member (codes "index") (count name.index) (
    member (codes "kind") (string (kind_text name.kind)) (
    member (codes "layout") layout (
    member (codes "state") (string (state_text reading.state)) (
    member (codes "words") (words_data reading.words) no_members)))))))))

abbrev pub zone_data : Zone → ZoneReading → PartStates → Data
zone_data z reading parts = zone_with z.name reading (part_data parts.header)
    (array (items_of (blocks_data z parts.blocks))) (layout_data z)

abbrev pub time_data : Option Time → Data
time_data None = null
time_data (Some time) = object (
    member (codes "microseconds") (count time.micros) (
    member (codes "seconds") (count time.secs) no_members))

-- whether a dump was packed, the bytes that its whole text took, and why its text goes no further
abbrev pub is_packed : Packing (List ℕ) → Bool
is_packed Plain = false
is_packed (Whole taken) = true
is_packed (Part fault text) = true

abbrev pub taken_data : Packing (List ℕ) → Data
taken_data Plain = null
taken_data (Whole taken) = count taken
taken_data (Part fault text) = null

abbrev pub fault_data : Packing (List ℕ) → Data
fault_data Plain = null
fault_data (Whole taken) = null
fault_data (Part fault text) = string (fault_words fault)

-- the longest front of bytes that is UTF-8
abbrev pub front_data : List ℕ → Data
front_data bytes = string (take (utf8_valid_len bytes) bytes)

-- an entry of Android's log, with this payload
abbrev pub entry_by : Entry → List ℕ → Data
entry_by e payload = object (
    member (codes "log") (count e.log) (
    member (codes "nanoseconds") (count e.nanos) (
    member (codes "pid") (count e.pid) (
    member (codes "priority") (front_data (priority_of payload ∷ [])) (
    member (codes "seconds") (count e.secs) (
    member (codes "tag") (front_data (tag_of payload)) (
    member (codes "text") (front_data (text_of payload)) (
    member (codes "tid") (count e.tid) (
    member (codes "uid") (count e.uid) no_members)))))))))

abbrev pub entry_data : List ℕ → Entry → Data
entry_data bytes e = entry_by e (payload bytes e)

-- null, if there are none
abbrev pub entries_data : List ℕ → List Entry → Data
entries_data bytes [] = null
entries_data bytes (e ∷ es) = array (items_of (map (entry_data bytes) (e ∷ es)))

-- a record of these counts, packing and contents
abbrev pub record_of : Origin → Name → ℕ → ℕ → Bool → Data → Data → Data → Data → Data → Data → Data
record_of origin name bad corrected compressed time taken fault entries text base64 = object (
    member (codes "bad") (count bad) (
    member (codes "base64") base64 (
    member (codes "compressed") (boolean compressed) (
    member (codes "corrected") (count corrected) (
    member (codes "entries") entries (
    member (codes "fault") fault (
    member (codes "name") (string (name_in origin name)) (
    member (codes "taken") taken (
    member (codes "text") text (
    member (codes "time") time no_members))))))))))

-- a record with what is shown of it: entries, text, and base64
abbrev pub record_by : Origin → List Saved → RecordShown → Data → Data → Data → Data
record_by origin zones r entries text base64 =
    record_of origin r.name (bad_in r.name (zones_counted r.name zones)) (corrected_in r.name (zones_counted r.name zones))
    (is_packed r.packing) (time_data r.time) (taken_data r.packing) (fault_data r.packing) entries text base64

abbrev pub record_with : Origin → List Saved → RecordShown → Data → Data → Data
record_with origin zones r text base64 = record_by origin zones r (entries_data r.content r.entries) text base64

-- the content is text where it is UTF-8, else in base64
unfoldable pub content_data : Origin → List Saved → RecordShown → Data
content_data origin zones r =
    if is_utf8 r.content then record_with origin zones r (string r.content) null
    else record_with origin zones r null (string (encode_of standard r.content))

-- of a text up to a fault, the longest front that is UTF-8; and the content as it stands, in base64
abbrev pub part_data_of : Origin → List Saved → RecordShown → List ℕ → Data
part_data_of origin zones r text =
    record_with origin zones r (string (take (utf8_valid_len text) text)) (string (encode_of standard r.content))

abbrev pub data_by : Origin → Packing (List ℕ) → List Saved → RecordShown → Data
data_by origin Plain zones r = content_data origin zones r
data_by origin (Whole taken) zones r = content_data origin zones r
data_by origin (Part fault text) zones r = part_data_of origin zones r text

unfoldable pub record_data : Origin → List Saved → RecordShown → Data
record_data origin zones r = data_by origin r.packing zones r

-- null without a reading
abbrev pub saved_data : Zone → PartStates → Option ZoneReading → Data
saved_data z parts None = null
saved_data z parts (Some reading) = zone_data z reading parts

-- the value of the zone at a place
abbrev pub IsZoneAt : List Zone → List (Option ZoneReading) → List PartStates → ℕ → Data → Type 0
IsZoneAt zones readings parts i d =
    (z : Zone) (saved : Option ZoneReading) (p : PartStates)
    → slice_get zones i ≡ Some z → slice_get readings i ≡ Some saved → slice_get parts i ≡ Some p
    → d ≡ saved_data z p saved

-- the values of the first n zones, in order
pub record AreZones (zones : List Zone) (readings : List (Option ZoneReading)) (parts : List PartStates) (n : ℕ)
    (values : List Data) : Type 0 where
  pub count_same : length values ≡ n
  pub each : (i : ℕ) (d : Data) → i < n → slice_get values i ≡ Some d → IsZoneAt zones readings parts i d

abbrev pub span_data : List ℕ → Span → Data
span_data text span = front_data (part text span.start span.end)

abbrev pub named_data : List ℕ → Option Span → Data
named_data text None = null
named_data text (Some span) = span_data text span

-- what a line says
abbrev pub said_data : List ℕ → Line → Data
said_data text line = front_data (part text line.text line.end)

abbrev pub second_data : List ℕ → Option Line → Data
second_data text None = null
second_data text (Some line) = said_data text line

-- the functions of the call trace
abbrev pub trace_data : List ℕ → Data
trace_data text = array (items_of (map (span_data text) (trace_of text)))

-- bytes as far as they are UTF-8, or null if there are none
abbrev pub bytes_data : List ℕ → Data
bytes_data [] = null
bytes_data (b ∷ bs) = front_data (b ∷ bs)

-- the record that a record is mended by
abbrev pub mended_data : Origin → Option (Mended (List ℕ)) → Data
mended_data origin None = null
mended_data origin (Some mended) = string (name_in origin mended.by)

-- why the machine died by a record's text, with the record's name, by which record it is mended, and the call trace
abbrev pub death_with : Origin → List ℕ → Name → Data → Death → Data → Data
death_with origin text name mended_by death trace = object (
    member (codes "cpu") (named_data text death.cpu) (
    member (codes "function") (named_data text death.function) (
    member (codes "is_next") (boolean death.is_next) (
    member (codes "kernel") (named_data text death.kernel) (
    member (codes "line") (said_data text death.telling) (
    member (codes "mended_by") mended_by (
    member (codes "record") (string (name_in origin name)) (
    member (codes "second") (second_data text death.second) (
    member (codes "task") (named_data text death.task) (
    member (codes "trace") trace (
    member (codes "uptime") (bytes_data (uptime_of text death.telling)) no_members)))))))))))

abbrev pub told_data : Origin → DeathTold → Data
told_data origin t =
    death_with origin (readable t.teller) t.teller.name (mended_data origin t.teller.mended) t.death
    (trace_data (readable t.teller))

-- null where no record tells
abbrev pub death_data : Origin → Option DeathTold → Data
death_data origin None = null
death_data origin (Some t) = told_data origin t

abbrev pub machine_with : MachineTold → Data
machine_with m = object (
    member (codes "cmdline") (bytes_data m.cmdline) (
    member (codes "hardware") (bytes_data m.hardware) (
    member (codes "kernel_offset") (bytes_data m.offset) (
    member (codes "modules") (bytes_data m.modules) (
    member (codes "version") (bytes_data m.version) no_members)))))

abbrev pub ended_machine : Option EndTold → Data
ended_machine None = null
ended_machine (Some t) = machine_with (machine_ended t)

-- what a log says of the machine
abbrev pub machine_data : List RecordShown → Option DeathTold → Data
machine_data records None = ended_machine (end_told records)
machine_data records (Some t) = machine_with (machine_of t (console_of records))

-- ---- no death

abbrev pub ending_text : Ending → List ℕ
ending_text Restarted = codes "restarted"
ending_text SwitchedOff = codes "switched_off"
ending_text Reset = codes "sysrq"
ending_text BrokenOff = codes "broken_off"

abbrev pub reason_text : DumpReason → List ℕ
reason_text Panic = codes "panic"
reason_text Oops = codes "oops"
reason_text Emergency = codes "emergency"
reason_text Restart = codes "restart"
reason_text Halt = codes "halt"
reason_text PowerOff = codes "power_off"
reason_text ShutDown = codes "shut_down"

abbrev pub reason_data : Option DumpReason → Data
reason_data None = null
reason_data (Some reason) = string (reason_text reason)

-- how a log ends: the ending, the last line of the kernel's, what the head of a dump says, and the record
abbrev pub end_with : Origin → List ℕ → EndTold → Data
end_with origin text t = object (
    member (codes "ending") (string (ending_text t.ended.ending)) (
    member (codes "line") (said_data text t.ended.line) (
    member (codes "reason") (reason_data (reason_of text)) (
    member (codes "record") (string (name_in origin t.teller.name)) no_members))))

abbrev pub ended_data : Origin → Option EndTold → Data
ended_data origin None = null
ended_data origin (Some t) = end_with origin (readable t.teller) t

-- null where a record tells why the machine died
abbrev pub end_data : Origin → List RecordShown → Option DeathTold → Data
end_data origin records None = ended_data origin (end_told records)
end_data origin records (Some t) = null

-- ---- warnings

-- a code, a number, and the record that the warning is about
abbrev pub warning_with : List ℕ → Data → Data → Data
warning_with code n about = object (
    member (codes "code") (string code) (
    member (codes "count") n (
    member (codes "record") about no_members)))

abbrev pub warning_data : Origin → Warning → Data
warning_data origin (ConsoleTells dump) = warning_with (codes "console_tells") null (string (name_in origin dump))
warning_data origin (BadTeller bad) = warning_with (codes "bad_teller") (count bad) null
warning_data origin (BadHeaders headers) = warning_with (codes "bad_headers") (count headers) null
warning_data origin NoLog = warning_with (codes "no_log") null null
warning_data origin (ManyBad zones) = warning_with (codes "many_bad") (count zones) null

abbrev pub warnings_data : Origin → List Warning → Data
warnings_data origin warnings = array (items_of (map (warning_data origin) warnings))

-- ---- the line

-- what a report says of a death: why, how the log ends, what it says of the machine, the signature, and the warnings
pub record Answers : Type 0 where
  pub death : Data
  pub end : Data
  pub machine : Data
  pub signature : Data
  pub warnings : Data

abbrev pub line_with : Answers → Data → List ℕ → Data → Data → Data → Data
line_with a better path parameters records zones = object (
    member (codes "better") better (
    member (codes "death") a.death (
    member (codes "end") a.end (
    member (codes "machine") a.machine (
    member (codes "parameters") parameters (
    member (codes "path") (string path) (
    member (codes "records") records (
    member (codes "schema") (count 2) (
    member (codes "signature") a.signature (
    member (codes "warnings") a.warnings (
    member (codes "zones") zones no_members)))))))))))

abbrev pub answers_by : ReportHeld → Option DeathTold → Answers
answers_by report told = record {
  death = death_data report.origin told;
  end = end_data report.origin report.records told;
  machine = machine_data report.records told;
  signature = bytes_data (signature_told told);
  warnings = warnings_data report.origin (warnings_by report told);
}

-- `better` are the words of a layout that explains the image better
abbrev pub line_data : ReportHeld → List ℕ → List ℕ → Division → List Data → List Data → Data
line_data report better path division zones records =
    line_with (answers_by report (death_told report.records)) (bytes_data better) path (division_data division) (array (items_of records))
    (array (items_of zones))

-- the line of a report: the tokens of this data, in order, with nothing between them
pub record IsLine (path : List ℕ) (division : Division) (zones : List Zone) (better : List ℕ) (report : ReportHeld)
    (text : List ℕ) : Type 0 where
  pub values : List Data
  pub each_zone : AreZones zones report.logs.readings report.parts (length zones) values
  pub in_order : IsInOrder text (line_data report better path division values
      (map (record_data report.origin (saved report.logs)) report.records))
  pub compact : text ≡ print (tokens text)
