-- The page of a report
use Rattle.std.specs.Prelude.{ℕ, ◌+◌, Bool, true, false, List, [], ◌∷◌, ◌++◌, length, codes, Option, Some, None}
use Rattle.std.specs.Option.{is_some}
use Rattle.zone_spec.specs.declared.Name.{Name}
use Rattle.zone_spec.specs.declared.Time.{Time}
use Rattle.zone_spec.specs.declared.Zone.{Zone}
use Rattle.zone_spec.specs.Records.{Saved}
use Rattle.prz_read.specs.Saving.{saved}
use Rattle.report_spec.specs.declared.Division.{Division}
use Rattle.report_spec.specs.declared.Packing.{Packing}
use Rattle.report_spec.specs.declared.Packing.TheVariants.{Plain, Whole, Part as PartOfText}
use Rattle.report_spec.specs.Packed.{RecordShown, fault_words, readable}
use Rattle.report_spec.specs.Newest.{newest}
use Rattle.report_spec.specs.Deaths.{DeathTold, death_told}
use Rattle.report_spec.specs.Ends.{end_told}
use Rattle.report_spec.specs.Facts.{signature_told}
use Rattle.region_report.specs.Reports.{ReportHeld}
use Rattle.report_html.specs.declared.style.TheConstants.{STYLE}
use Rattle.report_html.specs.declared.words.TheConstants.{HEAD, NAVIGATION, LEVELS, END}
use Rattle.report_html.specs.Pieces.{Part, Words, Count, Bytes, Moment, Log, Named, Link, parts_text}
use Rattle.report_html.specs.Ended.{words_of}
use Rattle.report_html.specs.Died.{why_parts, died_parts}
use Rattle.report_html.specs.Warnings.{warnings_parts, better_parts}
use Rattle.report_html.specs.Reads.{read_parts}
use Rattle.report_html.specs.Parameters.{parameters_parts}
use Rattle.report_html.specs.Listed.{say_parts, head_parts, mark_parts, fold_parts, is_unfolded, unfolded}
use Rattle.report_html.specs.Listed.{teller_name, is_teller}
use Rattle.report_html.specs.Groups.{are_grouped, group_in, edge_parts}
use Rattle.report_html.specs.Order.{newest_first}
use Rattle.report_html.specs.Causes.{causes_parts}
use Rattle.report_html.specs.Regions.{picture}

abbrev pub time_parts : Option Time → List Part
time_parts None = []
time_parts (Some time) = Words (codes "<span>") ∷ Moment time ∷ Words (codes "</span>") ∷ []

abbrev pub length_parts : ℕ → List Part
length_parts bytes = Words (codes "<span>") ∷ Count bytes ∷ Words (codes " bytes</span>") ∷ []

-- whether a dump was packed, and how far its bytes inflate
abbrev pub packing_parts : Packing (List ℕ) → List Part
packing_parts Plain = []
packing_parts (Whole taken) =
    Words (codes "<span>inflated from ") ∷ Count taken ∷ Words (codes " bytes</span>") ∷ []
packing_parts (PartOfText fault text) =
    Words (codes "<span class=\"fix\">inflated in part: ") ∷ Words (fault_words fault) ∷ Words (codes "</span>") ∷ []

-- its lines, with its name as their anchor; or where they stand, if it tells why the machine died
abbrev pub content_parts : Bool → Name → List Bool → List ℕ → List Part
content_parts true name doubts content =
    Words (codes "</summary>\n<p class=\"note\">Its lines stand above: ") ∷ Link name
    ∷ Words (codes "</p>\n</details>\n") ∷ []
content_parts false name doubts content =
    Words (codes "</summary>\n<pre class=\"log\" id=\"") ∷ Named name ∷ Words (codes "\">\n") ∷ Log doubts content
    ∷ Words (codes "</pre>\n</details>\n") ∷ []

-- the summary of a record: the line that tells of it, its name, a dump's first line, whether it tells why the machine
-- died, its time, the length of its file, its packing and how it read
abbrev pub summary_parts : List Saved → Bool → RecordShown → List Part
summary_parts zones tells r =
    say_parts r.name (readable r) ++ Named r.name ∷ Words (codes "</b>") ∷ [] ++ head_parts r.name (readable r)
    ++ mark_parts tells ++ time_parts r.time ++ length_parts (length r.content) ++ packing_parts r.packing
    ++ read_parts zones r.name

-- a record, folded or not: its summary, and what people read of it
abbrev pub record_parts : List Saved → (is_open tells : Bool) → RecordShown → List Part
record_parts zones is_open tells r =
    fold_parts is_open ++ summary_parts zones tells r ++ content_parts tells r.name r.doubts (readable r)

-- a record in the list, in which at most the dump of one number is unfolded, and the one of this name tells
abbrev pub listed_parts : List Saved → Option ℕ → Option Name → RecordShown → List Part
listed_parts zones number teller r = record_parts zones (is_unfolded number r.name) (is_teller teller r.name) r

-- records from a place on, after one of a group: where the group changes it ends, and the next one begins
unfoldable pub records_after : List Saved → (grouped : Bool) (number : Option ℕ) (teller : Option Name) (place : ℕ)
    (before : Option ℕ) → List RecordShown → List Part
records_after zones grouped number teller place before [] = edge_parts (is_some number) before None
records_after zones grouped number teller place before (r ∷ rs) =
    edge_parts (is_some number) before (group_in grouped place r.name) ++ listed_parts zones number teller r
    ++ records_after zones grouped number teller (place + 1) (group_in grouped place r.name) rs

-- all records of a list
abbrev pub records_parts : List Saved → (number : Option ℕ) (teller : Option Name) → List RecordShown → List Part
records_parts zones number teller records =
    records_after zones (are_grouped records) number teller 0 None records

-- the newest come first
abbrev pub list_parts : ReportHeld → Option DeathTold → List Part
list_parts report told =
    records_parts (saved report.logs) (unfolded (newest report.records) told) (teller_name told)
    (newest_first report.records)

-- how many there are, and what the number of a line means
abbrev pub records_opening : ℕ → List Part
records_opening count =
    Words (codes "<h2 id=\"records\">Records: ") ∷ Count count ∷ Words LEVELS.now ∷ []

-- what a page is named by beside its title: the signature, or how the log ends
abbrev pub named_parts : List ℕ → List RecordShown → Option DeathTold → List Part
named_parts signature records None = Words (words_of (end_told records)) ∷ []
named_parts signature records (Some t) = Bytes signature ∷ []

abbrev pub name_bytes : List ℕ → Option DeathTold → List (List ℕ)
name_bytes signature None = []
name_bytes signature (Some t) = signature ∷ []

-- a head with the page's name and the style sheet, and the title
abbrev pub heading_parts : List ℕ → List Part → List Part
heading_parts title named =
    Words HEAD.now ∷ Bytes title ∷ Words (codes ": ") ∷ named ++ Words (codes "</title>\n<style>\n") ∷ Words STYLE.now
    ∷ Words (codes "</style>\n</head>\n<body>\n<header>\n<h1>Why this machine died: ") ∷ Bytes title
    ∷ Words NAVIGATION.now ∷ []

-- the heading, why the machine died, the dumps by telling line, the records, the picture of the zones, and the
-- parameters
abbrev pub page_with : List ℕ → Division → List Zone → ReportHeld → (better signature : List ℕ) → Option DeathTold
    → List Part
page_with title division zones report better signature told =
    heading_parts title (named_parts signature report.records told) ++ why_parts report.records told
    ++ warnings_parts report told ++ better_parts better ++ died_parts signature (saved report.logs) report.records told
    ++ records_opening (length report.records) ++ causes_parts report.records ++ list_parts report told
    ++ picture zones report ++ parameters_parts division ++ Words END.now ∷ []

abbrev pub page_by : List ℕ → Division → List Zone → ReportHeld → (better : List ℕ) → Option DeathTold → List Part
page_by title division zones report better told =
    page_with title division zones report better (signature_told told) told

abbrev pub page_parts : List ℕ → Division → List Zone → ReportHeld → (better : List ℕ) → List Part
page_parts title division zones report better =
    page_by title division zones report better (death_told report.records)

-- the page under this title of the report of these zones, divided so, with the words of a layout that explains the
-- image better
unfoldable pub page_of : List ℕ → Division → List Zone → ReportHeld → (better : List ℕ) → List ℕ
page_of title division zones report better =
    parts_text report.origin (page_parts title division zones report better)
