-- What must be known before a report is believed
use Rattle.std.specs.Prelude.{ℕ, ◌/◌, ◌==◌, Bool, true, false, not, ◌||◌, nat_lt, if◌then◌else◌, List, [], ◌∷◌, ◌++◌}
use Rattle.std.specs.Prelude.{length, Option, Some, None}
use Rattle.std.specs.List.{list_any, count_by}
use Rattle.zone_spec.specs.declared.PartState.{PartState}
use Rattle.zone_spec.specs.declared.PartState.TheVariants.{Read, Bad}
use Rattle.zone_spec.specs.PartStates.{PartStates}
use Rattle.report_spec.specs.declared.Origin.{Origin}
use Rattle.report_spec.specs.declared.Origin.TheVariants.{Region, Storage}
use Rattle.report_spec.specs.declared.Warning.{Warning}
use Rattle.report_spec.specs.declared.Warning.TheVariants.{ConsoleTells, BadTeller, BadHeaders, NoLog, ManyBad}
use Rattle.report_spec.specs.Packed.{RecordShown}
use Rattle.report_spec.specs.Newest.{newest, is_console}
use Rattle.report_spec.specs.Deaths.{DeathTold}

-- the console tells, and not the newest dump
abbrev pub console_warning : Option RecordShown → Option DeathTold → List Warning
console_warning None told = []
console_warning (Some dump) None = []
console_warning (Some dump) (Some told) = if is_console told.teller.name then ConsoleTells dump.name ∷ [] else []

-- so many parts of the record that tells are bad
abbrev pub teller_warning : ℕ → List Warning
teller_warning bad = if nat_lt 0 bad then BadTeller bad ∷ [] else []

abbrev pub is_bad : PartState → Bool
is_bad (Read n) = false
is_bad Bad = true

abbrev pub has_bad_header : PartStates → Bool
has_bad_header parts = is_bad parts.header

abbrev pub headers_warning : ℕ → List Warning
headers_warning count = if nat_lt 0 count then BadHeaders count ∷ [] else []

-- whether blocks of a zone are in use
abbrev pub has_log : PartStates → Bool
has_log parts = not (length parts.blocks == 0)

abbrev pub has_bad_part : PartStates → Bool
has_bad_part parts = is_bad parts.header || list_any is_bad parts.blocks

-- no zone has a log, or more than half of them have bad parts
abbrev pub layout_warning : (logs bad zones : ℕ) → List Warning
layout_warning logs bad zones =
    if logs == 0 then NoLog ∷ [] else (if nat_lt (zones / 2) bad then ManyBad bad ∷ [] else [])

-- a zone of a storage has neither parity nor blocks: its parts tell nothing
abbrev pub parts_warnings : Origin → List PartStates → List Warning
parts_warnings Region zones =
    headers_warning (count_by has_bad_header zones)
    ++ layout_warning (count_by has_log zones) (count_by has_bad_part zones) (length zones)
parts_warnings Storage zones = []

-- the warnings of records, of which this one tells and has so many bad parts, and of zones whose parts read so
abbrev pub warnings_of : Origin → List RecordShown → Option DeathTold → ℕ → List PartStates → List Warning
warnings_of origin records told bad zones =
    console_warning (newest records) told ++ teller_warning bad ++ parts_warnings origin zones
