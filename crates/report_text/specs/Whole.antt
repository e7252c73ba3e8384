-- The whole text of a report
use Rattle.std.specs.Prelude.{◌≡◌, ℕ, List, [], ◌∷◌, ◌++◌, length, flat_map, codes, Option, Some, None}
use Rattle.std.specs.Option.{option_map, option_or}
use Rattle.prz_read.specs.Saving.{SavedLogs, saved}
use Rattle.report_spec.specs.Packed.{RecordShown, said}
use Rattle.report_spec.specs.Newest.{newest, console_of, android_log_of}
use Rattle.report_spec.specs.Deaths.{DeathTold, death_told, others_told}
use Rattle.report_spec.specs.Facts.{signature_told}
use Rattle.region_report.specs.Reports.{ReportHeld}
use Rattle.region_report.specs.Warned.{warnings_by}
use Rattle.report_text.specs.Pieces.{Part, Words, Count, Bytes, parts_text}
use Rattle.report_text.specs.Tables.{zone_row, record_row}
use Rattle.report_text.specs.Tails.{tail_parts}
use Rattle.report_text.specs.Around.{around_parts}
use Rattle.report_text.specs.Facts.{first_parts, warnings_parts, better_parts, short_parts}
use Rattle.report_text.specs.Earlier.{earlier_parts}

-- the newest dump, or without one the console
abbrev pub newest_log : List RecordShown → Option RecordShown
newest_log records = option_or (newest records) (console_of records)

-- a free line, and the lines that tell why the machine died, without the notice; or the last lines of the newest log
abbrev pub told_lines : ℕ → List RecordShown → Option DeathTold → List Part
told_lines most records None = tail_parts (codes "\n") most (newest_log records)
told_lines most records (Some t) =
    Words (codes "\n") ∷ [] ++ around_parts t.teller.doubts (said t.teller) most t.death

abbrev pub others_parts : List RecordShown → Option DeathTold → List Part
others_parts records None = []
others_parts records (Some t) = earlier_parts (others_told t.teller.name records)

-- a free line, how many zones and records there are, a head, and a row for each zone
abbrev pub zone_table : SavedLogs → ℕ → List Part
zone_table logs records =
    Words (codes "\nzones ") ∷ Count 1 (length logs.zones) ∷ Words (codes ", records ") ∷ Count 1 records
    ∷ Words (codes "\n\nzone          state        place     size      start       used corrected   bad\n")
    ∷ flat_map zone_row (saved logs)

-- a head, and a row for each record
abbrev pub record_table : List RecordShown → List Part
record_table records =
    Words (codes "\n     bytes  time                            record\n") ∷ flat_map record_row records

-- ten last lines of the console and of Android's log
abbrev pub tails : List RecordShown → List Part
tails records =
    tail_parts (codes "\nlast lines of the console\n") 10 (console_of records)
    ++ tail_parts (codes "\nlast lines of Android's log\n") 10 (android_log_of records)

-- why the machine died and what is known of it, warnings, the lines that tell it, and earlier deaths
abbrev pub answer_parts : List ℕ → ℕ → List ℕ → ReportHeld → Option DeathTold → List Part
answer_parts title most better r told =
    first_parts title (signature_told told) r.records told ++ warnings_parts (warnings_by r told)
    ++ better_parts better ++ told_lines most r.records told ++ others_parts r.records told

-- and then the tables, and last lines
abbrev pub all_parts : List ℕ → ℕ → List ℕ → ReportHeld → Option DeathTold → List Part
all_parts title most better r told =
    answer_parts title most better r told ++ zone_table r.logs (length r.records) ++ record_table r.records
    ++ tails r.records

-- the text under this title, with at most so many lines below the one that tells, and with the words of a layout that
-- explains the image better
unfoldable pub text_of : List ℕ → ℕ → List ℕ → ReportHeld → List ℕ
text_of title most better r = parts_text r.origin (all_parts title most better r (death_told r.records))

abbrev pub IsTextOf : List ℕ → ℕ → List ℕ → ReportHeld → List ℕ → Type 0
IsTextOf title most better report text = text ≡ text_of title most better report

-- one line: the title, the time of the record that tells, and the signature; or how the log ends
abbrev pub line_parts : List ℕ → ReportHeld → Option DeathTold → List Part
line_parts title r told = Bytes title ∷ [] ++ short_parts (signature_told told) r.records told

unfoldable pub brief_of : List ℕ → ReportHeld → List ℕ
brief_of title r = parts_text r.origin (line_parts title r (death_told r.records))
