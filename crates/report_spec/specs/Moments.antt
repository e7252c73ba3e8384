-- A time as people read it
use Rattle.std.specs.Prelude.{ℕ, ◌/◌, ◌%◌, nat_lt, if◌then◌else◌, List, [], ◌∷◌, ◌++◌, codes, decimal}
use Rattle.pmsg_spec.specs.Calendar.{date_of}
use Rattle.pmsg_spec.specs.Lines.{digit, date_text}
use Rattle.zone_spec.specs.declared.Time.{Time}

-- the time of the day, of seconds of it, such as `23:44:14`
abbrev pub day_text : ℕ → List ℕ
day_text secs =
    digit (secs / 3600) 10 ∷ digit (secs / 3600) 1 ∷ 58 ∷ digit (secs / 60 % 60) 10 ∷ digit (secs / 60 % 60) 1 ∷ 58
    ∷ digit (secs % 60) 10 ∷ digit (secs % 60) 1 ∷ []

abbrev pub six_text : ℕ → List ℕ
six_text n =
    digit n 100_000 ∷ digit n 10_000 ∷ digit n 1000 ∷ digit n 100 ∷ digit n 10 ∷ digit n 1 ∷ []

-- microseconds with six digits, or more where they need them
abbrev pub micros_text : ℕ → List ℕ
micros_text n = if nat_lt n 1_000_000 then six_text n else decimal n

-- the date of a day since 1970, and the time of the day
abbrev pub dated_text : (days secs micros : ℕ) → List ℕ
dated_text days secs micros =
    date_text (date_of days) ++ 32 ∷ [] ++ day_text secs ++ 46 ∷ [] ++ micros_text micros ++ codes " UTC"

abbrev pub undated_text : Time → List ℕ
undated_text time = decimal time.secs ++ 46 ∷ [] ++ micros_text time.micros ++ codes " s"

-- a time in UTC, such as `2026-11-26 23:44:14.688627 UTC`; one from 17 October 2243 on in seconds since 1970
abbrev pub moment_text : Time → List ℕ
moment_text time =
    if nat_lt (time.secs / 86400) 100_000 then dated_text (time.secs / 86400) (time.secs % 86400) time.micros
    else undated_text time

-- a number of one unit and a number of a smaller one
abbrev pub unit_text : ℕ → List ℕ → ℕ → List ℕ → List ℕ
unit_text large unit small end = codes " (" ++ decimal large ++ unit ++ decimal small ++ end

-- seconds in larger units, from a minute on, such as ` (5 min 12 s)`
abbrev pub long_text : ℕ → List ℕ
long_text n =
    if nat_lt n 60 then []
    else (if nat_lt n 3600 then unit_text (n / 60) (codes " min ") (n % 60) (codes " s)")
    else (if nat_lt n 86_400 then unit_text (n / 3600) (codes " h ") (n / 60 % 60) (codes " min)")
    else unit_text (n / 86_400) (codes " d ") (n / 3600 % 24) (codes " h)")))
