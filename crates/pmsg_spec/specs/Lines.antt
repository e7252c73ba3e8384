-- An entry as a line, as `logcat -v threadtime` shows it, with the year, in UTC:
-- `2025-11-27 00:04:18.836  1234  1240 E tag: text`. Each further line of an entry begins with a tab
use Rattle.std.specs.Prelude.{ℕ, ◌+◌, ◌/◌, ◌%◌, ◌==◌, nat_lt, if◌then◌else◌, List, [], ◌∷◌, ◌++◌, flat_map}
use Rattle.pmsg_spec.specs.declared.Date.{Date}
use Rattle.pmsg_spec.specs.declared.Entry.{Entry}
use Rattle.pmsg_spec.specs.Calendar.{date_of}
use Rattle.pmsg_spec.specs.Payloads.{payload, priority_of, tag_of, text_of}

-- a digit of a number: that of the units, the tens ..
abbrev pub digit : ℕ → ℕ → ℕ
digit n units = 48 + n / units % 10

-- a blank in its place, if the number has none there
abbrev pub digit_or_blank : ℕ → ℕ → ℕ
digit_or_blank n units = if nat_lt n units then 32 else digit n units

unfoldable pub date_text : Date → List ℕ
date_text d =
    digit d.year 1000 ∷ digit d.year 100 ∷ digit d.year 10 ∷ digit d.year 1 ∷ 45
    ∷ digit d.month 10 ∷ digit d.month 1 ∷ 45 ∷ digit d.day 10 ∷ digit d.day 1 ∷ []

-- the time of the day, of seconds of it and nanoseconds, to the millisecond
unfoldable pub clock_text : ℕ → ℕ → List ℕ
clock_text secs nanos =
    digit (secs / 3600) 10 ∷ digit (secs / 3600) 1 ∷ 58 ∷ digit (secs / 60 % 60) 10 ∷ digit (secs / 60 % 60) 1 ∷ 58
    ∷ digit (secs % 60) 10 ∷ digit (secs % 60) 1 ∷ 46
    ∷ digit (nanos / 1_000_000) 100 ∷ digit (nanos / 1_000_000) 10 ∷ digit (nanos / 1_000_000) 1 ∷ []

-- a number below 100000 in five columns
unfoldable pub column_text : ℕ → List ℕ
column_text n =
    digit_or_blank n 10000 ∷ digit_or_blank n 1000 ∷ digit_or_blank n 100 ∷ digit_or_blank n 10 ∷ digit n 1 ∷ []

abbrev pub when_text : Entry → List ℕ
when_text e = date_text (date_of (e.secs / 86400)) ++ 32 ∷ clock_text (e.secs % 86400) e.nanos

-- when, which process and thread, and the priority
abbrev pub head_text : Entry → ℕ → List ℕ
head_text e priority =
    when_text e ++ 32 ∷ column_text e.pid ++ 32 ∷ column_text e.tid ++ 32 ∷ priority ∷ 32 ∷ []

abbrev pub tabbed_byte : ℕ → List ℕ
tabbed_byte b = if b == 10 then 10 ∷ 9 ∷ [] else b ∷ []

abbrev pub tabbed : List ℕ → List ℕ
tabbed bytes = flat_map tabbed_byte bytes

abbrev pub said_text : List ℕ → List ℕ
said_text payload = tabbed (tag_of payload) ++ 58 ∷ 32 ∷ [] ++ tabbed (text_of payload) ++ 10 ∷ []

-- an entry with this payload
abbrev pub line_by : Entry → List ℕ → List ℕ
line_by e payload = head_text e (priority_of payload) ++ said_text payload

abbrev pub line_text : List ℕ → Entry → List ℕ
line_text bytes e = line_by e (payload bytes e)

-- the lines of the entries of these bytes
abbrev pub lines_text : List ℕ → List Entry → List ℕ
lines_text bytes all = flat_map (line_text bytes) all
