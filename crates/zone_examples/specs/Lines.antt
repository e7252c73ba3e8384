-- Time lines, written and read
use Rattle.std.specs.Prelude.{◌≡◌, ℕ, Bool, true, false, codes, Option, Some, None}
use Rattle.zone_spec.specs.declared.TimeLine.{TimeLine}
use Rattle.zone_spec.specs.TimeLines.{line_text, six_digits, read_line}

-- a line that was read
abbrev pub line : ℕ → ℕ → Bool → ℕ → Option TimeLine
line secs micros packed len = Some (record {
  time = record { secs = secs; micros = micros };
  packed = packed;
  len = len;
})

abbrev pub LinesWritten : Type 0
LinesWritten =
    (line_text (record { secs = 1700000000; micros = 123 }) false ≡ codes "====1700000000.000123-D\n")
    × (line_text (record { secs = 0; micros = 999999 }) true ≡ codes "====0.999999-C\n")
    × (six_digits 5 ≡ codes "000005")
    × (six_digits 999999999 ≡ codes "999999999")

abbrev pub LinesRead : Type 0
LinesRead =
    (read_line (codes "====1700000000.000123-D\none") ≡ line 1700000000 123 false 24)
    × (read_line (codes "====5.000006-C\n") ≡ line 5 6 true 15)
    -- the flag can be missing
    × (read_line (codes "====17.000005\n") ≡ line 17 5 false 14)

-- the microseconds are a whole number of 1 to 9 digits
abbrev pub MicrosRead : Type 0
MicrosRead =
    (read_line (codes "====17.5\n") ≡ line 17 5 false 9)
    × (read_line (codes "====17.999999999-D\n") ≡ line 17 999999999 false 19)
    × (read_line (codes "====17.0000000005\n") ≡ None)
    × (read_line (codes "====17.\n") ≡ None)

-- the seconds have 1 to 19 digits, and are below 2^63
abbrev pub SecondsRead : Type 0
SecondsRead =
    (read_line (codes "====9223372036854775807.0\n") ≡ line 9223372036854775807 0 false 26)
    × (read_line (codes "====9223372036854775808.0\n") ≡ None)
    × (read_line (codes "====0000000000000000001.0\n") ≡ line 1 0 false 26)
    × (read_line (codes "====00000000000000000001.0\n") ≡ None)
    × (read_line (codes "====.0\n") ≡ None)

-- one newline belongs to the line, and nothing else stands for it
abbrev pub NewlineRead : Type 0
NewlineRead =
    (read_line (codes "====1.0\n\nx") ≡ line 1 0 false 8)
    × (read_line (codes "====1.0-D") ≡ None)
    × (read_line (codes "====1.0-D ") ≡ None)
    × (read_line (codes "====1.0-X\n") ≡ None)
    × (read_line (codes "====-1.0\n") ≡ None)
    × (read_line (codes "===1.0\n") ≡ None)
    × (read_line (codes "") ≡ None)
