-- The law that a time line reads back as itself.
use Rattle.std.specs.Prelude.{◌≡◌, ℕ, ◌<◌, ◌≤◌, ◌^◌, Bool, List, ◌++◌, length, Some}
use Rattle.zone_spec.specs.declared.Time.{Time}
use Rattle.zone_spec.specs.TimeLines.{line_text, read_line}

-- the line of a time that a dump can be written at reads back as that time, whatever follows it
abbrev pub LinesReadBack : Type 0
LinesReadBack = (time : Time) (packed : Bool) (more : List ℕ) → time.secs < 2 ^ 63 → time.micros < 1000000 →
    read_line (line_text time packed ++ more) ≡ Some (record
    { time = time; packed = packed; len = length (line_text time packed) })

-- no such line is longer than 36 bytes
abbrev pub LinesAreShort : Type 0
LinesAreShort = (time : Time) (packed : Bool) → time.secs < 2 ^ 63 → time.micros < 1000000
    → length (line_text time packed) ≤ 36
