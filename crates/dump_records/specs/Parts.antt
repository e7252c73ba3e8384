-- The parts of a time line as they are read: a number, and what ends the line.
use Rattle.std.specs.Prelude.{ℕ, true, false, ◌&&◌, nat_le, if◌then◌else◌, List, [], ◌∷◌, ◌++◌, length, codes, Option}
use Rattle.std.specs.Prelude.{Some, None}
use Rattle.zone_spec.specs.TimeLines.{digits_of, number_of, begins_with}
use Rattle.dump_records.specs.declared.Number.{Number}
use Rattle.dump_records.specs.declared.Ending.{Ending}

-- the number that digits are, where they are 1 to `most`
abbrev pub number_up_to : ℕ → List ℕ → Option Number
number_up_to most digits =
    if nat_le 1 (length digits) && nat_le (length digits) most
    then Some (record { value = number_of digits; len = length digits }) else None

-- the number at the front of a text
abbrev pub number_at : ℕ → List ℕ → Option Number
number_at most text = number_up_to most (digits_of text)

-- the flag, D or C, and the newline at the front of a text; no flag counts as D
abbrev pub ending_at : List ℕ → Option Ending
ending_at text =
    if begins_with (10 ∷ []) text then Some (record { packed = false; len = 1 })
    else (if begins_with (codes "-D" ++ 10 ∷ []) text then Some (record { packed = false; len = 3 })
    else (if begins_with (codes "-C" ++ 10 ∷ []) text then Some (record { packed = true; len = 3 })
    else None))
