-- Where in a memory the region lies that is asked for
use Rattle.std.specs.Prelude.{ℕ, ◌-◌, nat_lt, if◌then◌else◌, is_some, Option, Some, None, Result, Ok, Err}
use Rattle.std.specs.Option.{option_or}

-- the place that is named, or else the address that other words give, if that of the first byte is known
abbrev pub address_asked : Option ℕ → Option ℕ → Option ℕ → Option ℕ
address_asked first at said = option_or at (if is_some first then said else None)

-- the address of the first byte, 0 if it is not known
abbrev pub first_address : Option ℕ → ℕ
first_address None = 0
first_address (Some first) = first

-- the place in the memory, or the address that lies before it
abbrev pub place_from : ℕ → Option ℕ → Result (Option ℕ) ℕ
place_from first None = Ok None
place_from first (Some address) = if nat_lt address first then Err address else Ok (Some (address - first))

abbrev pub place_asked : Option ℕ → Option ℕ → Option ℕ → Result (Option ℕ) ℕ
place_asked first at said = place_from (first_address first) (address_asked first at said)
