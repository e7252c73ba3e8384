-- Where a call begins
use Rattle.std.specs.Prelude.{ℕ, if◌then◌else◌, ◌==◌, length}
use Rattle.zone_spec.specs.declared.Zone.{Zone}
use Rattle.zone_spec.specs.declared.Words.{Words}
use Rattle.zone_spec.specs.Told.{Call, Append, Erase, Dump}
use Rattle.store_steps.specs.declared.place.Leg.TheVariants.{Erasure, Payload}
use Rattle.store_steps.specs.declared.place.Phase.{Phase}
use Rattle.store_steps.specs.declared.place.Phase.TheVariants.{ZeroStart, Size, Start, Finished}
use Rattle.store_steps.specs.declared.place.Place.{Place}
use Rattle.store_steps.specs.Calls.{last_of}

abbrev pub erasure : Place
erasure = record { leg = Erasure; start = 0; size = 0; phase = ZeroStart; block = 0; number = 0 }

-- an append of n bytes; of none it is at its end, and in a full ring the size word is left away
abbrev pub append_phase : ℕ → ℕ → ℕ → Phase
append_phase n size cap = if n == 0 then Finished else (if size == cap then Start else Size)

abbrev pub first_place : Zone → Words → Call → Place
first_place z w (Append payload) = record {
  leg = Payload;
  start = w.start;
  size = w.size;
  phase = append_phase (length (last_of z.cap (Append payload))) w.size z.cap;
  block = 0;
  number = 0;
}
first_place z w Erase = erasure
first_place z w (Dump line body) = erasure
