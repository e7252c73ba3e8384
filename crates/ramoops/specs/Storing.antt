-- The next stores of a zone's flight
use Rattle.std.specs.Prelude.{◌≡◌, ℕ, ◌-◌, ◌<◌, Bool, true, false, List, length, Option, Some, None}
use Rattle.zone_spec.specs.declared.CallKind.{CallKind}
use Rattle.zone_spec.specs.declared.CallKind.TheVariants.{Append, Erase, Dump}
use Rattle.store_steps.specs.Flying.{Flying}
use Rattle.store_steps.specs.Counts.{total_of}
use Rattle.ramoops.specs.declared.zones.Stored.{Stored}
use Rattle.ramoops.specs.declared.zones.Stored.TheVariants.{Next, Last}

-- stores are left of the flight, if one stands, and the bytes are of its zone's size
abbrev pub CanStore : List ℕ → Option Flying → Type 0
CanStore bytes None = Unit {0}
CanStore bytes (Some f) = (f.made < total_of f) × (length bytes ≡ f.zone.size)

-- the parts of the flight's zone have so many parity bytes
abbrev pub HasParity : ℕ → Option Flying → Type 0
HasParity n None = Unit {0}
HasParity n (Some f) = n ≡ f.zone.parity

abbrev pub is_dump_kind : CallKind → Bool
is_dump_kind Dump = true
is_dump_kind Append = false
is_dump_kind Erase = false

-- whether other stores come behind it
abbrev pub is_next : Option Stored → Bool
is_next None = false
is_next (Some Next) = true
is_next (Some (Last kind)) = false

-- whether it was a dump's last store
abbrev pub is_last_of_dump : Option Stored → Bool
is_last_of_dump None = false
is_last_of_dump (Some Next) = false
is_last_of_dump (Some (Last kind)) = is_dump_kind kind

-- the stores that are left of a flight, none where none stands
abbrev pub stores_left_of : Option Flying → ℕ
stores_left_of None = 0
stores_left_of (Some f) = total_of f - f.made
