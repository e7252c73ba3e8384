-- The machine while it is off: a first image, and a flip of one byte
use Rattle.std.specs.Prelude.{ℕ, List, map, slice_index, slice_set, bit_xor, None}
use Rattle.zone_spec.specs.declared.Zone.{Zone}
use Rattle.machine_spec.specs.Zones.{zone_bytes}
use Rattle.machine_spec.specs.States.{OffState}

-- an image of which nothing is known: this moment is the stop of every zone
abbrev pub fresh : List Zone → List ℕ → OffState
fresh layout image = record {
  image = image;
  zones = map
      (λ z. record { stop = zone_bytes z image; told = None; cut = None }) layout;
}

-- one byte exclusive-ored with a mask
abbrev pub flipped : OffState → ℕ → ℕ → OffState
flipped off place mask = record off { image = slice_set off.image place (bit_xor (slice_index off.image place) mask) }
