-- The rings of a layout's shapes at any place of a memory dump (the project's own: the kernel looks at its own zones
-- alone)
use Rattle.std.specs.Prelude.{◌≡◌, ℕ, ◌+◌, ◌*◌, ◌/◌, ◌%◌, ◌<◌, Bool, ◌&&◌, not, if◌then◌else◌, nat_lt, nat_le, ◌==◌}
use Rattle.std.specs.Prelude.{List, [], ◌∷◌, length, filter, flat_map, filter_map, slice_get, slice_range, Option, Some}
use Rattle.std.specs.Prelude.{None, is_some, option_and_then, Result, Ok, Err}
use Rattle.std.specs.List.{range_with_len}
use Rattle.zone_spec.specs.declared.Zone.{Zone}
use Rattle.zone_spec.specs.declared.ZoneName.{ZoneName}
use Rattle.zone_spec.specs.declared.Words.{Words}
use Rattle.code_spec.specs.Code.{distance, nearest}
use Rattle.zone_spec.specs.Orders.{is_same_order}
use Rattle.zone_spec.specs.Layouts.{zone_place}
use Rattle.zone_spec.specs.Parts.{Header, part_word, words_in}
use Rattle.zone_spec.specs.Reading.{IsRing, ZoneReading, zone_reading}
use Rattle.salvage_spec.specs.declared.FoundRing.{FoundRing}
use Rattle.salvage_spec.specs.declared.RingFault.{RingFault}
use Rattle.salvage_spec.specs.declared.RingFault.TheVariants.{NoZone, NoRing}

-- whether two zones have one shape: they differ at most in name and place
abbrev pub is_alike : Zone → Zone → Bool
is_alike x z = (x.size == z.size) && (x.cap == z.cap) && (x.blocks == z.blocks) && (x.parity == z.parity)
    && (x.block == z.block) && (x.sig == z.sig) && is_same_order x.byte_order z.byte_order

-- the shapes of these zones, each by its first zone
unfoldable pub shapes : List Zone → List Zone
shapes [] = []
shapes (z ∷ zs) = z ∷ filter (λ x. not (is_alike z x)) (shapes zs)

-- the bytes that a zone of this shape has, were it at this place
abbrev pub bytes_at : Zone → List ℕ → ℕ → List ℕ
bytes_at z dump at = slice_range dump at (at + z.size)

-- and the word of its header, parity too
abbrev pub header_at : Zone → List ℕ → ℕ → List ℕ
header_at z dump at = part_word z (bytes_at z dump at) Header

-- the words of a ring of this shape that is not empty
pub record IsRingOf (z : Zone) (w : Words) : Type 0 where
  pub sig : w.sig ≡ z.sig
  pub ring : IsRing w z.cap
  pub some : 0 < w.size

-- whether they are
abbrev pub is_ring_of : Zone → Words → Bool
is_ring_of z w = (w.sig == z.sig) && nat_le w.start w.size && nat_le w.size z.cap && nat_lt 0 w.size

-- a header's word is a ring by its nearest codeword, where it has one with such words
pub record IsRingBy (z : Zone) (word c : List ℕ) : Type 0 where
  pub nearest : nearest z.parity word ≡ Some c
  pub words : IsRingOf z (words_in z.byte_order c)

-- the ring of a codeword
abbrev pub ring_of : Zone → ℕ → List ℕ → List ℕ → FoundRing
ring_of z at word c = record { at = at; zone = z.name; words = words_in z.byte_order c; corrected = distance word c }

abbrev pub found_by : Zone → ℕ → List ℕ → Option (List ℕ) → Option FoundRing
found_by z at word None = None
found_by z at word (Some c) = if is_ring_of z (words_in z.byte_order c) then Some (ring_of z at word c) else None

-- the ring of a header's word, where it is one
unfoldable pub ring_in : Zone → ℕ → List ℕ → Option FoundRing
ring_in z at word = found_by z at word (nearest z.parity word)

-- the ring of this shape at this place, where one is there and the dump has room for the shape
unfoldable pub ring_at : List ℕ → ℕ → Zone → Option FoundRing
ring_at dump at z = if nat_le (at + z.size) (length dump) then ring_in z at (header_at z dump at) else None

-- the rings at each even place, rising, of each shape in order
unfoldable pub rings : List ℕ → List Zone → List FoundRing
rings dump zones =
    flat_map (λ i. filter_map (ring_at dump (2 * i)) (shapes zones)) (range_with_len 0 ((length dump + 1) / 2))

-- what a place reads as this zone: of a ring of its shape that is listed there
abbrev pub read_as : List ℕ → ℕ → Option Zone → Result ZoneReading RingFault
read_as dump at None = Err NoZone
read_as dump at (Some z) =
    if (at % 2 == 0) && is_some (ring_at dump at z) then Ok (zone_reading z (bytes_at z dump at)) else Err NoRing

-- and as the zone of this name
abbrev pub read_at : List ℕ → List Zone → ℕ → ZoneName → Result ZoneReading RingFault
read_at dump zones at name = read_as dump at (option_and_then (slice_get zones) (zone_place zones name))
