-- The ring of a dump, and its log, where the nearest codewords of its parts are given, not computed
use Rattle.std.proofs.Common.{◌≡◌, ℕ, Bool, List, [], ◌∷◌, ◌++◌, filter_map, refl, ap, ◌∙◌, replicate, is_some}
use Rattle.std.proofs.Common.{if◌then◌else◌, Option, Some, Result, Ok, Err}
use Rattle.code_spec.specs.Code.{nearest, distance}
use Rattle.zone_spec.specs.declared.Zone.{Zone}
use Rattle.zone_spec.specs.declared.Kind.TheVariants.{Console}
use Rattle.zone_spec.specs.declared.ZoneName.{ZoneName}
use Rattle.zone_spec.specs.declared.State.TheVariants.{Found}
use Rattle.zone_spec.specs.Parts.{Header, Block, part_word, part_bytes}
use Rattle.zone_spec.specs.PartReadings.{part_reading}
use Rattle.zone_spec.specs.Reading.{ZoneReading, zone_reading}
use Rattle.salvage_spec.specs.declared.FoundRing.{FoundRing}
use Rattle.salvage_spec.specs.declared.RingFault.{RingFault}
use Rattle.salvage_spec.specs.declared.RingFault.TheVariants.{NoRing}
use Rattle.salvage_spec.specs.Rings.{shapes, rings, ring_at, ring_in, found_by, bytes_at, read_at}
use Rattle.zone_examples.proofs.Unfoldings.{computing}
use Rattle.zone_examples.proofs.Given.{given_nearest}
use Rattle.zone_examples.proofs.GivenParts.{given_parts}
use Rattle.zone_examples.proofs.Clean.{read_as}
use Rattle.command_examples.specs.Rows.{flipped_dump}
use Rattle.zone_spec.specs.declared.params.ByteOrder.TheVariants.{Little}

abbrev pub console : ZoneName
console = record { kind = Console; index = 0 }

-- the zone of mem_size=256 record_size=0 console_size=256 ftrace_size=0 pmsg_size=0 ecc=2
abbrev pub small_console : Zone
small_console = record {
  name = console;
  at = 0;
  size = 256;
  cap = 238;
  blocks = 2;
  parity = 2;
  sig = 0x43474244;
  block = 128;
  byte_order = Little;
}

abbrev pub flipped_word : List ℕ
flipped_word = 0x45 ∷ 0x42 ∷ 0x47 ∷ 0x43 ∷ 3 ∷ 0 ∷ 0 ∷ 0 ∷ 3 ∷ 0 ∷ 0 ∷ 0 ∷ 0xfb ∷ 0xf9 ∷ []

abbrev pub whole_word : List ℕ
whole_word = 0x44 ∷ 0x42 ∷ 0x47 ∷ 0x43 ∷ 3 ∷ 0 ∷ 0 ∷ 0 ∷ 3 ∷ 0 ∷ 0 ∷ 0 ∷ 0xfb ∷ 0xf9 ∷ []

pub nearest-is : nearest 2 flipped_word ≡ Some whole_word
unfolding computing
nearest-is = given_nearest 2 flipped_word whole_word refl

abbrev pub ring : FoundRing
ring = record { at = 0; zone = console; words = record { sig = 0x43474244; start = 3; size = 3 }; corrected = 1 }

-- the other places have no room for the shape
pub rings-are : rings flipped_dump (small_console ∷ []) ≡ ring ∷ []
unfolding rings shapes ring_at ring_in part_word part_bytes distance
rings-are =
    ap (λ (o : Option (List ℕ)). filter_map (λ (z : Zone). found_by z 0 flipped_word o) (small_console ∷ []) ++ [])
    nearest-is ∙ refl

pub ring-is : ring_at flipped_dump 0 small_console ≡ Some ring
unfolding ring_at ring_in part_word part_bytes distance
ring-is = ap (found_by small_console 0 flipped_word) nearest-is ∙ refl

abbrev pub ring_bytes : List ℕ
ring_bytes = bytes_at small_console flipped_dump 0

abbrev pub ring_reading : ZoneReading
ring_reading = record {
  state = Found;
  words = record { sig = 0x43474244; start = 3; size = 3 };
  log = 0x61 ∷ 0x62 ∷ 0x63 ∷ [];
  corrected = 2;
  bad = 0;
}

pub reading-is : zone_reading small_console ring_bytes ≡ ring_reading
unfolding computing
reading-is =
    given_parts small_console ring_bytes (record {
      bytes = 0x44 ∷ 0x42 ∷ 0x47 ∷ 0x43 ∷ 3 ∷ 0 ∷ 0 ∷ 0 ∷ 3 ∷ 0 ∷ 0 ∷ 0 ∷ [];
      corrected = 1;
      bad = 0;
    }) (record { bytes = 0x61 ∷ 0x62 ∷ 0x63 ∷ replicate 125 0; corrected = 1; bad = 0 })
    (part_reading small_console ring_bytes (Block 1)) (read_as small_console ring_bytes Header whole_word refl)
    (read_as small_console ring_bytes (Block 0) (0x61 ∷ 0x62 ∷ 0x63 ∷ replicate 125 0 ++ 0xe3 ∷ 0x83 ∷ []) refl) refl
    ∙ refl

abbrev pub read_if : Bool → Result ZoneReading RingFault
read_if listed = if listed then Ok (zone_reading small_console ring_bytes) else Err NoRing

pub read-is : read_at flipped_dump (small_console ∷ []) 0 console ≡ Ok ring_reading
read-is = ap (λ (o : Option FoundRing). read_if (is_some o)) ring-is ∙ ap Ok reading-is
