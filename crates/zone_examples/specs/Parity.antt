-- Parity bytes, and boots of zones with parity
use Rattle.std.specs.Prelude.{◌≡◌, ◌+◌, ◌-◌, ◌*◌, List, [], ◌∷◌, ◌++◌, slice_range, take, sum_by, replicate, codes}
use Rattle.zone_spec.specs.declared.Zone.{Zone}
use Rattle.zone_spec.specs.declared.State.TheVariants.{Unsigned, Found}
use Rattle.zone_spec.specs.declared.Verdict.TheVariants.{NothingTold, AsTold}
use Rattle.zone_spec.specs.declared.CallKind.TheVariants.{Erase}
use Rattle.zone_spec.specs.declared.HeaderSeen.TheVariants.{Pair}
use Rattle.zone_spec.specs.Zones.{blocks_in}
use Rattle.zone_spec.specs.Parts.{Header, Block, part_at, part_len, part_parity_at}
use Rattle.zone_spec.specs.Reading.{zone_reading}
use Rattle.zone_spec.specs.Stages.{stage_count}
use Rattle.zone_spec.specs.Cut.{cut_stages, cut_pairs}
use Rattle.zone_spec.specs.Stores.{after_stores}
use Rattle.zone_spec.specs.Boot.{boot_fixes, boot_stores}
use Rattle.machine_spec.specs.BootPart.{zone_cut, boot_cut}
use Rattle.machine_spec.specs.LiveCalls.{Append}
use Rattle.machine_spec.specs.Operations.{Boot, Make, Stop}
use Rattle.zone_examples.specs.Zones.{console, console_of_two, console_of_sixteen}
use Rattle.zone_examples.specs.Scenes.{abc, signature, zone_booted, zone_written}
use Rattle.zone_examples.specs.Shown.{Boots, zone_shown, boot, and_cut, run, left, contents}
use Rattle.zone_examples.specs.Damage.{flipped_from, idle, foreign_header}
use Rattle.zone_spec.specs.declared.params.ByteOrder.TheVariants.{Little}

-- a console of 2048 bytes with sixteen parity bytes: fifteen blocks, the last without data
abbrev pub unused_block : Zone
unused_block = record {
  name = console;
  at = 0;
  size = 2048;
  cap = 1780;
  blocks = 15;
  parity = 16;
  sig = 0x43474244;
  block = 128;
  byte_order = Little;
}

-- the last block of a zone, and the header's parity behind that of all blocks, also of one without data
abbrev pub PartsOfZones : Type 0
PartsOfZones =
    ((part_at console_of_sixteen (Block 28) ≡ 12 + 3584) × (part_len console_of_sixteen (Block 28) ≡ 20))
    × ((part_parity_at console_of_sixteen (Block 28) ≡ 12 + 3604 + 28 * 16)
    × (part_parity_at console_of_sixteen Header ≡ 4096 - 16))
    × ((part_len unused_block (Block 13) ≡ 116) × (part_len unused_block (Block 14) ≡ 0)
    × (part_parity_at unused_block (Block 14) ≡ 2048 - 32) × (part_parity_at unused_block Header ≡ 2048 - 16))
    × ((part_parity_at console_of_two (Block 0) ≡ 4030) × (part_parity_at console_of_two Header ≡ 4094))
    × ((blocks_in 4096 0 128 ≡ 32) × (blocks_in 4096 16 128 ≡ 29) × (blocks_in 4096 2 128 ≡ 32)
    × (blocks_in 596 0 128 ≡ 5) × (blocks_in 2048 16 128 ≡ 15) × (blocks_in 4096 16 32 ≡ 85)
    × (blocks_in 2048 0 128 ≡ 16))

abbrev pub ParityOfFirstBoot : Type 0
ParityOfFirstBoot = slice_range (zone_booted console_of_two) 4094 4096 ≡ 0xe1 ∷ 0xe3 ∷ []

abbrev pub ParityOfFirstRecord : Type 0
ParityOfFirstRecord =
    let image = zone_written console_of_two abc in
    (slice_range image 0 15 ≡ signature ++ 3 ∷ 0 ∷ 0 ∷ 0 ∷ 3 ∷ 0 ∷ 0 ∷ 0 ∷ abc)
    × (slice_range image 4030 4032 ≡ 0xe3 ∷ 0x83 ∷ [])
    × (slice_range image 4094 4096 ≡ 0xfb ∷ 0xf9 ∷ [])

-- the boot's start word is corrected by the parity that still stands: the words that were read are read again
abbrev pub StoppedErasureWithParity : Type 0
StoppedErasureWithParity =
    let before = zone_written console_of_sixteen abc in
    let now = after_stores before (take 1 (boot_stores console_of_sixteen before)) in
    (zone_shown console_of_sixteen (zone_cut console_of_sixteen before 1 (idle before abc)) now
    ≡ and_cut (boot console Found 3 3 1 0 AsTold) Erase 1 18 (Pair 0) [])
    × ((zone_reading console_of_sixteen now).log ≡ abc)

-- a byte of a block that begins below size is corrected, also where it lies behind size; a byte of its
-- parity is counted, and stays
abbrev pub CorrectionsAreOfData : Type 0
CorrectionsAreOfData =
    (boot_fixes console_of_two (flipped_from 62 (1 ∷ []) (zone_written console_of_two abc))
    ≡ record { place = 62; bytes = 0 ∷ [] } ∷ [])
    × (boot_fixes console_of_two (flipped_from 4030 (1 ∷ []) (zone_written console_of_two abc)) ≡ [])
    × ((zone_reading console_of_two (flipped_from 4030 (1 ∷ []) (zone_written console_of_two abc))).corrected ≡ 1)

-- the header's correction comes first, then the signature, and then the erasure: start, size, and the
-- header's parity
abbrev pub BootOfForeignHeader : Type 0
BootOfForeignHeader =
    boot_stores console_of_two foreign_header
    ≡ record { place = 3; bytes = 0x40 ∷ [] }
    ∷ record { place = 0; bytes = 0x44 ∷ 0x42 ∷ 0x47 ∷ 0x43 ∷ [] }
    ∷ record { place = 4; bytes = 0 ∷ 0 ∷ 0 ∷ 0 ∷ [] }
    ∷ record { place = 8; bytes = 0 ∷ 0 ∷ 0 ∷ 0 ∷ [] }
    ∷ record { place = 4094; bytes = 0xe1 ∷ [] }
    ∷ record { place = 4095; bytes = 0xe3 ∷ [] }
    ∷ []

-- the cut of such a boot behind the signature: its header is the corrected one, the store of the
-- signature counts, and makes no pair
abbrev pub CutOfForeignHeader : Type 0
CutOfForeignHeader =
    let cut = boot_cut console_of_two foreign_header 2 in
    (cut.header ≡ 0x44 ∷ 0x42 ∷ 0x47 ∷ 0x40 ∷ 5 ∷ 6 ∷ 0 ∷ 0 ∷ 0xb2 ∷ 0x0f ∷ 0 ∷ 0 ∷ 155 ∷ 36 ∷ [])
    × (cut.made ≡ 1)
    × (sum_by (stage_count console_of_two) (cut_stages console_of_two cut) ≡ 5)
    × (cut_pairs console_of_two cut ≡ record { start = 1541; size = 4018 } ∷ record { start = 0; size = 4018 }
    ∷ record { start = 0; size = 0 } ∷ [])

-- a whole session with one parity byte a part
abbrev pub one_byte : List Zone
one_byte = record {
  name = console;
  at = 0;
  size = 256;
  cap = 235;
  blocks = 8;
  parity = 1;
  sig = 0x43474244;
  block = 32;
  byte_order = Little;
} ∷ []

abbrev pub SessionWithParity : Type 0
SessionWithParity =
    (run one_byte (replicate 256 0) (Boot ∷ Make (Append console abc) ∷ Stop ∷ Boot ∷ [])
    ≡ Boots (boot console Unsigned 0 0 0 0 NothingTold ∷ []) ∷ Boots (boot console Found 3 3 0 0 AsTold ∷ []) ∷ [])
    × (contents one_byte (left one_byte (replicate 256 0) (Boot ∷ Make (Append console abc) ∷ Stop ∷ Boot ∷ []))
    ≡ (abc ++ codes "\nECC: No errors detected\n") ∷ [])
