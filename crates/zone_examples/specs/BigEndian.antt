-- A zone of a big-endian machine
use Rattle.std.specs.Prelude.{◌≡◌, ℕ, true, List, [], ◌∷◌, ◌++◌, replicate, slice_range, codes}
use Rattle.zone_spec.specs.declared.Zone.{Zone}
use Rattle.zone_spec.specs.declared.State.TheVariants.{Unsigned, Found}
use Rattle.zone_spec.specs.declared.Verdict.TheVariants.{NothingTold, AsTold}
use Rattle.zone_spec.specs.declared.params.ByteOrder.TheVariants.{Little, Big}
use Rattle.code_spec.specs.Code.{is_codeword}
use Rattle.zone_spec.specs.Parts.{words_in}
use Rattle.machine_spec.specs.Stop.{session_image}
use Rattle.zone_examples.specs.Zones.{console, plain_zone}
use Rattle.zone_examples.specs.Scenes.{abc}
use Rattle.zone_examples.specs.Shown.{Boots, boot, run, left, contents}
use Rattle.zone_examples.specs.Calls.{first_record}

abbrev pub big_console : List Zone
big_console = record (plain_zone console 0) { byte_order = Big } ∷ []

-- `abc` told, and read by the next boot. The bytes are those of the session before its last boot: signature, start,
-- size and log
abbrev pub BigEndianRecord : Type 0
BigEndianRecord =
    (run big_console (replicate 4096 0) first_record
    ≡ Boots (boot console Unsigned 0 0 0 0 NothingTold ∷ [])
    ∷ Boots (boot console Found 3 3 0 0 AsTold ∷ [])
    ∷ [])
    × (contents big_console (left big_console (replicate 4096 0) first_record) ≡ codes "abc" ∷ [])
    × (slice_range (session_image (left big_console (replicate 4096 0) first_record)) 0 15
    ≡ 0x43 ∷ 0x47 ∷ 0x42 ∷ 0x44 ∷ replicate 8 0 ++ abc)

-- the header of a console that Linux 6.1 left on a big-endian MIPS machine, and its sixteen parity bytes
abbrev pub left_header : List ℕ
left_header = 67 ∷ 71 ∷ 66 ∷ 68 ∷ 0 ∷ 0 ∷ 3 ∷ 133 ∷ 0 ∷ 0 ∷ 14 ∷ 20 ∷ []

abbrev pub left_parity : List ℕ
left_parity =
    46 ∷ 9 ∷ 132 ∷ 212 ∷ 190 ∷ 137 ∷ 252 ∷ 148 ∷ 69 ∷ 228 ∷ 72 ∷ 27 ∷ 39 ∷ 75 ∷ 235 ∷ 195 ∷ []

-- the bytes as they stand are the codeword, and the words are read after it. Read in the other order, they are no ring
pub record HeaderOfMips : Type 0 where
  pub codeword : is_codeword 16 (left_header ++ left_parity) ≡ true
  pub big : words_in Big left_header ≡ record { sig = 0x43474244; start = 901; size = 3604 }
  pub little : words_in Little left_header ≡ record { sig = 0x44424743; start = 2231566336; size = 336461824 }
