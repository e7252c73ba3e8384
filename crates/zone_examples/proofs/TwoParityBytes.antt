-- A console zone with two parity bytes
use Rattle.std.proofs.Common.{◌≡◌, ℕ, List, [], ◌∷◌, ◌++◌, replicate, take, refl, ap, ◌∙◌}
use Rattle.zone_spec.specs.declared.State.TheVariants.{Unsigned, Found}
use Rattle.zone_spec.specs.Told.{Append}
use Rattle.zone_spec.specs.Parts.{Header, Block, standing_words}
use Rattle.zone_spec.specs.PartReadings.{part_reading}
use Rattle.zone_spec.specs.Reading.{zone_reading}
use Rattle.zone_spec.specs.Stores.{after_stores}
use Rattle.zone_spec.specs.Stages.{SigWord}
use Rattle.zone_spec.specs.Calls.{erase_stages, call_stages, call_stores, image_after}
use Rattle.zone_spec.specs.Boot.{boot_stores}
use Rattle.zone_examples.specs.Zones.{console_of_two}
use Rattle.zone_examples.specs.Scenes.{abc, def, zone_booted, zone_written}
use Rattle.zone_examples.specs.Damage.{full_ring, flipped_from}
use Rattle.zone_spec.specs.Stores.{Store}
use Rattle.zone_spec.specs.Boot.{boot_fixes, boot_erasure}
use Rattle.zone_examples.proofs.Fixes.{given_fixes, given_erasure, given_boot}
use Rattle.zone_examples.proofs.Unfoldings.{computing}
use Rattle.zone_examples.proofs.Stores.{with_given, given_stores}
use Rattle.zone_examples.proofs.GivenParts.{given_parts}
use Rattle.zone_examples.proofs.Clean.{read_as, read_raw}

abbrev pub booted : List ℕ
booted = after_stores (replicate 4096 0) (with_given console_of_two (SigWord 0x43474244 ∷ erase_stages)
    ((0xe1 ∷ 0xe3 ∷ []) ∷ []) (replicate 4096 0))

pub booted-is : zone_booted console_of_two ≡ booted
unfolding computing
booted-is = ap (after_stores (replicate 4096 0)) (given_stores console_of_two (SigWord 0x43474244 ∷ erase_stages)
    ((0xe1 ∷ 0xe3 ∷ []) ∷ []) (replicate 4096 0) refl)

abbrev pub three : List ℕ
three = after_stores booted (with_given console_of_two
    (call_stages console_of_two (standing_words console_of_two booted) (Append abc)) ((0xe3 ∷ 0x83 ∷ []) ∷ (0xfb ∷ 0xf9 ∷ []) ∷ [])
    booted)

pub three-is : zone_written console_of_two abc ≡ three
unfolding computing
three-is =
    ap (λ image. after_stores image (call_stores console_of_two (Append abc) image)) booted-is
    ∙ ap (after_stores booted) (given_stores console_of_two
    (call_stages console_of_two (standing_words console_of_two booted) (Append abc))
    ((0xe3 ∷ 0x83 ∷ []) ∷ (0xfb ∷ 0xf9 ∷ []) ∷ []) booted refl)

-- ---- a second append cut behind both words

abbrev pub cut_at : ℕ → List ℕ
cut_at k = after_stores three (take k (with_given console_of_two
    (call_stages console_of_two (standing_words console_of_two three) (Append def)) ((190 ∷ 185 ∷ []) ∷ (213 ∷ 215 ∷ []) ∷ []) three))

pub cut_at-is : (k : ℕ) → image_after console_of_two (Append def) three k ≡ cut_at k
unfolding computing
cut_at-is k = ap (λ stores. after_stores three (take k stores))
    (given_stores console_of_two (call_stages console_of_two (standing_words console_of_two three) (Append def))
    ((190 ∷ 185 ∷ []) ∷ (213 ∷ 215 ∷ []) ∷ []) three refl)

pub between_words-reads : zone_reading console_of_two (cut_at 2)
    ≡ record {
      state = Found;
      words = record { sig = 0x43474244; start = 6; size = 6 };
      log = 0x61 ∷ 0x62 ∷ 0x63 ∷ 0 ∷ 0 ∷ 0 ∷ [];
      corrected = 0;
      bad = 1;
    }
unfolding computing
between_words-reads =
    given_parts console_of_two (cut_at 2) (record {
      bytes = 0x44 ∷ 0x42 ∷ 0x47 ∷ 0x43 ∷ 6 ∷ 0 ∷ 0 ∷ 0 ∷ 6 ∷ 0 ∷ 0 ∷ 0
          ∷ [];
      corrected = 0;
      bad = 1;
    }) (record { bytes = abc ++ replicate 125 0; corrected = 0; bad = 0 })
    (part_reading console_of_two (cut_at 2) (Block 1))
    (read_raw console_of_two (cut_at 2) Header refl) (read_as console_of_two (cut_at 2) (Block 0)
    (abc ++ replicate 125 0 ++ 0xe3 ∷ 0x83 ∷ []) refl) refl ∙ refl

-- ---- a header that reads another signature

abbrev pub foreign : List ℕ
foreign = after_stores full_ring (record { place = 4; bytes = 5 ∷ 6 ∷ 0 ∷ 0 ∷ [] } ∷ [])

pub foreign-is : image_after console_of_two (Append (replicate 1541 0x62)) full_ring 1 ≡ foreign
unfolding computing
foreign-is = refl

pub foreign-reads : zone_reading console_of_two foreign
    ≡ record {
      state = Unsigned;
      words = record { sig = 0x40474244; start = 1541; size = 4018 };
      log = [];
      corrected = 1;
      bad = 0;
    }
unfolding computing
foreign-reads =
    given_parts console_of_two foreign (record {
      bytes = 0x44 ∷ 0x42 ∷ 0x47 ∷ 0x40 ∷ 5 ∷ 6 ∷ 0 ∷ 0 ∷ 0xb2 ∷ 0x0f ∷ 0
          ∷ 0 ∷ [];
      corrected = 1;
      bad = 0;
    }) (part_reading console_of_two foreign (Block 0))
    (part_reading console_of_two foreign (Block 1))
    (read_as console_of_two foreign Header (0x44 ∷ 0x42 ∷ 0x47 ∷ 0x40 ∷ 5 ∷ 6 ∷ 0 ∷ 0 ∷ 0xb2 ∷ 0x0f ∷ 0 ∷ 0 ∷ 155 ∷ 36
    ∷ []) refl) refl refl ∙ refl

-- ---- a boot of it

pub foreign_fixes-are : boot_fixes console_of_two foreign ≡ record { place = 3; bytes = 0x40 ∷ [] } ∷ []
unfolding computing
foreign_fixes-are =
    given_fixes console_of_two foreign (record {
      bytes = 0x44 ∷ 0x42 ∷ 0x47 ∷ 0x40 ∷ 5 ∷ 6 ∷ 0 ∷ 0 ∷ 0xb2 ∷ 0x0f ∷ 0
          ∷ 0 ∷ [];
      corrected = 1;
      bad = 0;
    }) (part_reading console_of_two foreign (Block 0))
    (part_reading console_of_two foreign (Block 1))
    (read_as console_of_two foreign Header (0x44 ∷ 0x42 ∷ 0x47 ∷ 0x40 ∷ 5 ∷ 6 ∷ 0 ∷ 0 ∷ 0xb2 ∷ 0x0f ∷ 0 ∷ 0 ∷ 155 ∷ 36
    ∷ []) refl) refl refl ∙ refl

pub foreign_erasure-is : boot_erasure console_of_two foreign ≡ SigWord 0x43474244 ∷ erase_stages
unfolding computing
foreign_erasure-is = given_erasure console_of_two foreign
    (record {
      state = Unsigned;
      words = record { sig = 0x40474244; start = 1541; size = 4018 };
      log = [];
      corrected = 1;
      bad = 0;
    }) foreign-reads ∙ refl

pub foreign-boots : boot_stores console_of_two foreign
    ≡ record { place = 3; bytes = 0x40 ∷ [] } ∷ record { place = 0; bytes = 0x44 ∷ 0x42 ∷ 0x47 ∷ 0x43 ∷ [] }
    ∷ record { place = 4; bytes = 0 ∷ 0 ∷ 0 ∷ 0 ∷ [] } ∷ record { place = 8; bytes = 0 ∷ 0 ∷ 0 ∷ 0 ∷ [] }
    ∷ record { place = 4094; bytes = 0xe1 ∷ [] } ∷ record { place = 4095; bytes = 0xe3 ∷ [] } ∷ []
unfolding computing
foreign-boots =
    given_boot console_of_two foreign (record { place = 3; bytes = 0x40 ∷ [] } ∷ [])
    (SigWord 0x43474244 ∷ erase_stages) foreign_fixes-are foreign_erasure-is
    ∙ ap (λ (ss : List Store). record { place = 3; bytes = 0x40 ∷ [] } ∷ ss)
    (given_stores console_of_two (SigWord 0x43474244 ∷ erase_stages) ((0xe1 ∷ 0xe3 ∷ []) ∷ [])
    (after_stores foreign (record { place = 3; bytes = 0x40 ∷ [] } ∷ [])) refl) ∙ refl

-- ---- a flip behind size, and one of parity

abbrev pub abc_block : List ℕ
abc_block = abc ++ replicate 125 0 ++ 0xe3 ∷ 0x83 ∷ []

pub behind_size-fixes : boot_fixes console_of_two (flipped_from 62 (1 ∷ []) three)
    ≡ record { place = 62; bytes = 0 ∷ [] } ∷ []
unfolding computing
behind_size-fixes =
    given_fixes console_of_two (flipped_from 62 (1 ∷ []) three)
    (part_reading console_of_two (flipped_from 62 (1 ∷ []) three) Header)
    (record { bytes = abc ++ replicate 125 0; corrected = 1; bad = 0 })
    (part_reading console_of_two (flipped_from 62 (1 ∷ []) three) (Block 1))
    refl (read_as console_of_two (flipped_from 62 (1 ∷ []) three) (Block 0) abc_block refl) refl ∙ refl

pub parity-fixes : boot_fixes console_of_two (flipped_from 4030 (1 ∷ []) three) ≡ []
unfolding computing
parity-fixes =
    given_fixes console_of_two (flipped_from 4030 (1 ∷ []) three)
    (part_reading console_of_two (flipped_from 4030 (1 ∷ []) three) Header)
    (record { bytes = abc ++ replicate 125 0; corrected = 1; bad = 0 })
    (part_reading console_of_two (flipped_from 4030 (1 ∷ []) three) (Block 1))
    refl (read_as console_of_two (flipped_from 4030 (1 ∷ []) three) (Block 0) abc_block refl) refl ∙ refl

pub parity-counts : (zone_reading console_of_two (flipped_from 4030 (1 ∷ []) three)).corrected ≡ 1
unfolding computing
parity-counts =
    ap (λ r. r.corrected) (given_parts console_of_two (flipped_from 4030 (1 ∷ []) three)
    (part_reading console_of_two (flipped_from 4030 (1 ∷ []) three) Header)
    (record { bytes = abc ++ replicate 125 0; corrected = 1; bad = 0 })
    (part_reading console_of_two (flipped_from 4030 (1 ∷ []) three) (Block 1))
    refl (read_as console_of_two (flipped_from 4030 (1 ∷ []) three) (Block 0) abc_block refl) refl) ∙ refl
