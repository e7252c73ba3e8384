-- A console zone with sixteen parity bytes
use Rattle.std.proofs.Common.{◌≡◌, ℕ, List, [], ◌∷◌, ◌++◌, replicate, take, refl, ap, ◌∙◌}
use Rattle.zone_spec.specs.declared.State.TheVariants.{Found}
use Rattle.zone_spec.specs.Told.{Append}
use Rattle.zone_spec.specs.Parts.{Header, Block, standing_words}
use Rattle.zone_spec.specs.PartReadings.{part_reading}
use Rattle.zone_spec.specs.Reading.{ZoneReading, zone_reading}
use Rattle.zone_spec.specs.Stores.{after_stores}
use Rattle.zone_spec.specs.Stages.{SigWord}
use Rattle.zone_spec.specs.Calls.{erase_stages, call_stages, call_stores, image_after}
use Rattle.zone_spec.specs.Boot.{boot_stores}
use Rattle.zone_examples.specs.Zones.{console_of_sixteen}
use Rattle.zone_examples.specs.Scenes.{abc, def, zone_booted, zone_written}
use Rattle.zone_examples.specs.Damage.{flipped_from, nine_masks}
use Rattle.zone_examples.proofs.Unfoldings.{computing}
use Rattle.zone_examples.proofs.Stores.{with_given, given_stores}
use Rattle.zone_examples.proofs.GivenParts.{given_parts}
use Rattle.zone_spec.specs.Boot.{boot_fixes, boot_erasure}
use Rattle.zone_examples.proofs.Fixes.{given_fixes, given_erasure, given_boot}
use Rattle.zone_examples.proofs.Clean.{read_as, read_raw}

-- ---- parities

abbrev pub empty_parity : List ℕ
empty_parity = 170 ∷ 37 ∷ 213 ∷ 33 ∷ 50 ∷ 226 ∷ 53 ∷ 58 ∷ 56 ∷ 85 ∷ 25 ∷ 192 ∷ 43 ∷ 203 ∷ 173 ∷ 95 ∷ []

abbrev pub three_parity : List ℕ
three_parity = 194 ∷ 249 ∷ 248 ∷ 20 ∷ 46 ∷ 45 ∷ 39 ∷ 250 ∷ 35 ∷ 139 ∷ 54 ∷ 68 ∷ 30 ∷ 203 ∷ 187 ∷ 191 ∷ []

abbrev pub three_header : List ℕ
three_header = 0x44 ∷ 0x42 ∷ 0x47 ∷ 0x43 ∷ 3 ∷ 0 ∷ 0 ∷ 0 ∷ 3 ∷ 0 ∷ 0 ∷ 0 ∷ three_parity

abbrev pub six_parity : List ℕ
six_parity = 122 ∷ 128 ∷ 143 ∷ 75 ∷ 10 ∷ 97 ∷ 17 ∷ 167 ∷ 14 ∷ 244 ∷ 71 ∷ 213 ∷ 65 ∷ 203 ∷ 129 ∷ 130 ∷ []

abbrev pub abc_parity : List ℕ
abc_parity = 31 ∷ 38 ∷ 155 ∷ 105 ∷ 226 ∷ 105 ∷ 87 ∷ 33 ∷ 76 ∷ 117 ∷ 246 ∷ 133 ∷ 183 ∷ 197 ∷ 44 ∷ 66 ∷ []

abbrev pub abc_block : List ℕ
abc_block = abc ++ replicate 125 0 ++ abc_parity

abbrev pub abcdef_parity : List ℕ
abcdef_parity = 7 ∷ 184 ∷ 233 ∷ 136 ∷ 189 ∷ 24 ∷ 55 ∷ 221 ∷ 173 ∷ 213 ∷ 199 ∷ 53 ∷ 181 ∷ 158 ∷ 87 ∷ 96 ∷ []

-- ---- images

abbrev pub booted : List ℕ
booted = after_stores (replicate 4096 0) (with_given console_of_sixteen (SigWord 0x43474244 ∷ erase_stages)
    (empty_parity ∷ []) (replicate 4096 0))

pub booted-is : zone_booted console_of_sixteen ≡ booted
unfolding computing
booted-is = ap (after_stores (replicate 4096 0)) (given_stores console_of_sixteen (SigWord 0x43474244 ∷ erase_stages)
    (empty_parity ∷ []) (replicate 4096 0) refl)

-- an append with given parities to it
abbrev pub written : List ℕ → List (List ℕ) → List ℕ
written payload ps = after_stores booted (with_given console_of_sixteen
    (call_stages console_of_sixteen (standing_words console_of_sixteen booted) (Append payload)) ps booted)

abbrev pub three : List ℕ
three = written abc (abc_parity ∷ three_parity ∷ [])

pub three-is : zone_written console_of_sixteen abc ≡ three
unfolding computing
three-is =
    ap (λ image. after_stores image (call_stores console_of_sixteen (Append abc) image)) booted-is
    ∙ ap (after_stores booted) (given_stores console_of_sixteen
    (call_stages console_of_sixteen (standing_words console_of_sixteen booted) (Append abc)) (abc_parity ∷ three_parity ∷ [])
    booted refl)

-- a reading of a zone that was found
abbrev pub found : ℕ → ℕ → ℕ → ℕ → List ℕ → ZoneReading
found start size corrected bad log = record {
  state = Found;
  words = record { sig = 0x43474244; start = start; size = size };
  log = log;
  corrected = corrected;
  bad = bad;
}

-- ---- eight flips

abbrev pub block_flipped : List ℕ
block_flipped = flipped_from 12 (replicate 8 1) three

pub block_flipped-reads : zone_reading console_of_sixteen block_flipped ≡ found 3 3 8 0 abc
unfolding computing
block_flipped-reads =
    given_parts console_of_sixteen block_flipped (part_reading console_of_sixteen block_flipped Header)
    (record { bytes = abc ++ replicate 125 0; corrected = 8; bad = 0 })
    (part_reading console_of_sixteen block_flipped (Block 1))
    refl (read_as console_of_sixteen block_flipped (Block 0) abc_block refl) refl ∙ refl

abbrev pub header_flipped : List ℕ
header_flipped = flipped_from 0 (replicate 8 255) three

pub header_flipped-reads : zone_reading console_of_sixteen header_flipped ≡ found 3 3 8 0 abc
unfolding computing
header_flipped-reads =
    given_parts console_of_sixteen header_flipped (record { bytes = take 12 three_header; corrected = 8; bad = 0 })
    (record { bytes = abc ++ replicate 125 0; corrected = 0; bad = 0 })
    (part_reading console_of_sixteen header_flipped (Block 1))
    (read_as console_of_sixteen header_flipped Header three_header refl)
    (read_as console_of_sixteen header_flipped (Block 0) abc_block refl) refl ∙ refl

-- ---- cuts of a second append

abbrev pub def_parities : List (List ℕ)
def_parities = abcdef_parity ∷ six_parity ∷ []

-- the image after so many of its stores
abbrev pub cut_at : ℕ → List ℕ
cut_at k = after_stores three (take k (with_given console_of_sixteen
    (call_stages console_of_sixteen (standing_words console_of_sixteen three) (Append def)) def_parities three))

pub cut_at-is : (k : ℕ) → image_after console_of_sixteen (Append def) three k ≡ cut_at k
unfolding computing
cut_at-is k = ap (λ stores. after_stores three (take k stores))
    (given_stores console_of_sixteen (call_stages console_of_sixteen (standing_words console_of_sixteen three) (Append def))
    def_parities three refl)

pub first_store-reads : zone_reading console_of_sixteen (cut_at 1) ≡ found 3 3 1 0 abc
unfolding computing
first_store-reads =
    given_parts console_of_sixteen (cut_at 1) (record { bytes = take 12 three_header; corrected = 1; bad = 0 })
    (record { bytes = abc ++ replicate 125 0; corrected = 0; bad = 0 })
    (part_reading console_of_sixteen (cut_at 1) (Block 1))
    (read_as console_of_sixteen (cut_at 1) Header three_header refl)
    (read_as console_of_sixteen (cut_at 1) (Block 0) abc_block refl) refl ∙ refl

pub before_header-reads : zone_reading console_of_sixteen (cut_at 21) ≡ found 3 3 2 0 abc
unfolding computing
before_header-reads =
    given_parts console_of_sixteen (cut_at 21) (record { bytes = take 12 three_header; corrected = 2; bad = 0 })
    (record { bytes = abc ++ def ++ replicate 122 0; corrected = 0; bad = 0 })
    (part_reading console_of_sixteen (cut_at 21) (Block 1))
    (read_as console_of_sixteen (cut_at 21) Header three_header refl)
    (read_as console_of_sixteen (cut_at 21) (Block 0) (abc ++ def ++ replicate 122 0 ++ abcdef_parity) refl) refl
    ∙ refl

-- ---- nine flips

abbrev pub first_parity : List ℕ
first_parity = 102 ∷ 91 ∷ 129 ∷ 214 ∷ 11 ∷ 89 ∷ 216 ∷ 116 ∷ 59 ∷ 64 ∷ 125 ∷ 94 ∷ 106 ∷ 209 ∷ 198 ∷ 177 ∷ []

abbrev pub second_parity : List ℕ
second_parity = 207 ∷ 244 ∷ 152 ∷ 115 ∷ 97 ∷ 65 ∷ 140 ∷ 175 ∷ 249 ∷ 222 ∷ 240 ∷ 86 ∷ 177 ∷ 230 ∷ 186 ∷ 191 ∷ []

abbrev pub two_hundred_parity : List ℕ
two_hundred_parity = 99 ∷ 173 ∷ 130 ∷ 120 ∷ 202 ∷ 93 ∷ 177 ∷ 74 ∷ 254 ∷ 166 ∷ 53 ∷ 157 ∷ 114 ∷ 203 ∷ 223 ∷ 204 ∷ []

abbrev pub two_hundred : List ℕ
two_hundred = written (replicate 200 0x61) (first_parity ∷ second_parity ∷ two_hundred_parity ∷ [])

pub two_hundred-is : zone_written console_of_sixteen (replicate 200 0x61) ≡ two_hundred
unfolding computing
two_hundred-is =
    ap (λ image. after_stores image (call_stores console_of_sixteen (Append (replicate 200 0x61)) image)) booted-is
    ∙ ap (after_stores booted) (given_stores console_of_sixteen
    (call_stages console_of_sixteen (standing_words console_of_sixteen booted) (Append (replicate 200 0x61)))
    (first_parity ∷ second_parity ∷ two_hundred_parity ∷ []) booted refl)

abbrev pub nine_flipped : List ℕ
nine_flipped = flipped_from 12 nine_masks two_hundred

abbrev pub nine_bytes : List ℕ
nine_bytes = 0x60 ∷ 0x9e ∷ 0x6a ∷ 0x30 ∷ 0x57 ∷ 0x8e ∷ 0xcc ∷ 0xa9 ∷ 0x79 ∷ []

pub nine_flipped-reads : zone_reading console_of_sixteen nine_flipped
    ≡ found 200 200 0 1 (nine_bytes ++ replicate 191 0x61)
unfolding computing
nine_flipped-reads =
    given_parts console_of_sixteen nine_flipped (part_reading console_of_sixteen nine_flipped Header)
    (record { bytes = nine_bytes ++ replicate 119 0x61; corrected = 0; bad = 1 })
    (record { bytes = replicate 72 0x61 ++ replicate 56 0; corrected = 0; bad = 0 })
    refl (read_raw console_of_sixteen nine_flipped (Block 0) refl)
    (read_as console_of_sixteen nine_flipped (Block 1) (replicate 72 0x61 ++ replicate 56 0 ++ second_parity)
    refl) ∙ refl

-- ---- a boot's erasure, cut after its start word

three-reads : zone_reading console_of_sixteen three ≡ found 3 3 0 0 abc
unfolding computing
three-reads =
    given_parts console_of_sixteen three (part_reading console_of_sixteen three Header)
    (record { bytes = abc ++ replicate 125 0; corrected = 0; bad = 0 })
    (part_reading console_of_sixteen three (Block 1))
    refl (read_as console_of_sixteen three (Block 0) abc_block refl) refl ∙ refl

pub three-fixes : boot_fixes console_of_sixteen three ≡ []
unfolding computing
three-fixes =
    given_fixes console_of_sixteen three (part_reading console_of_sixteen three Header)
    (record { bytes = abc ++ replicate 125 0; corrected = 0; bad = 0 })
    (part_reading console_of_sixteen three (Block 1))
    refl (read_as console_of_sixteen three (Block 0) abc_block refl) refl ∙ refl

pub three-erasure : boot_erasure console_of_sixteen three ≡ erase_stages
unfolding computing
three-erasure = given_erasure console_of_sixteen three (found 3 3 0 0 abc) three-reads ∙ refl

abbrev pub erasing : List ℕ
erasing = after_stores three (take 1 (with_given console_of_sixteen erase_stages (empty_parity ∷ []) three))

pub erasing-is : after_stores three (take 1 (boot_stores console_of_sixteen three)) ≡ erasing
unfolding computing
erasing-is =
    ap (λ stores. after_stores three (take 1 stores))
    (given_boot console_of_sixteen three [] erase_stages three-fixes three-erasure
    ∙ given_stores console_of_sixteen erase_stages (empty_parity ∷ []) three refl)

pub erasing-reads : zone_reading console_of_sixteen erasing ≡ found 3 3 1 0 abc
unfolding computing
erasing-reads =
    given_parts console_of_sixteen erasing (record { bytes = take 12 three_header; corrected = 1; bad = 0 })
    (record { bytes = abc ++ replicate 125 0; corrected = 0; bad = 0 })
    (part_reading console_of_sixteen erasing (Block 1))
    (read_as console_of_sixteen erasing Header three_header refl)
    (read_as console_of_sixteen erasing (Block 0) abc_block refl) refl ∙ refl
