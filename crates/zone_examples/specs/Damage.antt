-- Damage, and cuts of zones with parity
use Rattle.std.specs.Prelude.{◌≡◌, ℕ, ◌+◌, ◌∷◌, ◌++◌, List, [], replicate, bit_xor, set, slice_index, Some, None}
use Rattle.zone_spec.specs.declared.Zone.{Zone}
use Rattle.zone_spec.specs.declared.State.TheVariants.{Unsigned, Found}
use Rattle.zone_spec.specs.declared.Verdict.TheVariants.{AsTold, Differs}
use Rattle.zone_spec.specs.declared.CallKind.TheVariants.{Append as AppendCall}
use Rattle.zone_spec.specs.declared.HeaderSeen.TheVariants.{Pair, Foreign}
use Rattle.zone_spec.specs.Reading.{zone_reading}
use Rattle.zone_spec.specs.Told.{Call, Append}
use Rattle.zone_spec.specs.Calls.{image_after}
use Rattle.machine_spec.specs.States.{OffZone}
use Rattle.machine_spec.specs.Stop.{cut_of}
use Rattle.zone_examples.specs.Zones.{console, console_of_two, console_of_sixteen}
use Rattle.zone_examples.specs.Scenes.{abc, def, signature, zone_written}
use Rattle.zone_examples.specs.Shown.{zone_shown, boot, and_cut}

-- the bytes from a place on, each exclusive-ored with its mask
abbrev pub flipped_from : ℕ → List ℕ → List ℕ → List ℕ
flipped_from place [] image = image
flipped_from place (m ∷ ms) image = flipped_from (place + 1) ms (set image place (bit_xor (slice_index image place) m))

-- a zone that was told this list, and stopped idle with these bytes
abbrev pub idle : List ℕ → List ℕ → OffZone
idle stop told = record { stop = stop; told = Some told; cut = None }

abbrev pub EightFlipsInBlock : Type 0
EightFlipsInBlock =
    let stop = zone_written console_of_sixteen abc in
    let now = flipped_from 12 (replicate 8 1) stop in
    (zone_shown console_of_sixteen (idle stop abc) now ≡ boot console Found 3 3 8 0 AsTold)
    × ((zone_reading console_of_sixteen now).log ≡ abc)

-- nine masks that are the generator of the code with eight parity bytes: no codeword is near
abbrev pub nine_masks : List ℕ
nine_masks = 1 ∷ 255 ∷ 11 ∷ 81 ∷ 54 ∷ 239 ∷ 173 ∷ 200 ∷ 24 ∷ []

abbrev pub NineFlipsInBlock : Type 0
NineFlipsInBlock =
    let told = replicate 200 0x61 in
    let stop = zone_written console_of_sixteen told in
    let now = flipped_from 12 nine_masks stop in
    (zone_shown console_of_sixteen (idle stop told) now ≡ boot console Found 200 200 0 1 (Differs 200 200 0))
    × ((zone_reading console_of_sixteen now).log ≡ 0x60 ∷ 0x9e ∷ 0x6a ∷ 0x30 ∷ 0x57 ∷ 0x8e ∷ 0xcc ∷ 0xa9 ∷ 0x79
    ∷ replicate 191 0x61)

-- the header reads signed and as told, though its bytes as they stand are not
abbrev pub EightFlipsInHeader : Type 0
EightFlipsInHeader =
    let stop = zone_written console_of_sixteen abc in
    let now = flipped_from 0 (replicate 8 255) stop in
    (zone_shown console_of_sixteen (idle stop abc) now ≡ boot console Found 3 3 8 0 AsTold)
    × ((zone_reading console_of_sixteen now).log ≡ abc)

-- a zone whose call was cut after so many stores
abbrev pub cut_zone : Zone → List ℕ → List ℕ → Call → ℕ → OffZone
cut_zone z before told call made =
    record {
      stop = image_after z call before made;
      told = Some told;
      cut = Some (cut_of z (record { image = before; call = call; made = made }));
    }

-- the header's parity is still that of the words before, and corrects the size word
abbrev pub CutWithParityAfterFirstStore : Type 0
CutWithParityAfterFirstStore =
    let before = zone_written console_of_sixteen abc in
    let now = image_after console_of_sixteen (Append def) before 1 in
    (zone_shown console_of_sixteen (cut_zone console_of_sixteen before abc (Append def) 1) now
    ≡ and_cut (boot console Found 3 3 1 0 AsTold) AppendCall 1 37 (Pair 0) ((0, 0) ∷ []))
    × ((zone_reading console_of_sixteen now).log ≡ abc)

-- with all data and block parity stored, and no parity of the header
abbrev pub CutBeforeHeaderParity : Type 0
CutBeforeHeaderParity =
    let before = zone_written console_of_sixteen abc in
    let now = image_after console_of_sixteen (Append def) before 21 in
    (zone_shown console_of_sixteen (cut_zone console_of_sixteen before abc (Append def) 21) now
    ≡ and_cut (boot console Found 3 3 2 0 AsTold) AppendCall 21 37 (Pair 0) ((0, 0) ∷ []))
    × ((zone_reading console_of_sixteen now).log ≡ abc)

-- two parity bytes correct one byte: behind both words the header has no near codeword
abbrev pub CutBetweenWords : Type 0
CutBetweenWords =
    let before = zone_written console_of_two abc in
    let now = image_after console_of_two (Append def) before 2 in
    (zone_shown console_of_two (cut_zone console_of_two before abc (Append def) 2) now
    ≡ and_cut (boot console Found 6 6 0 1 (Differs 3 6 3)) AppendCall 2 9 (Pair 2) ((0, 0) ∷ []))
    × ((zone_reading console_of_two now).log ≡ 0x61 ∷ 0x62 ∷ 0x63 ∷ 0 ∷ 0 ∷ 0 ∷ [])

-- a full ring's header, with its parity, after the start word of an append: the nearest codeword has
-- another signature
abbrev pub full_ring : List ℕ
full_ring = signature ++ 0 ∷ 0 ∷ 0 ∷ 0 ∷ 0xb2 ∷ 0x0f ∷ 0 ∷ 0 ∷ replicate 4018 0x61 ++ replicate 64 0 ++ 155 ∷ 36 ∷ []

abbrev pub foreign_header : List ℕ
foreign_header = image_after console_of_two (Append (replicate 1541 0x62)) full_ring 1

abbrev pub ForeignHeader : Type 0
ForeignHeader =
    let call = Append (replicate 1541 0x62) in
    let now = foreign_header in
    (zone_shown console_of_two (cut_zone console_of_two full_ring (replicate 4018 0x61) call 1) now
    ≡ and_cut (boot console Unsigned 1541 4018 1 0 (Differs 4018 0 0)) AppendCall 1 1570 Foreign ((0, 12) ∷ []))
    × ((zone_reading console_of_two now).words.sig ≡ 0x40474244)
