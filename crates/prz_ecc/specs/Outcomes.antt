-- What the reading of a part answers, by its word's nearest codeword
use Rattle.std.specs.Prelude.{◌≡◌, ℕ, ◌+◌, List, slice_range}
use Rattle.code_spec.specs.Code.{nearest}
use Rattle.zone_spec.specs.declared.Zone.{Zone}
use Rattle.zone_spec.specs.Parts.{Part, part_bytes, part_parity_at, part_word}
use Rattle.zone_spec.specs.PartReadings.{PartReading}
use Rattle.rs_decode.specs.Decoding.{decoded_by, fixes_by, IsExcess}
use Rattle.rs_decode.specs.declared.Fix.{Fix}
use Rattle.rs_decode.specs.declared.Decoded.{Decoded}
use Rattle.rs_decode.specs.declared.Decoded.TheVariants.{Clean, Fixed, Bad}

-- clean, fixed in so many places, or bad
abbrev pub outcome : Zone → List ℕ → Part → Decoded
outcome z image p = decoded_by (part_word z image p) (nearest z.parity (part_word z image p))

-- the places of the part's word, parity too, at which the nearest codeword differs
abbrev pub part_word_fixes : Zone → List ℕ → Part → List Fix
part_word_fixes z image p = fixes_by (part_word z image p) (nearest z.parity (part_word z image p))

-- the counts that an outcome tells are those of the reading
abbrev pub CountsAre : Decoded → PartReading → Type 0
CountsAre Clean reading = (reading.corrected ≡ 0) × (reading.bad ≡ 0)
CountsAre (Fixed n) reading = (reading.corrected ≡ n) × (reading.bad ≡ 0)
CountsAre Bad reading = (reading.corrected ≡ 0) × (reading.bad ≡ 1)

-- the sum of the part's parity and that of its bytes
abbrev pub IsPartExcess : Zone → List ℕ → Part → List ℕ → Type 0
IsPartExcess z image p e = IsExcess (part_bytes z image p)
    (slice_range image (part_parity_at z p) (part_parity_at z p + z.parity)) e
