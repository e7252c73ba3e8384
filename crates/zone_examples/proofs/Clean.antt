-- Parts that read without computing their values by powers
use Rattle.std.specs.Prelude.{IsTrue}
use Rattle.std.proofs.Common.{◌≡◌, ℕ, List, Some, None}
use Rattle.zone_spec.specs.declared.Zone.{Zone}
use Rattle.zone_spec.specs.Parts.{Part, part_word, part_bytes}
use Rattle.zone_spec.specs.PartReadings.{part_reading, reading_by}
use Rattle.zone_examples.proofs.Given.{is_nearest, given_nearest, is_far, given_none}
use Rattle.zone_examples.proofs.GivenParts.{given_part}

-- a part that reads as the given codeword
pub read_as : (z : Zone) (image : List ℕ) (part : Part) (c : List ℕ)
    → IsTrue (is_nearest z.parity (part_word z image part) c)
    → part_reading z image part ≡ reading_by (part_bytes z image part) (part_word z image part) (Some c)
read_as z image part c h = given_part z image part (Some c) (given_nearest z.parity (part_word z image part) c h)

-- a part that cannot be read
pub read_raw : (z : Zone) (image : List ℕ) (part : Part) → IsTrue (is_far z.parity (part_word z image part))
    → part_reading z image part ≡ reading_by (part_bytes z image part) (part_word z image part) None
read_raw z image part h = given_part z image part None (given_none z.parity (part_word z image part) h)
