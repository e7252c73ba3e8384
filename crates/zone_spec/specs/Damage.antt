-- Damage since a zone's stop. A zone's stop is its bytes at the moment since which damage counts; now is
-- its bytes as they stand
use Rattle.std.specs.Prelude.{◌≡◌, ℕ, ◌+◌, ◌*◌, ◌/◌, ◌<◌, ◌≤◌, ◌⊎◌, List, slice_index, Some}
use Rattle.zone_spec.specs.declared.Zone.{Zone}
use Rattle.zone_spec.specs.Numbers.{header_len}
use Rattle.code_spec.specs.Code.{distance, nearest}
use Rattle.zone_spec.specs.Parts.{Part, Header, Block, part_word}

-- a part whose word at the stop had a nearest codeword, for which it stood, and that differs from it in at most half the
-- parity; or a part that stands as at the stop
abbrev pub IsWithinBounds : Zone → List ℕ → List ℕ → Part → Type 0
IsWithinBounds z stop now part =
    ((c : List ℕ) × (nearest z.parity (part_word z stop part) ≡ Some c)
    × (distance (part_word z now part) c ≤ z.parity / 2))
    ⊎ (part_word z now part ≡ part_word z stop part)

-- the blocks that hold the first x data bytes are within bounds
abbrev pub BlocksWithinBounds : Zone → List ℕ → List ℕ → ℕ → Type 0
BlocksWithinBounds z stop now x = (b : ℕ) → z.block * b < x → IsWithinBounds z stop now (Block b)

-- the header is within bounds, and so are the blocks of a log of x bytes
abbrev pub IsLogWithinBounds : Zone → List ℕ → List ℕ → ℕ → Type 0
IsLogWithinBounds z stop now x = IsWithinBounds z stop now Header × BlocksWithinBounds z stop now x

-- each byte of the header is as at the stop, or as in the codeword that the header then stood for:
-- corrections are no damage
abbrev pub IsNotDamagedFurther : Zone → List ℕ → List ℕ → Type 0
IsNotDamagedFurther z stop now = (i : ℕ) → i < header_len + z.parity →
    (slice_index (part_word z now Header) i ≡ slice_index (part_word z stop Header) i)
    ⊎ ((c : List ℕ) × (nearest z.parity (part_word z stop Header) ≡ Some c)
    × (slice_index (part_word z now Header) i ≡ slice_index c i))
