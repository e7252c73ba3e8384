-- Small memories: marked pages, ends of headers and rings, and the sizes that they reach
use Rattle.std.specs.Prelude.{◌≡◌, ℕ, true, false, List, [], ◌∷◌, ◌++◌, codes, replicate}
use Rattle.layout_spec.specs.declared.Tally.{Tally}
use Rattle.memory_spec.specs.Pages.{marked}
use Rattle.memory_spec.specs.Rings.{ends}
use Rattle.memory_spec.specs.Sizes.{is_reached, comes_first}

-- the last page has two bytes, and no header
abbrev pub CutHeaderRow : Type 0
CutHeaderRow = marked (replicate 4096 0 ++ codes "DB") ≡ []

abbrev pub WholeHeaderRow : Type 0
WholeHeaderRow = marked (replicate 4096 0 ++ codes "DBGC" ++ replicate 8 0) ≡ 1 ∷ []

-- two bytes, and a header of a ring with these words
abbrev pub header_at_two : List ℕ → ℕ → ℕ → List ℕ
header_at_two signature start size =
    0 ∷ 0 ∷ signature ++ start ∷ 0 ∷ 0 ∷ 0 ∷ size ∷ 0 ∷ 0 ∷ 0 ∷ []

-- a header from 2 to 14, and a ring of five bytes; to a big-endian machine one of 0x05000000
abbrev pub EndsRow : Type 0
EndsRow = ends (header_at_two (codes "DBGC") 3 5) ≡ 14 ∷ 19 ∷ 83_886_094 ∷ []

-- the signature is whole, and no ring begins at 9 of 5
abbrev pub StartAboveRow : Type 0
StartAboveRow = ends (header_at_two (codes "DBGC") 9 5) ≡ 14 ∷ []

-- the words are a ring's, and the signature has two bytes left
abbrev pub DamagedMarkRow : Type 0
DamagedMarkRow = ends (header_at_two (codes "DxxC") 3 5) ≡ 19 ∷ 83_886_094 ∷ []

abbrev pub OddPlaceRow : Type 0
OddPlaceRow = ends (0 ∷ header_at_two (codes "DBGC") 3 5) ≡ []

-- a console of 64 KiB with 20,000 bytes, of which only the first page is marked: its ring ends in the second half of
-- 32 KiB. A page and an end at the edge of a half
abbrev pub ReachedRow : Type 0
ReachedRow =
    (is_reached (0 ∷ []) (12 ∷ 20_012 ∷ []) 4096 ≡ true)
    × (is_reached (0 ∷ []) (12 ∷ 20_012 ∷ []) 16384 ≡ false)
    × (is_reached (0 ∷ []) (12 ∷ 20_012 ∷ []) 32768 ≡ true)
    × (is_reached (0 ∷ []) (12 ∷ 20_012 ∷ []) 65536 ≡ false)
    × (is_reached (2 ∷ []) [] 16384 ≡ true)
    × (is_reached (4 ∷ []) [] 16384 ≡ false)
    × (is_reached [] (8192 ∷ []) 16384 ≡ false)
    × (is_reached [] (16384 ∷ []) 16384 ≡ true)

abbrev pub tally : ℕ → ℕ → Tally
tally odd fits = record {
  faults = 0;
  zones = 4;
  fits = fits;
  logs = 0;
  odd = odd;
  corrected = 0;
  behind = 0;
}

-- no odd log counts more than zones that fit
abbrev pub FirstRow : Type 0
FirstRow = (comes_first (tally 0 2) (tally 1 4) ≡ true) × (comes_first (tally 1 4) (tally 0 2) ≡ false)
