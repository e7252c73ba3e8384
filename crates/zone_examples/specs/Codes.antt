-- The code's vectors
use Rattle.std.specs.Prelude.{◌≡◌, [], ◌∷◌, map, replicate, Some, None}
use Rattle.code_spec.specs.Field.{gf_pow}
use Rattle.code_spec.specs.Code.{nearest, parity_of, distance}

-- powers of the primitive element
abbrev pub Powers : Type 0
Powers = map (gf_pow 2) (8 ∷ 16 ∷ 25 ∷ 64 ∷ 127 ∷ 128 ∷ 255 ∷ []) ≡ 29 ∷ 76 ∷ 3 ∷ 95 ∷ 204 ∷ 133 ∷ 1 ∷ []

-- the parity of a 1 is the generator; that of zeros is zeros
abbrev pub Parities : Type 0
Parities =
    (parity_of 2 (1 ∷ []) ≡ 3 ∷ 2 ∷ [])
    × (parity_of 4 (1 ∷ []) ≡ 15 ∷ 54 ∷ 120 ∷ 64 ∷ [])
    × (parity_of 8 (1 ∷ []) ≡ 255 ∷ 11 ∷ 81 ∷ 54 ∷ 239 ∷ 173 ∷ 200 ∷ 24 ∷ [])
    × (parity_of 8 (replicate 12 0) ≡ replicate 8 0)

-- two parity bytes: a codeword, one byte corrected in the message or in the parity, and no codeword near
abbrev pub NearestOfTwo : Type 0
NearestOfTwo =
    (nearest 2 (1 ∷ 3 ∷ 2 ∷ []) ≡ Some (1 ∷ 3 ∷ 2 ∷ []))
    × (nearest 2 (0 ∷ 3 ∷ 2 ∷ []) ≡ Some (1 ∷ 3 ∷ 2 ∷ []))
    × (distance (0 ∷ 3 ∷ 2 ∷ []) (1 ∷ 3 ∷ 2 ∷ []) ≡ 1)
    × (nearest 2 (1 ∷ 3 ∷ 3 ∷ []) ≡ Some (1 ∷ 3 ∷ 2 ∷ []))
    × (nearest 2 (0 ∷ 2 ∷ 2 ∷ []) ≡ None)
    -- the only correction would lie in front of the word
    × (nearest 2 (0 ∷ 7 ∷ 6 ∷ []) ≡ None)

-- one parity byte corrects nothing, three correct one
abbrev pub NearestOfOdd : Type 0
NearestOfOdd =
    (nearest 1 (7 ∷ 7 ∷ []) ≡ Some (7 ∷ 7 ∷ [])) × (nearest 1 (7 ∷ 6 ∷ []) ≡ None)
    × (nearest 3 (1 ∷ 7 ∷ 14 ∷ 9 ∷ []) ≡ Some (1 ∷ 7 ∷ 14 ∷ 8 ∷ []))
