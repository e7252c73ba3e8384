-- The denominator of Forney's formula, at the reciprocal of a power of 2
use Rattle.std.specs.Prelude.{ℕ, ◌-◌, ◌==◌, if◌then◌else◌, List, [], ◌∷◌, ◌<◌}
use Rattle.code_spec.specs.Field.{gf_add, gf_mul, gf_pow}

-- the product of 1 plus 2 ^ i / 2 ^ j over the i of the list but j
abbrev pub gap_ratio : List ℕ → ℕ → ℕ
gap_ratio [] j = 1
gap_ratio (i ∷ js) j = if i == j then gap_ratio js j else gf_mul (gf_add 1 (gf_mul (gf_pow 2 i) (gf_pow 2 (255 - j))))
    (gap_ratio js j)

abbrev pub Below255 : List ℕ → Type 0
Below255 [] = Unit {0}
Below255 (i ∷ js) = (i < 255) × Below255 js
