-- Rows that were worked by another decoder: streams that zlib wrote and reads, and three that are none
use Rattle.std.specs.Prelude.{[], ◌∷◌, codes}
use Rattle.inflate_spec.specs.Texts.{Inflates, Breaks}
use Rattle.inflate_spec.specs.declared.Fault.TheVariants.{EndOfInput, ReservedBlock, DistanceTooFar}

-- zlib's level 0
abbrev pub StoredRow : Type 0
StoredRow = Inflates (1 ∷ 3 ∷ 0 ∷ 252 ∷ 255 ∷ 97 ∷ 98 ∷ 99 ∷ []) (codes "abc") 8

-- zlib's level 9 with Z_FIXED: six literals, a copy, and one literal more
abbrev pub FixedRow : Type 0
FixedRow = Inflates (203 ∷ 207 ∷ 47 ∷ 40 ∷ 86 ∷ 200 ∷ 135 ∷ 17 ∷ 138 ∷ 0 ∷ []) (codes "oops oops oops!") 10

-- the same, cut after six bytes
abbrev pub CutRow : Type 0
CutRow = Breaks (203 ∷ 207 ∷ 47 ∷ 40 ∷ 86 ∷ 200 ∷ []) EndOfInput (codes "oops ")

-- zlib's level 9: one block with codes of its own
abbrev pub OwnCodesRow : Type 0
OwnCodesRow = Inflates
    (21 ∷ 201 ∷ 49 ∷ 1 ∷ 0 ∷ 0 ∷ 12 ∷ 131 ∷ 48 ∷ 173 ∷ 133 ∷ 250 ∷ 215 ∷ 176 ∷ 238 ∷ 225 ∷ 8 ∷ 13 ∷ 130 ∷ 54 ∷ 132
    ∷ 197 ∷ 40 ∷ 233 ∷ 119 ∷ 99 ∷ 14 ∷ 29 ∷ 115 ∷ [])
    (codes "dabcbbccdababdabcaccbadaccbbcbccdbbddabb") 29

-- a block of type 3
abbrev pub ReservedRow : Type 0
ReservedRow = Breaks (7 ∷ []) ReservedBlock []

-- a copy where no text is
abbrev pub FarRow : Type 0
FarRow = Breaks (3 ∷ 2 ∷ []) DistanceTooFar []
