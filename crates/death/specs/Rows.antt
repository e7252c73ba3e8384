-- Rows of words as the code borrows them, and the bytes by which they begin
use Rattle.std.specs.Prelude.{◌≡◌, ℕ, ◌<◌, Bool, false, List, ◌∷◌, map, slice_index_or, None}
use Rattle.death_spec.specs.declared.Mark.{Mark}
use Rattle.death_spec.specs.declared.Blame.{Blame}
use Rattle.death_spec.specs.Marks.{front_in}
use denote.Bor.{Bor}

-- the rows without their borrows
abbrev pub plain : {X : Type 0} → List (X × Bor (List ℕ)) → List (X × List ℕ)
plain {X} rows = map (λ (row : X × Bor (List ℕ)). (row.0, row.1.now)) rows

-- the rows of kinds without their borrows
abbrev pub plain_kinds : List (Blame × Bor (List ℕ) × Bor (List ℕ) × Bor (List ℕ))
    → List (Blame × List ℕ × List ℕ × List ℕ)
plain_kinds rows =
    map
    (λ (row : Blame × Bor (List ℕ) × Bor (List ℕ) × Bor (List ℕ)). (row.0, row.1.now, row.2.now, row.3.now)) rows

-- a text fits no row if its first byte is not among these
abbrev pub Covers : List (Mark × List ℕ) → List Bool → Type 0
Covers rows firsts =
    (b : ℕ) (bs : List ℕ) → b < 256 → slice_index_or firsts b false ≡ false → front_in rows (b ∷ bs) ≡ None
