-- No row that was read begins with another byte. For the loop of `firsts_of`.
use Rattle.std.proofs.Common.{◌≡◌, ℕ, ◌<◌, false, List, ◌∷◌, drop, slice_index_or}
use Rattle.death_spec.specs.Marks.{front_in}
use Rattle.death.specs.Rows.{plain}
use Rattle.death.proofs.marks.firsts_of.Given as goal

abbrev pub invariant-loop-row : goal.invariant-loop-row
invariant-loop-row l = (b : ℕ) (bs : List ℕ) → b < 256 → slice_index_or l.firsts b false ≡ false
    → front_in (plain l.rows) (b ∷ bs) ≡ front_in (plain (drop l.row-index l.rows)) (b ∷ bs)
