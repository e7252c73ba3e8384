-- The table holds what eight bits of each number below 256 leave
use Rattle.std.proofs.Common.{◌≡◌, ℕ, zero, suc, ◌+◌, ◌<◌, refl, ap, ◌∙◌, arith, Bool, true, ◌&&◌, eqb, List, []}
use Rattle.std.proofs.Common.{◌∷◌}
use Rattle.std.proofs.Common.{length, get_or}
use Rattle.std.proofs.lemmas.Bool.Decides.{Decides-eqb}
use Rattle.std.proofs.lemmas.Bool.{and_parts}
use Rattle.gzip_spec.specs.Crc.{shifted}
use Rattle.crc32.specs.declared.TheConstants.{ROWS}

rows_hold : ℕ → List ℕ → Bool
rows_hold x [] = true
rows_hold x (c ∷ cs) = eqb c (shifted 8 x) && rows_hold (suc x) cs

holds_at : (x : ℕ) (cs : List ℕ) → rows_hold x cs ≡ true → (i : ℕ) → i < length cs → get_or cs i 0 ≡ shifted 8 (i + x)
unfolding rows_hold
holds_at x [] e i l = absurd (omega arith)
holds_at x (c ∷ cs) e zero l =
    (Decides-eqb c (shifted 8 x)).0 (and_parts (eqb c (shifted 8 x)) (rows_hold (suc x) cs) e).0
    ∙ ap (shifted 8) (let h : x ≡ 0 + x = omega arith in h)
holds_at x (c ∷ cs) e (suc i) l =
    holds_at (suc x) cs (and_parts (eqb c (shifted 8 x)) (rows_hold (suc x) cs) e).1 i (omega arith)
    ∙ ap (shifted 8) (let h : i + suc x ≡ suc i + x = omega arith in h)

rows_test : rows_hold 0 ROWS ≡ true
unfolding rows_hold shifted
rows_test = refl

rows_length : length ROWS ≡ 256
rows_length = refl

pub row_is : (i : ℕ) → i < 256 → get_or ROWS i 0 ≡ shifted 8 i
row_is i l =
    holds_at 0 ROWS rows_test i (rw rows_length l) ∙ ap (shifted 8) (let h : i + 0 ≡ i = omega arith in h)
