-- A word of three bytes whose only correction would lie in front of it
use Rattle.std.specs.Prelude.{IsTrue}
use Rattle.std.proofs.Common.{◌≡◌, ◌+◌, ◌<◌, ◌≤◌, ◌==◌, ◌⊎◌, ℕ, zero, suc, List, [], ◌∷◌, ◌&&◌, not, if◌then◌else◌}
use Rattle.std.proofs.Common.{Bool, true, false, refl, sym, ◌∙◌, subst, arith, inl, inr, eq-or-lt_of_le, Option, Some}
use Rattle.std.proofs.Common.{None}
use Rattle.std.proofs.lemmas.Bool.{eqb-true, and_parts}
use Rattle.zone_examples.proofs.Given.{clash}
use Rattle.code_spec.specs.Field.{gf_add, gf_mul, gf_pow}
use Rattle.code_spec.specs.Code.{nearest, distance, IsWord, IsCodeword}
use Rattle.code_laws.proofs.Laws.{nearest_law}
use Rattle.zone_examples.proofs.Values.{vanishes, vanishes-is}

-- whether the test holds of each number below n
abbrev checks : (ℕ → Bool) → ℕ → Bool
checks p zero = true
checks p (suc n) = p n && checks p n

all_checked : (p : ℕ → Bool) (n k : ℕ) → k < n → IsTrue (checks p n) → IsTrue (p k)
all_checked p zero k l h = absurd (omega arith)
all_checked p (suc n) k l h =
    let b : IsTrue (p n) × IsTrue (checks p n) = and_parts (p n) (checks p n) h in
    elim (eq-or-lt_of_le (let m : k ≤ n = omega arith in m)) [
      | inl e ↦ subst (λ j. IsTrue (p j)) (sym e) b.0
      | inr m ↦ all_checked p n k m b.1
    ]

-- whether a word of three bytes is no codeword
no_codeword : ℕ → ℕ → ℕ → Bool
no_codeword a b d = not (vanishes 2 (a ∷ b ∷ d ∷ []))

first_open : (a : ℕ) → a < 256 → IsTrue (no_codeword a 7 6)
unfolding no_codeword gf_add gf_mul gf_pow
first_open a l = all_checked (λ x. no_codeword x 7 6) 256 a l refl

second_open : (b : ℕ) → b < 256 → IsTrue (no_codeword 0 b 6)
unfolding no_codeword gf_add gf_mul gf_pow
second_open b l = all_checked (λ x. no_codeword 0 x 6) 256 b l refl

third_open : (d : ℕ) → d < 256 → IsTrue (no_codeword 0 7 d)
unfolding no_codeword gf_add gf_mul gf_pow
third_open d l = all_checked (λ x. no_codeword 0 7 x) 256 d l refl

-- one place at most differs, so two are as they were
two_stay : (x y z : Bool) → (if x then 0 else 1) + ((if y then 0 else 1) + ((if z then 0 else 1) + 0)) ≤ 1
    → IsTrue (x && y) ⊎ (IsTrue (x && z) ⊎ IsTrue (y && z))
two_stay true true z h = inl refl
two_stay true false true h = inr (inl refl)
two_stay false true true h = inr (inr refl)
two_stay true false false h = absurd (omega (arith, h))
two_stay false true false h = absurd (omega (arith, h))
two_stay false false true h = absurd (omega (arith, h))
two_stay false false false h = absurd (omega (arith, h))

none_near : (a b d : ℕ) → a < 256 → b < 256 → d < 256 → IsTrue (vanishes 2 (a ∷ b ∷ d ∷ []))
    → distance (0 ∷ 7 ∷ 6 ∷ []) (a ∷ b ∷ d ∷ []) ≤ 1 → ⊥
unfolding distance no_codeword
none_near a b d la lb ld k h = elim (two_stay (0 == a) (7 == b) (6 == d) h) [
  | inl s ↦ let t = and_parts (0 == a) (7 == b) s in
      clash (vanishes 2 (a ∷ b ∷ d ∷ [])) k (subst (λ x. IsTrue (no_codeword x b d)) (eqb-true 0 a t.0)
      (subst (λ y. IsTrue (no_codeword 0 y d)) (eqb-true 7 b t.1) (third_open d ld)))
  | inr (inl s) ↦ let t = and_parts (0 == a) (6 == d) s in
      clash (vanishes 2 (a ∷ b ∷ d ∷ [])) k (subst (λ x. IsTrue (no_codeword x b d)) (eqb-true 0 a t.0)
      (subst (λ y. IsTrue (no_codeword 0 b y)) (eqb-true 6 d t.1) (second_open b lb)))
  | inr (inr s) ↦ let t = and_parts (7 == b) (6 == d) s in
      clash (vanishes 2 (a ∷ b ∷ d ∷ [])) k (subst (λ x. IsTrue (no_codeword a x d)) (eqb-true 7 b t.0)
      (subst (λ y. IsTrue (no_codeword a 7 y)) (eqb-true 6 d t.1) (first_open a la)))
]

near_none : (c : List ℕ) → IsWord 3 c → IsTrue (vanishes 2 c) → distance (0 ∷ 7 ∷ 6 ∷ []) c ≤ 1 → ⊥
near_none [] w k h = omega (arith, w.0)
near_none (a ∷ []) w k h = omega (arith, w.0)
near_none (a ∷ b ∷ []) w k h = omega (arith, w.0)
near_none (a ∷ b ∷ d ∷ []) w k h = none_near a b d w.1.0 w.1.1.0 w.1.1.1.0 k h
near_none (a ∷ b ∷ d ∷ e ∷ rest) w k h = omega (arith, w.0)

pub left_away : nearest 2 (0 ∷ 7 ∷ 6 ∷ []) ≡ None
left_away = by (nearest 2 (0 ∷ 7 ∷ 6 ∷ [])) refl
  where
    word : IsWord 3 (0 ∷ 7 ∷ 6 ∷ [])
    word = (refl, (omega arith, (omega arith, (omega arith, tt))))

    by : (o : Option (List ℕ)) → nearest 2 (0 ∷ 7 ∷ 6 ∷ []) ≡ o → o ≡ None
    by None e = refl
    by (Some c) e =
        let near : IsWord 3 c × IsCodeword 2 c × (distance (0 ∷ 7 ∷ 6 ∷ []) c ≤ 1) =
        (nearest_law 2 (0 ∷ 7 ∷ 6 ∷ []) c (omega arith) word).0 e in
        absurd (near_none c near.0 (sym (vanishes-is 2 c near.0.1) ∙ near.1) near.2)
