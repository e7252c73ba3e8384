-- What one step of a product or of a division does to the polynomials. For `product`, `divide_step` and `divide`.
use Rattle.std.proofs.Common.{◌≡◌, ℕ, zero, suc, ◌+◌, ◌<◌, refl, sym, ap, ap₂, ◌∙◌, arith, List, [], ◌∷◌, ◌++◌, length}
use Rattle.std.proofs.Common.{get_or, take, drop, take-append-drop, ext_get_or, length-take-le, get_or-take}
use Rattle.std.proofs.Common.{get_or-drop, length-drop, take_at, remove}
use Rattle.code_spec.specs.Field.{gf_add, gf_mul}
use Rattle.code_laws.proofs.Ring.{zero_add}
use Rattle.decoder_laws.specs.Series.{cons, plus, scale, times}
use Rattle.decoder_laws.specs.Polynomials.{poly}
use Rattle.decoder_laws.proofs.Series.{times-none, plus-none_left, times-cons, times_comm, plus_assoc, plus_comm}
use Rattle.decoder_laws.proofs.Series.{plus_left_comm, plus_self}
use Rattle.decoder_laws.proofs.Polynomials.{poly-nil, poly-push, poly-added, poly-leading_zero}

-- one more coefficient of the first factor
pub times-push : (w b : List ℕ) (c : ℕ) → times (poly (w ++ c ∷ [])) (poly b)
    ≡ plus (cons 0 (times (poly w) (poly b))) (scale c (poly b))
times-push w b c = ap (λ (p : ℕ → ℕ). times p (poly b)) (poly-push w c) ∙ times-cons c (poly w) (poly b)

-- what `add_scaled` leaves
pub poly-added_at : (s f : ℕ) (n m b : List ℕ) → length n ≡ length m → s + length b ≡ length m
    → ((k : ℕ) → k < s → get_or n k 0 ≡ get_or m k 0)
    → ((k : ℕ) → k < length b → get_or n (s + k) 0 ≡ gf_add (get_or m (s + k) 0) (gf_mul f (get_or b k 0)))
    → poly n ≡ plus (poly m) (scale f (poly b))
poly-added_at s f n m b e l front rest =
    let ln : length (take s n) ≡ s = length-take-le s n (omega arith) in
    let lm : length (take s m) ≡ s = length-take-le s m (omega arith) in
    let same : take s n ≡ take s m = ext_get_or 0 (take s n) (take s m) (ln ∙ sym lm)
    (λ k h. let h' : k < s = omega (arith, ln) in get_or-take s n k 0 h' ∙ front k h' ∙ sym (get_or-take s m k 0 h')) in
    ap poly (sym (take-append-drop s n))
    ∙ poly-added f (take s n) (drop s n) (drop s m) b (record {
      length_m = omega (arith, length-drop s n, length-drop s m);
      length_b = omega (arith, length-drop s n);
      at = λ k h. get_or-drop s n k 0 ∙ rest k (omega (arith, length-drop s n))
          ∙ ap (λ (x : ℕ). gf_add x (gf_mul f (get_or b k 0))) (sym (get_or-drop s m k 0));
    })
    ∙ ap (λ (u : List ℕ). plus (poly (u ++ drop s m)) (scale f (poly b))) same
    ∙ ap (λ (u : List ℕ). plus (poly u) (scale f (poly b))) (take-append-drop s m)

pub refill_same : (xs ws : List ℕ) → length ws ≡ length xs → take (length xs) (ws ++ drop (length ws) xs) ≡ ws
refill_same xs ws e = take_at ws (drop (length ws) xs) (length xs) e

-- a leading coefficient that is zero can be taken away
pub poly-remove_zero : (n : List ℕ) → get_or n 0 0 ≡ 0 → poly (remove n 0) ≡ poly n
poly-remove_zero [] e = refl
poly-remove_zero (c ∷ n) e = sym (poly-leading_zero n) ∙ ap (λ (x : ℕ). poly (x ∷ n)) (sym e)

cons_parts : (c : ℕ) (p q : ℕ → ℕ) → cons c (plus p q) ≡ plus (cons 0 p) (cons c q)
unfolding plus
cons_parts c p q = λ i k. at k i
  where
    at : (k : ℕ) → cons c (plus p q) k ≡ gf_add (cons 0 p k) (cons c q k)
    at zero = sym (zero_add c)
    at (suc k) = refl

-- with no quotient yet
pub undivided : (b w : List ℕ) → poly w ≡ plus (times (poly b) (poly [])) (poly w)
undivided b w = sym (ap (λ p. plus (times (poly b) p) (poly w)) poly-nil
    ∙ ap (λ p. plus p (poly w)) (times-none (poly b)) ∙ plus-none_left (poly w))

-- one more coefficient of the dividend
pub divided : (w b q r : List ℕ) (c f : ℕ) (r' : List ℕ) → poly w ≡ plus (times (poly b) (poly q)) (poly r)
    → poly r' ≡ plus (poly (r ++ c ∷ [])) (scale f (poly b))
    → poly (w ++ c ∷ []) ≡ plus (times (poly b) (poly (q ++ f ∷ []))) (poly r')
divided w b q r c f r' e er =
    poly-push w c ∙ ap (cons c) e ∙ cons_parts c (times (poly b) (poly q)) (poly r)
    ∙ alg (cons 0 (times (poly b) (poly q))) (cons c (poly r)) (scale f (poly b))
    ∙ ap₂ plus (sym (ap (times (poly b)) (poly-push q f) ∙ times_comm (poly b) (cons f (poly q))
    ∙ times-cons f (poly q) (poly b) ∙ ap (λ (p : ℕ → ℕ). plus (cons 0 p) (scale f (poly b)))
    (times_comm (poly q) (poly b))))
    (ap (λ (p : ℕ → ℕ). plus p (scale f (poly b))) (sym (poly-push r c)) ∙ sym er)
  where
    alg : (p q s : ℕ → ℕ) → plus p q ≡ plus (plus p s) (plus q s)
    alg p q s = simp (plus_assoc, plus_comm, plus_left_comm, plus_self, plus-none_left)
