-- one step of the generator, and one of the division by it
use Rattle.std.proofs.Common.{◌≡◌, ℕ, zero, suc, ◌+◌, ◌<◌, ◌≤◌, List, ◌++◌, ◌∷◌, [], length, get_or, refl, sym, ap, ap₂}
use Rattle.std.proofs.Common.{◌∙◌, arith, length-append, ◌⊎◌, inl, inr, add-one, zero-add, Bool, true, false, cond, eqb}
use Rattle.std.proofs.lemmas.Bool.{cases_lt, eq-eqb}
use Rattle.code_laws.proofs.Words.{law_of_distance}
use Rattle.std.proofs.lemmas.List.{get_or_append_left, append_cancel_left}
use Rattle.code_spec.specs.Field.{gf_add, gf_mul, gf_pow}
use Rattle.code_laws.proofs.Ring.{ring, zero_mul, mul_zero, add_self, zero_add, pow_below, pow_suc}
use Rattle.code_spec.specs.Code.{value_of, distance}
use Rattle.code_laws.proofs.Symbols.{HasRoots, IsAdded, IsLow, Symbols}
use Rattle.code_laws.proofs.Words.{value_of-added, value_of-added_at, value_of-push, value_of-append, value_of-cons}

-- a polynomial times x plus a
pub root_value : (g m n : List ℕ) (a x : ℕ) → x < 256 → m ≡ g ++ 0 ∷ [] → length n ≡ length m
    → get_or n 0 0 ≡ get_or m 0 0
    → ((k : ℕ) → k + 1 < length n → get_or n (k + 1) 0 ≡ gf_add (get_or m (k + 1) 0) (gf_mul a (get_or m k 0)))
    → value_of n x ≡ gf_mul (gf_add x a) (value_of g x)
root_value g m n a x b em ln front rest =
    let lm : length m ≡ length g + 1 = ap length em ∙ length-append g (0 ∷ []) in
    value_of-added_at 1 a x n m g ln (omega arith)
    (λ k h. first k h)
    (λ k h. ap (λ (i : ℕ). get_or n i 0) (omega arith) ∙ rest k (omega arith)
    ∙ ap₂ (λ (i y : ℕ). gf_add (get_or m i 0) (gf_mul a y)) (omega arith)
    (ap (λ (u : List ℕ). get_or u k 0) em ∙ get_or_append_left g (0 ∷ []) 0 k h))
    ∙ ap (λ (y : ℕ). gf_add y (gf_mul a (value_of g x)))
    (ap (λ (u : List ℕ). value_of u x) em ∙ value_of-push g 0 x (omega arith) b)
    ∙ alg (value_of g x) x a
  where
    first : (k : ℕ) → k < 1 → get_or n k 0 ≡ get_or m k 0
    first zero h = front
    first (suc k) h = absurd (omega arith)

    alg : (v x a : ℕ) → gf_add (gf_add (gf_mul v x) 0) (gf_mul a v) ≡ gf_mul (gf_add x a) v
    alg v x a = simp ring

pub roots_step : (g m n : List ℕ) (a j : ℕ) → a ≡ gf_pow 2 j → m ≡ g ++ 0 ∷ [] → length n ≡ length m
    → get_or n 0 0 ≡ get_or m 0 0
    → ((k : ℕ) → k + 1 < length n → get_or n (k + 1) 0 ≡ gf_add (get_or m (k + 1) 0) (gf_mul a (get_or m k 0)))
    → ((i : ℕ) → i < j → value_of g (gf_pow 2 i) ≡ 0)
    → (i : ℕ) → i < j + 1 → value_of n (gf_pow 2 i) ≡ 0
roots_step g m n a j ea em ln front rest roots i h =
    root_value g m n a (gf_pow 2 i) (pow_below 2 i) em ln front rest ∙ go (cases_lt i j)
  where
    go : (i < j) ⊎ (j ≤ i) → gf_mul (gf_add (gf_pow 2 i) a) (value_of g (gf_pow 2 i)) ≡ 0
    go (inl l) = ap (gf_mul (gf_add (gf_pow 2 i) a)) (roots i l) ∙ mul_zero (gf_add (gf_pow 2 i) a)
    go (inr l) = let e : i ≡ j = omega arith in ap (λ (y : ℕ). gf_mul y (value_of g (gf_pow 2 i)))
        (ap (λ (y : ℕ). gf_add (gf_pow 2 y) a) e ∙ ap (gf_add (gf_pow 2 j)) ea ∙ add_self (gf_pow 2 j))
        ∙ zero_mul (value_of g (gf_pow 2 i))

-- past its end a list reads 0, as after a 0 put there
get_or-pad : (u : List ℕ) (k : ℕ) → get_or (u ++ 0 ∷ []) k 0 ≡ get_or u k 0
get_or-pad [] zero = refl
get_or-pad [] (suc k) = refl
get_or-pad (x ∷ u) zero = refl
get_or-pad (x ∷ u) (suc k) = get_or-pad u k

pub encode_step : (w o n low : List ℕ) (c f : ℕ) → c < 256 → 0 < length o → length n ≡ length o
    → length low ≡ length o → f ≡ gf_add c (get_or o 0 0)
    → ((k : ℕ) → k < length n → get_or n k 0 ≡ gf_add (get_or o (k + 1) 0) (gf_mul f (get_or low k 0)))
    → IsLow low → HasRoots (length low) (w ++ o) → HasRoots (length low) ((w ++ c ∷ []) ++ n)
encode_step w [] n low c f b s ln ll ef at g h = absurd (omega arith)
encode_step w (z ∷ o) n low c f b s ln ll ef at g h = record {
  at = λ i l.
      let X : ℕ = gf_pow 2 i in
      let added : IsAdded f n (o ++ 0 ∷ []) low = record {
        length_m = omega (arith, length-append o (0 ∷ []));
        length_b = omega arith;
        at = λ k h'. at k h' ∙ ap (λ (y : ℕ). gf_add y (gf_mul f (get_or low k 0)))
            (ap (λ (j : ℕ). get_or (z ∷ o) j 0) (add-one k) ∙ sym (get_or-pad o k));
      } in
      let new : value_of n X ≡ gf_add (gf_add (gf_mul (value_of o X) X) 0)
      (gf_mul (gf_add c z) (gf_pow X (length low))) =
      value_of-added f X n (o ++ 0 ∷ []) low added ∙ ap₂ gf_add (value_of-push o 0 X (omega arith) (pow_below 2 i))
      (ap₂ gf_mul ef (g.at i l)) in
      let power : gf_pow X (length low) ≡ gf_mul X (gf_pow X (length o)) = ap (gf_pow X) ll ∙ pow_suc X (length o) in
      let old : gf_add (gf_mul (value_of w X) (gf_pow X (suc (length o))))
      (gf_add (gf_mul z (gf_pow X (length o))) (value_of o X)) ≡ 0 =
      ap (gf_add (gf_mul (value_of w X) (gf_pow X (suc (length o))))) (sym (value_of-cons z o X))
      ∙ sym (value_of-append w (z ∷ o) X) ∙ h.at i l in
      value_of-append (w ++ c ∷ []) n X
      ∙ ap₂ gf_add (ap₂ (λ (u v : ℕ). gf_mul u (gf_pow X v)) (value_of-push w c X b (pow_below 2 i)) (ln ∙ sym ll)) new
      ∙ ap (λ (p : ℕ). gf_add (gf_mul (gf_add (gf_mul (value_of w X) X) c) p)
      (gf_add (gf_add (gf_mul (value_of o X) X) 0) (gf_mul (gf_add c z) p))) power
      ∙ alg (value_of w X) X c (gf_pow X (length o)) (value_of o X) z
      ∙ ap (λ (p : ℕ). gf_mul X (gf_add (gf_mul (value_of w X) p)
      (gf_add (gf_mul z (gf_pow X (length o))) (value_of o X)))) (sym (pow_suc X (length o)))
      ∙ ap (gf_mul X) old ∙ mul_zero X;
}
  where
    alg : (v x c q d z : ℕ) → gf_add (gf_mul (gf_add (gf_mul v x) c) (gf_mul x q))
        (gf_add (gf_add (gf_mul d x) 0) (gf_mul (gf_add c z) (gf_mul x q)))
        ≡ gf_mul x (gf_add (gf_mul v (gf_mul x q)) (gf_add (gf_mul z q) d))
    alg v x c q d z = simp ring

zeros_value : (o : List ℕ) (x : ℕ) → ((k : ℕ) → k < length o → get_or o k 0 ≡ 0) → value_of o x ≡ 0
unfolding value_of
zeros_value [] x h = refl
zeros_value (c ∷ o) x h =
    ap₂ (λ (y z : ℕ). gf_add (gf_mul y (gf_pow x (length o))) z) (h 0 (omega arith))
    (zeros_value o x (λ k l. h (suc k) (omega arith)))
    ∙ ap (λ (y : ℕ). gf_add y 0) (zero_mul (gf_pow x (length o))) ∙ zero_add 0

pub zeros_codeword : (r : ℕ) (o : List ℕ) → ((k : ℕ) → k < length o → get_or o k 0 ≡ 0) → HasRoots r o
zeros_codeword r o h = record { at = λ i l. zeros_value o (gf_pow 2 i) h }

-- parity is the one list that makes a codeword
distance_joined : (m p q : List ℕ) → distance (m ++ p) (m ++ q) ≡ distance p q
unfolding distance
distance_joined [] p q = refl
distance_joined (c ∷ m) p q = ap (λ (b : Bool). cond b 0 1 + distance (m ++ p) (m ++ q)) (eq-eqb c c refl)
    ∙ zero-add (distance (m ++ p) (m ++ q)) ∙ distance_joined m p q

distance_le : (p q : List ℕ) → distance p q ≤ length p
unfolding distance
distance_le [] [] = omega arith
distance_le [] (b ∷ q) = omega arith
distance_le (a ∷ p) [] = omega arith
distance_le (a ∷ p) (b ∷ q) = go (eqb a b) (distance_le p q)
  where
    go : (t : Bool) → distance p q ≤ length p → cond t 0 1 + distance p q ≤ suc (length p)
    go true h = omega arith
    go false h = omega arith

pub symbols-append : (u w : List ℕ) → Symbols u → Symbols w → Symbols (u ++ w)
symbols-append [] w h k = k
symbols-append (c ∷ u) w h k = (h.0, symbols-append u w h.1 k)

pub parity_unique : (m p q : List ℕ) → length p ≡ length q → length m + length p ≤ 255 → Symbols m → Symbols p
    → Symbols q → HasRoots (length p) (m ++ p) → HasRoots (length p) (m ++ q) → p ≡ q
parity_unique m p q e l bm bp bq h k =
    append_cancel_left m p q
    (law_of_distance (length p) (m ++ p) (m ++ q) (omega (arith, length-append m p, length-append m q))
    (omega (arith, length-append m p)) (symbols-append m p bm bp) (symbols-append m q bm bq) h k
    (omega (arith, distance_joined m p q, distance_le p q)))
