-- a generator of each degree, and parity of each message
use Rattle.std.proofs.Common.{◌≡◌, ℕ, zero, suc, ◌+◌, ◌<◌, ◌≤◌, inl, inr, List, [], ◌∷◌, ◌++◌, length, drop, get_or}
use Rattle.std.proofs.Common.{refl, sym, ap, ap₂, ◌∙◌, subst, arith, append-nil, append_assoc, IsTrue, eq-eqb, eqb-true}
use Rattle.std.proofs.Common.{eq-or-lt_of_le, ◌==◌}
use Rattle.std.specs.List.{AllByRecursion}
use Rattle.std.proofs.lemmas.Bool.{and_parts}
use Rattle.code_spec.specs.Field.{gf_add, gf_mul, gf_pow}
use Rattle.code_spec.specs.Code.{value_of, is_codeword, IsCodeword, IsWord}
use Rattle.code_laws.proofs.Ring.{ring, zero_add, one_mul, mul_below, add_below, pow_suc, pow_zero, pow_below}
use Rattle.code_laws.proofs.Symbols.{HasRoots, IsLow, Symbols}
use Rattle.code_laws.proofs.Steps.{encode_step, zeros_codeword}

-- p and then cs, times x plus a, without its first symbol
times_from : ℕ → ℕ → List ℕ → List ℕ
times_from a p [] = gf_mul a p ∷ []
times_from a p (c ∷ cs) = gf_add c (gf_mul a p) ∷ times_from a c cs

length-times_from : (a p : ℕ) (cs : List ℕ) → length (times_from a p cs) ≡ suc (length cs)
unfolding times_from
length-times_from a p [] = refl
length-times_from a p (c ∷ cs) = ap suc (length-times_from a c cs)

symbols-times_from : (a p : ℕ) (cs : List ℕ) → Symbols cs → Symbols (times_from a p cs)
unfolding times_from
symbols-times_from a p [] h = (mul_below a p, tt)
symbols-times_from a p (c ∷ cs) h = (add_below c (gf_mul a p) h.0 (mul_below a p), symbols-times_from a c cs h.1)

value-times_from : (a p x : ℕ) (cs : List ℕ) → value_of (times_from a p cs) x
    ≡ gf_add (gf_mul x (value_of cs x)) (gf_mul a (gf_add (gf_mul p (gf_pow x (length cs))) (value_of cs x)))
unfolding times_from value_of
value-times_from a p x [] = ap (λ (y : ℕ). gf_add (gf_mul (gf_mul a p) y) 0) (pow_zero x) ∙ alg x a p 1
    ∙ ap (λ (y : ℕ). gf_add (gf_mul x 0) (gf_mul a (gf_add (gf_mul p y) 0))) (sym (pow_zero x))
  where
    alg : (x a p q : ℕ) → gf_add (gf_mul (gf_mul a p) q) 0 ≡ gf_add (gf_mul x 0) (gf_mul a (gf_add (gf_mul p q) 0))
    alg x a p q = simp ring
value-times_from a p x (c ∷ cs) =
    ap₂ (λ (u v : ℕ). gf_add (gf_mul (gf_add c (gf_mul a p)) u) v)
    (ap (gf_pow x) (length-times_from a c cs) ∙ pow_suc x (length cs)) (value-times_from a c x cs)
    ∙ alg c a p x (gf_pow x (length cs)) (value_of cs x)
    ∙ ap (λ (q : ℕ). gf_add (gf_mul x (gf_add (gf_mul c (gf_pow x (length cs))) (value_of cs x)))
    (gf_mul a (gf_add (gf_mul p q) (gf_add (gf_mul c (gf_pow x (length cs))) (value_of cs x)))))
    (sym (pow_suc x (length cs)))
  where
    alg : (c a p x q v : ℕ) → gf_add (gf_mul (gf_add c (gf_mul a p)) (gf_mul x q))
        (gf_add (gf_mul x v) (gf_mul a (gf_add (gf_mul c q) v))) ≡ gf_add (gf_mul x (gf_add (gf_mul c q) v))
        (gf_mul a (gf_add (gf_mul p (gf_mul x q)) (gf_add (gf_mul c q) v)))
    alg c a p x q v = simp ring

-- the generator's low part
low_of : ℕ → List ℕ
low_of zero = []
low_of (suc r) = times_from (gf_pow 2 r) 1 (low_of r)

length-low_of : (r : ℕ) → length (low_of r) ≡ r
unfolding low_of
length-low_of zero = refl
length-low_of (suc r) = length-times_from (gf_pow 2 r) 1 (low_of r) ∙ ap suc (length-low_of r)

symbols-low_of : (r : ℕ) → Symbols (low_of r)
unfolding low_of
symbols-low_of zero = tt
symbols-low_of (suc r) = symbols-times_from (gf_pow 2 r) 1 (low_of r) (symbols-low_of r)

low_roots : (r i : ℕ) → i < r → value_of (low_of r) (gf_pow 2 i) ≡ gf_pow (gf_pow 2 i) r
unfolding low_of
low_roots zero i h = absurd (omega arith)
low_roots (suc r) i h =
    let X : ℕ = gf_pow 2 i in
    let a : ℕ = gf_pow 2 r in
    let V : ℕ = value_of (low_of r) X in
    let P : ℕ = gf_pow X r in
    let first : value_of (times_from a 1 (low_of r)) X ≡ gf_add (gf_mul X V) (gf_mul a (gf_add P V)) =
    value-times_from a 1 X (low_of r) ∙ ap (λ (y : ℕ). gf_add (gf_mul X V) (gf_mul a (gf_add y V)))
    (ap (λ (n : ℕ). gf_mul 1 (gf_pow X n)) (length-low_of r) ∙ one_mul P (pow_below X r)) in
    first ∙ elim (eq-or-lt_of_le (let l : i ≤ r = omega arith in l)) [
      | inl e ↦ ap (λ (j : ℕ). gf_add (gf_mul X V) (gf_mul (gf_pow 2 j) (gf_add P V))) (sym e) ∙ same X P V
          ∙ sym (pow_suc X r)
      | inr l ↦ ap (λ (y : ℕ). gf_add (gf_mul X y) (gf_mul a (gf_add P y))) (low_roots r i l) ∙ other X P a
          ∙ sym (pow_suc X r)
    ]
  where
    same : (X P V : ℕ) → gf_add (gf_mul X V) (gf_mul X (gf_add P V)) ≡ gf_mul X P
    same X P V = simp ring

    other : (X P a : ℕ) → gf_add (gf_mul X P) (gf_mul a (gf_add P P)) ≡ gf_mul X P
    other X P a = simp ring

low_is : (r : ℕ) → IsLow (low_of r)
low_is r = record {
  at = λ i l. low_roots r i (omega (arith, length-low_of r))
      ∙ ap (gf_pow (gf_pow 2 i)) (sym (length-low_of r));
}

-- ---- division by it
shift_sum : ℕ → List ℕ → List ℕ → List ℕ
shift_sum f o [] = []
shift_sum f [] (l ∷ ls) = gf_mul f l ∷ shift_sum f [] ls
shift_sum f (b ∷ bs) (l ∷ ls) = gf_add b (gf_mul f l) ∷ shift_sum f bs ls

length-shift_sum : (f : ℕ) (o ls : List ℕ) → length (shift_sum f o ls) ≡ length ls
unfolding shift_sum
length-shift_sum f o [] = refl
length-shift_sum f [] (l ∷ ls) = ap suc (length-shift_sum f [] ls)
length-shift_sum f (b ∷ bs) (l ∷ ls) = ap suc (length-shift_sum f bs ls)

symbols-shift_sum : (f : ℕ) (o ls : List ℕ) → Symbols o → Symbols (shift_sum f o ls)
unfolding shift_sum
symbols-shift_sum f o [] h = tt
symbols-shift_sum f [] (l ∷ ls) h = (mul_below f l, symbols-shift_sum f [] ls tt)
symbols-shift_sum f (b ∷ bs) (l ∷ ls) h = (add_below b (gf_mul f l) h.0 (mul_below f l), symbols-shift_sum f bs ls h.1)

at-shift_sum : (f : ℕ) (o ls : List ℕ) (k : ℕ) → k < length ls
    → get_or (shift_sum f o ls) k 0 ≡ gf_add (get_or o k 0) (gf_mul f (get_or ls k 0))
unfolding shift_sum
at-shift_sum f o [] k h = absurd (omega arith)
at-shift_sum f [] (l ∷ ls) zero h = sym (zero_add (gf_mul f l))
at-shift_sum f [] (l ∷ ls) (suc k) h = at-shift_sum f [] ls k (omega arith)
    ∙ ap (λ (y : ℕ). gf_add y (gf_mul f (get_or ls k 0))) (none k)
  where
    none : (k : ℕ) → ◌≡◌ {A = ℕ} (get_or [] k 0) (get_or [] (suc k) 0)
    none zero = refl
    none (suc k) = refl
at-shift_sum f (b ∷ bs) (l ∷ ls) zero h = refl
at-shift_sum f (b ∷ bs) (l ∷ ls) (suc k) h = at-shift_sum f bs ls k (omega arith)

-- what is left of the message's rest, o being left of its front
left_of : List ℕ → List ℕ → List ℕ → List ℕ
left_of low [] o = o
left_of low (c ∷ m) o = left_of low m (shift_sum (gf_add c (get_or o 0 0)) (drop 1 o) low)

record Left (low front m : List ℕ) (p : List ℕ) : Type 0 where
  total : length p ≡ length low
  symbols : Symbols p
  roots : HasRoots (length low) ((front ++ m) ++ p)

symbols-drop : (o : List ℕ) → Symbols o → Symbols (drop 1 o)
symbols-drop [] h = tt
symbols-drop (c ∷ o) h = h.1

at-drop : (o : List ℕ) (k : ℕ) → get_or (drop 1 o) k 0 ≡ get_or o (k + 1) 0
at-drop [] zero = refl
at-drop [] (suc k) = refl
at-drop (c ∷ o) k = let e : suc k ≡ k + 1 = omega arith in ap (λ (i : ℕ). get_or (c ∷ o) i 0) e

left_is : (low : List ℕ) → IsLow low → 0 < length low → (front m o : List ℕ) → Symbols m → Symbols o
    → length o ≡ length low → HasRoots (length low) (front ++ o) → Left low front m (left_of low m o)
unfolding left_of
left_is low is some front [] o sm so l h = record {
  total = l;
  symbols = so;
  roots = subst (λ u. HasRoots (length low) (u ++ o)) (sym (append-nil front)) h;
}
left_is low is some front (c ∷ m) o sm so l h =
    let f : ℕ = gf_add c (get_or o 0 0) in
    let n : List ℕ = shift_sum f (drop 1 o) low in
    let ln : length n ≡ length low = length-shift_sum f (drop 1 o) low in
    let rest : Left low (front ++ c ∷ []) m (left_of low m n) =
    left_is low is some (front ++ c ∷ []) m n sm.1 (symbols-shift_sum f (drop 1 o) low (symbols-drop o so)) ln
    (encode_step front o n low c f sm.0 (omega (arith, l)) (ln ∙ sym l) (sym l) refl
    (λ k k_low. at-shift_sum f (drop 1 o) low k (omega (arith, ln))
    ∙ ap (λ (y : ℕ). gf_add y (gf_mul f (get_or low k 0))) (at-drop o k)) is h) in
    record {
      total = rest.total;
      symbols = rest.symbols;
      roots = subst (λ u. HasRoots (length low) (u ++ left_of low m n)) (append_assoc front (c ∷ []) m) rest.roots;
    }

zeros : ℕ → List ℕ
zeros zero = []
zeros (suc n) = 0 ∷ zeros n

length-zeros : (n : ℕ) → length (zeros n) ≡ n
unfolding zeros
length-zeros zero = refl
length-zeros (suc n) = ap suc (length-zeros n)

symbols-zeros : (n : ℕ) → Symbols (zeros n)
unfolding zeros
symbols-zeros zero = tt
symbols-zeros (suc n) = (omega arith, symbols-zeros n)

at-zeros : (n k : ℕ) → k < length (zeros n) → get_or (zeros n) k 0 ≡ 0
unfolding zeros
at-zeros zero k h = absurd (omega arith)
at-zeros (suc n) zero h = refl
at-zeros (suc n) (suc k) h = at-zeros n k (omega arith)

-- ---- between the two ways to say words and codewords
pub symbols_of : (w : List ℕ) → AllByRecursion (λ b. b < 256) w → Symbols w
symbols_of [] h = tt
symbols_of (c ∷ w) h = (h.0, symbols_of w h.1)

pub bytes_of : (w : List ℕ) → Symbols w → AllByRecursion (λ b. b < 256) w
bytes_of [] h = tt
bytes_of (c ∷ w) h = (h.0, bytes_of w h.1)

roots_at : (r : ℕ) (w : List ℕ) → IsCodeword r w → (i : ℕ) → i < r → value_of w (gf_pow 2 i) ≡ 0
unfolding is_codeword
roots_at zero w h i l = absurd (omega arith)
roots_at (suc r) w h i l =
    let b : IsTrue (value_of w (gf_pow 2 r) == 0) × IsTrue (is_codeword r w) =
    and_parts (value_of w (gf_pow 2 r) == 0) (is_codeword r w) h in
    elim (eq-or-lt_of_le (let k : i ≤ r = omega arith in k)) [
      | inl e ↦ ap (λ (j : ℕ). value_of w (gf_pow 2 j)) e ∙ eqb-true (value_of w (gf_pow 2 r)) 0 b.0
      | inr k ↦ roots_at r w b.1 i k
    ]

pub roots_of : (r : ℕ) (w : List ℕ) → IsCodeword r w → HasRoots r w
roots_of r w h = record { at = roots_at r w h }

codeword_at : (r : ℕ) (w : List ℕ) → ((i : ℕ) → i < r → value_of w (gf_pow 2 i) ≡ 0) → IsCodeword r w
unfolding is_codeword
codeword_at zero w h = refl
codeword_at (suc r) w h = rw (eq-eqb (value_of w (gf_pow 2 r)) 0 (h r (omega arith)))
    (codeword_at r w (λ i l. h i (omega arith)))

pub codeword_of : (r : ℕ) (w : List ℕ) → HasRoots r w → IsCodeword r w
codeword_of r w h = codeword_at r w h.at

pub parity_exists : (r : ℕ) (m : List ℕ) → Symbols m → (p : List ℕ) × IsWord r p × IsCodeword r (m ++ p)
unfolding is_codeword
parity_exists zero m h = ([], (refl, tt), refl)
parity_exists (suc r) m h =
    let low : List ℕ = low_of (suc r) in
    let l : length low ≡ suc r = length-low_of (suc r) in
    let left : Left low [] m (left_of low m (zeros (suc r))) =
    left_is low (low_is (suc r)) (omega (arith, l)) [] m (zeros (suc r)) h (symbols-zeros (suc r))
    (length-zeros (suc r) ∙ sym l) (zeros_codeword (length low) (zeros (suc r)) (at-zeros (suc r))) in (
      left_of low m (zeros (suc r)),
      (left.total ∙ l, bytes_of _ left.symbols),
      codeword_of (suc r) _ (subst (λ n. HasRoots n (m ++ left_of low m (zeros (suc r)))) l left.roots),
    )
