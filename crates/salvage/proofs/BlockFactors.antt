-- A word whose sums in a block have such factors has as many errors there as there are factors. For `errs` and
-- `Sieve::is_far`.
use Rattle.std.proofs.Common.{◌*◌, ◌≡◌, ◌≢◌, ℕ, zero, suc, ◌+◌, ◌-◌, ◌<◌, ◌≤◌, ◌⊎◌, inl, inr, if◌then◌else◌, Bool, true}
use Rattle.std.proofs.Common.{false, List, [], ◌∷◌, ◌++◌, length, take, drop, get_or, IsTrue, not, nat_eq, refl, sym}
use Rattle.std.proofs.Common.{ap, ap₂, ◌∙◌, subst, arith, Option, Some, None, unwrap_or, length-drop, length-append}
use Rattle.std.specs.Prelude.{slice_range, All}
use Rattle.std.proofs.lemmas.List.Elements.{All-get_or}
use Rattle.std.proofs.lemmas.Bool.{cases_eq, cases_lt, eq-eqb, ne_eqb}
use Rattle.std.proofs.lemmas.List.{drop-drop, drop_more, drop_all}
use Rattle.code_spec.specs.Field.{gf_add, gf_mul, gf_pow}
use Rattle.code_spec.specs.Code.{value_of, distance, parity_of}
use Rattle.code_laws.proofs.Laws.{parity_law}
use Rattle.code_laws.proofs.Parity.{roots_of}
use Rattle.list_laws.proofs.Elements.{AllByRecursion_from_places}
use Rattle.code_laws.proofs.Symbols.{HasRoots}
use Rattle.code_laws.proofs.Words.{pow_turn}
use Rattle.code_laws.proofs.Ring.{ring, add_self, add_zero, add_assoc, zero_add, mul_zero, zero_mul, mul_one, one_mul}
use Rattle.code_laws.proofs.Ring.{mul_comm, mul_assoc, pow_suc, pow_zero, pow_below, mul_below}
use Rattle.salvage.specs.declared.sieve.Weight.{Weight}
use Rattle.salvage.specs.declared.sieve.Block.{Block}
use Rattle.salvage.specs.Sieves.{product, times_power, none, weighed, dot, IsKnownWord, IsOutside, IsBlock}
use Rattle.salvage_laws.specs.Known.{put_in}
use Rattle.salvage.proofs.Amends.{item}
use Rattle.salvage.proofs.HeaderSums.{put_in-append}

-- the sum of the symbols' sums of two words, each times what the power of its place counts
unfoldable pub sum_of : (ℕ → ℕ) → List ℕ → List ℕ → ℕ
sum_of H (x ∷ w) (y ∷ b) = gf_add (gf_mul (H (length w)) (gf_add x y)) (sum_of H w b)
sum_of H w b = 0

-- ---- products
pub product-none : (p : ℕ) → product [] p ≡ 1
unfolding product
product-none p = refl

product_below : (ms : List ℕ) (p : ℕ) → product ms p < 256
unfolding product
product_below [] p = omega arith
product_below (m ∷ ms) p = mul_below (gf_add (gf_pow 2 p) (gf_pow 2 m)) (product ms p)

pub product-push : (ms : List ℕ) (m p : ℕ) → product (ms ++ m ∷ []) p
    ≡ gf_mul (product ms p) (gf_add (gf_pow 2 p) (gf_pow 2 m))
unfolding product
product-push [] m p = mul_comm (gf_add (gf_pow 2 p) (gf_pow 2 m)) 1
product-push (n ∷ ms) m p =
    ap (gf_mul (gf_add (gf_pow 2 p) (gf_pow 2 n))) (product-push ms m p)
    ∙ sym (mul_assoc (gf_add (gf_pow 2 p) (gf_pow 2 n)) (product ms p) (gf_add (gf_pow 2 p) (gf_pow 2 m)))

-- a power among them makes it zero, and more powers leave it so
pub product_own : (ms : List ℕ) (p : ℕ) → product (ms ++ p ∷ []) p ≡ 0
product_own ms p =
    product-push ms p p ∙ ap (gf_mul (product ms p)) (add_self (gf_pow 2 p)) ∙ mul_zero (product ms p)

pub product_still : (ms : List ℕ) (m p : ℕ) → product ms p ≡ 0 → product (ms ++ m ∷ []) p ≡ 0
product_still ms m p z =
    product-push ms m p ∙ ap (λ (x : ℕ). gf_mul x (gf_add (gf_pow 2 p) (gf_pow 2 m))) z
    ∙ zero_mul (gf_add (gf_pow 2 p) (gf_pow 2 m))

-- ---- the sums of codewords are zero
same_sum : (H K : ℕ → ℕ) (w b : List ℕ) → ((p : ℕ) → H p ≡ K p) → sum_of H w b ≡ sum_of K w b
unfolding sum_of
same_sum H K [] b e = refl
same_sum H K (x ∷ w) [] e = refl
same_sum H K (x ∷ w) (y ∷ b) e =
    ap₂ (λ (h s : ℕ). gf_add (gf_mul h (gf_add x y)) s) (e (length w)) (same_sum H K w b e)

sum_linear : (F G : ℕ → ℕ) (a : ℕ) (w b : List ℕ)
    → sum_of (λ p. gf_add (F p) (gf_mul a (G p))) w b ≡ gf_add (sum_of F w b) (gf_mul a (sum_of G w b))
unfolding sum_of
sum_linear F G a [] b = sym (zero_add (gf_mul a 0) ∙ mul_zero a)
sum_linear F G a (x ∷ w) [] = sym (zero_add (gf_mul a 0) ∙ mul_zero a)
sum_linear F G a (x ∷ w) (y ∷ b) =
    ap (gf_add (gf_mul (gf_add (F (length w)) (gf_mul a (G (length w)))) (gf_add x y))) (sum_linear F G a w b)
    ∙ alg (F (length w)) (G (length w)) a (gf_add x y) (sum_of F w b) (sum_of G w b)
  where
    alg : (f g c d s t : ℕ) → gf_add (gf_mul (gf_add f (gf_mul c g)) d) (gf_add s (gf_mul c t))
        ≡ gf_add (gf_add (gf_mul f d) s) (gf_mul c (gf_add (gf_mul g d) t))
    alg f g c d s t = simp ring

sum_of_values : (i : ℕ) (w b : List ℕ) → length w ≡ length b
    → sum_of (λ p. gf_pow (gf_pow 2 p) i) w b ≡ gf_add (value_of w (gf_pow 2 i)) (value_of b (gf_pow 2 i))
unfolding sum_of value_of
sum_of_values i [] [] e = sym (zero_add 0)
sum_of_values i [] (y ∷ b) e = absurd (omega arith)
sum_of_values i (x ∷ w) [] e = absurd (omega arith)
sum_of_values i (x ∷ w) (y ∷ b) e =
    let l : length w ≡ length b = omega arith in
    ap₂ (λ (p s : ℕ). gf_add (gf_mul p (gf_add x y)) s) (pow_turn 2 (length w) i) (sum_of_values i w b l)
    ∙ alg x y (gf_pow (gf_pow 2 i) (length w)) (value_of w (gf_pow 2 i)) (value_of b (gf_pow 2 i))
    ∙ ap (λ (n : ℕ). gf_add (gf_add (gf_mul x (gf_pow (gf_pow 2 i) (length w))) (value_of w (gf_pow 2 i)))
    (gf_add (gf_mul y (gf_pow (gf_pow 2 i) n)) (value_of b (gf_pow 2 i)))) l
  where
    alg : (u v p s t : ℕ) → gf_add (gf_mul p (gf_add u v)) (gf_add s t)
        ≡ gf_add (gf_add (gf_mul u p) s) (gf_add (gf_mul v p) t)
    alg u v p s t = simp ring

-- what a place counts: the i-th power of its locator times the product
one_more : (m : ℕ) (ms : List ℕ) (i p : ℕ) → times_power (m ∷ ms) i p
    ≡ gf_add (times_power ms (suc i) p) (gf_mul (gf_pow 2 m) (times_power ms i p))
unfolding times_power product
one_more m ms i p =
    alg (gf_pow (gf_pow 2 p) i) (gf_pow 2 p) (gf_pow 2 m) (product ms p)
    ∙ ap (λ (q : ℕ). gf_add (gf_mul q (product ms p)) (gf_mul (gf_pow 2 m) (gf_mul (gf_pow (gf_pow 2 p) i)
    (product ms p)))) (sym (pow_suc (gf_pow 2 p) i))
  where
    alg : (q x a d : ℕ) → gf_mul q (gf_mul (gf_add x a) d) ≡ gf_add (gf_mul (gf_mul x q) d) (gf_mul a (gf_mul q d))
    alg q x a d = simp ring

none_left : (i p : ℕ) → times_power [] i p ≡ gf_pow (gf_pow 2 p) i
unfolding times_power product
none_left i p = mul_one (gf_pow (gf_pow 2 p) i) (pow_below (gf_pow 2 p) i)

codewords_sum : (r : ℕ) (ms : List ℕ) (i : ℕ) (c b : List ℕ) → length ms + i < r → length c ≡ length b
    → HasRoots r c → HasRoots r b → sum_of (times_power ms i) c b ≡ 0
codewords_sum r [] i c b l e hc hb =
    same_sum (times_power [] i) (λ p. gf_pow (gf_pow 2 p) i) c b (none_left i) ∙ sum_of_values i c b e
    ∙ ap₂ gf_add (hc.at i (omega arith)) (hb.at i (omega arith)) ∙ zero_add 0
codewords_sum r (m ∷ ms) i c b l e hc hb =
    same_sum (times_power (m ∷ ms) i) (λ p. gf_add (times_power ms (suc i) p) (gf_mul (gf_pow 2 m) (times_power ms i p)))
    c b (one_more m ms i)
    ∙ sum_linear (times_power ms (suc i)) (times_power ms i) (gf_pow 2 m) c b
    ∙ ap₂ (λ (s t : ℕ). gf_add s (gf_mul (gf_pow 2 m) t)) (codewords_sum r ms (suc i) c b (omega arith) e hc hb)
    (codewords_sum r ms i c b (omega arith) e hc hb)
    ∙ zero_add (gf_mul (gf_pow 2 m) 0) ∙ mul_zero (gf_pow 2 m)

pub zeroth_is : (ms : List ℕ) (p : ℕ) → product ms p ≡ times_power ms 0 p
unfolding times_power
zeroth_is ms p =
    sym (one_mul (product ms p) (product_below ms p)) ∙ ap (λ (q : ℕ). gf_mul q (product ms p))
    (sym (pow_zero (gf_pow 2 p)))

pub next_power : (ms : List ℕ) (i p : ℕ) → gf_mul (times_power ms i p) (gf_pow 2 p) ≡ times_power ms (suc i) p
unfolding times_power
next_power ms i p =
    alg (gf_pow (gf_pow 2 p) i) (product ms p) (gf_pow 2 p)
    ∙ ap (λ (q : ℕ). gf_mul q (product ms p)) (sym (pow_suc (gf_pow 2 p) i))
  where
    alg : (q d x : ℕ) → gf_mul (gf_mul q d) x ≡ gf_mul (gf_mul x q) d
    alg q d x = simp ring

-- ---- sums between two places
pub sum_step : (H : ℕ → ℕ) (w b : List ℕ) (k : ℕ) → k < length w → length w ≡ length b
    → sum_of H (drop k w) (drop k b) ≡ gf_add (gf_mul (H (length w - 1 - k)) (gf_add (get_or w k 0) (get_or b k 0)))
    (sum_of H (drop (suc k) w) (drop (suc k) b))
unfolding sum_of
sum_step H [] b k l e = absurd (omega arith)
sum_step H (x ∷ w) [] k l e = absurd (omega arith)
sum_step H (x ∷ w) (y ∷ b) zero l e =
    ap (λ (p : ℕ). gf_add (gf_mul (H p) (gf_add x y)) (sum_of H w b)) (omega arith)
sum_step H (x ∷ w) (y ∷ b) (suc k) l e =
    sum_step H w b k (omega arith) (omega arith)
    ∙ ap (λ (p : ℕ). gf_add (gf_mul (H p) (gf_add (get_or w k 0) (get_or b k 0)))
    (sum_of H (drop (suc k) w) (drop (suc k) b))) (omega arith)

-- a place that counts nothing, or at which the words agree
abbrev pub IsQuiet : (ℕ → ℕ) → List ℕ → List ℕ → ℕ → Type 0
IsQuiet H w b k = (get_or w k 0 ≡ get_or b k 0) ⊎ (H (length w - 1 - k) ≡ 0)

quiet_term : (H : ℕ → ℕ) (w b : List ℕ) (k : ℕ) → IsQuiet H w b k
    → gf_mul (H (length w - 1 - k)) (gf_add (get_or w k 0) (get_or b k 0)) ≡ 0
quiet_term H w b k (inl e) =
    ap (λ (y : ℕ). gf_mul (H (length w - 1 - k)) (gf_add (get_or w k 0) y)) (sym e)
    ∙ ap (gf_mul (H (length w - 1 - k))) (add_self (get_or w k 0)) ∙ mul_zero (H (length w - 1 - k))
quiet_term H w b k (inr z) =
    ap (λ (h : ℕ). gf_mul h (gf_add (get_or w k 0) (get_or b k 0))) z
    ∙ zero_mul (gf_add (get_or w k 0) (get_or b k 0))

quiet_front : (H : ℕ → ℕ) (w b : List ℕ) (n : ℕ) → n ≤ length w → length w ≡ length b
    → ((k : ℕ) → k < n → IsQuiet H w b k) → sum_of H w b ≡ sum_of H (drop n w) (drop n b)
quiet_front H w b zero l e q = refl
quiet_front H w b (suc n) l e q =
    quiet_front H w b n (omega arith) e (λ k m. q k (omega arith))
    ∙ sum_step H w b n (omega arith) e
    ∙ ap (λ (t : ℕ). gf_add t (sum_of H (drop (suc n) w) (drop (suc n) b))) (quiet_term H w b n (q n (omega arith)))
    ∙ zero_add (sum_of H (drop (suc n) w) (drop (suc n) b))

sum_past : (H : ℕ → ℕ) (w b : List ℕ) (n : ℕ) → length w ≤ n → sum_of H (drop n w) (drop n b) ≡ 0
unfolding sum_of
sum_past H [] b zero l = refl
sum_past H [] b (suc n) l = refl
sum_past H (x ∷ w) b zero l = absurd (omega arith)
sum_past H (x ∷ w) [] (suc n) l = by (drop n w)
  where
    by : (v : List ℕ) → sum_of H v [] ≡ 0
    by [] = refl
    by (u ∷ v) = refl
sum_past H (x ∷ w) (y ∷ b) (suc n) l = sum_past H w b n (omega arith)

quiet_rest : (H : ℕ → ℕ) (w b : List ℕ) (m n : ℕ) → n + m ≡ length w → length w ≡ length b
    → ((k : ℕ) → n ≤ k → k < length w → IsQuiet H w b k) → sum_of H (drop n w) (drop n b) ≡ 0
quiet_rest H w b zero n s e q = sum_past H w b n (omega arith)
quiet_rest H w b (suc m) n s e q =
    sum_step H w b n (omega arith) e
    ∙ ap₂ gf_add (quiet_term H w b n (q n (omega arith) (omega arith)))
    (quiet_rest H w b m (suc n) (omega arith) e (λ k l. q k (omega arith)))
    ∙ zero_add 0

-- the sum over the places from `from` up to `to`
abbrev pub between : (ℕ → ℕ) → List ℕ → List ℕ → ℕ → ℕ → ℕ
between H w b from to = gf_add (sum_of H (drop from w) (drop from b)) (sum_of H (drop to w) (drop to b))

through : (H : ℕ → ℕ) (w c b : List ℕ) → length w ≡ length c → length c ≡ length b
    → sum_of H w b ≡ gf_add (sum_of H w c) (sum_of H c b)
unfolding sum_of
through H [] [] [] e e' = sym (zero_add 0)
through H [] [] (z ∷ b) e e' = absurd (omega arith)
through H [] (y ∷ c) b e e' = absurd (omega arith)
through H (x ∷ w) [] b e e' = absurd (omega arith)
through H (x ∷ w) (y ∷ c) [] e e' = absurd (omega arith)
through H (x ∷ w) (y ∷ c) (z ∷ b) e e' =
    let l : length w ≡ length c = omega arith in
    ap (gf_add (gf_mul (H (length w)) (gf_add x z))) (through H w c b l (omega arith))
    ∙ alg (H (length w)) x y z (sum_of H w c) (sum_of H c b)
    ∙ ap (λ (n : ℕ). gf_add (gf_add (gf_mul (H (length w)) (gf_add x y)) (sum_of H w c))
    (gf_add (gf_mul (H n) (gf_add y z)) (sum_of H c b))) l
  where
    alg : (h x y z s t : ℕ) → gf_add (gf_mul h (gf_add x z)) (gf_add s t)
        ≡ gf_add (gf_add (gf_mul h (gf_add x y)) s) (gf_add (gf_mul h (gf_add y z)) t)
    alg h x y z s t = simp ring

pub between-through : (H : ℕ → ℕ) (w c b : List ℕ) (from to : ℕ) → length w ≡ length c → length c ≡ length b
    → between H w b from to ≡ gf_add (between H w c from to) (between H c b from to)
between-through H w c b from to e e' =
    ap₂ gf_add (drops from) (drops to)
    ∙ alg (sum_of H (drop from w) (drop from c)) (sum_of H (drop from c) (drop from b))
    (sum_of H (drop to w) (drop to c)) (sum_of H (drop to c) (drop to b))
  where
    drops : (n : ℕ) → sum_of H (drop n w) (drop n b)
        ≡ gf_add (sum_of H (drop n w) (drop n c)) (sum_of H (drop n c) (drop n b))
    drops n =
        through H (drop n w) (drop n c) (drop n b)
        (length-drop n w ∙ ap (λ (k : ℕ). k - n) e ∙ sym (length-drop n c))
        (length-drop n c ∙ ap (λ (k : ℕ). k - n) e' ∙ sym (length-drop n b))

    alg : (a a' d d' : ℕ) → gf_add (gf_add a a') (gf_add d d') ≡ gf_add (gf_add a d) (gf_add a' d')
    alg a a' d d' = simp ring

-- ---- at most so many errors
pub same_head : (x y : ℕ) (w c : List ℕ) → x ≡ y → distance (x ∷ w) (y ∷ c) ≡ distance w c
unfolding distance
same_head x y w c e = ap (λ (b : Bool). (if b then 0 else 1) + distance w c) (eq-eqb x y e) ∙ omega arith

pub other_head : (x y : ℕ) (w c : List ℕ) → x ≢ y → distance (x ∷ w) (y ∷ c) ≡ suc (distance w c)
unfolding distance
other_head x y w c n = ap (λ (b : Bool). (if b then 0 else 1) + distance w c) (ne_eqb x y n) ∙ omega arith

pub distance-drop : (m : ℕ) (w c : List ℕ) → length w ≡ length c → distance (drop m w) (drop m c) ≤ distance w c
distance-drop zero w c e = omega arith
distance-drop (suc m) [] [] e = omega arith
distance-drop (suc m) [] (y ∷ c) e = absurd (omega arith)
distance-drop (suc m) (x ∷ w) [] e = absurd (omega arith)
distance-drop (suc m) (x ∷ w) (y ∷ c) e = by (cases_eq x y) (distance-drop m w c (omega arith))
  where
    by : (x ≡ y) ⊎ (x ≢ y) → distance (drop m w) (drop m c) ≤ distance w c
        → distance (drop m w) (drop m c) ≤ distance (x ∷ w) (y ∷ c)
    by (inl s) h = omega (arith, same_head x y w c s)
    by (inr n) h = omega (arith, other_head x y w c n)

pub same_term : (H : ℕ → ℕ) (x y : ℕ) (w c v d : List ℕ) → x ≡ y
    → gf_add (sum_of H (x ∷ w) (y ∷ c)) (sum_of H v d) ≡ gf_add (sum_of H w c) (sum_of H v d)
unfolding sum_of
same_term H x y w c v d e =
    ap (λ (t : ℕ). gf_add (gf_add (gf_mul (H (length w)) t) (sum_of H w c)) (sum_of H v d))
    (ap (gf_add x) (sym e) ∙ add_self x)
    ∙ alg (H (length w)) (sum_of H w c) (sum_of H v d)
  where
    alg : (h s t : ℕ) → gf_add (gf_add (gf_mul h 0) s) t ≡ gf_add s t
    alg h s t = simp ring

pub alone : (H : ℕ → ℕ) (x y : ℕ) (w c v d : List ℕ) → gf_add (sum_of H w c) (sum_of H v d) ≡ 0
    → gf_add (sum_of H (x ∷ w) (y ∷ c)) (sum_of H v d) ≡ gf_mul (H (length w)) (gf_add x y)
unfolding sum_of
alone H x y w c v d z =
    add_assoc (gf_mul (H (length w)) (gf_add x y)) (sum_of H w c) (sum_of H v d)
    ∙ ap (gf_add (gf_mul (H (length w)) (gf_add x y))) z ∙ add_zero (gf_mul (H (length w)) (gf_add x y))

-- H is zero at these powers
unfoldable pub Vanish : (ℕ → ℕ) → List ℕ → Type 0
Vanish H [] = Unit {0}
Vanish H (p ∷ ps) = (H p ≡ 0) × Vanish H ps

unfoldable zeros : ℕ → List ℕ
zeros zero = []
zeros (suc n) = 0 ∷ zeros n

length-zeros : (n : ℕ) → length (zeros n) ≡ n
unfolding zeros
length-zeros zero = refl
length-zeros (suc n) = ap suc (length-zeros n)

-- the powers of at most e places at which words differ: a sum that counts none of them is zero
pub apart : (m e : ℕ) (w c : List ℕ) → length w ≡ length c → distance w c ≤ e + distance (drop m w) (drop m c)
    → (ps : List ℕ) × (length ps ≡ e)
    × ((H : ℕ → ℕ) → Vanish H ps → gf_add (sum_of H w c) (sum_of H (drop m w) (drop m c)) ≡ 0)
unfolding Vanish
apart zero e w c l d = (zeros e, length-zeros e, λ H v. add_self (sum_of H w c))
apart (suc m) e [] [] l d = (zeros e, length-zeros e, λ H v. add_self (sum_of H [] []))
apart (suc m) e [] (y ∷ c) l d = absurd (omega arith)
apart (suc m) e (x ∷ w) [] l d = absurd (omega arith)
apart (suc m) zero (x ∷ w) (y ∷ c) l d = by (cases_eq x y) (λ h. apart m 0 w c (omega arith) h)
  where
    by : (x ≡ y) ⊎ (x ≢ y) → (distance w c ≤ 0 + distance (drop m w) (drop m c) → (ps : List ℕ) × (length ps ≡ 0)
        × ((H : ℕ → ℕ) → Vanish H ps → gf_add (sum_of H w c) (sum_of H (drop m w) (drop m c)) ≡ 0))
        → (ps : List ℕ) × (length ps ≡ 0) × ((H : ℕ → ℕ) → Vanish H ps
        → gf_add (sum_of H (x ∷ w) (y ∷ c)) (sum_of H (drop m w) (drop m c)) ≡ 0)
    by (inl s) rest =
        let h = rest (omega (arith, same_head x y w c s, d)) in
        (h.0, h.1, λ H v. same_term H x y w c (drop m w) (drop m c) s ∙ h.2 H v)
    by (inr n) rest = absurd (omega (arith, other_head x y w c n, d, distance-drop m w c (omega arith)))
apart (suc m) (suc e) (x ∷ w) (y ∷ c) l d =
    by (cases_eq x y) (λ h. apart m (suc e) w c (omega arith) h) (λ h. apart m e w c (omega arith) h)
  where
    by : (x ≡ y) ⊎ (x ≢ y)
        → (distance w c ≤ suc e + distance (drop m w) (drop m c) → (ps : List ℕ) × (length ps ≡ suc e)
        × ((H : ℕ → ℕ) → Vanish H ps → gf_add (sum_of H w c) (sum_of H (drop m w) (drop m c)) ≡ 0))
        → (distance w c ≤ e + distance (drop m w) (drop m c) → (ps : List ℕ) × (length ps ≡ e)
        × ((H : ℕ → ℕ) → Vanish H ps → gf_add (sum_of H w c) (sum_of H (drop m w) (drop m c)) ≡ 0))
        → (ps : List ℕ) × (length ps ≡ suc e) × ((H : ℕ → ℕ) → Vanish H ps
        → gf_add (sum_of H (x ∷ w) (y ∷ c)) (sum_of H (drop m w) (drop m c)) ≡ 0)
    by (inl s) same other =
        let h = same (omega (arith, same_head x y w c s, d)) in
        (h.0, h.1, λ H v. same_term H x y w c (drop m w) (drop m c) s ∙ h.2 H v)
    by (inr n) same other =
        let h = other (omega (arith, other_head x y w c n, d)) in (
          length w ∷ h.0,
          ap suc h.1,
          λ H v.
              alone H x y w c (drop m w) (drop m c) (h.2 H v.1)
              ∙ ap (λ (t : ℕ). gf_mul t (gf_add x y)) v.0 ∙ zero_mul (gf_add x y),
        )

-- the product is zero at each power of its own
vanish_more : (m : ℕ) (ms ps : List ℕ) → Vanish (product ms) ps → Vanish (product (m ∷ ms)) ps
unfolding product Vanish
vanish_more m ms [] v = tt
vanish_more m ms (p ∷ ps) v = (
  ap (gf_mul (gf_add (gf_pow 2 p) (gf_pow 2 m))) v.0 ∙ mul_zero (gf_add (gf_pow 2 p) (gf_pow 2 m)),
  vanish_more m ms ps v.1,
)

pub vanish_own : (ps ms : List ℕ) → Vanish (product (ps ++ ms)) ps
unfolding product Vanish
vanish_own [] ms = tt
vanish_own (p ∷ ps) ms = (
  ap (λ (x : ℕ). gf_mul x (product (ps ++ ms) p)) (add_self (gf_pow 2 p)) ∙ zero_mul (product (ps ++ ms) p),
  vanish_more p (ps ++ ms) ps (vanish_own ps ms),
)

pub vanish_times : (ms : List ℕ) (i : ℕ) (ps : List ℕ) → Vanish (product ms) ps → Vanish (times_power ms i) ps
unfolding times_power Vanish
vanish_times ms i [] v = tt
vanish_times ms i (p ∷ ps) v = (
  ap (gf_mul (gf_pow (gf_pow 2 p) i)) v.0 ∙ mul_zero (gf_pow (gf_pow 2 p) i),
  vanish_times ms i ps v.1,
)

-- ---- recurrences
dot_same : (q : List ℕ) (s t : ℕ → ℕ) (l : ℕ) → ((i : ℕ) → i < l + length q → s i ≡ t i) → dot q s l ≡ dot q t l
unfolding dot
dot_same [] s t l h = refl
dot_same (x ∷ q) s t l h =
    ap₂ (λ (a b : ℕ). gf_add (gf_mul x a) b) (h l (omega arith)) (dot_same q s t (suc l) (λ i m. h i (omega (arith, m))))

dot_none : (q : List ℕ) (s : ℕ → ℕ) (l : ℕ) → ((i : ℕ) → s i ≡ 0) → dot q s l ≡ 0
unfolding dot
dot_none [] s l h = refl
dot_none (x ∷ q) s l h =
    ap₂ (λ (a b : ℕ). gf_add (gf_mul x a) b) (h l) (dot_none q s (suc l) h)
    ∙ add_zero (gf_mul x 0) ∙ mul_zero x

dot_killed : (q : List ℕ) (s t : ℕ → ℕ) (a l : ℕ) → ((i : ℕ) → t i ≡ gf_add (s (suc i)) (gf_mul a (s i)))
    → dot q t l ≡ gf_add (dot q s (suc l)) (gf_mul a (dot q s l))
unfolding dot
dot_killed [] s t a l h = sym (zero_add (gf_mul a 0) ∙ mul_zero a)
dot_killed (x ∷ q) s t a l h =
    ap₂ (λ (u v : ℕ). gf_add (gf_mul x u) v) (h l) (dot_killed q s t a (suc l) h)
    ∙ alg x a (s (suc l)) (s l) (dot q s (suc (suc l))) (dot q s (suc l))
  where
    alg : (x a u v d e : ℕ) → gf_add (gf_mul x (gf_add u (gf_mul a v))) (gf_add d (gf_mul a e))
        ≡ gf_add (gf_add (gf_mul x u) d) (gf_mul a (gf_add (gf_mul x v) e))
    alg x a u v d e = simp ring

pub dot_begun : (q : List ℕ) (s : ℕ → ℕ) (start : ℕ) → gf_add 0 (dot q s (start + 0)) ≡ dot q s start
dot_begun q s start = zero_add (dot q s (start + 0)) ∙ ap (dot q s) (omega arith)

dot_step : (q : List ℕ) (s : ℕ → ℕ) (j l : ℕ) → j < length q
    → dot (drop j q) s l ≡ gf_add (gf_mul (get_or q j 0) (s l)) (dot (drop (suc j) q) s (suc l))
unfolding dot
dot_step [] s j l h = absurd (omega arith)
dot_step (x ∷ q) s zero l h = refl
dot_step (x ∷ q) s (suc j) l h = dot_step q s j l (omega arith)

pub dot_next : (q : List ℕ) (s : ℕ → ℕ) (start j sum m more total : ℕ) → j < length q
    → m ≡ gf_mul (get_or q j 0) (s (start + j)) → more ≡ gf_add sum m
    → gf_add sum (dot (drop j q) s (start + j)) ≡ total
    → gf_add more (dot (drop (j + 1) q) s (start + (j + 1))) ≡ total
dot_next q s start j sum m more total l em es h =
    ap₂ (λ (u v : ℕ). gf_add u v) (es ∙ ap (gf_add sum) em)
    (ap₂ (λ (i k : ℕ). dot (drop i q) s k) (let e : j + 1 ≡ suc j = omega arith in e)
    (let e : start + (j + 1) ≡ suc (start + j) = omega arith in e))
    ∙ add_assoc sum (gf_mul (get_or q j 0) (s (start + j))) (dot (drop (suc j) q) s (suc (start + j)))
    ∙ ap (gf_add sum) (sym (dot_step q s j (start + j) l)) ∙ h

pub dot_done : (q : List ℕ) (s : ℕ → ℕ) (start j sum total : ℕ) → length q ≤ j
    → gf_add sum (dot (drop j q) s (start + j)) ≡ total → sum ≡ total
unfolding dot
dot_done q s start j sum total l h =
    sym (ap (λ (v : List ℕ). gf_add sum (dot v s (start + j))) (drop_all j q l) ∙ add_zero sum) ∙ h

-- the sums that count no place of these powers: factors for the sums before are factors for them
killed : (q : List ℕ) (t : List ℕ → ℕ → ℕ)
    → ((m : ℕ) (ps : List ℕ) (i : ℕ) → t (m ∷ ps) i ≡ gf_add (t ps (suc i)) (gf_mul (gf_pow 2 m) (t ps i)))
    → (ps : List ℕ) (k : ℕ) → ((l : ℕ) → l < length ps + k → dot q (t []) l ≡ 0)
    → ((l : ℕ) → l < k → dot q (t ps) l ≡ 0) × (dot q (t ps) k ≡ dot q (t []) (length ps + k))
killed q t step [] k h = (λ l b. h l (omega (arith, b)), ap (dot q (t [])) (omega arith))
killed q t step (m ∷ ps) k h =
    let before = killed q t step ps (suc k) (λ l b. h l (omega (arith, b))) in
    let each = dot_killed q (t ps) (t (m ∷ ps)) (gf_pow 2 m) in (
      λ l b. each l (step m ps)
          ∙ ap₂ (λ (u v : ℕ). gf_add u (gf_mul (gf_pow 2 m) v)) (before.0 (suc l) (omega (arith, b)))
          (before.0 l (omega (arith, b)))
          ∙ zero_add (gf_mul (gf_pow 2 m) 0) ∙ mul_zero (gf_pow 2 m),
      each k (step m ps)
          ∙ ap₂ (λ (u v : ℕ). gf_add u (gf_mul (gf_pow 2 m) v)) before.1 (before.0 k (omega arith))
          ∙ ap (gf_add (dot q (t []) (length ps + suc k))) (mul_zero (gf_pow 2 m))
          ∙ add_zero (dot q (t []) (length ps + suc k))
          ∙ ap (dot q (t [])) (omega arith),
    )

-- ---- a block's sums
pub weighed_step : (f : Weight → ℕ) (gs : List Weight) (w b : List ℕ) (k : ℕ) (d : Weight) → k < length gs
    → length w ≡ length gs → length b ≡ length gs → weighed f (drop k gs) (drop k w) (drop k b)
    ≡ gf_add (gf_mul (f (get_or gs k d)) (gf_add (get_or w k 0) (get_or b k 0)))
    (weighed f (drop (k + 1) gs) (drop (k + 1) w) (drop (k + 1) b))
unfolding weighed
weighed_step f gs w b k d l ew eb =
    rw (drop_more gs k d l, drop_more w k 0 (omega (arith, ew)), drop_more b k 0 (omega (arith, eb))) refl

-- one place more is counted
pub weighed_next : (f : Weight → ℕ) (gs : List Weight) (w b : List ℕ) (k : ℕ) (d : Weight) (s m x t total : ℕ)
    → k < length gs → length w ≡ length gs → length b ≡ length gs → x ≡ gf_add (get_or w k 0) (get_or b k 0)
    → m ≡ gf_mul (f (get_or gs k d)) x → t ≡ gf_add s m
    → gf_add s (weighed f (drop k gs) (drop k w) (drop k b)) ≡ total
    → gf_add t (weighed f (drop (k + 1) gs) (drop (k + 1) w) (drop (k + 1) b)) ≡ total
weighed_next f gs w b k d s m x t total l ew eb ex em et h =
    ap (λ (y : ℕ). gf_add y (weighed f (drop (k + 1) gs) (drop (k + 1) w) (drop (k + 1) b)))
    (et ∙ ap (gf_add s) (em ∙ ap (gf_mul (f (get_or gs k d))) ex))
    ∙ add_assoc s (gf_mul (f (get_or gs k d)) (gf_add (get_or w k 0) (get_or b k 0)))
    (weighed f (drop (k + 1) gs) (drop (k + 1) w) (drop (k + 1) b))
    ∙ ap (gf_add s) (sym (weighed_step f gs w b k d l ew eb)) ∙ h

weighed_end : (f : Weight → ℕ) (k : ℕ) (gs : List Weight) (w b : List ℕ) → length gs ≤ k
    → weighed f (drop k gs) (drop k w) (drop k b) ≡ 0
unfolding weighed
weighed_end f k gs w b l = rw (drop_all k gs l) refl

pub weighed_done : (f : Weight → ℕ) (k : ℕ) (gs : List Weight) (w b : List ℕ) (s total : ℕ) → length gs ≤ k
    → gf_add s (weighed f (drop k gs) (drop k w) (drop k b)) ≡ total → s ≡ total
weighed_done f k gs w b s total l h = sym (ap (gf_add s) (weighed_end f k gs w b l) ∙ add_zero s) ∙ h

pub weighed_is : (f : Weight → ℕ) (H : ℕ → ℕ) (m : ℕ) (gs : List Weight) (w b : List ℕ) → m ≤ length gs
    → m ≤ length w → length w ≡ length b → ((k : ℕ) → k < m → f (get_or gs k none) ≡ H (length w - 1 - k))
    → weighed f (take m gs) (take m w) (take m b) ≡ gf_add (sum_of H w b) (sum_of H (drop m w) (drop m b))
unfolding weighed sum_of
weighed_is f H zero gs w b lg lw e h = sym (add_self (sum_of H w b))
weighed_is f H (suc m) [] w b lg lw e h = absurd (omega arith)
weighed_is f H (suc m) (g ∷ gs) [] b lg lw e h = absurd (omega arith)
weighed_is f H (suc m) (g ∷ gs) (x ∷ w) [] lg lw e h = absurd (omega arith)
weighed_is f H (suc m) (g ∷ gs) (x ∷ w) (y ∷ b) lg lw e h =
    ap₂ (λ (t s : ℕ). gf_add (gf_mul t (gf_add x y)) s) (h 0 (omega arith) ∙ ap H (omega arith))
    (weighed_is f H m gs w b (omega arith) (omega arith) (omega arith)
    (λ k l. h (suc k) (omega arith) ∙ ap H (omega arith)))
    ∙ sym (add_assoc (gf_mul (H (length w)) (gf_add x y)) (sum_of H w b) (sum_of H (drop m w) (drop m b)))

-- the words agree where a byte is known
agree : (ks : List (Option ℕ)) (r : ℕ) (c b : List ℕ) → IsKnownWord ks r c → IsKnownWord ks r b → (j : ℕ)
    → j < 12 + r → (o : Option ℕ) → get_or ks j None ≡ o → o ≢ None → get_or c j 0 ≡ get_or b j 0
agree ks r c b hc hb j l None e n = absurd (n refl)
agree ks r c b hc hb j l (Some k) e n = at c hc ∙ sym (at b hb)
  where
    within : (xs : List (Option ℕ)) (i : ℕ) → get_or xs i None ≡ Some k → i < length xs
    within [] i e = cc
    within (x ∷ xs) zero e = omega arith
    within (x ∷ xs) (suc i) e = let h = within xs i e in omega arith

    at : (d : List ℕ) → IsKnownWord ks r d → get_or d j 0 ≡ k
    at d h =
        ap (λ (u : List ℕ). get_or u j 0) (sym h.known)
        ∙ item ks d j (within ks j e) (omega (arith, h.len)) ∙ ap (λ (o : Option ℕ). unwrap_or o (get_or d j 0)) e

times_zero : (ms : List ℕ) (i p : ℕ) → product ms p ≡ 0 → times_power ms i p ≡ 0
unfolding times_power
times_zero ms i p z = ap (gf_mul (gf_pow (gf_pow 2 p) i)) z ∙ mul_zero (gf_pow (gf_pow 2 p) i)

-- one power more that is not counted
pub between_more : (m : ℕ) (ms : List ℕ) (i : ℕ) (w c : List ℕ) (from to : ℕ)
    → between (times_power (m ∷ ms) i) w c from to
    ≡ gf_add (between (times_power ms (suc i)) w c from to) (gf_mul (gf_pow 2 m) (between (times_power ms i) w c from to))
between_more m ms i w c from to =
    ap₂ gf_add (one (drop from w) (drop from c)) (one (drop to w) (drop to c))
    ∙ alg (sum_of (times_power ms (suc i)) (drop from w) (drop from c))
    (sum_of (times_power ms (suc i)) (drop to w) (drop to c)) (gf_pow 2 m)
    (sum_of (times_power ms i) (drop from w) (drop from c)) (sum_of (times_power ms i) (drop to w) (drop to c))
  where
    one : (u v : List ℕ) → sum_of (times_power (m ∷ ms) i) u v
        ≡ gf_add (sum_of (times_power ms (suc i)) u v) (gf_mul (gf_pow 2 m) (sum_of (times_power ms i) u v))
    one u v =
        same_sum (times_power (m ∷ ms) i)
        (λ p. gf_add (times_power ms (suc i) p) (gf_mul (gf_pow 2 m) (times_power ms i p))) u v (one_more m ms i)
        ∙ sum_linear (times_power ms (suc i)) (times_power ms i) (gf_pow 2 m) u v

    alg : (a b x c d : ℕ) → gf_add (gf_add a (gf_mul x c)) (gf_add b (gf_mul x d))
        ≡ gf_add (gf_add a b) (gf_mul x (gf_add c d))
    alg a b x c d = simp ring

module _ (ks : List (Option ℕ)) (r : ℕ) (b : Block) (is : IsBlock ks r b) (c base : List ℕ)
    (hc : IsKnownWord ks r c) (hb : IsKnownWord ks r base) where
  same_length : length c ≡ length base
  same_length = hc.len ∙ sym hb.len

  quiet : (H : ℕ → ℕ) → ((p : ℕ) → product is.others p ≡ 0 → H p ≡ 0) → (j : ℕ) → j < length c
      → IsOutside b.from b.to j → IsQuiet H c base j
  quiet H zero_there j l out = by (get_or ks j None) refl
    where
      by : (o : Option ℕ) → get_or ks j None ≡ o → IsQuiet H c base j
      by None e = inr (zero_there (length c - 1 - j) (ap (product is.others) (omega (arith, hc.len))
          ∙ is.outside j (omega (arith, hc.len)) out e))
      by (Some k) e = inl (agree ks r c base hc hb j (omega (arith, hc.len)) (Some k) e (λ n. cc))

  -- the sums of a codeword are zero in the block too
  pub between_none : (i : ℕ) → length is.others + i < r → between (times_power is.others i) c base b.from b.to ≡ 0
  between_none i two =
      ap₂ gf_add
      (sym (quiet_front (times_power is.others i) c base b.from (omega (arith, hc.len, is.some, is.within)) same_length
      (λ k l. quiet (times_power is.others i) (times_zero is.others i) k (omega (arith, hc.len, is.some, is.within))
      (inl l)))
      ∙ codewords_sum r is.others i c base two same_length hc.roots hb.roots)
      (quiet_rest (times_power is.others i) c base (length c - b.to) b.to (omega (arith, hc.len, is.within)) same_length
      (λ k l m. quiet (times_power is.others i) (times_zero is.others i) k m (inr l)))
      ∙ zero_add 0

  -- a word whose sums have such factors has as many errors in the block as there are
  pub errors : (word q : List ℕ) (s : ℕ → ℕ) → length word ≡ 12 + r → length q ≡ b.least
      → ((i : ℕ) → i < 7 → s i ≡ between (times_power is.others i) word base b.from b.to)
      → ((l : ℕ) → l + 1 < length q → dot q s l ≡ 0) → dot q s (length q - 1) ≢ 0
      → b.least + distance (drop b.to word) (drop b.to c) ≤ distance (drop b.from word) (drop b.from c)
  errors word q s l lq at zero_at some =
      by (cases_lt (distance (drop b.from word) (drop b.from c)) (b.least + distance (drop b.to word) (drop b.to c)))
    where
      e : length word ≡ length c
      e = l ∙ sym hc.len

      on : (v : List ℕ) → drop (b.to - b.from) (drop b.from v) ≡ drop b.to v
      on v = drop-drop (b.to - b.from) b.from v ∙ ap (λ (n : ℕ). drop n v) (omega (arith, is.some))

      t : List ℕ → ℕ → ℕ
      t ps i = between (times_power (ps ++ is.others) i) word c b.from b.to

      step : (m : ℕ) (ps : List ℕ) (i : ℕ) → t (m ∷ ps) i ≡ gf_add (t ps (suc i)) (gf_mul (gf_pow 2 m) (t ps i))
      step m ps i = between_more m (ps ++ is.others) i word c b.from b.to

      same : (i : ℕ) → i + 1 < 2 * b.least → s i ≡ t [] i
      same i h =
          at i (omega (arith, h, is.four))
          ∙ between-through (times_power is.others i) word c base b.from b.to e same_length
          ∙ ap (gf_add (between (times_power is.others i) word c b.from b.to))
          (between_none i (omega (arith, h, is.few)))
          ∙ add_zero (between (times_power is.others i) word c b.from b.to)

      near : distance (drop b.from word) (drop b.from c) < b.least + distance (drop b.to word) (drop b.to c)
          → dot q s (length q - 1) ≡ 0
      near h =
          let one = apart (b.to - b.from) (b.least - 1) (drop b.from word) (drop b.from c)
          (length-drop b.from word ∙ ap (λ (k : ℕ). k - b.from) e ∙ sym (length-drop b.from c))
          (omega (arith, h, is.one, ap₂ distance (on word) (on c))) in
          let ps : List ℕ = one.0 in
          let lp : length ps ≡ b.least - 1 = one.1 in
          let none : (i : ℕ) → t ps i ≡ 0 = λ i.
          ap₂ (λ (u v : List ℕ). gf_add (sum_of (times_power (ps ++ is.others) i) (drop b.from word) (drop b.from c))
          (sum_of (times_power (ps ++ is.others) i) u v)) (sym (on word)) (sym (on c))
          ∙ one.2 (times_power (ps ++ is.others) i)
          (vanish_times (ps ++ is.others) i ps (vanish_own ps is.others)) in
          let all = killed q t step ps 0 (λ k m. sym (dot_same q s (t []) k (λ i n. same i (omega (arith, m, n, lp, lq))))
          ∙ zero_at k (omega (arith, m, lp, lq, is.one))) in
          dot_same q s (t []) (length q - 1) (λ i n. same i (omega (arith, n, lq, is.one)))
          ∙ ap (dot q (t [])) (omega (arith, lp, lq)) ∙ sym all.1 ∙ dot_none q (t ps) 0 none

      by : (distance (drop b.from word) (drop b.from c) < b.least + distance (drop b.to word) (drop b.to c))
          ⊎ (b.least + distance (drop b.to word) (drop b.to c) ≤ distance (drop b.from word) (drop b.from c))
          → b.least + distance (drop b.to word) (drop b.to c) ≤ distance (drop b.from word) (drop b.from c)
      by (inr h) = h
      by (inl h) = absurd (some (near h))

-- the sum of the places of a block, by their weights
pub block_sum : (ks : List (Option ℕ)) (r : ℕ) (b : Block) (is : IsBlock ks r b) (word base : List ℕ)
    → length word ≡ 12 + r → length base ≡ length word → (i : ℕ) → i < 7
    → (gs : List Weight) → gs ≡ take (b.to - b.from) is.weights
    → weighed (λ (g : Weight). get_or g.counts i 0) gs (slice_range word b.from b.to) (slice_range base b.from b.to)
    ≡ between (times_power is.others i) word base b.from b.to
block_sum ks r b is word base l e i small gs eg =
    ap (λ (xs : List Weight). weighed (λ (g : Weight). get_or g.counts i 0) xs (slice_range word b.from b.to)
    (slice_range base b.from b.to)) eg
    ∙ weighed_is (λ (g : Weight). get_or g.counts i 0) (times_power is.others i) (b.to - b.from) is.weights
    (drop b.from word) (drop b.from base)
    (omega (arith, is.len, is.short)) (omega (arith, length-drop b.from word, l, is.within, is.some))
    (length-drop b.from word ∙ ap (λ (k : ℕ). k - b.from) (sym e) ∙ sym (length-drop b.from base))
    (λ k m. is.each k (omega (arith, m)) i small
    ∙ ap (times_power is.others i) (omega (arith, length-drop b.from word, l)))
    ∙ ap₂ (λ (u v : List ℕ). gf_add (sum_of (times_power is.others i) (drop b.from word) (drop b.from base))
    (sum_of (times_power is.others i) u v)) (on word) (on base)
  where
    on : (v : List ℕ) → drop (b.to - b.from) (drop b.from v) ≡ drop b.to v
    on v = drop-drop (b.to - b.from) b.from v ∙ ap (λ (n : ℕ). drop n v) (omega (arith, is.some))

pub unequal : (a b : ℕ) → IsTrue (not (nat_eq a b)) → a ≢ b
unequal a b h e = (let t : not (nat_eq a b) ≡ false = ap not (eq-eqb a b e) in
    let bad : true ≡ false = sym h ∙ t in cc)

-- no fewer errors stand from a place on than from a later one
pub block_more : (word c : List ℕ) (from to : ℕ) → length word ≡ length c → from ≤ to
    → 0 + distance (drop to word) (drop to c) ≤ distance (drop from word) (drop from c)
block_more word c from to e l =
    omega (
      arith,
      distance-drop (to - from) (drop from word) (drop from c)
          (length-drop from word ∙ ap (λ (k : ℕ). k - from) e ∙ sym (length-drop from c)),
      ap₂ distance (on word) (on c),
    )
  where
    on : (v : List ℕ) → drop (to - from) (drop from v) ≡ drop to v
    on v = drop-drop (to - from) from v ∙ ap (λ (n : ℕ). drop n v) (omega (arith, l))

-- a block that begins where the last one ended or later
pub one_block : (word c : List ℕ) (count least end from to : ℕ) → length word ≡ length c → end ≤ from
    → count + distance (drop end word) (drop end c) ≤ distance word c
    → least + distance (drop to word) (drop to c) ≤ distance (drop from word) (drop from c)
    → count + least + distance (drop to word) (drop to c) ≤ distance word c
one_block word c count least end from to e l h t =
    omega (
      arith,
      h,
      t,
      distance-drop (from - end) (drop end word) (drop end c)
          (length-drop end word ∙ ap (λ (k : ℕ). k - end) e ∙ sym (length-drop end c)),
      ap₂ distance (on word) (on c),
    )
  where
    on : (v : List ℕ) → drop (from - end) (drop end v) ≡ drop from v
    on v = drop-drop (from - end) end v ∙ ap (λ (n : ℕ). drop n v) (omega (arith, l))

pub own_block : (ks : List (Option ℕ)) (r i : ℕ) (blocks items : List Block) (b : Block) → items ≡ blocks
    → All (IsBlock ks r) blocks → i < length items → b ≡ get_or items i b → IsBlock ks r b
own_block ks r i blocks items b ei each l eb =
    subst (IsBlock ks r) (sym eb) (All-get_or (IsBlock ks r) items i b l (subst (All (IsBlock ks r)) (sym ei) each))

-- and of a sieve's blocks
pub far_more : (ks : List (Option ℕ)) (r : ℕ) (b : Block) (word begun base c : List ℕ) (count told end : ℕ)
    → IsBlock ks r b → begun ≡ base → IsKnownWord ks r base → length word ≡ 12 + r → IsKnownWord ks r c → end ≤ b.from
    → count + distance (drop end word) (drop end c) ≤ distance word c
    → ((ks : List (Option ℕ)) (r : ℕ) (c : List ℕ) → length word ≡ 12 + r → IsBlock ks r b
    → IsKnownWord ks r begun → IsKnownWord ks r c
    → told + distance (drop b.to word) (drop b.to c) ≤ distance (drop b.from word) (drop b.from c))
    → count + told + distance (drop b.to word) (drop b.to c) ≤ distance word c
far_more ks r b word begun base c count told end is eb hb lw hc order far tells =
    one_block word c count told end b.from b.to (lw ∙ sym hc.len) order far
    (tells ks r c lw is (subst (IsKnownWord ks r) (sym eb) hb) hc)

-- ---- the codeword of the known bytes
put_in_twice : (ks : List (Option ℕ)) (w : List ℕ) → put_in ks (put_in ks w) ≡ put_in ks w
unfolding put_in
put_in_twice [] w = refl
put_in_twice (k ∷ ks) [] = refl
put_in_twice (None ∷ ks) (b ∷ w) = ap (λ xs. b ∷ xs) (put_in_twice ks w)
put_in_twice (Some k ∷ ks) (b ∷ w) = ap (λ xs. k ∷ xs) (put_in_twice ks w)

pub known_word : (ks : List (Option ℕ)) (r : ℕ) (z h p w : List ℕ) → w ≡ h ++ p → p ≡ parity_of r h → h ≡ put_in ks z
    → length h ≡ 12 → length ks ≡ 12 → r ≤ 127 → ((k : ℕ) → get_or h k 0 < 256) → IsKnownWord ks r w
known_word ks r z h p w ew ep eh lh lk few bytes =
    let made = (parity_law r h (parity_of r h) (omega (arith, lh))
    (refl, AllByRecursion_from_places (λ b. b < 256) h bytes)).0 refl in
    let same : w ≡ h ++ parity_of r h = ew ∙ ap (λ q. h ++ q) ep in
    let own : put_in ks h ≡ h = ap (put_in ks) eh ∙ put_in_twice ks z ∙ sym eh in
    subst (IsKnownWord ks r) (sym same) (record {
      len = length-append h (parity_of r h) ∙ omega (arith, lh, made.0.0);
      roots = roots_of r (h ++ parity_of r h) made.1;
      known = put_in-append ks h (parity_of r h) (omega (arith, lh, lk)) ∙ ap (λ v. v ++ parity_of r h) own;
    })
