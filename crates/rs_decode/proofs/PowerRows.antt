-- The rows of the table hold the multiples of powers, and sums of them are values. For `row` and `value_lane`.
use Rattle.std.proofs.Common.{◌≡◌, ℕ, zero, suc, ◌+◌, ◌-◌, ◌*◌, ◌/◌, ◌%◌, ◌≤◌, ◌<◌, bit_xor, Bool, true, ◌&&◌, eqb}
use Rattle.std.proofs.Common.{List, [], ◌∷◌, length, get_or, take, drop, refl, sym, ap, ap₂, ◌∙◌, arith, get_or-take}
use Rattle.std.proofs.Common.{get_or-drop, length-drop, length-take-le}
use Rattle.std.proofs.lemmas.Bool.Decides.{Decides-eqb}
use Rattle.std.proofs.lemmas.Bool.{and_parts}
use Rattle.std.proofs.lemmas.List.{drop_more, drop_all}
use Rattle.code_spec.specs.Field.{gf_add, gf_mul, gf_pow}
use Rattle.code_spec.specs.Code.{value_of}
use Rattle.code_laws.proofs.Field.{below, checked}
use Rattle.code_laws.proofs.Ring.{add_assoc, add_zero, mul_comm, mul_assoc, mul_one, add_mul, pow_zero, mul_below}
use Rattle.code_laws.proofs.Powers.{pow_suc}
use Rattle.code_laws.proofs.Words.{value_of-nil, value_of-cons, pow_turn}
use Rattle.rs_encode.specs.Lanes.{digit}
use Rattle.rs_encode.proofs.Lanes.{digit-xor}
use Rattle.rs_encode.proofs.Steps.{halves}
use Rattle.rs_decode.specs.declared.lanes.TheConstants.{ROWS}

-- the bytes of x from byte p down are c, c q, c q q and so on
is_geometric : ℕ → ℕ → ℕ → ℕ → Bool
is_geometric zero q c x = eqb (digit x 0) c
is_geometric (suc p) q c x = eqb (digit x (suc p)) c && is_geometric p q (gf_mul q c) x

-- the rows of n s, (n + 1) s and so on
are_geometric : ℕ → ℕ → ℕ → List ℕ → Bool
are_geometric q n s [] = true
are_geometric q n s (x ∷ xs) = is_geometric 15 q (n * s) x && are_geometric q (suc n) s xs

rows_test : ℕ → Bool
rows_test j = are_geometric (gf_pow 2 j) 0 1 (take 16 (drop (32 * j) ROWS))
    && are_geometric (gf_pow 2 j) 0 16 (take 16 (drop (32 * j + 16) ROWS))

rows_tested : below rows_test 16 ≡ true
unfolding rows_test are_geometric is_geometric digit gf_mul gf_pow
rows_tested = refl

rows_length : length ROWS ≡ 512
rows_length = refl

geometric_at : (p q c x : ℕ) → c < 256 → is_geometric p q c x ≡ true → (k m : ℕ) → k + m ≡ p
    → digit x m ≡ gf_mul c (gf_pow q k)
unfolding is_geometric
geometric_at zero q c x b e k m s =
    ap (digit x) (let h : m ≡ 0 = omega arith in h) ∙ (Decides-eqb (digit x 0) c).0 e
    ∙ sym (mul_one c b) ∙ ap (gf_mul c) (sym (ap (gf_pow q) (let h : k ≡ 0 = omega arith in h) ∙ pow_zero q))
geometric_at (suc p) q c x b e zero m s =
    ap (digit x) (let h : m ≡ suc p = omega arith in h)
    ∙ (Decides-eqb (digit x (suc p)) c).0 (and_parts (eqb (digit x (suc p)) c) (is_geometric p q (gf_mul q c) x) e).0
    ∙ sym (mul_one c b) ∙ ap (gf_mul c) (sym (pow_zero q))
geometric_at (suc p) q c x b e (suc k) m s =
    geometric_at p q (gf_mul q c) x (mul_below q c)
    (and_parts (eqb (digit x (suc p)) c) (is_geometric p q (gf_mul q c) x) e).1 k m (omega arith)
    ∙ ap (λ (y : ℕ). gf_mul y (gf_pow q k)) (mul_comm q c) ∙ mul_assoc c q (gf_pow q k)
    ∙ ap (gf_mul c) (sym (pow_suc q k))

are_at : (q n s : ℕ) (xs : List ℕ) → are_geometric q n s xs ≡ true → (i : ℕ) → i < length xs
    → is_geometric 15 q ((n + i) * s) (get_or xs i 0) ≡ true
unfolding are_geometric
are_at q n s [] e i l = absurd (omega arith)
are_at q n s (x ∷ xs) e zero l =
    ap (λ (y : ℕ). is_geometric 15 q (y * s) x) (let h : n + 0 ≡ n = omega arith in h)
    ∙ (and_parts (is_geometric 15 q (n * s) x) (are_geometric q (suc n) s xs) e).0
are_at q n s (x ∷ xs) e (suc i) l =
    ap (λ (y : ℕ). is_geometric 15 q (y * s) (get_or xs i 0)) (let h : n + suc i ≡ suc n + i = omega arith in h)
    ∙ are_at q (suc n) s xs (and_parts (is_geometric 15 q (n * s) x) (are_geometric q (suc n) s xs) e).1 i (omega arith)

-- a row of sixteen from o on
row_in : (o q s n : ℕ) (t : List ℕ) → length t ≡ 512 → o + 16 ≤ 512 → n < 16
    → are_geometric q 0 s (take 16 (drop o t)) ≡ true → is_geometric 15 q (n * s) (get_or t (o + n) 0) ≡ true
row_in o q s n t lt lo ln e =
    let len : length (take 16 (drop o t)) ≡ 16 = length-take-le 16 (drop o t) (omega (arith, length-drop o t)) in
    ap (λ (y : ℕ). is_geometric 15 q (n * s) y) (sym (get_or-take 16 (drop o t) n 0 ln ∙ get_or-drop o t n 0))
    ∙ ap (λ (y : ℕ). is_geometric 15 q (y * s) (get_or (take 16 (drop o t)) n 0))
    (let h : n ≡ 0 + n = omega arith in h)
    ∙ are_at q 0 s (take 16 (drop o t)) e n (omega arith)

-- the tests of one power
record AreRows (j : ℕ) : Type 0 where
  pub low : are_geometric (gf_pow 2 j) 0 1 (take 16 (drop (32 * j) ROWS)) ≡ true
  pub high : are_geometric (gf_pow 2 j) 0 16 (take 16 (drop (32 * j + 16) ROWS)) ≡ true

rows_are : (j : ℕ) → j < 16 → AreRows j
unfolding rows_test
rows_are j l =
    let h = and_parts (are_geometric (gf_pow 2 j) 0 1 (take 16 (drop (32 * j) ROWS)))
    (are_geometric (gf_pow 2 j) 0 16 (take 16 (drop (32 * j + 16) ROWS))) (checked rows_test 16 rows_tested j l) in
    record { low = h.0; high = h.1 }

low_row : (j n k p : ℕ) → j < 16 → n < 16 → k + p ≡ 15
    → digit (get_or ROWS (32 * j + n) 0) p ≡ gf_mul (n * 1) (gf_pow (gf_pow 2 j) k)
low_row j n k p lj ln e =
    geometric_at 15 (gf_pow 2 j) (n * 1) (get_or ROWS (32 * j + n) 0) (omega arith)
    (row_in (32 * j) (gf_pow 2 j) 1 n ROWS rows_length (omega arith) ln (rows_are j lj).low) k p e

high_row : (j n k p : ℕ) → j < 16 → n < 16 → k + p ≡ 15
    → digit (get_or ROWS (32 * j + 16 + n) 0) p ≡ gf_mul (n * 16) (gf_pow (gf_pow 2 j) k)
high_row j n k p lj ln e =
    geometric_at 15 (gf_pow 2 j) (n * 16) (get_or ROWS (32 * j + 16 + n) 0) (omega arith)
    (row_in (32 * j + 16) (gf_pow 2 j) 16 n ROWS rows_length (omega arith) ln (rows_are j lj).high) k p e

-- two rows are one of the whole byte
pub row_sum : (j f k p a b : ℕ) → j < 16 → f < 256 → k + p ≡ 15 → a ≡ get_or ROWS (32 * j + f % 16) 0
    → b ≡ get_or ROWS (32 * j + 16 + f / 16) 0 → digit (bit_xor a b) p ≡ gf_mul f (gf_pow (gf_pow 2 k) j)
row_sum j f k p a b lj lf e ea eb =
    let x : ℕ = gf_pow (gf_pow 2 j) k in
    digit-xor a b p
    ∙ ap₂ gf_add (ap (λ (y : ℕ). digit y p) ea ∙ low_row j (f % 16) k p lj (omega arith) e)
    (ap (λ (y : ℕ). digit y p) eb ∙ high_row j (f / 16) k p lj (omega arith) e)
    ∙ sym (add_mul (f % 16 * 1) (f / 16 * 16) x)
    ∙ ap₂ gf_mul (halves f) (pow_turn 2 j k)

-- one symbol more in the lane
pub lane_more : (lane row k p i : ℕ) (w : List ℕ) → i < length w
    → digit row p ≡ gf_mul (get_or w i 0) (gf_pow (gf_pow 2 k) (length w - 1 - i))
    → gf_add (digit lane p) (value_of (drop i w) (gf_pow 2 k)) ≡ value_of w (gf_pow 2 k)
    → gf_add (digit (bit_xor lane row) p) (value_of (drop (i + 1) w) (gf_pow 2 k)) ≡ value_of w (gf_pow 2 k)
lane_more lane row k p i w l e h =
    let x : ℕ = gf_pow 2 k in
    let c : ℕ = get_or w i 0 in
    let rest : List ℕ = drop (i + 1) w in
    let len : length w - 1 - i ≡ length rest = omega (arith, length-drop (i + 1) w) in
    ap (λ (y : ℕ). gf_add y (value_of rest x)) (digit-xor lane row p ∙ ap (gf_add (digit lane p)) e)
    ∙ add_assoc (digit lane p) (gf_mul c (gf_pow x (length w - 1 - i))) (value_of rest x)
    ∙ ap (gf_add (digit lane p)) (ap (λ (n : ℕ). gf_add (gf_mul c (gf_pow x n)) (value_of rest x)) len
    ∙ sym (value_of-cons c rest x) ∙ ap (λ (u : List ℕ). value_of u x) (sym (drop_more w i 0 l))) ∙ h

-- no symbols are left
pub lane_done : (lane k p i : ℕ) (w : List ℕ) → length w ≤ i
    → gf_add (digit lane p) (value_of (drop i w) (gf_pow 2 k)) ≡ value_of w (gf_pow 2 k)
    → digit lane p ≡ value_of w (gf_pow 2 k)
lane_done lane k p i w l h =
    sym (add_zero (digit lane p))
    ∙ ap (gf_add (digit lane p)) (sym (ap (λ (u : List ℕ). value_of u (gf_pow 2 k)) (drop_all i w l)
    ∙ value_of-nil (gf_pow 2 k))) ∙ h
