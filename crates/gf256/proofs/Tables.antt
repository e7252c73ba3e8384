-- The tables hold the powers of 2 and the logarithms, and lead every product with 0 to 0
use Rattle.std.proofs.Common.{◌≡◌, ◌≢◌, ℕ, zero, suc, ◌+◌, ◌≤◌, ◌<◌, refl, sym, ap, ◌∙◌, arith, Bool, true, ◌&&◌, eqb}
use Rattle.std.proofs.Common.{ltb, List, [], ◌∷◌, length, get_or, take, drop, replicate, get_or-take, get_or-drop}
use Rattle.std.proofs.Common.{zero-add}
use Rattle.std.proofs.lemmas.Bool.Decides.{Decides-eqb, Decides-ltb}
use Rattle.std.proofs.lemmas.Bool.{and_parts}
use Rattle.list_laws.proofs.Elements.{get_or-replicate_default}
use Rattle.code_spec.specs.Field.{gf_mul, gf_pow}
use Rattle.code_laws.proofs.Ring.{zero_mul, one_mul, mul_one, mul_below, pow_below, pow_zero, pow_add}
use Rattle.code_laws.proofs.Powers.{pow_double}
use Rattle.gf256.specs.declared.TheConstants.{POWERS, LOGARITHMS}

-- a list holds x, 2 x, 4 x and so on
holds_powers : ℕ → List ℕ → Bool
holds_powers x [] = true
holds_powers x (c ∷ cs) = eqb c x && holds_powers (gf_mul 2 x) cs

holds_at : (x : ℕ) (cs : List ℕ) → x < 256 → holds_powers x cs ≡ true → (i : ℕ) → i < length cs
    → get_or cs i 0 ≡ gf_mul (gf_pow 2 i) x
unfolding holds_powers
holds_at x [] b e i l = absurd (omega arith)
holds_at x (c ∷ cs) b e zero l =
    (Decides-eqb c x).0 (and_parts (eqb c x) (holds_powers (gf_mul 2 x) cs) e).0 ∙ sym (one_mul x b)
    ∙ ap (λ (y : ℕ). gf_mul y x) (sym (pow_zero 2))
holds_at x (c ∷ cs) b e (suc i) l =
    holds_at (gf_mul 2 x) cs (mul_below 2 x) (and_parts (eqb c x) (holds_powers (gf_mul 2 x) cs) e).1 i (omega arith)
    ∙ pow_double i x

powers_test : holds_powers 1 (take 510 POWERS) ≡ true
unfolding holds_powers gf_mul
powers_test = refl

powers_length : length (take 510 POWERS) ≡ 510
powers_length = refl

pub power_is : (i : ℕ) → i < 510 → get_or POWERS i 0 ≡ gf_pow 2 i
power_is i l =
    sym (get_or-take 510 POWERS i 0 l)
    ∙ holds_at 1 (take 510 POWERS) (omega arith) powers_test i (rw powers_length l)
    ∙ mul_one (gf_pow 2 i) (pow_below 2 i)

zeros_behind : drop 510 POWERS ≡ replicate 256 0
zeros_behind = refl

zero_is : (n : ℕ) → get_or POWERS (510 + n) 0 ≡ 0
zero_is n =
    sym (get_or-drop 510 POWERS n 0) ∙ ap (λ (w : List ℕ). get_or w n 0) zeros_behind
    ∙ get_or-replicate_default 256 n 0

-- entry by entry, the logarithm of a is below 255, and 2 to it is a
logs_hold : ℕ → List ℕ → Bool
logs_hold a [] = true
logs_hold a (c ∷ cs) = (ltb c 255 && eqb (get_or POWERS c 0) a) && logs_hold (suc a) cs

logs_at : (a : ℕ) (cs : List ℕ) → logs_hold a cs ≡ true → (i : ℕ) → i < length cs
    → (get_or cs i 0 < 255) × (get_or POWERS (get_or cs i 0) 0 ≡ i + a)
unfolding logs_hold
logs_at a [] e i l = absurd (omega arith)
logs_at a (c ∷ cs) e zero l =
    let h = and_parts (ltb c 255 && eqb (get_or POWERS c 0) a) (logs_hold (suc a) cs) e in
    let h' = and_parts (ltb c 255) (eqb (get_or POWERS c 0) a) h.0 in
    ((Decides-ltb c 255).0 h'.0, (Decides-eqb (get_or POWERS c 0) a).0 h'.1 ∙ sym (zero-add a))
logs_at a (c ∷ cs) e (suc i) l =
    let h = and_parts (ltb c 255 && eqb (get_or POWERS c 0) a) (logs_hold (suc a) cs) e in
    let r = logs_at (suc a) cs h.1 i (omega arith) in
    (r.0, r.1 ∙ omega arith)

logs_test : logs_hold 1 (drop 1 LOGARITHMS) ≡ true
unfolding logs_hold
logs_test = refl

logs_length : length (drop 1 LOGARITHMS) ≡ 255
logs_length = refl

log_of_zero : get_or LOGARITHMS 0 0 ≡ 510
log_of_zero = refl

log_is : (a : ℕ) → suc a < 256 → (get_or LOGARITHMS (suc a) 0 < 255) × (gf_pow 2 (get_or LOGARITHMS (suc a) 0) ≡ suc a)
log_is a l =
    let e : 1 + a ≡ suc a = omega arith in
    let n : ℕ = get_or LOGARITHMS (suc a) 0 in
    let there : get_or (drop 1 LOGARITHMS) a 0 ≡ n =
    get_or-drop 1 LOGARITHMS a 0 ∙ ap (λ (i : ℕ). get_or LOGARITHMS i 0) e in
    let r = logs_at 1 (drop 1 LOGARITHMS) logs_test a (rw logs_length (omega arith)) in
    let below : n < 255 = omega (arith, r.0, there) in
    (below, sym (power_is n (omega arith)) ∙ ap (λ (i : ℕ). get_or POWERS i 0) (sym there) ∙ r.1 ∙ omega arith)

pub log_some : (a : ℕ) → a < 256 → a ≢ 0
    → (get_or LOGARITHMS a 0 < 255) × (gf_pow 2 (get_or LOGARITHMS a 0) ≡ a)
log_some zero l n = absurd (n refl)
log_some (suc a) l n = log_is a l

pub log_below : (a : ℕ) → a < 256 → get_or LOGARITHMS a 0 ≤ 510
log_below zero l = omega (arith, log_of_zero)
log_below (suc a) l = omega (arith, (log_is a l).0)

pub product_is : (a n : ℕ) → a < 256 → n < 256 → get_or POWERS (get_or LOGARITHMS a 0 + n) 0 ≡ gf_mul a (gf_pow 2 n)
product_is zero n l b =
    ap (λ (i : ℕ). get_or POWERS (i + n) 0) log_of_zero ∙ zero_is n ∙ sym (zero_mul (gf_pow 2 n))
product_is (suc a) n l b =
    let h = log_is a l in
    let i : ℕ = get_or LOGARITHMS (suc a) 0 in
    power_is (i + n) (omega (arith, h.0)) ∙ pow_add 2 i n ∙ ap (λ (x : ℕ). gf_mul x (gf_pow 2 n)) h.1
