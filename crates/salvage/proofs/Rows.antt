-- Rows of multiples of a place's counts. For `rows_of`, `row_for` and `sums_of`.
use Rattle.std.proofs.Common.{◌≡◌, ℕ, ◌+◌, ◌-◌, drop, length-drop, ◌*◌, ◌^◌, ◌/◌, ◌%◌, ◌<◌, ◌≤◌, List, length, take}
use Rattle.std.proofs.Common.{get_or, bit_xor, sym, ap, ◌∙◌, subst, arith, if◌then◌else◌, Bool, get_or-take}
use Rattle.std.proofs.Common.{length-take}
use Rattle.std.proofs.lemmas.Bool.{lt-ltb, le-ltb}
use Rattle.code_spec.specs.Field.{gf_mul}
use Rattle.code_laws.proofs.Ring.{mul_comm}
use Rattle.rs_encode.specs.Lanes.{IsMultiple, digit}
use Rattle.rs_encode.proofs.Lanes.{multiple_sum}
use Rattle.rs_encode.proofs.Steps.{halves}
use Rattle.salvage.specs.declared.sieve.Weight.{Weight}
use Rattle.salvage.specs.Sieves.{AreRows, none, factor_of}

factor_low : (k f : ℕ) → f < 16 → factor_of (32 * k + f) ≡ f * 2 ^ 0
factor_low k f l =
    ap (λ (b : Bool). if b then (32 * k + f) % 32 else ((32 * k + f) % 32 - 16) * 16)
    (lt-ltb ((32 * k + f) % 32) 16 (omega arith)) ∙ (let e : (32 * k + f) % 32 ≡ f * 2 ^ 0 = omega arith in e)

factor_high : (k f : ℕ) → f < 16 → factor_of (32 * k + 16 + f) ≡ f * 2 ^ 4
factor_high k f l =
    ap (λ (b : Bool). if b then (32 * k + 16 + f) % 32 else ((32 * k + 16 + f) % 32 - 16) * 16)
    (le-ltb ((32 * k + 16 + f) % 32) 16 (omega arith))
    ∙ (let e : ((32 * k + 16 + f) % 32 - 16) * 16 ≡ f * 2 ^ 4 = omega arith in e)

pub low_row : (gs : List Weight) (rows : List ℕ) (k f : ℕ) → f < 16
    → IsMultiple (factor_of (32 * k + f)) (get_or gs ((32 * k + f) / 32) none).counts (get_or rows (32 * k + f) 0)
    → IsMultiple (f * 2 ^ 0) (get_or gs k none).counts (get_or rows (32 * k + f) 0)
low_row gs rows k f l h =
    subst (λ (n : ℕ). IsMultiple n (get_or gs k none).counts (get_or rows (32 * k + f) 0)) (factor_low k f l)
    (subst (λ (i : ℕ). IsMultiple (factor_of (32 * k + f)) (get_or gs i none).counts (get_or rows (32 * k + f) 0))
    (let e : (32 * k + f) / 32 ≡ k = omega arith in e) h)

pub high_row : (gs : List Weight) (rows : List ℕ) (k f : ℕ) → f < 16
    → IsMultiple (factor_of (32 * k + 16 + f)) (get_or gs ((32 * k + 16 + f) / 32) none).counts
    (get_or rows (32 * k + 16 + f) 0)
    → IsMultiple (f * 2 ^ 4) (get_or gs k none).counts (get_or rows (32 * k + 16 + f) 0)
high_row gs rows k f l h =
    subst (λ (n : ℕ). IsMultiple n (get_or gs k none).counts (get_or rows (32 * k + 16 + f) 0)) (factor_high k f l)
    (subst (λ (i : ℕ). IsMultiple (factor_of (32 * k + 16 + f)) (get_or gs i none).counts
    (get_or rows (32 * k + 16 + f) 0)) (let e : (32 * k + 16 + f) / 32 ≡ k = omega arith in e) h)

pub row_sum : (gs : List Weight) (rows : List ℕ) (k x : ℕ) → AreRows gs rows → k < length gs → x < 256
    → IsMultiple x (get_or gs k none).counts (bit_xor (get_or rows (32 * k + x % 16) 0)
    (get_or rows (32 * k + 16 + x / 16) 0))
row_sum gs rows k x h l b =
    multiple_sum (x % 16 * 2 ^ 0) (x / 16 * 2 ^ 4) x (get_or rows (32 * k + x % 16) 0)
    (get_or rows (32 * k + 16 + x / 16) 0) (get_or gs k none).counts (halves x)
    (h.low k (x % 16) l (omega arith)) (h.high k (x / 16) l (omega arith))

pub count_row : (gs : List Weight) (k x row i p : ℕ) → i + p ≡ 15 → IsMultiple x (get_or gs k none).counts row
    → digit row p ≡ gf_mul (get_or (get_or gs k none).counts i 0) x
count_row gs k x row i p e h = h.at i p e ∙ mul_comm x (get_or (get_or gs k none).counts i 0)

pub rows_taken : (m : ℕ) (gs : List Weight) (rows : List ℕ) → AreRows gs rows → AreRows (take m gs) rows
rows_taken m gs rows h = record {
  low = λ k f l n. subst (λ (g : Weight). IsMultiple (f * 2 ^ 0) g.counts (get_or rows (32 * k + f) 0))
      (sym (get_or-take m gs k none (omega (arith, l, length-take m gs))))
      (h.low k f (omega (arith, l, length-take m gs)) n);
  high = λ k f l n. subst (λ (g : Weight). IsMultiple (f * 2 ^ 4) g.counts (get_or rows (32 * k + 16 + f) 0))
      (sym (get_or-take m gs k none (omega (arith, l, length-take m gs))))
      (h.high k f (omega (arith, l, length-take m gs)) n);
}

pub length-range : (xs : List ℕ) (a b : ℕ) → a ≤ b → b ≤ length xs → length (take (b - a) (drop a xs)) ≡ b - a
length-range xs a b l m = omega (arith, l, m, length-take (b - a) (drop a xs), length-drop a xs)
