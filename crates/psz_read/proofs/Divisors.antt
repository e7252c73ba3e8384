-- Euclid's algorithm of so many steps finds the greatest common divisor, and the step of marks is that
-- of their distances. For `gcd` and `gcd_is_greatest`.
use Rattle.std.proofs.Common.{◌≡◌, ℕ, zero, suc, ◌+◌, ◌-◌, ◌%◌, ◌<◌, ◌≤◌, refl, sym, ap, subst, arith}
use Rattle.std.proofs.Common.{Bool, true, false, List, [], ◌∷◌}
use Rattle.std.specs.Prelude.{◌==◌, if◌then◌else◌, Option, Some}
use Rattle.std.specs.Int.{IsGcd, ◌∣◌}
use Rattle.std.specs.List.{AllByRecursion}
use Rattle.std.proofs.lemmas.Nat.Gcd.{IsGcd-from_zero, IsGcd-from_mod, same_from_IsGcd, dvd_refl, dvd_trans}
use Rattle.std.proofs.lemmas.Nat.Gcd.{dvd-zero}
use Rattle.std.proofs.lemmas.Bool.Decides.{nat_tests}
use Rattle.psz_spec.specs.declared.Kind.{Kind}
use Rattle.psz_spec.specs.declared.Mark.{Mark}
use Rattle.psz_spec.specs.Records.{is_of}
use Rattle.psz_spec.specs.Marks.{gcd_in, gcd, first_of, step_after, step_by, step_of}
use Rattle.psz_read.specs.Laws.{distances}

gcd_step : (n a b : ℕ) (t : Bool) → (b == 0) ≡ t → (0 < b → IsGcd b (a % b) (gcd_in n b (a % b)))
    → IsGcd a b (if t then a else gcd_in n b (a % b))
gcd_step n a b true e h = IsGcd-from_zero a b (let z : b ≡ 0 = grind (arith, nat_tests) in z)
gcd_step n a b false e h =
    IsGcd-from_mod a b (gcd_in n b (a % b)) (h (let some : 0 < b = grind (arith, nat_tests) in some))

pub gcd_in_is : (n a b : ℕ) → b < n → IsGcd a b (gcd_in n a b)
unfolding gcd_in
gcd_in_is zero a b h = absurd (omega (arith, h))
gcd_in_is (suc n) a b h = gcd_step n a b (b == 0) refl
    (λ some. gcd_in_is n b (a % b) (let less : a % b < b = omega (arith, some) in omega (arith, less, h)))

pub gcd_is : (a b : ℕ) → IsGcd a b (gcd a b)
unfolding gcd
gcd_is a b = gcd_in_is (suc b) a b (omega arith)

pub same_as_gcd : (a b g : ℕ) → IsGcd a b g → g ≡ gcd a b
same_as_gcd a b g h = same_from_IsGcd a b g (gcd a b) h (gcd_is a b)

-- ---- the step of marks

divides_by : (t : Bool) (a b step dist : ℕ) (xs ys : List ℕ) → a ∣ step → a ∣ dist
    → AllByRecursion (λ (n : ℕ). a ∣ n) xs → b ∣ step → AllByRecursion (λ (n : ℕ). b ∣ n) ys
    → ((if t then a else b) ∣ step)
    × AllByRecursion (λ (n : ℕ). (if t then a else b) ∣ n) (if t then dist ∷ xs else ys)
divides_by true a b step dist xs ys p q r s u = (p, (q, r))
divides_by false a b step dist xs ys p q r s u = (s, u)

after_divides : (kind : Kind) (step last : ℕ) (ms : List Mark)
    → (step_after kind step last ms ∣ step)
    × AllByRecursion (λ (n : ℕ). step_after kind step last ms ∣ n) (distances kind last ms)
unfolding step_after distances
after_divides kind step last [] = (dvd_refl step, tt)
after_divides kind step last (m ∷ ms) =
    let g : IsGcd step (m.at - last) (gcd step (m.at - last)) = gcd_is step (m.at - last) in
    let a : ℕ = step_after kind (gcd step (m.at - last)) m.at ms in
    let p : (a ∣ gcd step (m.at - last)) × AllByRecursion (λ (n : ℕ). a ∣ n) (distances kind m.at ms) =
    after_divides kind (gcd step (m.at - last)) m.at ms in
    let q : (step_after kind step last ms ∣ step)
    × AllByRecursion (λ (n : ℕ). step_after kind step last ms ∣ n) (distances kind last ms) =
    after_divides kind step last ms in
    divides_by (is_of kind m.kind) a (step_after kind step last ms) step (m.at - last) (distances kind m.at ms)
    (distances kind last ms) (dvd_trans a p.0 g.0) (dvd_trans a p.0 g.1) p.1 q.0 q.1

greatest_by : (t : Bool) (d a b dist : ℕ) (xs ys : List ℕ)
    → (d ∣ dist → AllByRecursion (λ (n : ℕ). d ∣ n) xs → d ∣ a) → (AllByRecursion (λ (n : ℕ). d ∣ n) ys → d ∣ b)
    → AllByRecursion (λ (n : ℕ). d ∣ n) (if t then dist ∷ xs else ys) → d ∣ (if t then a else b)
greatest_by true d a b dist xs ys f g h = f h.0 h.1
greatest_by false d a b dist xs ys f g h = g h

after_greatest : (d : ℕ) (kind : Kind) (step last : ℕ) (ms : List Mark) → d ∣ step
    → AllByRecursion (λ (n : ℕ). d ∣ n) (distances kind last ms) → d ∣ step_after kind step last ms
unfolding step_after distances
after_greatest d kind step last [] p h = p
after_greatest d kind step last (m ∷ ms) p h =
    greatest_by (is_of kind m.kind) d (step_after kind (gcd step (m.at - last)) m.at ms) (step_after kind step last ms)
    (m.at - last) (distances kind m.at ms) (distances kind last ms)
    (λ q r. after_greatest d kind (gcd step (m.at - last)) m.at ms
    ((gcd_is step (m.at - last)).2 d p q) r) (λ r. after_greatest d kind step last ms p r) h

step_is : (kind : Kind) (first : Mark) (ms : List Mark) → first_of kind ms ≡ Some first
    → step_of kind ms ≡ step_after kind 0 first.at ms
unfolding step_of
step_is kind first ms e = ap (λ (f : Option Mark). step_by kind f ms) e

pub step_divides : (kind : Kind) (first : Mark) (ms : List Mark) → first_of kind ms ≡ Some first
    → AllByRecursion (λ (n : ℕ). step_of kind ms ∣ n) (distances kind first.at ms)
step_divides kind first ms e =
    let P : ℕ → Type 0 = λ s. AllByRecursion (λ (n : ℕ). s ∣ n) (distances kind first.at ms) in
    subst P (sym (step_is kind first ms e)) (after_divides kind 0 first.at ms).1

pub step_greatest : (kind : Kind) (first : Mark) (ms : List Mark) (d : ℕ) → first_of kind ms ≡ Some first
    → AllByRecursion (λ (n : ℕ). d ∣ n) (distances kind first.at ms) → d ∣ step_of kind ms
step_greatest kind first ms d e h =
    let P : ℕ → Type 0 = λ s. d ∣ s in
    subst P (sym (step_is kind first ms e)) (after_greatest d kind 0 first.at ms (dvd-zero d) h)

-- ---- a step of the code

pub divisor_zero : (a b : ℕ) → b ≡ 0 → IsGcd a b a
divisor_zero a b e = IsGcd-from_zero a b e

pub divisor_next : (a b g : ℕ) → IsGcd b (a % b) g → IsGcd a b g
divisor_next a b g h = IsGcd-from_mod a b g h
