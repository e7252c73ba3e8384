-- Members of lists of numbers
use Rattle.std.proofs.Common.{◌≡◌, ℕ, zero, suc, ◌<◌, ◌≤◌, Bool, true, false, ◌||◌, ◌==◌, List, [], ◌∷◌, length, get_or, take}
use Rattle.std.proofs.Common.{refl, sym, ap, ◌∙◌, arith, true≢false, eqb-true}
use Rattle.std.specs.Prelude.{nat_le}
use Rattle.std.specs.List.{list_all}
use Rattle.std.proofs.lemmas.Bool.{and_parts, leb-true}
use Rattle.std.proofs.lemmas.Bool.Decides.{nat_tests}
use Rattle.layout_spec.specs.Family.{is_one_of}

-- what stands at a place is a member
pub member_at : (xs : List ℕ) (i : ℕ) → i < length xs → is_one_of (get_or xs i 0) xs ≡ true
member_at [] i h = absurd (omega (arith, h))
member_at (x ∷ xs) zero h =
    let same : (x == x) ≡ true = grind (arith, nat_tests) in ap (λ b. b || is_one_of x xs) same
member_at (x ∷ xs) (suc i) h =
    ap (λ b. (get_or xs i 0 == x) || b) (member_at xs i (omega (arith, h))) ∙ or_true (get_or xs i 0 == x)
  where
    or_true : (b : Bool) → (b || true) ≡ true
    or_true true = refl
    or_true false = refl

-- a place of a member
pub record IsAt (xs : List ℕ) (x : ℕ) : Type 0 where
  pub place : ℕ
  pub inside : place < length xs
  pub here : get_or xs place 0 ≡ x

pub place_of : (xs : List ℕ) (x : ℕ) → is_one_of x xs ≡ true → IsAt xs x
place_of [] x h = absurd (true≢false (sym h))
place_of (y ∷ ys) x h = step (x == y) refl h (place_of ys x)
  where
    step : (b : Bool) → (x == y) ≡ b → (b || is_one_of x ys) ≡ true → (is_one_of x ys ≡ true → IsAt ys x)
        → IsAt (y ∷ ys) x
    step true e k rest = record { place = 0; inside = omega arith; here = sym (eqb-true x y e) }
    step false e k rest =
        let at = rest k in record { place = suc at.place; inside = omega (arith, at.inside); here = at.here }

-- a place before k
pub record IsBefore (k : ℕ) (xs : List ℕ) (x : ℕ) : Type 0 where
  pub place : ℕ
  pub before : place < k
  pub here : get_or xs place 0 ≡ x

pub place_before : (k : ℕ) (xs : List ℕ) (x : ℕ) → is_one_of x (take k xs) ≡ true → IsBefore k xs x
place_before zero xs x h = absurd (true≢false (sym h))
place_before (suc k) [] x h = absurd (true≢false (sym h))
place_before (suc k) (y ∷ ys) x h = step (x == y) refl h (place_before k ys x)
  where
    step : (b : Bool) → (x == y) ≡ b → (b || is_one_of x (take k ys)) ≡ true
        → (is_one_of x (take k ys) ≡ true → IsBefore k ys x) → IsBefore (suc k) (y ∷ ys) x
    step true e w rest = record { place = 0; before = omega arith; here = sym (eqb-true x y e) }
    step false e w rest =
        let at = rest w in record { place = suc at.place; before = omega (arith, at.before); here = at.here }

-- a member is at most what all members are
pub member_le : (xs : List ℕ) (x most : ℕ) → list_all (λ y. nat_le y most) xs ≡ true → is_one_of x xs ≡ true → x ≤ most
member_le [] x most all h = absurd (true≢false (sym h))
member_le (y ∷ ys) x most all h =
    let parts = and_parts (nat_le y most) (list_all (λ y. nat_le y most) ys) all in
    step (x == y) refl h (member_le ys x most parts.1) (leb-true y most parts.0)
  where
    step : (b : Bool) → (x == y) ≡ b → (b || is_one_of x ys) ≡ true → (is_one_of x ys ≡ true → x ≤ most) → y ≤ most
        → x ≤ most
    step true e k rest le = omega (arith, eqb-true x y e, le)
    step false e k rest le = rest k
