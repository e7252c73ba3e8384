-- What the state that a boot reads says of the words
use Rattle.std.proofs.Common.{◌≡◌, ℕ, zero, suc, ◌+◌, ◌-◌, ◌*◌, ◌/◌, ◌<◌, ◌≤◌, Bool, true, false, cond, ◌||◌, ◌==◌}
use Rattle.std.proofs.Common.{nat_lt, List, ◌∷◌, ◌++◌, map, refl, sym, ap₂, ◌∙◌, arith, inl, inr, ltb-false, eq-eqb}
use Rattle.std.proofs.Common.{add-mul, mul_comm}
use Rattle.std.proofs.Math.Nat.{le-div_iff_mul-le}
use Rattle.std.proofs.lemmas.Bool.Decides.{nat_tests}
use Rattle.std.proofs.lemmas.Bool.{cases_eq}
use Rattle.std.specs.List.{range_with_len}
use Rattle.std.proofs.lemmas.List.{map-append}
use Rattle.zone_spec.specs.declared.Zone.{Zone}
use Rattle.zone_spec.specs.declared.Words.{Words}
use Rattle.zone_spec.specs.declared.State.{State}
use Rattle.zone_spec.specs.declared.State.TheVariants.{Unsigned, Empty, Invalid, Found}
use Rattle.zone_spec.specs.PartReadings.{words_read}
use Rattle.zone_spec.specs.Reading.{log_places, state_of, reading_in, zone_reading}

abbrev pub Says : Zone → Words → State → Type 0
Says z w Unsigned = Unit {0}
Says z w Empty = (w.sig ≡ z.sig) × (w.size ≡ 0) × (w.start ≡ 0)
Says z w Invalid = w.sig ≡ z.sig
Says z w Found = (w.sig ≡ z.sig) × (w.size ≤ z.cap) × (w.start ≤ w.size)

module _ (z : Zone) where
  says_by : (w : Words) (b c : Bool) → nat_lt z.cap w.size ≡ b → nat_lt w.size w.start ≡ c → w.sig ≡ z.sig
      → Says z w (cond (b || c) Invalid Found)
  says_by w true c h k e = e
  says_by w false true h k e = e
  says_by w false false h k e = (e, ltb-false z.cap w.size h, ltb-false w.size w.start k)

  invalid_or : (w : Words) → w.sig ≡ z.sig → Says z w (cond (nat_lt z.cap w.size || nat_lt w.size w.start)
      Invalid Found)
  invalid_or w e = says_by w _ _ refl refl e

  pub state_says : (w : Words) → Says z w (state_of z w)
  state_says w = elim (cases_eq w.sig z.sig) [
    | inr ne ↦ (let n : (w.sig == z.sig) ≡ false = grind (arith, nat_tests) in rw n tt)
    | inl e ↦ rw (eq-eqb w.sig z.sig e) (elim (cases_eq w.size 0) [
      | inl a ↦ elim (cases_eq w.start 0) [
        | inl b ↦ rw (eq-eqb w.size 0 a, eq-eqb w.start 0 b) (e, a, b)
        | inr c ↦ (let n : (w.start == 0) ≡ false = grind (arith, nat_tests) in
            rw (eq-eqb w.size 0 a, n) (invalid_or w e))
      ]
      | inr c ↦ (let n : (w.size == 0) ≡ false = grind (arith, nat_tests) in rw n (invalid_or w e))
    ])
  ]

  pub words_in_reading : (image : List ℕ) (w : Words) (s : State) → (reading_in z image w s).words ≡ w
  words_in_reading image w Found = refl
  words_in_reading image w Unsigned = refl
  words_in_reading image w Empty = refl
  words_in_reading image w Invalid = refl

  pub state_in_reading : (image : List ℕ) (w : Words) (s : State) → (reading_in z image w s).state ≡ s
  state_in_reading image w Found = refl
  state_in_reading image w Unsigned = refl
  state_in_reading image w Empty = refl
  state_in_reading image w Invalid = refl

  pub reading_words : (image : List ℕ) → (zone_reading z image).words ≡ words_read z image
  unfolding zone_reading
  reading_words image = words_in_reading image (words_read z image) (state_of z (words_read z image))

  pub reading_state : (image : List ℕ) → (zone_reading z image).state ≡ state_of z (words_read z image)
  unfolding zone_reading
  reading_state image = state_in_reading image (words_read z image) (state_of z (words_read z image))

  pub reading_is : (image : List ℕ) → zone_reading z image ≡ reading_in z image (words_read z image)
      (state_of z (words_read z image))
  unfolding zone_reading
  reading_is image = refl

-- ---- maps over the places of a log

pub range_same : (f g : ℕ → ℕ) (n a : ℕ) → ((p : ℕ) → a ≤ p → p < a + n → f p ≡ g p)
    → map f (range_with_len a n) ≡ map g (range_with_len a n)
range_same f g zero a h = refl
range_same f g (suc n) a h = ap₂ (λ x xs. x ∷ xs) (h a (omega arith) (omega arith))
    (range_same f g n (a + 1) (λ p k l. h p (omega arith) (omega arith)))

pub log_same : (f g : ℕ → ℕ) (start size : ℕ) → start ≤ size → ((p : ℕ) → p < size → f p ≡ g p)
    → map f (log_places start size) ≡ map g (log_places start size)
log_same f g start size l h =
    map-append f (range_with_len start (size - start)) (range_with_len 0 start)
    ∙ ap₂ (λ xs ys. xs ++ ys) (range_same f g (size - start) start (λ p a b. h p (omega arith)))
    (range_same f g start 0 (λ p a b. h p (omega arith)))
    ∙ sym (map-append g (range_with_len start (size - start)) (range_with_len 0 start))

-- the blocks that begin below x
pub below_count : (k x b : ℕ) → 0 < k → b < ((x + k) - 1) / k → k * b < x
below_count k x b some h =
    let l : (b + 1) * k ≤ (x + k) - 1 = (le-div_iff_mul-le some).0
    (let m : b + 1 ≤ ((x + k) - 1) / k = omega arith in m) in
    omega (arith, add-mul b 1 k, mul_comm b k)

pub count_below : (k x b : ℕ) → 0 < k → k * b < x → b < ((x + k) - 1) / k
count_below k x b some h =
    let l : b + 1 ≤ ((x + k) - 1) / k = (le-div_iff_mul-le some).1 (omega (arith, add-mul b 1 k, mul_comm b k)) in
    omega arith
