-- One seat among others
use Rattle.std.proofs.Common.{◌≡◌, ◌≢◌, ℕ, zero, suc, ◌+◌, ◌<◌, Bool, true, false, cond, ◌==◌, List, [], ◌∷◌, ◌++◌}
use Rattle.std.proofs.Common.{length, take, drop, set, get_or, refl, ap, ◌∙◌, sym, subst, arith, Some, ◌⊎◌, inl, inr}
use Rattle.std.proofs.lemmas.Bool.{cases_eq, eqb-false}
use Rattle.std.proofs.lemmas.Option.{slice_get-get_or}
use Rattle.std.specs.Prelude.{slice_get}
use Rattle.shared_ring.specs.declared.seats.Seat.{Seat}
use Rattle.shared_ring.specs.Seats.{IsSeat, AreSeats, one_more, seats_stepped}

-- the seat that was read is one of them
pub seat_read : (seats : List Seat) (i : ℕ) (s : Seat) → i < length seats → s ≡ get_or seats i s
    → slice_get seats i ≡ Some s
seat_read seats i s h e = slice_get-get_or seats i s h ∙ ap Some (sym e)

pub is_seat : (cap : ℕ) (seats : List Seat) (i : ℕ) (s : Seat) → AreSeats cap seats → i < length seats
    → s ≡ get_or seats i s → IsSeat cap s
is_seat cap seats i s are h e = are.each i s (seat_read seats i s h e)

-- ---- lists with one item more, less or changed

module _ {A : Type 0} where
  pub more_cases : (xs : List A) (y x : A) (j : ℕ) → slice_get (xs ++ y ∷ []) j ≡ Some x
      → (slice_get xs j ≡ Some x) ⊎ (x ≡ y)
  more_cases [] y x zero e = inr cc
  more_cases [] y x (suc j) e = inl e
  more_cases (z ∷ zs) y x zero e = inl e
  more_cases (z ∷ zs) y x (suc j) e = more_cases zs y x j e

  -- an item that is left was one at another place
  abbrev pub Left : List A → ℕ → A → Type 0
  Left xs i x = (k : ℕ) × (k ≢ i) × (slice_get xs k ≡ Some x)

  pub left_of : (xs : List A) (i j : ℕ) (x : A) → slice_get (take i xs ++ drop (suc i) xs) j ≡ Some x → Left xs i x
  left_of [] zero j x e = cc
  left_of [] (suc i) j x e = cc
  left_of (y ∷ ys) zero j x e = (suc j, omega arith, e)
  left_of (y ∷ ys) (suc i) zero x e = (zero, omega arith, e)
  left_of (y ∷ ys) (suc i) (suc j) x e =
      let r : Left ys i x = left_of ys i j x e in (
        suc r.0,
        (let n : suc r.0 ≢ suc i =
            (λ q. r.1 (omega arith)) in n),
        r.2,
      )

  pub set_got : (xs : List A) (i : ℕ) (y x : A) → slice_get (set xs i y) i ≡ Some x → x ≡ y
  set_got [] i y x e = cc
  set_got (z ∷ zs) zero y x e = cc
  set_got (z ∷ zs) (suc i) y x e = set_got zs i y x e

  pub set_other : (xs : List A) (i j : ℕ) (y : A) → j ≢ i → slice_get (set xs i y) j ≡ slice_get xs j
  set_other [] i j y n = refl
  set_other (z ∷ zs) zero zero y n = absurd (n refl)
  set_other (z ∷ zs) zero (suc j) y n = refl
  set_other (z ∷ zs) (suc i) zero y n = refl
  set_other (z ∷ zs) (suc i) (suc j) y n = set_other zs i j y (λ q. n (omega arith))

  -- the three pieces
  pub set_pieces : (xs : List A) (i : ℕ) (y : A) → i < length xs → set xs i y ≡ (take i xs ++ y ∷ []) ++ drop (suc i) xs
  set_pieces [] i y h = absurd (omega arith)
  set_pieces (z ∷ zs) zero y h = refl
  set_pieces (z ∷ zs) (suc i) y h = ap (λ ys. z ∷ ys) (set_pieces zs i y (omega arith))

-- ---- a step

-- what is so of the other seats, and of the seat with a byte more if it is not given back, is so of all after the step
pub each_stepped : (P : Seat → Type 0) (seats : List Seat) (i : ℕ) (s : Seat)
    → ((j : ℕ) (x : Seat) → slice_get seats j ≡ Some x → j ≢ i → P x)
    → (s.stored + 1 ≢ length s.payload → P (one_more s))
    → (j : ℕ) (x : Seat) → slice_get (seats_stepped seats i s) j ≡ Some x → P x
each_stepped P seats i s others own = by (s.stored + 1 == length s.payload) refl
  where
    by : (b : Bool) → (s.stored + 1 == length s.payload) ≡ b → (j : ℕ) (x : Seat)
        → slice_get (cond b (take i seats ++ drop (i + 1) seats) (set seats i (one_more s))) j ≡ Some x → P x
    by true t j x e =
        let n : i + 1 ≡ suc i = omega arith in
        let r : Left seats i x = left_of seats i j x
        (ap (λ m. slice_get (take i seats ++ drop m seats) j) (sym n) ∙ e) in
        others r.0 x r.2 r.1
    by false f j x e = elim (cases_eq j i) [
      | inl a ↦
          (let g : slice_get (set seats i (one_more s)) i ≡ Some x =
          ap (slice_get (set seats i (one_more s))) (sym a) ∙ e in
          let q : x ≡ one_more s = set_got seats i (one_more s) x g in
          subst P (sym q) (own (eqb-false (s.stored + 1) (length s.payload) f)))
      | inr n ↦ others j x (sym (set_other seats i j (one_more s) n) ∙ e) n
    ]

pub are_stepped : (cap : ℕ) (seats : List Seat) (i : ℕ) (s : Seat) → slice_get seats i ≡ Some s
    → AreSeats cap seats → AreSeats cap (seats_stepped seats i s)
are_stepped cap seats i s e are = record {
  each = each_stepped (IsSeat cap) seats i s (λ j x g n. are.each j x g) (λ n.
      let was : IsSeat cap s = are.each i s e in
      record { place = was.place; stored = omega arith; long = was.long });
}

pub are_more : (cap : ℕ) (seats : List Seat) (s : Seat) → AreSeats cap seats → IsSeat cap s
    → AreSeats cap (seats ++ s ∷ [])
are_more cap seats s are is = record {
  each = λ j x e. elim (more_cases seats s x j e) [
    | inl g ↦ are.each j x g
    | inr q ↦ subst (IsSeat cap) (sym q) is
  ];
}
