-- The runs of the touched blocks
use Rattle.std.proofs.Common.{◌≡◌, ◌≢◌, ℕ, zero, suc, ◌+◌, ◌-◌, ◌<◌, ◌≤◌, ◌⊎◌, max, Bool, true, false, ◌==◌, List, []}
use Rattle.std.proofs.Common.{◌∷◌, ◌++◌, filter, refl, ap, ap₂, ◌∙◌, arith, append-nil, inl, inr}
use Rattle.std.proofs.lemmas.Bool.{ne_eqb, eq-eqb, cases_lt, lt-ltb, le-ltb}
use Rattle.std.proofs.lemmas.Bool.Decides.{eqb_tells}
use Rattle.std.proofs.lemmas.List.Elements.{filter-append}
use Rattle.std.specs.List.{range_with_len, list_any}
use Rattle.list_laws.proofs.Ranges.{range_with_len-add}
use Rattle.zone_spec.specs.Touched.{before_runs, runs_of}
use Rattle.store_steps.specs.Counts.{runs_between}

abbrev pub has : List ℕ → ℕ → Bool
has bs b = list_any (λ c. c == b) bs

pub has_range : (a n b : ℕ) → a ≤ b → b < a + n → has (range_with_len a n) b ≡ true
has_range a zero b h k = absurd (omega arith)
has_range a (suc n) b h k = elim (eqb_tells a b) [
  | inl e ↦ rw e.0 refl
  | inr e ↦ rw e.0 (has_range (a + 1) n b (omega (arith, e.1)) (omega arith))
]

pub lacks_range : (a n b : ℕ) → (b < a) ⊎ (a + n ≤ b) → has (range_with_len a n) b ≡ false
lacks_range a zero b h = refl
lacks_range a (suc n) b h = rw (ne_eqb a b (λ e. elim h [ inl l ↦ omega (arith, e) | inr g ↦ omega (arith, e) ]))
    (lacks_range (a + 1) n b (elim h [ inl l ↦ inl (omega arith) | inr g ↦ inr (omega arith) ]))

-- the numbers from a up to e, and then those up to n
pub range_cut : (a e n : ℕ) → a ≤ e → e ≤ n → range_with_len a (n - a) ≡ range_with_len a (e - a) ++ range_with_len e
    (n - e)
range_cut a e n h k =
    (let l : n - a ≡ (e - a) + (n - e) = omega arith in ap (range_with_len a) l) ∙ range_with_len-add a (e - a) (n - e)
    ∙ (let m : a + (e - a) ≡ e = omega arith in ap (λ x. range_with_len a (e - a) ++ range_with_len x (n - e)) m)

filter_all : (test : ℕ → Bool) (a n : ℕ) → ((b : ℕ) → a ≤ b → b < a + n → test b ≡ true)
    → filter test (range_with_len a n) ≡ range_with_len a n
filter_all test a zero h = refl
filter_all test a (suc n) h = rw (h a (omega arith) (omega arith))
    (ap (λ xs. a ∷ xs) (filter_all test (a + 1) n (λ b l g. h b (omega arith) (omega arith))))

filter_none : (test : ℕ → Bool) (a n : ℕ) → ((b : ℕ) → a ≤ b → b < a + n → test b ≡ false)
    → filter test (range_with_len a n) ≡ []
filter_none test a zero h = refl
filter_none test a (suc n) h = rw (h a (omega arith) (omega arith))
    (filter_none test (a + 1) n (λ b l g. h b (omega arith) (omega arith)))

-- a row of numbers before runs of higher ones
runs_before : (a n : ℕ) (ys : List ℕ) (run : ℕ × ℕ) (rest : List (ℕ × ℕ)) → runs_of ys ≡ run ∷ rest
    → a + suc n ≢ run.0 → runs_of (range_with_len a (suc n) ++ ys) ≡ (a, a + n) ∷ (run ∷ rest)
unfolding runs_of
runs_before a zero ys run rest e h =
    ap (before_runs a) e ∙ (let ne : (a + 1 == run.0) ≡ false = ne_eqb (a + 1) run.0 (λ k. h (omega (arith, k))) in
    rw ne (let m : a ≡ a + 0 = omega arith in ap (λ x. (a, x) ∷ (run ∷ rest)) m))
runs_before a (suc n) ys run rest e h =
    ap (before_runs a) (runs_before (a + 1) n ys run rest e (λ k. h (omega (arith, k))))
    ∙ (let eq : (a + 1 == a + 1) ≡ true = eq-eqb (a + 1) (a + 1) refl in
    rw eq (let m : a + 1 + n ≡ a + suc n = omega arith in ap (λ x. (a, x) ∷ (run ∷ rest)) m))

runs_alone : (a n : ℕ) → runs_of (range_with_len a (suc n)) ≡ (a, a + n) ∷ []
unfolding runs_of
runs_alone a zero = let m : a ≡ a + 0 = omega arith in ap (λ x. (a, x) ∷ []) m
runs_alone a (suc n) =
    ap (before_runs a) (runs_alone (a + 1) n)
    ∙ (let eq : (a + 1 == a + 1) ≡ true = eq-eqb (a + 1) (a + 1) refl in
    rw eq (let m : a + 1 + n ≡ a + suc n = omega arith in ap (λ x. (a, x) ∷ []) m))

-- the numbers from a up to e as a run
run_alone : (a e : ℕ) → a < e → runs_of (range_with_len a (e - a)) ≡ (a, e - 1) ∷ []
run_alone a e h =
    (let l : e - a ≡ suc (e - a - 1) = omega arith in ap (λ n. runs_of (range_with_len a n)) l)
    ∙ runs_alone a (e - a - 1)
    ∙ (let m : a + (e - a - 1) ≡ e - 1 = omega arith in ap (λ x. (a, x) ∷ []) m)

runs_apart : (m a e : ℕ) → 0 < m → m < a → a < e → runs_of (range_with_len 0 (m - 0) ++ range_with_len a (e - a))
    ≡ (0, m - 1) ∷ ((a, e - 1) ∷ [])
runs_apart m a e some h k =
    (let l : m - 0 ≡ suc (m - 1) = omega arith in ap (λ n. runs_of (range_with_len 0 n ++ range_with_len a (e - a))) l)
    ∙ runs_before 0 (m - 1) (range_with_len a (e - a)) (a, e - 1) [] (run_alone a e k) (λ x. omega (arith, x))
    ∙ (let l : 0 + (m - 1) ≡ m - 1 = omega arith in ap (λ x. (0, x) ∷ ((a, e - 1) ∷ [])) l)

-- the touched blocks are those from a up to e, and those below m
pub record IsTouched (touched : List ℕ) (a e m : ℕ) : Type 0 where
  pub inside : (b : ℕ) → a ≤ b → b < e → has touched b ≡ true
  pub below : (b : ℕ) → b < m → has touched b ≡ true
  pub outside : (b : ℕ) → (b < a) ⊎ (e ≤ b) → m ≤ b → has touched b ≡ false

module _ (touched : List ℕ) (a e m n : ℕ) (order : a ≤ e) (fits : e ≤ n) (short : m ≤ n) (t : IsTouched touched a e m)
  where
    found : List ℕ
    found = filter (has touched) (range_with_len 0 (n - 0))

    -- those between x and y
    abbrev between : ℕ → ℕ → List ℕ
    between x y = filter (has touched) (range_with_len x (y - x))

    cut : (x y w : ℕ) → x ≤ y → y ≤ w → between x w ≡ between x y ++ between y w
    cut x y w h k = ap (filter (has touched)) (range_cut x y w h k)
        ∙ filter-append (has touched) (range_with_len x (y - x)) (range_with_len y (w - y))

    all_of : (x y : ℕ) → ((b : ℕ) → x ≤ b → b < y → has touched b ≡ true) → between x y ≡ range_with_len x (y - x)
    all_of x y h = filter_all (has touched) x (y - x) (λ b l g. h b l (omega arith))

    none_of : (x y : ℕ) → ((b : ℕ) → x ≤ b → b < y → has touched b ≡ false) → between x y ≡ []
    none_of x y h = filter_none (has touched) x (y - x) (λ b l g. h b l (omega arith))

    -- where the blocks from x up to y are touched, and those behind them are not
    front_only : (y : ℕ) → y ≤ n → ((b : ℕ) → b < y → has touched b ≡ true) → ((b : ℕ) → y ≤ b → has touched b ≡ false)
        → between 0 n ≡ range_with_len 0 (y - 0)
    front_only y h yes_ none =
        cut 0 y n (omega arith) h
        ∙ ap₂ (λ u v. u ++ v) (all_of 0 y (λ b l g. yes_ b g)) (none_of y n (λ b l g. none b l))
        ∙ append-nil (range_with_len 0 (y - 0))

    middle_only : m ≡ 0 → between 0 n ≡ range_with_len a (e - a)
    middle_only zero_m =
        cut 0 a n (omega arith) (omega arith)
        ∙ ap₂ (λ u v. u ++ v) (none_of 0 a (λ b l g. t.outside b (inl g) (omega arith))) (cut a e n order fits)
        ∙ ap₂ (λ u v. u ++ v) (all_of a e (λ b l g. t.inside b l g))
        (none_of e n (λ b l g. t.outside b (inr l) (omega arith)))
        ∙ append-nil (range_with_len a (e - a))

    both : m ≤ a → between 0 n ≡ range_with_len 0 (m - 0) ++ range_with_len a (e - a)
    both h =
        cut 0 m n (omega arith) short
        ∙ ap₂ (λ u v. u ++ v) (all_of 0 m (λ b l g. t.below b g)) (cut m a n h (omega arith))
        ∙ ap₂ (λ u v. range_with_len 0 (m - 0) ++ (u ++ v)) (none_of m a (λ b l g. t.outside b (inl g) l))
        (cut a e n order fits)
        ∙ ap₂ (λ u v. range_with_len 0 (m - 0) ++ (u ++ v)) (all_of a e (λ b l g. t.inside b l g))
        (none_of e n (λ b l g. t.outside b (inr l) (omega arith)))
        ∙ ap (λ xs. range_with_len 0 (m - 0) ++ xs) (append-nil (range_with_len a (e - a)))

    pub touched_runs_are : runs_of (filter (has touched) (range_with_len 0 n)) ≡ runs_between a e m
    unfolding runs_of
    touched_runs_are =
        let whole : filter (has touched) (range_with_len 0 n) ≡ between 0 n =
        (let l : n ≡ n - 0 = omega arith in ap (λ k. filter (has touched) (range_with_len 0 k)) l) in
        ap runs_of whole ∙ elim (eqb_tells a e) [
          | inl same ↦ rw same.0 (elim (eqb_tells m 0) [
            | inl none ↦ rw none.0 (ap runs_of (middle_only none.1
                ∙ (let l : e - a ≡ 0 = omega (arith, same.1) in ap (range_with_len a) l)))
            | inr some ↦ rw some.0 (ap runs_of (front_only m short (λ b g. t.below b g)
                (λ b l. t.outside b (elim (cases_lt b a) [ inl g ↦ inl g | inr g ↦ inr (omega (arith, same.1)) ]) l))
                ∙ run_alone 0 m (omega (arith, some.1)))
          ])
          | inr apart ↦ rw apart.0 (elim (eqb_tells m 0) [
            | inl none ↦ rw none.0 (ap runs_of (middle_only none.1) ∙ run_alone a e (omega (arith, apart.1)))
            | inr some ↦ rw some.0 (elim (cases_lt m a) [
              | inl less ↦ rw (lt-ltb m a less) (ap runs_of (both (omega arith))
                  ∙ runs_apart m a e (omega (arith, some.1)) less (omega (arith, apart.1)))
              | inr more ↦ rw (le-ltb m a more) (ap runs_of (front_only (max e m) (omega arith)
                  (λ b g. elim (cases_lt b m) [ inl l ↦ t.below b l | inr l ↦ t.inside b (omega arith) (omega arith) ])
                  (λ b l. t.outside b (inr (omega arith)) (omega arith)))
                  ∙ run_alone 0 (max e m) (omega (arith, some.1)))
            ])
          ])
        ]
