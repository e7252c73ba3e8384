-- A stable sort by a test leaves the order of the definition, and by time that of a page's records. For
-- `newest_first`.
use Rattle.std.proofs.Common.{◌≡◌, ℕ, zero, suc, ◌+◌, ◌<◌, Bool, true, false, not, ◌&&◌, cond, List, [], ◌∷◌, length, map, refl, sym}
use Rattle.std.proofs.Common.{get_or, ap, ap₂, ◌∙◌, subst, arith, Option, None, Some}
use Rattle.std.specs.Prelude.{filter, ⊤, slice_index_or}
use Rattle.std.specs.List.{AllByRecursion}
use Rattle.std.specs.Cmp.{IsStrictWeakOrder}
use Rattle.std.specs.Borrow.{Bor}
use Rattle.std.specs.List.Sorted.{ties, IsPermutation, IsSortedBy, IsStableBy}
use Rattle.std.proofs.lemmas.List.Sorted.{sorted_far, IsPermutation-refl, IsPermutation-sym, IsPermutation-cons}
use Rattle.std.proofs.lemmas.List.Sorted.{IsPermutation-trans, IsPermutation-middle}
use Rattle.std.proofs.lemmas.List.{get_or-map, length-map}
use Rattle.std.proofs.lemmas.Bool.Decides.{nat_tests}
use Rattle.zone_spec.specs.declared.Time.{Time}
use Rattle.zone_spec.specs.Parts.{AreBytes}
use Rattle.report_spec.specs.Packed.{RecordShown, readable}
use Rattle.report_spec.specs.Newest.{is_later, later_than}
use Rattle.report_html.specs.Escaping.{HoldBytes}
use Rattle.report_html.specs.Order.{put_in, in_order, goes_before, newest_first, shown_in}

-- ---- lists in order by a test

module _ {X : Type 0} (lt : X → X → Bool) (o : IsStrictWeakOrder lt) where
  -- no element goes before an earlier one
  abbrev pub IsDown : List X → Type 0
  IsDown [] = ⊤
  IsDown (x ∷ xs) = AllByRecursion (λ y. lt y x ≡ false) xs × IsDown xs

  all-put : (P : X → Type 0) (x : X) (ys : List X) → P x → AllByRecursion P ys → AllByRecursion P (put_in lt x ys)
  unfolding put_in
  all-put P x [] h all = (h, tt)
  all-put P x (y ∷ ys) h all = by (all-put P x ys h all.1) (lt y x)
    where
      by : AllByRecursion P (put_in lt x ys) → (t : Bool)
          → AllByRecursion P (cond t (y ∷ put_in lt x ys) (x ∷ y ∷ ys))
      by more true = (all.0, more)
      by more false = (h, all)

  not-before : (x y : X) (zs : List X) → lt y x ≡ false → AllByRecursion (λ z. lt z y ≡ false) zs
      → AllByRecursion (λ z. lt z x ≡ false) zs
  not-before x y [] e all = tt
  not-before x y (z ∷ zs) e all = (o.chain z y x all.0 e, not-before x y zs e all.1)

  down-put : (x : X) (ys : List X) → IsDown ys → IsDown (put_in lt x ys)
  unfolding put_in
  down-put x [] down = (tt, tt)
  down-put x (y ∷ ys) down = by (down-put x ys down.1) (lt y x) refl
    where
      by : IsDown (put_in lt x ys) → (t : Bool) → lt y x ≡ t → IsDown (cond t (y ∷ put_in lt x ys) (x ∷ y ∷ ys))
      by more true e = (all-put (λ z. lt z y ≡ false) x ys (o.one_way y x e) down.0, more)
      by more false e = ((e, not-before x y ys e down.0), down)

  down-order : (xs : List X) → IsDown (in_order lt xs)
  unfolding in_order
  down-order [] = tt
  down-order (x ∷ xs) = down-put x (in_order lt xs) (down-order xs)

  down-from : (xs : List X) → IsSortedBy lt xs → IsDown xs
  down-from [] up = tt
  down-from (x ∷ xs) up = (
    all-after xs (λ j d h. sorted_far lt o (x ∷ xs) up 0 (suc j) d (omega arith) (omega (arith, h))),
    down-from xs (λ k d le h. subst (λ (n : ℕ). lt (slice_index_or (x ∷ xs) n d) (slice_index_or xs k d) ≡ false)
        (let e : suc k + 1 ≡ suc (k + 1) = omega arith in e) (up (suc k) d (omega arith) (omega (arith, h)))),
  )
    where
      all-after : (ys : List X) → ((j : ℕ) (d : X) → j < length ys → lt (slice_index_or ys j d) x ≡ false)
          → AllByRecursion (λ y. lt y x ≡ false) ys
      all-after [] h = tt
      all-after (y ∷ ys) h = (h 0 y (omega arith), all-after ys (λ j d l. h (suc j) d (omega (arith, l))))

  -- ---- ties

  tied : (x y : X) (a b : Bool) → lt x y ≡ a → lt y x ≡ b → ties lt x y ≡ true → (lt x y ≡ false) × (lt y x ≡ false)
  tied x y true b p q h = absurd (let e : false ≡ true = sym (ap (λ (c : Bool). not c && not (lt y x)) p) ∙ h in cc)
  tied x y false true p q h = absurd (let e : false ≡ true = sym (ap₂ (λ (c d : Bool). not c && not d) p q) ∙ h in cc)
  tied x y false false p q h = (p, q)

  -- what goes before the other ties with nothing that ties with it
  not-both : (x y z : X) → lt y z ≡ true → ties lt x z ≡ true → ties lt x y ≡ true → ⊥
  not-both x y z h p q =
      let e : false ≡ true = sym (o.chain y x z (tied x y _ _ refl refl q).1 (tied x z _ _ refl refl p).0) ∙ h in cc

  swapped : (x y z : X) (rest : List X) (a b : Bool) → ((a ≡ true) → (b ≡ true) → ⊥)
      → cond b (y ∷ cond a (z ∷ rest) rest) (cond a (z ∷ rest) rest)
      ≡ cond a (z ∷ cond b (y ∷ rest) rest) (cond b (y ∷ rest) rest)
  swapped x y z rest true true h = absurd (h refl refl)
  swapped x y z rest true false h = refl
  swapped x y z rest false true h = refl
  swapped x y z rest false false h = refl

  stable-put : (x z : X) (ys : List X) → filter (ties lt x) (put_in lt z ys) ≡ filter (ties lt x) (z ∷ ys)
  unfolding put_in
  stable-put x z [] = refl
  stable-put x z (y ∷ ys) = by (stable-put x z ys) (lt y z) refl
    where
      by : filter (ties lt x) (put_in lt z ys) ≡ filter (ties lt x) (z ∷ ys) → (t : Bool) → lt y z ≡ t
          → filter (ties lt x) (cond t (y ∷ put_in lt z ys) (z ∷ y ∷ ys)) ≡ filter (ties lt x) (z ∷ y ∷ ys)
      by more true e =
          ap (λ (qs : List X). cond (ties lt x y) (y ∷ qs) qs) more
          ∙ swapped x y z (filter (ties lt x) ys) (ties lt x z) (ties lt x y) (λ a b. not-both x y z e a b)
      by more false e = refl

  stable-order : (x : X) (xs : List X) → filter (ties lt x) (in_order lt xs) ≡ filter (ties lt x) xs
  unfolding in_order
  stable-order x [] = refl
  stable-order x (y ∷ ys) =
      stable-put x y (in_order lt ys)
      ∙ ap (λ (more : List X). cond (ties lt x y) (y ∷ more) more) (stable-order x ys)

  sorted-from : (xs : List X) → IsDown xs → IsSortedBy lt xs
  sorted-from [] down k d le h = absurd (omega (arith, h))
  sorted-from (x ∷ []) down k d le h = absurd (omega (arith, h))
  sorted-from (x ∷ y ∷ ys) down zero d le h = down.0.0
  sorted-from (x ∷ y ∷ ys) down (suc k) d le h =
      subst (λ (n : ℕ). lt (slice_index_or (x ∷ y ∷ ys) n d) (slice_index_or (y ∷ ys) k d) ≡ false)
      (let e : suc (k + 1) ≡ suc k + 1 = omega arith in e)
      (sorted-from (y ∷ ys) down.1 k d (omega arith) (omega (arith, h)))

  moved-put : (x : X) (ys : List X) → IsPermutation (x ∷ ys) (put_in lt x ys)
  unfolding put_in
  moved-put x [] = IsPermutation-refl (x ∷ [])
  moved-put x (y ∷ ys) = by (moved-put x ys) (lt y x)
    where
      by : IsPermutation (x ∷ ys) (put_in lt x ys) → (t : Bool)
          → IsPermutation (x ∷ y ∷ ys) (cond t (y ∷ put_in lt x ys) (x ∷ y ∷ ys))
      by more true =
          IsPermutation-trans (x ∷ y ∷ ys) (y ∷ x ∷ ys) (y ∷ put_in lt x ys)
          (IsPermutation-sym (y ∷ x ∷ ys) (x ∷ y ∷ ys) (IsPermutation-middle (y ∷ []) x ys))
          (IsPermutation-cons y (x ∷ ys) (put_in lt x ys) more)
      by more false = IsPermutation-refl (x ∷ y ∷ ys)

  moved-order : (xs : List X) → IsPermutation xs (in_order lt xs)
  unfolding in_order
  moved-order [] = IsPermutation-refl []
  moved-order (x ∷ xs) =
      IsPermutation-trans (x ∷ xs) (x ∷ in_order lt xs) (put_in lt x (in_order lt xs))
      (IsPermutation-cons x xs (in_order lt xs) (moved-order xs)) (moved-put x (in_order lt xs))

  -- ---- one order

  ties-itself : (x : X) → ties lt x x ≡ true
  ties-itself x = by (lt x x) refl
    where
      by : (t : Bool) → lt x x ≡ t → (not t && not t) ≡ true
      by true e = let f : false ≡ true = sym (o.one_way x x e) ∙ e in cc
      by false e = refl

  -- what goes before the first element ties with none
  none-tied : (x y : X) (zs : List X) → lt x y ≡ true → AllByRecursion (λ z. lt z y ≡ false) zs
      → filter (ties lt x) zs ≡ []
  none-tied x y [] e all = refl
  none-tied x y (z ∷ zs) e all =
      by (none-tied x y zs e all.1) (lt x z) refl
    where
      by : filter (ties lt x) zs ≡ [] → (t : Bool) → lt x z ≡ t → filter (ties lt x) (z ∷ zs) ≡ []
      by more true f =
          ap (λ (t : Bool). cond (not t && not (lt z x)) (z ∷ filter (ties lt x) zs) (filter (ties lt x) zs)) f ∙ more
      by more false f = let g : false ≡ true = sym (o.chain x z y f all.0) ∙ e in cc

  -- the first element of a list that ties with itself
  first-tied : (x : X) (xs : List X) → filter (ties lt x) (x ∷ xs) ≡ x ∷ filter (ties lt x) xs
  first-tied x xs = ap (λ (t : Bool). cond t (x ∷ filter (ties lt x) xs) (filter (ties lt x) xs)) (ties-itself x)

  not-first : (x y : X) (xs zs : List X) → lt x y ≡ true → AllByRecursion (λ z. lt z y ≡ false) zs
      → filter (ties lt x) (y ∷ zs) ≡ filter (ties lt x) (x ∷ xs) → ⊥
  not-first x y xs zs e all same =
      let none : filter (ties lt x) (y ∷ zs) ≡ [] = none-tied x y (y ∷ zs) e (after, all) in
      let f : [] ≡ x ∷ filter (ties lt x) xs = sym none ∙ same ∙ first-tied x xs in cc
    where
      after : lt y y ≡ false
      after = by (lt y y) refl
        where
          by : (t : Bool) → lt y y ≡ t → t ≡ false
          by true g = sym g ∙ o.one_way y y g
          by false g = refl

  rest-same : (t : Bool) (x y : X) (xs ys : List X) → x ≡ y → cond t (x ∷ xs) xs ≡ cond t (y ∷ ys) ys → xs ≡ ys
  rest-same true x y xs ys e h = cc
  rest-same false x y xs ys e h = h

  -- lists that are in order and whose ties stand alike are one
  one-order : (xs ys : List X) → IsDown xs → IsDown ys → ((x : X) → filter (ties lt x) xs ≡ filter (ties lt x) ys)
      → xs ≡ ys
  one-order [] [] down also same = refl
  one-order [] (y ∷ ys) down also same = let f : [] ≡ y ∷ filter (ties lt y) ys = same y ∙ first-tied y ys in cc
  one-order (x ∷ xs) [] down also same =
      let f : [] ≡ x ∷ filter (ties lt x) xs = sym (same x) ∙ first-tied x xs in cc
  one-order (x ∷ xs) (y ∷ ys) down also same = by (one-order xs ys down.1 also.1) (lt x y) (lt y x) refl refl
    where
      by : (((z : X) → filter (ties lt z) xs ≡ filter (ties lt z) ys) → xs ≡ ys) → (a b : Bool) → lt x y ≡ a
          → lt y x ≡ b → x ∷ xs ≡ y ∷ ys
      by more true b e f = absurd (not-first x y xs ys e also.0 (sym (same x)))
      by more false true e f = absurd (not-first y x ys xs f down.0 (same y))
      by more false false e f =
          let tie : ties lt x y ≡ true = ap₂ (λ (a b : Bool). not a && not b) e f in
          let heads : x ∷ filter (ties lt x) xs ≡ y ∷ filter (ties lt x) ys =
          sym (first-tied x xs) ∙ same x
          ∙ ap (λ (t : Bool). cond t (y ∷ filter (ties lt x) ys) (filter (ties lt x) ys)) tie in
          let first : x ≡ y = cc in
          ap₂ (λ (z : X) (zs : List X). z ∷ zs) first
          (more (λ z. rest-same (ties lt z x) x y (filter (ties lt z) xs)
          (filter (ties lt z) ys) first
          (same z ∙ ap (λ (w : X). cond (ties lt z w) (y ∷ filter (ties lt z) ys) (filter (ties lt z) ys)) (sym first))))

  -- what a stable sort leaves
  pub sorted-so : (xs ys : List X) → IsSortedBy lt ys → IsStableBy lt xs ys → ys ≡ in_order lt xs
  sorted-so xs ys up stable =
      one-order ys (in_order lt xs) (down-from ys up) (down-order xs) (λ x. stable x ∙ sym (stable-order x xs))

-- ---- by time

one-way : (t u : Option Time) → later_than t u ≡ true → later_than u t ≡ false
one-way None u e = cc
one-way (Some t) None e = refl
one-way (Some t) (Some u) e = grind (arith, nat_tests, e)

chain : (s t u : Option Time) → later_than s t ≡ false → later_than t u ≡ false → later_than s u ≡ false
chain None t u e f = refl
chain (Some s) None u e f = cc
chain (Some s) (Some t) None e f = cc
chain (Some s) (Some t) (Some u) e f = grind (arith, nat_tests, e, f)

abbrev pub before_in : Bor RecordShown → Bor RecordShown → Bool
before_in a b = goes_before a.now b.now

pub times-rank : IsStrictWeakOrder before_in
times-rank =
    record {
      one_way = λ a b e. one-way a.now.time b.now.time e;
      chain = λ a b c e f. chain a.now.time b.now.time c.now.time e f;
    }

records-rank : IsStrictWeakOrder goes_before
records-rank =
    record {
      one_way = λ a b e. one-way a.time b.time e;
      chain = λ a b c e f. chain a.time b.time c.time e f;
    }

pub newest-moved : (rs : List RecordShown) → IsPermutation rs (newest_first rs)
newest-moved rs = moved-order goes_before records-rank rs

pub newest-sorted : (rs : List RecordShown) → IsSortedBy goes_before (newest_first rs)
newest-sorted rs = sorted-from goes_before records-rank (newest_first rs) (down-order goes_before records-rank rs)

pub newest-stable : (rs : List RecordShown) → IsStableBy goes_before rs (newest_first rs)
newest-stable rs x = stable-order goes_before records-rank x rs

put-shown : (r : Bor RecordShown) (rs : List (Bor RecordShown))
    → shown_in (put_in before_in r rs) ≡ put_in goes_before r.now (shown_in rs)
unfolding put_in
put-shown r [] = refl
put-shown r (s ∷ ss) = by (put-shown r ss) (goes_before s.now r.now)
  where
    by : shown_in (put_in before_in r ss) ≡ put_in goes_before r.now (shown_in ss) → (t : Bool)
        → shown_in (cond t (s ∷ put_in before_in r ss) (r ∷ s ∷ ss))
        ≡ cond t (s.now ∷ put_in goes_before r.now (shown_in ss)) (r.now ∷ s.now ∷ shown_in ss)
    by more true = ap (λ (qs : List RecordShown). s.now ∷ qs) more
    by more false = refl

order-shown : (rs : List (Bor RecordShown)) → shown_in (in_order before_in rs) ≡ newest_first (shown_in rs)
unfolding in_order
order-shown [] = refl
order-shown (r ∷ rs) =
    put-shown r (in_order before_in rs) ∙ ap (λ (qs : List RecordShown). put_in goes_before r.now qs) (order-shown rs)

-- the references to records, sorted
pub records-sorted : (rs ss : List (Bor RecordShown)) → IsSortedBy before_in ss → IsStableBy before_in rs ss
    → shown_in ss ≡ newest_first (shown_in rs)
records-sorted rs ss up stable = ap shown_in (sorted-so before_in times-rank rs ss up stable) ∙ order-shown rs

-- ---- of records that hold bytes

all-held : (rs : List RecordShown) → HoldBytes rs → AllByRecursion (λ r. AreBytes (readable r)) rs
all-held [] h = tt
all-held (r ∷ rs) h = (h 0 r refl, all-held rs (λ k q e. h (suc k) q e))

held-each : (rs : List RecordShown) → AllByRecursion (λ r. AreBytes (readable r)) rs → HoldBytes rs
held-each [] all k r e = cc
held-each (q ∷ rs) all zero r e = let same : q ≡ r = cc in subst (λ (s : RecordShown). AreBytes (readable s)) same all.0
held-each (q ∷ rs) all (suc k) r e = held-each rs all.1 k r e

module _ (P : RecordShown → Type 0) where
  some-put : (r : RecordShown) (rs : List RecordShown) → AllByRecursion P (put_in goes_before r rs)
      → P r × AllByRecursion P rs
  unfolding put_in
  some-put r [] all = (all.0, tt)
  some-put r (s ∷ ss) all = by (some-put r ss) (goes_before s r) all
    where
      by : (AllByRecursion P (put_in goes_before r ss) → P r × AllByRecursion P ss) → (t : Bool)
          → AllByRecursion P (cond t (s ∷ put_in goes_before r ss) (r ∷ s ∷ ss)) → P r × (P s × AllByRecursion P ss)
      by more true all = let both = more all.1 in (both.0, (all.0, both.1))
      by more false all = (all.0, all.1)

  -- what holds of all in order holds of all
  some-order : (rs : List RecordShown) → AllByRecursion P (newest_first rs) → AllByRecursion P rs
  unfolding in_order
  some-order [] all = tt
  some-order (r ∷ rs) all =
      let both = some-put r (newest_first rs) all in (both.0, some-order rs both.1)

  also-put : (r : RecordShown) (rs : List RecordShown) → P r → AllByRecursion P rs
      → AllByRecursion P (put_in goes_before r rs)
  unfolding put_in
  also-put r [] h all = (h, tt)
  also-put r (s ∷ ss) h all = by (also-put r ss h all.1) (goes_before s r)
    where
      by : AllByRecursion P (put_in goes_before r ss) → (t : Bool)
          → AllByRecursion P (cond t (s ∷ put_in goes_before r ss) (r ∷ s ∷ ss))
      by more true = (all.0, more)
      by more false = (h, all)

  also-order : (rs : List RecordShown) → AllByRecursion P rs → AllByRecursion P (newest_first rs)
  unfolding in_order
  also-order [] all = tt
  also-order (r ∷ rs) all = also-put r (newest_first rs) all.0 (also-order rs all.1)

pub held-as-listed : (rs : List RecordShown) → HoldBytes (newest_first rs) → HoldBytes rs
held-as-listed rs h =
    held-each rs (some-order (λ r. AreBytes (readable r)) rs (all-held (newest_first rs) h))

pub held-in-order : (rs : List RecordShown) → HoldBytes rs → HoldBytes (newest_first rs)
held-in-order rs h =
    held-each (newest_first rs) (also-order (λ r. AreBytes (readable r)) rs (all-held rs h))

-- the record at a place
pub shown-at : (rs : List (Bor RecordShown)) (i : ℕ) (r : Bor RecordShown) → i < length rs → r ≡ get_or rs i r
    → r.now ≡ get_or (shown_in rs) i r.now
shown-at rs i r below is =
    let now : Bor RecordShown → RecordShown = λ q. q.now in
    ap now is ∙ sym (get_or-map now rs i r r.now below)

pub shown-len : (rs : List (Bor RecordShown)) → length (shown_in rs) ≡ length rs
shown-len rs = length-map rs (λ (q : Bor RecordShown). q.now)
