-- The word that passes a test, and the nearest codeword
use Rattle.std.proofs.Common.{◌≡◌, ℕ, zero, suc, ◌+◌, ◌/◌, ◌<◌, ◌≤◌, Bool, true, false, cond, ◌&&◌, nat_le, ◌==◌}
use Rattle.std.proofs.Common.{if◌then◌else◌, ◌⊎◌, List, [], ◌∷◌, ◌++◌, length, map, flat_map, find, refl, sym, ap, ◌∙◌}
use Rattle.std.proofs.Common.{subst, arith, inl, inr, Option, Some, IsTrue, leb-true, le-leb, eq-or-lt_of_le, eq-eqb}
use Rattle.std.proofs.Common.{ap₂}
use Rattle.std.specs.List.{range_with_len, AllByRecursion}
use Rattle.std.proofs.lemmas.Bool.Decides.{nat_tests}
use Rattle.std.proofs.lemmas.Bool.{and_parts, cases_eq, ne_eqb}
use Rattle.list_laws.proofs.Elements.{AllByRecursion-append}
pub use Rattle.code_spec.specs.Code.{IsNear}
use Rattle.code_spec.specs.Code.{IsWord, all_words, the_word, is_codeword, is_near, nearest, nearest_if, distance}

-- w is one of xs
pub Among : List ℕ → List (List ℕ) → Type 0
Among w [] = ⊥
Among w (x ∷ xs) = (w ≡ x) ⊎ Among w xs

module _ (test : List ℕ → Bool) where
  Among-front : (w : List ℕ) (xs ys : List (List ℕ)) → Among w xs → Among w (xs ++ ys)
  unfolding Among
  Among-front w [] ys h = absurd h
  Among-front w (x ∷ xs) ys (inl e) = inl e
  Among-front w (x ∷ xs) ys (inr h) = inr (Among-front w xs ys h)

  Among-back : (w : List ℕ) (xs ys : List (List ℕ)) → Among w ys → Among w (xs ++ ys)
  unfolding Among
  Among-back w [] ys h = h
  Among-back w (x ∷ xs) ys h = inr (Among-back w xs ys h)

  Among-map : (b : ℕ) (w : List ℕ) (xs : List (List ℕ)) → Among w xs → Among (b ∷ w) (map (λ x. b ∷ x) xs)
  unfolding Among
  Among-map b w [] h = absurd h
  Among-map b w (x ∷ xs) (inl e) = inl (ap (λ y. b ∷ y) e)
  Among-map b w (x ∷ xs) (inr h) = inr (Among-map b w xs h)

  -- a byte's words are among those of a run of bytes
  Among-bytes : (b n a : ℕ) (w : List ℕ) (xs : List (List ℕ)) → a ≤ b → b < a + n → Among w xs
      → Among (b ∷ w) (flat_map (λ c. map (λ x. c ∷ x) xs) (range_with_len a n))
  Among-bytes b zero a w xs h k m = absurd (omega arith)
  Among-bytes b (suc n) a w xs h k m = elim (eq-or-lt_of_le h) [
    | inl e ↦ Among-front (b ∷ w) (map (λ x. a ∷ x) xs) _
        (subst (λ c. Among (b ∷ w) (map (λ x. c ∷ x) xs)) (sym e) (Among-map b w xs m))
    | inr l ↦ Among-back (b ∷ w) (map (λ x. a ∷ x) xs) _ (Among-bytes b n (a + 1) w xs (omega arith) (omega arith) m)
  ]

  -- every word of n bytes is among those of n bytes
  Among-words : (n : ℕ) (w : List ℕ) → IsWord n w → Among w (all_words n)
  unfolding all_words Among
  Among-words zero [] h = inl refl
  Among-words zero (b ∷ bs) h = absurd (omega (arith, h.0))
  Among-words (suc n) [] h = absurd (omega (arith, h.0))
  Among-words (suc n) (b ∷ bs) h = Among-bytes b 256 0 bs (all_words n) (omega arith) (omega (arith, h.1.0))
      (Among-words n bs (omega (arith, h.0), h.1.1))

  -- all words of n bytes are such
  Words-map : (b n : ℕ) (xs : List (List ℕ)) → b < 256 → AllByRecursion (IsWord n) xs
      → AllByRecursion (IsWord (suc n)) (map (λ x. b ∷ x) xs)
  Words-map b n [] l h = tt
  Words-map b n (x ∷ xs) l h = ((ap suc h.0.0, (l, h.0.1)), Words-map b n xs l h.1)

  Words-bytes : (k a n : ℕ) (xs : List (List ℕ)) → a + k ≤ 256 → AllByRecursion (IsWord n) xs
      → AllByRecursion (IsWord (suc n)) (flat_map (λ c. map (λ x. c ∷ x) xs) (range_with_len a k))
  Words-bytes zero a n xs l h = tt
  Words-bytes (suc k) a n xs l h = AllByRecursion-append (IsWord (suc n)) (map (λ x. a ∷ x) xs) _
      (Words-map a n xs (omega arith) h) (Words-bytes k (a + 1) n xs (omega arith) h)

  Words-all : (n : ℕ) → AllByRecursion (IsWord n) (all_words n)
  unfolding all_words
  Words-all zero = ((refl, tt), tt)
  Words-all (suc n) = Words-bytes 256 0 n (all_words n) (omega arith) (Words-all n)

  found_by : (n : ℕ) (x w : List ℕ) (rest : Option (List ℕ)) (b : Bool) → IsWord n x
      → (rest ≡ Some w → IsTrue (test w) × IsWord n w) → test x ≡ b → cond b (Some x) rest ≡ Some w
      → IsTrue (test w) × IsWord n w
  found_by n x w rest true h go t e = let s : x ≡ w = cc in (ap test (sym s) ∙ t, subst (IsWord n) s h)
  found_by n x w rest false h go t e = go e

  found : (n : ℕ) (xs : List (List ℕ)) (w : List ℕ) → AllByRecursion (IsWord n) xs → find test xs ≡ Some w
      → IsTrue (test w) × IsWord n w
  found n [] w h e = cc
  found n (x ∷ xs) w h e = found_by n x w (find test xs) (test x) h.0 (found n xs w h.1) refl e

  finds_by : (x w : List ℕ) (rest : Option (List ℕ)) (b : Bool) → IsTrue (test w)
      → (w ≡ x) ⊎ ((v : List ℕ) × (rest ≡ Some v)) → test x ≡ b → (v : List ℕ) × (cond b (Some x) rest ≡ Some v)
  finds_by x w rest true t h s = (x, refl)
  finds_by x w rest false t (inl e) s = absurd (let c : test w ≡ false = ap test e ∙ s in let d : test w ≡ true = t in
      cc)
  finds_by x w rest false t (inr h) s = h

  finds : (xs : List (List ℕ)) (w : List ℕ) → Among w xs → IsTrue (test w) → (v : List ℕ) × (find test xs ≡ Some v)
  unfolding Among
  finds [] w h t = absurd h
  finds (x ∷ xs) w (inl e) t = finds_by x w (find test xs) (test x) t (inl e) refl
  finds (x ∷ xs) w (inr h) t = finds_by x w (find test xs) (test x) t (inr (finds xs w h t)) refl

  -- what the search gives passes
  pub the_word-passes : (n : ℕ) (w : List ℕ) → the_word n test ≡ Some w → IsTrue (test w) × IsWord n w
  unfolding the_word
  the_word-passes n w e = found n (all_words n) w (Words-all n) e

  -- where one passes, one is found
  pub the_word-finds : (n : ℕ) (w : List ℕ) → IsWord n w → IsTrue (test w) → (v : List ℕ) × (the_word n test ≡ Some v)
  unfolding the_word
  the_word-finds n w h t = finds (all_words n) w (Among-words n w h) t

-- ---- the nearest codeword

pub distance_self : (w : List ℕ) → distance w w ≡ 0
unfolding distance
distance_self [] = refl
distance_self (x ∷ xs) = rw (eq-eqb x x refl) (omega (arith, distance_self xs))

pub distance_zero : (u w : List ℕ) → length u ≡ length w → distance u w ≤ 0 → u ≡ w
unfolding distance
distance_zero [] [] e d = refl
distance_zero [] (b ∷ w) e d = absurd (omega arith)
distance_zero (a ∷ u) [] e d = absurd (omega arith)
distance_zero (a ∷ u) (b ∷ w) e d = go (cases_eq a b) (λ d'. distance_zero u w (omega arith) d')
  where
    go : (a ≡ b) ⊎ (a ≡ b → ⊥) → (distance u w ≤ 0 → u ≡ w) → (a ∷ u) ≡ (b ∷ w)
    go (inl s) ih = ap₂ ◌∷◌ s (ih (omega arith))
    go (inr n) ih = absurd (omega (arith, ap {B = ℕ} (λ (t : Bool). cond t 0 1) (ne_eqb a b n)))

-- what nearest gives is near
pub nearest-IsNear : (r : ℕ) (w c : List ℕ) → IsWord (length w) w → nearest r w ≡ Some c → IsNear r w c
unfolding nearest is_near
nearest-IsNear r w c h e = by (is_codeword r w) refl e
  where
    by : (b : Bool) → is_codeword r w ≡ b → nearest_if b r w ≡ Some c → IsNear r w c
    by true t e = let s : w ≡ c = cc in record {
      codeword = ap (is_codeword r) (sym s) ∙ t;
      within = rw (← s) (omega (arith, distance_self w));
      word = subst (IsWord (length w)) s h;
    }
    by false t e =
        let p : IsTrue (is_codeword r c && nat_le (distance w c) (r / 2)) × IsWord (length w) c =
        the_word-passes (is_near r w) (length w) c e in
        let q : IsTrue (is_codeword r c) × IsTrue (nat_le (distance w c) (r / 2)) =
        and_parts (is_codeword r c) (nat_le (distance w c) (r / 2)) p.0 in
        record { codeword = q.0; within = leb-true (distance w c) (r / 2) q.1; word = p.1 }

-- where some codeword is near, nearest gives one
pub nearest-some : (r : ℕ) (w c : List ℕ) → IsNear r w c → (d : List ℕ) × (nearest r w ≡ Some d)
unfolding nearest is_near
nearest-some r w c h = by (is_codeword r w)
  where
    near : IsTrue (is_codeword r c && nat_le (distance w c) (r / 2))
    near = rw (h.codeword, le-leb (distance w c) (r / 2) h.within) refl

    by : (b : Bool) → (d : List ℕ) × (nearest_if b r w ≡ Some d)
    by true = (w, refl)
    by false = the_word-finds (is_near r w) (length w) c h.word near

-- one place at most differs
differs : ℕ → ℕ → ℕ
differs a b = if a == b then 0 else 1

differs_by : (a b c : ℕ) → differs a c ≤ differs b a + differs b c
unfolding differs
differs_by a b c = grind (arith, nat_tests)

-- the distance of two words is at most the sum of theirs to a third of the same length
pub distance_triangle : (w c d : List ℕ) → length c ≡ length w → length d ≡ length w
    → distance c d ≤ distance w c + distance w d
unfolding distance differs
distance_triangle [] [] ds h k = omega arith
distance_triangle [] (c ∷ cs) ds h k = absurd (omega arith)
distance_triangle (w ∷ ws) [] ds h k = absurd (omega arith)
distance_triangle (w ∷ ws) (c ∷ cs) [] h k = absurd (omega arith)
distance_triangle (w ∷ ws) (c ∷ cs) (d ∷ ds) h k =
    omega (arith, differs_by c w d, distance_triangle ws cs ds (omega arith) (omega arith))

-- two different codewords are further apart than twice half the parity
abbrev pub IsApart : ℕ → ℕ → Type 0
IsApart r n = (c d : List ℕ) → IsWord n c → IsWord n d → IsTrue (is_codeword r c) → IsTrue (is_codeword r d)
    → distance c d ≤ r → c ≡ d

-- a near codeword is the nearest, where codewords are apart
pub nearest-is : (r : ℕ) (w c : List ℕ) → IsApart r (length w) → IsWord (length w) w → IsNear r w c
    → nearest r w ≡ Some c
nearest-is r w c apart word near =
    let some : (d : List ℕ) × (nearest r w ≡ Some d) = nearest-some r w c near in
    let found : IsNear r w some.0 = nearest-IsNear r w some.0 word some.1 in
    let close : distance some.0 c ≤ r = omega (
      arith,
      distance_triangle w some.0 c found.word.0 near.word.0,
      found.within,
      near.within,
    ) in
    some.1 ∙ ap Some (apart some.0 c found.word near.word found.codeword near.codeword close)
