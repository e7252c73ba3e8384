-- The polynomial of a word: symbols in front of it and behind it, zeros, sums, shifts, and its value at a reciprocal.
-- For Chien's search and Forney's formula, and for `reduce` and `solve` in rs_decode.
use Rattle.list_laws.proofs.Elements.{get_or-replicate_default}
use Rattle.std.proofs.Common.{◌≡◌, ℕ, zero, suc, ◌+◌, ◌≤◌, ◌<◌, refl, sym, ap, ap₂, ◌∙◌, arith, List, [], ◌∷◌, ◌++◌}
use Rattle.std.proofs.Common.{length, get_or, replicate, take, drop, get_or-drop, length-drop, ◌≢◌, ◌-◌, subst, reverse}
use Rattle.std.proofs.Common.{◌⊎◌, inl, inr, length-append, add-zero, append_assoc, zero-add, append-nil}
use Rattle.code_spec.specs.Field.{gf_add, gf_mul, gf_pow}
use Rattle.code_laws.proofs.Ring.{zero_add, mul_one, ring, one_mul, pow_below, zero_mul, pow_suc, pow_zero}
use Rattle.decoder_laws.specs.Series.{cons, plus, scale, times, none, Below, shift, one, Bytes, horner}
use Rattle.code_laws.proofs.Symbols.{IsAdded}
use Rattle.decoder_laws.specs.Polynomials.{poly, poly_on, LeadingZeros}
use Rattle.decoder_laws.proofs.Series.{plus-none, scale-none, times-one_left, times-scale_left, times-shift_left}
use Rattle.decoder_laws.proofs.Series.{shift-cons, none-bytes}
use Rattle.std.proofs.lemmas.Bool.{cases_lt}
use Rattle.std.proofs.lemmas.List.{length-replicate, length-reverse, get_or-reverse, get_or_past, get_or_append_left}
use Rattle.std.proofs.lemmas.List.{get_or-append_right, reverse-append, get_or_push}
use Rattle.list_laws.proofs.Elements.{replicate_from_places}
use Rattle.code_spec.specs.Code.{value_of}
use Rattle.code_laws.proofs.Words.{value_of-nil, value_of-push}
use Rattle.decoder_laws.proofs.Horner.{horner-tail, horner-none, horner_at_zero}

pub poly_on-append : (p : ℕ → ℕ) (u w : List ℕ) → poly_on p (u ++ w) ≡ poly_on (poly_on p u) w
poly_on-append p [] w = refl
poly_on-append p (c ∷ u) w = poly_on-append (cons c p) u w

pub poly-nil : poly [] ≡ none
unfolding poly
poly-nil = refl

pub poly-push : (w : List ℕ) (c : ℕ) → poly (w ++ c ∷ []) ≡ cons c (poly w)
unfolding poly
poly-push w c = poly_on-append none w (c ∷ [])

cons_plus : (a b c f : ℕ) (p q r : ℕ → ℕ) → a ≡ gf_add b (gf_mul f c) → p ≡ plus q (scale f r)
    → cons a p ≡ plus (cons b q) (scale f (cons c r))
unfolding plus scale
cons_plus a b c f p q r e h = λ i k. at k i
  where
    at : (k : ℕ) → cons a p k ≡ gf_add (cons b q k) (gf_mul f (cons c r k))
    at zero = e
    at (suc k) = ap (λ (g : ℕ → ℕ). g k) h

poly_on-added : (f : ℕ) (p q r : ℕ → ℕ) (n m b : List ℕ) → IsAdded f n m b → p ≡ plus q (scale f r)
    → poly_on p n ≡ plus (poly_on q m) (scale f (poly_on r b))
poly_on-added f p q r [] [] [] h e = e
poly_on-added f p q r [] [] (z ∷ b) h e = absurd (let l = h.length_b in cc)
poly_on-added f p q r [] (y ∷ m) b h e = absurd (let l = h.length_m in cc)
poly_on-added f p q r (x ∷ n) [] b h e = absurd (let l = h.length_m in cc)
poly_on-added f p q r (x ∷ n) (y ∷ m) [] h e = absurd (let l = h.length_b in cc)
poly_on-added f p q r (x ∷ n) (y ∷ m) (z ∷ b) h e =
    poly_on-added f (cons x p) (cons y q) (cons z r) n m b
    (record {
      length_m = omega (arith, h.length_m);
      length_b = omega (arith, h.length_b);
      at = λ k l. h.at (suc k) (omega arith);
    })
    (cons_plus x y z f p q r (h.at 0 (omega arith)) e)

pub poly-added : (f : ℕ) (u n m b : List ℕ) → IsAdded f n m b → poly (u ++ n) ≡ plus (poly (u ++ m)) (scale f (poly b))
unfolding poly
poly-added f u n m b h =
    poly_on-append none u n
    ∙ poly_on-added f (poly_on none u) (poly_on none u) none n m b h
    (sym (ap (plus (poly_on none u)) (scale-none f) ∙ plus-none (poly_on none u)))
    ∙ ap (λ (p : ℕ → ℕ). plus p (scale f (poly_on none b))) (sym (poly_on-append none u m))

cons_none : cons 0 none ≡ none
unfolding none
cons_none = λ i k. at k i
  where
    at : (k : ℕ) → cons 0 none k ≡ none k
    at zero = refl
    at (suc k) = refl

pub poly-leading_zero : (w : List ℕ) → poly (0 ∷ w) ≡ poly w
unfolding poly
poly-leading_zero w = ap (λ (p : ℕ → ℕ). poly_on p w) cons_none

pub poly-zeros : (n : ℕ) → poly (replicate n 0) ≡ none
poly-zeros zero = poly-nil
poly-zeros (suc n) = poly-leading_zero (replicate n 0) ∙ poly-zeros n

poly_on-below : (n : ℕ) (p : ℕ → ℕ) (w : List ℕ) → Below n p → Below (length w + n) (poly_on p w)
poly_on-below n p [] h = record { at = λ k l. h.at k (omega arith) }
poly_on-below n p (c ∷ w) h = record {
  at = λ k l. (poly_on-below (suc n) (cons c p) w (cons_below n c p h)).at k
      (omega arith);
}
  where
    cons_below : (n c : ℕ) (p : ℕ → ℕ) → Below n p → Below (suc n) (cons c p)
    cons_below n c p h = record { at = go }
      where
        go : (k : ℕ) → suc n ≤ k → cons c p k ≡ 0
        go zero l = absurd (omega arith)
        go (suc k) l = h.at k (omega arith)

pub poly-below : (w : List ℕ) → Below (length w) (poly w)
unfolding poly none
poly-below w = record { at = λ k l. (poly_on-below 0 none w (record { at = λ k l. refl })).at k (omega arith) }

poly_on-zeros : (n : ℕ) (p : ℕ → ℕ) → poly_on p (replicate n 0) ≡ shift n p
unfolding shift
poly_on-zeros zero p = refl
poly_on-zeros (suc n) p = poly_on-zeros n (cons 0 p) ∙ shift-cons n p

pub poly-power : (n : ℕ) → poly (1 ∷ replicate n 0) ≡ shift n one
unfolding poly one
poly-power n = poly_on-zeros n one

pub poly-one : poly (1 ∷ []) ≡ one
unfolding poly one
poly-one = refl

-- ---- leading zeros
pub fewer_zeros : (m n : ℕ) (w : List ℕ) → m ≤ n → LeadingZeros n w → LeadingZeros m w
fewer_zeros m n w l h = record { at = λ k l'. h.at k (omega arith) }

pub zeros_taken : (n m k : ℕ) → get_or (take n (replicate {A = ℕ} m 0)) k 0 ≡ 0
zeros_taken zero m k = refl
zeros_taken (suc n) zero k = refl
zeros_taken (suc n) (suc m) zero = refl
zeros_taken (suc n) (suc m) (suc k) = zeros_taken n m k

pub poly-drop_zeros : (n : ℕ) (w : List ℕ) → LeadingZeros n w → poly (drop n w) ≡ poly w
poly-drop_zeros zero w h = refl
poly-drop_zeros (suc n) [] h = refl
poly-drop_zeros (suc n) (c ∷ w) h =
    poly-drop_zeros n w (record { at = λ k l. h.at (suc k) (omega arith) })
    ∙ sym (poly-leading_zero w) ∙ ap (λ (x : ℕ). poly (x ∷ w)) (sym (h.at 0 (omega arith)))

pub poly-all_zero : (w : List ℕ) → LeadingZeros (length w) w → poly w ≡ none
poly-all_zero w h = ap poly (replicate_from_places 0 w h.at) ∙ poly-zeros (length w)

-- a 1 with zeros on both sides
pub poly-single : (p m : ℕ) (w : List ℕ) → length w ≡ p + m + 1 → get_or w p 0 ≡ 1
    → ((k : ℕ) → k < length w → k ≢ p → get_or w k 0 ≡ 0) → poly w ≡ shift m one
poly-single zero m [] e h z = absurd (omega arith)
poly-single zero m (c ∷ w) e h z =
    let l : length w ≡ m = omega arith in
    let rest : w ≡ replicate (length w) 0 = replicate_from_places 0 w
    (λ k b. z (suc k) (omega arith) (λ f. absurd (omega arith))) in
    ap₂ (λ (x : ℕ) (u : List ℕ). poly (x ∷ u)) h (rest ∙ ap (λ (i : ℕ). replicate i 0) l) ∙ poly-power m
poly-single (suc p) m [] e h z = absurd (omega arith)
poly-single (suc p) m (c ∷ w) e h z =
    ap (λ (x : ℕ). poly (x ∷ w)) (z 0 (omega arith) (λ f. absurd (omega arith))) ∙ poly-leading_zero w
    ∙ poly-single p m w (omega arith) h (λ k l n. z (suc k) (omega arith) (λ f. n (omega arith)))

pub poly-single_last : (p : ℕ) (w : List ℕ) → length w ≡ p + 1 → get_or w p 0 ≡ 1
    → ((k : ℕ) → k < length w → k ≢ p → get_or w k 0 ≡ 0) → poly w ≡ one
unfolding shift
poly-single_last p w e h z = poly-single p 0 w (omega arith) h z

-- ---- a word with a multiple of another, shifted
shifted : ℕ → List ℕ → List ℕ
shifted d b = drop d b ++ replicate d 0

shifted_at : (d : ℕ) (b : List ℕ) (k : ℕ) → get_or (shifted d b) k 0 ≡ get_or b (k + d) 0
unfolding shifted
shifted_at d b k = go (cases_lt k (length (drop d b)))
  where
    same : d + k ≡ k + d
    same = omega arith

    go : (k < length (drop d b)) ⊎ (length (drop d b) ≤ k) → get_or (drop d b ++ replicate d 0) k 0 ≡ get_or b (k + d) 0
    go (inl l) = get_or_append_left (drop d b) (replicate d 0) 0 k l ∙ get_or-drop d b k 0
        ∙ ap (λ (i : ℕ). get_or b i 0) same
    go (inr l) = get_or-append_right (drop d b) (replicate d 0) (length (drop d b)) k 0 refl l
        ∙ get_or-replicate_default d (k - length (drop d b)) 0
        ∙ sym (get_or_past b (k + d) 0 (omega (arith, length-drop d b)))

length-shifted : (d : ℕ) (b : List ℕ) → d ≤ length b → length (shifted d b) ≡ length b
unfolding shifted
length-shifted d b l = omega (
  arith,
  length-append (drop d b) (replicate d 0),
  length-drop d b,
  length-replicate {A = ℕ}
      d 0,
)

poly-shifted : (d : ℕ) (b : List ℕ) → LeadingZeros d b → poly (shifted d b) ≡ shift d (poly b)
unfolding shifted poly
poly-shifted d b h =
    poly_on-append none (drop d b) (replicate d 0) ∙ poly_on-zeros d (poly (drop d b))
    ∙ ap (shift d) (poly-drop_zeros d b h)

-- the sum of a word and of a multiple of another one that is shifted to the left
pub poly-add_shifted : (d f : ℕ) (n m b : List ℕ) → length n ≡ length m → length b ≡ length m → d ≤ length b
    → LeadingZeros d b → Bytes (poly b)
    → ((k : ℕ) → k < length n → get_or n k 0 ≡ gf_add (get_or m k 0) (gf_mul f (get_or b (k + d) 0)))
    → poly n ≡ plus (poly m) (times (scale f (shift d one)) (poly b))
poly-add_shifted d f n m b e e' l z bb h =
    poly-added f [] n m (shifted d b) (record {
      length_m = e;
      length_b = e ∙ sym e' ∙ sym (length-shifted d b l);
      at = λ k l'. h k l' ∙ ap (λ (x : ℕ). gf_add (get_or m k 0) (gf_mul f x)) (sym (shifted_at d b k));
    })
    ∙ ap (plus (poly m)) (ap (scale f) (poly-shifted d b z ∙ ap (shift d) (sym (times-one_left (poly b) bb))
    ∙ sym (times-shift_left d one (poly b))) ∙ sym (times-scale_left f (shift d one) (poly b)))

-- ---- coefficients of a list of bytes
poly_on-bytes : (p : ℕ → ℕ) (w : List ℕ) → Bytes p → ((k : ℕ) → get_or w k 0 < 256) → Bytes (poly_on p w)
poly_on-bytes p [] h b = h
poly_on-bytes p (c ∷ w) h b = poly_on-bytes (cons c p) w (cons_bytes c p (b 0) h) (λ k. b (suc k))
  where
    cons_bytes : (c : ℕ) (p : ℕ → ℕ) → c < 256 → Bytes p → Bytes (cons c p)
    cons_bytes c p l h = record { at = go }
      where
        go : (k : ℕ) → cons c p k < 256
        go zero = l
        go (suc k) = h.at k

pub poly-bytes : (w : List ℕ) → ((k : ℕ) → get_or w k 0 < 256) → Bytes (poly w)
unfolding poly
poly-bytes w b = poly_on-bytes none w none-bytes b

pub reversed_bytes : (w : List ℕ) → ((k : ℕ) → get_or w k 0 < 256) → Bytes (poly (reverse w))
reversed_bytes w b = poly-bytes (reverse w) (λ k. go k (cases_lt k (length w)))
  where
    go : (k : ℕ) → (k < length w) ⊎ (length w ≤ k) → get_or (reverse w) k 0 < 256
    go k (inl l) = rw (get_or-reverse w k 0 l) (b (length w - 1 - k))
    go k (inr l) = rw (get_or_past (reverse w) k 0 (omega (arith, length-reverse w))) (omega arith)

pub poly-reverse : (s : List ℕ) (k : ℕ) → k < length s → poly (reverse s) k ≡ get_or s k 0
poly-reverse [] k l = absurd (omega arith)
poly-reverse (x ∷ s) k l = ap (λ (u : List ℕ). poly u k) (reverse-append (x ∷ []) s)
    ∙ ap (λ (p : ℕ → ℕ). p k) (poly-push (reverse s) x) ∙ at k l (poly-reverse s)
  where
    at : (k : ℕ) → k < suc (length s) → ((j : ℕ) → j < length s → poly (reverse s) j ≡ get_or s j 0)
        → cons x (poly (reverse s)) k ≡ get_or (x ∷ s) k 0
    at zero l h = refl
    at (suc k) l h = h k (omega arith)

poly_on-above : (p : ℕ → ℕ) (w : List ℕ) (k : ℕ) → poly_on p w (length w + k) ≡ p k
poly_on-above p [] k = ap p (zero-add k)
poly_on-above p (c ∷ w) k = ap (poly_on (cons c p) w) (omega arith) ∙ poly_on-above (cons c p) w (suc k)

pub poly-leading : (c : ℕ) (w : List ℕ) → poly (c ∷ w) (length w) ≡ c
unfolding poly
poly-leading c w = ap (poly_on (cons c none) w) (sym (add-zero (length w))) ∙ poly_on-above (cons c none) w 0

-- ---- values at reciprocals
-- a list is built from the front
pub from_front : (P : List ℕ → Type 0) → P [] → ((u : List ℕ) (c : ℕ) → P u → P (u ++ c ∷ [])) → (w : List ℕ) → P w
from_front P base step w = go [] w base
  where
    go : (pre w : List ℕ) → P pre → P (pre ++ w)
    go pre [] h = subst P (sym (append-nil pre)) h
    go pre (c ∷ w) h = subst P (append_assoc pre (c ∷ []) w) (go (pre ++ c ∷ []) w (step pre c h))

pub poly-last : (w : List ℕ) → 0 < length w → get_or w (length w - 1) 0 ≡ poly w 0
poly-last = from_front (λ w. 0 < length w → get_or w (length w - 1) 0 ≡ poly w 0) (λ l. absurd (omega arith))
    (λ u c ih l. get_or_push u c 0 (length (u ++ c ∷ []) - 1) (omega (arith, length-append u (c ∷ [])))
    ∙ ap (λ (p : ℕ → ℕ). p 0) (sym (poly-push u c)))

-- the value at 1 / X times a power of X
pub value_of-reciprocal : (X y : ℕ) → X < 256 → y < 256 → gf_mul X y ≡ 1 → (w : List ℕ) → Bytes (poly w) → (k : ℕ)
    → length w ≤ suc k
    → gf_mul (value_of w y) (gf_pow X k) ≡ horner X (poly w) k
value_of-reciprocal X y bX by e = from_front (λ w. Bytes (poly w) → (k : ℕ) → length w ≤ suc k
    → gf_mul (value_of w y) (gf_pow X k) ≡ horner X (poly w) k)
    (λ b k l. ap (λ (x : ℕ). gf_mul x (gf_pow X k)) (value_of-nil y) ∙ zero_mul (gf_pow X k) ∙ sym (horner-none X k)
    ∙ ap (λ (p : ℕ → ℕ). horner X p k) (sym poly-nil))
    (λ u c ih b k l. step u c ih (subst Bytes (poly-push u c) b) k (omega (arith, simp length-append at l)))
  where
    tail_bytes : (c : ℕ) (p : ℕ → ℕ) → Bytes (cons c p) → Bytes p
    tail_bytes c p b = record { at = λ k. b.at (suc k) }

    alg : (v y c x q : ℕ) → gf_mul (gf_add (gf_mul v y) c) (gf_mul x q)
        ≡ gf_add (gf_mul c (gf_mul x q)) (gf_mul v (gf_mul (gf_mul x y) q))
    alg v y c x q = simp ring

    step : (u : List ℕ) (c : ℕ) → (Bytes (poly u) → (k : ℕ) → length u ≤ suc k
        → gf_mul (value_of u y) (gf_pow X k) ≡ horner X (poly u) k) → Bytes (cons c (poly u)) → (k : ℕ) → length u ≤ k
        → gf_mul (value_of (u ++ c ∷ []) y) (gf_pow X k) ≡ horner X (poly (u ++ c ∷ [])) k
    step [] c ih b zero l =
        ap₂ gf_mul (value_of-push [] c y (b.at 0) by ∙ ap (λ (x : ℕ). gf_add (gf_mul x y) c) (value_of-nil y)
        ∙ ap (λ (x : ℕ). gf_add x c) (zero_mul y) ∙ zero_add c) (pow_zero X)
        ∙ mul_one c (b.at 0) ∙ ap (λ (p : ℕ → ℕ). p 0) (sym (poly-push [] c))
        ∙ sym (horner_at_zero X (poly ([] ++ c ∷ [])))
    step (d ∷ u) c ih b zero l = absurd (omega arith)
    step u c ih b (suc k) l =
        ap₂ gf_mul (value_of-push u c y (b.at 0) by) (pow_suc X k) ∙ alg (value_of u y) y c X (gf_pow X k)
        ∙ ap (λ (x : ℕ). gf_add (gf_mul c (gf_mul X (gf_pow X k))) (gf_mul (value_of u y) x))
        (ap (λ (x : ℕ). gf_mul x (gf_pow X k)) e ∙ one_mul (gf_pow X k) (pow_below X k))
        ∙ ap₂ (λ (x z : ℕ). gf_add (gf_mul c x) z) (sym (pow_suc X k)) (ih (tail_bytes c (poly u) b) k l)
        ∙ sym (horner-tail X k (cons c (poly u)) bX) ∙ ap (λ (p : ℕ → ℕ). horner X p (suc k)) (sym (poly-push u c))
