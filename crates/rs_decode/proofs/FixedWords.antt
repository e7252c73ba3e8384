-- What the fixes make of a word: its length, distance and values, and that the fixes between two words lead from one
-- to the other. For `corrected`, `apply` and the sums that tell whether a word is mended.
use Rattle.std.proofs.lemmas.Bool.{cases_eq}
use Rattle.std.proofs.Common.{◌≡◌, ◌≢◌, ℕ, zero, suc, ◌+◌, ◌-◌, ◌≤◌, ◌<◌, eqb, Bool, true, false, cond, refl, sym, ap}
use Rattle.std.proofs.Common.{ap₂, ◌∙◌, arith, List, [], ◌∷◌, ◌++◌, length, get_or, take, set, ◌⊎◌, inl, inr}
use Rattle.std.proofs.Common.{append_assoc, length-append, length-set, take_at, zero-add}
use Rattle.std.proofs.lemmas.List.{set_at, get_or_at, set-append_left, set-append_right, set_past, get_or_append_left}
use Rattle.code_spec.specs.Field.{gf_add, gf_mul, gf_pow}
use Rattle.code_laws.proofs.Ring.{ring, add_assoc, add_cancel, add_below, equal_from_add, add_zero}
use Rattle.code_spec.specs.Code.{value_of, distance}
use Rattle.code_laws.proofs.Symbols.{Symbols, HasRoots}
use Rattle.code_laws.proofs.Words.{word_sum, length-word_sum, spots_distance_is, pow_turn}
use Rattle.rs_decode.specs.Fixes.{AllInside, fixes_from, applied, fixes_between, fix_sum}
use Rattle.decoder_laws.specs.Damage.{weight, IsWithin}
use Rattle.rs_decode.specs.declared.Fix.{Fix}
use Rattle.std.proofs.lemmas.Bool.{cond-true, cond-false, eq-eqb, ne_eqb, cases_lt}
use Rattle.decoder_laws.proofs.Nearest.{symbols_at}
use Rattle.decoder_laws.proofs.Damage.{weight_is}
use Rattle.code_laws.proofs.Nearest.{distance_self}

symbols-set : (w : List ℕ) (i x : ℕ) → Symbols w → x < 256 → Symbols (set w i x)
symbols-set [] i x h b = tt
symbols-set (c ∷ w) zero x h b = (b, h.1)
symbols-set (c ∷ w) (suc i) x h b = (h.0, symbols-set w i x h.1 b)

pub applied-symbols : (n : ℕ) (fs : List Fix) (w : List ℕ) → AllInside n fs → Symbols w → Symbols (applied fs w)
applied-symbols n [] w a h = h
applied-symbols n (f ∷ fs) w a h =
    applied-symbols n fs (set w f.place (gf_add (get_or w f.place 0) f.mask)) a.2
    (symbols-set w f.place (gf_add (get_or w f.place 0) f.mask) h
    (add_below (get_or w f.place 0) f.mask (symbols_at w f.place h) a.1))

pub length-applied : (fs : List Fix) (w : List ℕ) → length (applied fs w) ≡ length w
length-applied [] w = refl
length-applied (f ∷ fs) w = length-applied fs (set w f.place (gf_add (get_or w f.place 0) f.mask))
    ∙ length-set w f.place (gf_add (get_or w f.place 0) f.mask)

bit : Bool → ℕ
bit b = cond b 0 1

bit_one : (b : Bool) → cond b 0 1 ≤ 1
bit_one true = omega arith
bit_one false = omega arith

distance-set : (u w : List ℕ) (i x : ℕ) → distance u (set w i x) ≤ distance u w + 1
unfolding distance
distance-set [] [] i x = omega arith
distance-set [] (b ∷ w) zero x = omega arith
distance-set [] (b ∷ w) (suc i) x = omega arith
distance-set (a ∷ u) [] i x = omega arith
distance-set (a ∷ u) (b ∷ w) zero x = omega (arith, bit_one (eqb a x))
distance-set (a ∷ u) (b ∷ w) (suc i) x = omega (arith, distance-set u w i x)

distance-applied : (u w : List ℕ) (fs : List Fix) → distance u (applied fs w) ≤ distance u w + length fs
distance-applied u w [] = omega arith
distance-applied u w (f ∷ fs) =
    omega (
      arith,
      distance-applied u (set w f.place (gf_add (get_or w f.place 0) f.mask)) fs,
      distance-set u w f.place (gf_add (get_or w f.place 0) f.mask),
    )

pub applied-near : (w : List ℕ) (fs : List Fix) → distance w (applied fs w) ≤ length fs
applied-near w fs = omega (arith, distance-applied w w fs, distance_self w)

-- the fixes_between make the other word
apply_all : (n : ℕ) (pre u w : List ℕ) → length u ≡ length w → n ≡ length pre + length u
    → applied (fixes_from n (word_sum u w)) (pre ++ u) ≡ pre ++ w
unfolding word_sum
apply_all n pre [] [] e en = refl
apply_all n pre [] (b ∷ w) e en = absurd (omega arith)
apply_all n pre (a ∷ u) [] e en = absurd (omega arith)
apply_all n pre (a ∷ u) (b ∷ w) e en = go (cases_eq (gf_add a b) 0)
    (apply_all n (pre ++ b ∷ []) u w (omega arith) (omega (arith, length-append pre (b ∷ []))))
  where
    D : List ℕ
    D = word_sum u w

    fix : Fix
    fix = record { place = n - 1 - length D; mask = gf_add a b }

    go : (gf_add a b ≡ 0) ⊎ (gf_add a b ≢ 0) → applied (fixes_from n D) ((pre ++ b ∷ []) ++ u) ≡ (pre ++ b ∷ []) ++ w
        → applied (fixes_from n (gf_add a b ∷ D)) (pre ++ a ∷ u) ≡ pre ++ b ∷ w
    go (inl z) ih =
        ap (λ (fs : List Fix). applied fs (pre ++ a ∷ u)) (cond-true (eqb (gf_add a b) 0) (fixes_from n D)
        (fix ∷ fixes_from n D) (eq-eqb (gf_add a b) 0 z))
        ∙ ap (λ (x : ℕ). applied (fixes_from n D) (pre ++ x ∷ u)) (equal_from_add a b z)
        ∙ ap (applied (fixes_from n D)) (sym (append_assoc pre (b ∷ []) u)) ∙ ih ∙ append_assoc pre (b ∷ []) w
    go (inr nz) ih =
        let e' : length u ≡ length w = omega arith in
        let place : n - 1 - length D ≡ length pre = omega (arith, length-word_sum u w e') in
        ap (λ (fs : List Fix). applied fs (pre ++ a ∷ u)) (cond-false (eqb (gf_add a b) 0) (fixes_from n D)
        (fix ∷ fixes_from n D) (ne_eqb (gf_add a b) 0 nz))
        ∙ ap (λ (i : ℕ). applied (fixes_from n D) (set (pre ++ a ∷ u) i
        (gf_add (get_or (pre ++ a ∷ u) i 0) (gf_add a b)))) place
        ∙ ap (λ (x : ℕ). applied (fixes_from n D) (set (pre ++ a ∷ u) (length pre) x))
        (ap (λ (x : ℕ). gf_add x (gf_add a b)) (get_or_at pre a u 0 (length pre) refl) ∙ add_cancel a b)
        ∙ ap (applied (fixes_from n D)) (set_at pre a u b (length pre) refl)
        ∙ ap (applied (fixes_from n D)) (sym (append_assoc pre (b ∷ []) u)) ∙ ih ∙ append_assoc pre (b ∷ []) w

pub apply_fixes_between : (w c : List ℕ) → length w ≡ length c → applied (fixes_between w c) w ≡ c
apply_fixes_between w c e = apply_all (length w) [] w c e (omega arith)

-- ---- the values of the fixed word
value_of-set : (w : List ℕ) (i m x : ℕ) → i < length w → value_of (set w i (gf_add (get_or w i 0) m)) x
    ≡ gf_add (value_of w x) (gf_mul m (gf_pow x (length w - 1 - i)))
unfolding value_of
value_of-set [] i m x l = absurd (omega arith)
value_of-set (c ∷ w) zero m x l =
    alg c m (gf_pow x (length w)) (value_of w x)
    ∙ ap (λ (k : ℕ). gf_add (gf_add (gf_mul c (gf_pow x (length w))) (value_of w x)) (gf_mul m (gf_pow x k)))
    (let e : length w ≡ suc (length w) - 1 - 0 = omega arith in e)
  where
    alg : (c m p v : ℕ) → gf_add (gf_mul (gf_add c m) p) v ≡ gf_add (gf_add (gf_mul c p) v) (gf_mul m p)
    alg c m p v = simp ring
value_of-set (c ∷ w) (suc i) m x l =
    ap₂ (λ (k y : ℕ). gf_add (gf_mul c (gf_pow x k)) y) (length-set w i (gf_add (get_or w i 0) m))
    (value_of-set w i m x (omega arith))
    ∙ sym (add_assoc (gf_mul c (gf_pow x (length w))) (value_of w x) (gf_mul m (gf_pow x (length w - 1 - i))))
    ∙ ap (λ (k : ℕ). gf_add (gf_add (gf_mul c (gf_pow x (length w))) (value_of w x)) (gf_mul m (gf_pow x k)))
    (let e : length w - 1 - i ≡ suc (length w) - 1 - suc i = omega arith in e)

value_of-applied : (fs : List Fix) (w : List ℕ) (n x : ℕ) → length w ≡ n → AllInside n fs
    → value_of (applied fs w) x ≡ gf_add (value_of w x) (fix_sum n fs x)
value_of-applied [] w n x e a = sym (add_zero (value_of w x))
value_of-applied (f ∷ fs) w n x e a =
    value_of-applied fs (set w f.place (gf_add (get_or w f.place 0) f.mask)) n x
    (length-set w f.place (gf_add (get_or w f.place 0) f.mask) ∙ e) a.2
    ∙ ap (λ (y : ℕ). gf_add y (fix_sum n fs x)) (value_of-set w f.place f.mask x (omega (arith, a.0, e)))
    ∙ ap (λ (k : ℕ). gf_add (gf_add (value_of w x) (gf_mul f.mask (gf_pow x (k - 1 - f.place)))) (fix_sum n fs x)) e
    ∙ add_assoc (value_of w x) (gf_mul f.mask (gf_pow x (n - 1 - f.place))) (fix_sum n fs x)

-- the first values of a word with its fixes are zero, and the sums are the others
pub record AreSums (n first r : ℕ) (w : List ℕ) (fs : List Fix) (sums : List ℕ) : Type 0 where
  pub len : length w ≡ n
  pub inside : AllInside n fs
  pub count : first + length sums ≡ r
  pub zeros : (k : ℕ) → k < first → gf_add (value_of w (gf_pow 2 k)) (fix_sum n fs (gf_pow 2 k)) ≡ 0
  pub at : (k : ℕ) → k < length sums → get_or sums k 0
      ≡ gf_add (value_of w (gf_pow 2 (first + k))) (fix_sum n fs (gf_pow 2 (first + k)))

-- all zero exactly where the fixed word is a codeword
pub codeword_from_sums : (n first r : ℕ) (w : List ℕ) (fs : List Fix) (sums : List ℕ) → AreSums n first r w fs sums
    → ((k : ℕ) → k < length sums → get_or sums k 0 ≡ 0) → HasRoots r (applied fs w)
codeword_from_sums n first r w fs sums h z = record {
  at = λ i l. value_of-applied fs w n (gf_pow 2 i) h.len h.inside ∙ go i l (cases_lt i first);
}
  where
    value : ℕ → ℕ
    value i = gf_add (value_of w (gf_pow 2 i)) (fix_sum n fs (gf_pow 2 i))

    go : (i : ℕ) → i < r → (i < first) ⊎ (first ≤ i) → value i ≡ 0
    go i l (inl b) = h.zeros i b
    go i l (inr b) =
        let e : first + (i - first) ≡ i = omega arith in
        let k : i - first < length sums = (let c = h.count in omega arith) in
        ap value (sym e) ∙ sym (h.at (i - first) k) ∙ z (i - first) k

pub sums_of_codeword : (n first r : ℕ) (w : List ℕ) (fs : List Fix) (sums : List ℕ) → AreSums n first r w fs sums
    → HasRoots r (applied fs w) → (k : ℕ) → k < length sums → get_or sums k 0 ≡ 0
sums_of_codeword n first r w fs sums h c k l =
    h.at k l ∙ sym (value_of-applied fs w n (gf_pow 2 (first + k)) h.len h.inside)
    ∙ c.at (first + k) (let e = h.count in omega arith)

pub applied_near : (t r n : ℕ) (w : List ℕ) (fs : List Fix) → Symbols w → AllInside n fs → length fs ≤ t
    → HasRoots r (applied fs w) → IsWithin t r w (applied fs w)
applied_near t r n w fs b a l h = record {
  len = sym (length-applied fs w);
  symbols = applied-symbols n fs w a b;
  codeword = h;
  near = omega (arith, applied-near w fs);
}

-- the fixes of a word make those of its front
pub take-applied : (n : ℕ) (fs : List Fix) (m p : List ℕ) → length m ≡ n → take n (applied fs (m ++ p)) ≡ applied fs m
take-applied n [] m p e = take_at m p n e
take-applied n (f ∷ fs) m p e = go (cases_lt f.place (length m)) (λ m' p' e'. take-applied n fs m' p' e')
  where
    v : ℕ
    v = gf_add (get_or (m ++ p) f.place 0) f.mask

    u : ℕ
    u = gf_add (get_or m f.place 0) f.mask

    go : (f.place < length m) ⊎ (length m ≤ f.place)
        → ((m' p' : List ℕ) → length m' ≡ n → take n (applied fs (m' ++ p')) ≡ applied fs m')
        → take n (applied fs (set (m ++ p) f.place v)) ≡ applied fs (set m f.place u)
    go (inl l) ih =
        ap (λ (x : ℕ). take n (applied fs (set (m ++ p) f.place (gf_add x f.mask))))
        (get_or_append_left m p 0 f.place l)
        ∙ ap (λ (w : List ℕ). take n (applied fs w)) (set-append_left m p f.place u l)
        ∙ ih (set m f.place u) p (length-set m f.place u ∙ e)
    go (inr l) ih =
        ap (λ (w : List ℕ). take n (applied fs w)) (set-append_right m p (length m) f.place v refl l)
        ∙ ih m (set p (f.place - length m) v) e
        ∙ ap (applied fs) (sym (set_past m f.place u l))

length-fixes_from : (n : ℕ) (d : List ℕ) → length (fixes_from n d) ≡ weight d
length-fixes_from n [] = refl
length-fixes_from n (c ∷ d) = go (cases_eq c 0) (length-fixes_from n d)
  where
    F : Fix
    F = record { place = n - 1 - length d; mask = c }

    go : (c ≡ 0) ⊎ (c ≢ 0) → length (fixes_from n d) ≡ weight d → length (fixes_from n (c ∷ d)) ≡ weight (c ∷ d)
    go (inl z) e = ap length (cond-true (eqb c 0) (fixes_from n d) (F ∷ fixes_from n d) (eq-eqb c 0 z)) ∙ e
        ∙ sym (zero-add (weight d)) ∙ ap (λ (b : Bool). cond b 0 1 + weight d) (sym (eq-eqb c 0 z))
    go (inr m) e = ap length (cond-false (eqb c 0) (fixes_from n d) (F ∷ fixes_from n d) (ne_eqb c 0 m))
        ∙ ap suc e ∙ (let f : suc (weight d) ≡ 1 + weight d = omega arith in f)
        ∙ ap (λ (b : Bool). cond b 0 1 + weight d) (sym (ne_eqb c 0 m))

pub length-fixes_between : (w c : List ℕ) → length w ≡ length c → length (fixes_between w c) ≡ distance w c
length-fixes_between w c e = length-fixes_from (length w) (word_sum w c) ∙ sym (weight_is (word_sum w c))
    ∙ spots_distance_is w c e

pub sum_step : (n k q v v' total : ℕ) (f : Fix) (fs rest : List Fix) → fs ≡ f ∷ rest
    → v' ≡ gf_add v (gf_mul f.mask (gf_pow (gf_pow 2 q) k)) → q ≡ n - 1 - f.place
    → gf_add v (fix_sum n fs (gf_pow 2 k)) ≡ total → gf_add v' (fix_sum n rest (gf_pow 2 k)) ≡ total
sum_step n k q v v' total f fs rest e e' eq h =
    ap (λ (y : ℕ). gf_add y (fix_sum n rest (gf_pow 2 k)))
    (e' ∙ ap (λ (x : ℕ). gf_add v (gf_mul f.mask x)) (pow_turn 2 q k ∙ ap (gf_pow (gf_pow 2 k)) eq))
    ∙ add_assoc v (gf_mul f.mask (gf_pow (gf_pow 2 k) (n - 1 - f.place))) (fix_sum n rest (gf_pow 2 k))
    ∙ ap (λ (us : List Fix). gf_add v (fix_sum n us (gf_pow 2 k))) (sym e) ∙ h

pub sum_end : (n x v total : ℕ) (rest : List Fix) → rest ≡ [] → gf_add v (fix_sum n rest x) ≡ total → v ≡ total
sum_end n x v total rest e h = sym (add_zero v) ∙ ap (λ (us : List Fix). gf_add v (fix_sum n us x)) (sym e) ∙ h
