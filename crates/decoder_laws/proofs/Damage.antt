-- A codeword near a word leaves damage with the word's syndromes, and of such damage Euclid's algorithm finds the
-- locator and the evaluator. For `candidate` and `corrected` in rs_decode.
use Rattle.std.proofs.lemmas.Bool.{cases_eq}
use Rattle.std.proofs.Common.{◌≡◌, ◌≢◌, ℕ, zero, suc, ◌+◌, ◌≤◌, ◌<◌, Bool, cond, refl, sym, ap, ◌∙◌, subst, arith, List}
use Rattle.std.proofs.Common.{[], ◌∷◌, length, get_or, take, ◌⊎◌, inl, inr, zero-add, reverse, ◌/◌}
use Rattle.std.proofs.lemmas.List.{get_or-take}
use Rattle.code_spec.specs.Field.{gf_add, gf_mul, gf_pow}
use Rattle.code_laws.proofs.Ring.{mul_zero, mul_cancel_zero, add_zero}
use Rattle.code_spec.specs.Code.{value_of, distance}
use Rattle.code_laws.proofs.Symbols.{Symbols, HasRoots}
use Rattle.decoder_laws.specs.Damage.{weight, IsDamage, IsFound, IsWithin}
use Rattle.std.proofs.lemmas.Bool.{cases_lt, eq-eqb, ne_eqb}
use Rattle.decoder_laws.proofs.Powers.{pow_some}
use Rattle.decoder_laws.proofs.Chien.{spots_skip, spots_keep, spots_of-nil}
use Rattle.decoder_laws.proofs.Polynomials.{poly-reverse, poly-leading}
use Rattle.code_laws.proofs.Words.{spots_of, value_of_spots, spots_of-are, word_sum, length-word_sum, value_of-word_sum}
use Rattle.code_laws.proofs.Words.{symbols-word_sum, spots_distance_is}
use Rattle.decoder_laws.specs.Series.{scale, Below, Bytes, Agree}
use Rattle.code_laws.specs.Locators.{Spot, power_sum, AreSpots}
use Rattle.decoder_laws.specs.Locators.{evaluator}
use Rattle.decoder_laws.specs.Polynomials.{poly}
use Rattle.decoder_laws.proofs.KeyEquation.{evaluator-below}
use Rattle.decoder_laws.proofs.Unique.{stop_is_locator, AreNonzero}
use Rattle.decoder_laws.specs.Euclid.{IsSolution}
use Rattle.decoder_laws.proofs.Series.{scale_at}
use Rattle.code_laws.proofs.Nearest.{distance_zero}

pub weight_is : (D : List ℕ) → length (spots_of D) ≡ weight D
weight_is [] = ap length spots_of-nil
weight_is (c ∷ d) = go (cases_eq c 0) (weight_is d)
  where
    go : (c ≡ 0) ⊎ (c ≢ 0) → length (spots_of d) ≡ weight d → length (spots_of (c ∷ d)) ≡ weight (c ∷ d)
    go (inl z) e = ap length (spots_skip c d z) ∙ e ∙ sym (zero-add (weight d))
        ∙ ap (λ (b : Bool). cond b 0 1 + weight d) (sym (eq-eqb c 0 z))
    go (inr n) e = ap length (spots_keep c d n) ∙ ap suc e
        ∙ (let f : suc (weight d) ≡ 1 + weight d = omega arith in f)
        ∙ ap (λ (b : Bool). cond b 0 1 + weight d) (sym (ne_eqb c 0 n))

-- ---- what Euclid's algorithm finds
spots_nonzero : (D : List ℕ) → AreNonzero (spots_of D)
spots_nonzero [] = subst AreNonzero (sym spots_of-nil) tt
spots_nonzero (c ∷ d) = go (cases_eq c 0) (spots_nonzero d)
  where
    go : (c ≡ 0) ⊎ (c ≢ 0) → AreNonzero (spots_of d) → AreNonzero (spots_of (c ∷ d))
    go (inl z) h = subst AreNonzero (sym (spots_skip c d z)) h
    go (inr n) h = subst AreNonzero (sym (spots_keep c d n))
        (pow_some 2 (length d) (omega arith) (λ e. absurd (omega arith)), n, h)

rest_low : (r : List ℕ) (c e : ℕ) (q : ℕ → ℕ) → c < 256 → c ≢ 0 → Bytes (poly r) → (0 < length r → get_or r 0 0 ≢ 0)
    → q ≡ scale c (poly r) → Below e q → length r ≤ e
rest_low [] c e q bc nc b lead eq h = omega arith
rest_low (x ∷ w) c e q bc nc b lead eq h = go (cases_lt (length w) e)
  where
    go : (length w < e) ⊎ (e ≤ length w) → suc (length w) ≤ e
    go (inl l) = l
    go (inr l) = absurd (lead (omega arith) (sym (poly-leading x w)
        ∙ mul_cancel_zero c (poly (x ∷ w) (length w)) bc nc (b.at (length w))
        (sym (scale_at c (length w) (poly (x ∷ w))) ∙ ap (λ (p : ℕ → ℕ). p (length w)) (sym eq) ∙ h.at (length w) l)))

pub found_of : (t n : ℕ) (s v r D : List ℕ) → n ≤ 255 → length s ≡ t + t → IsSolution t (poly (reverse s)) v r
    → IsDamage t n s D → (c : ℕ) × IsFound D v r c × (gf_mul (poly v 0) c ≡ 1)
found_of t n s v r D ln ls h g =
    let ss : List Spot = spots_of D in
    let few : length ss ≤ t = (let e = g.few in omega (arith, weight_is D)) in
    let agree : Agree (t + t) (poly (reverse s)) (power_sum ss) =
    record { at = λ k l. poly-reverse s k (omega arith) ∙ g.values k l ∙ value_of_spots D k } in
    let are : AreSpots ss = spots_of-are D (let e = g.len in omega arith) g.symbols in
    let u = stop_is_locator t h.d h.w (poly (reverse s)) (poly v) h.v' (poly r) h.r' ss are (spots_nonzero D)
    few agree h.euclid h.stop in
    let c : ℕ = u.1.0 in
    let some : c ≢ 0 = λ e. absurd (let f : 1 ≡ 0 = sym u.1.2 ∙ ap (gf_mul (poly v 0)) e ∙ mul_zero (poly v 0) in
    cc) in (
      c,
      record {
        len = (let e = g.len in omega arith);
        symbols = g.symbols;
        v_bytes = h.stop.bytes;
        r_bytes = h.stop.r_bytes;
        degree = (let e = h.degree in omega (arith, u.0));
        r_low = rest_low r c (length ss) (evaluator ss) u.1.1 some h.stop.r_bytes h.leading u.1.4 (evaluator-below ss);
        c_byte = u.1.1;
        c_some = some;
        locator_is = u.1.3;
        evaluator_is = u.1.4;
      },
      u.1.2,
    )

-- the sum of a word and a codeword near it is damage with the word's syndromes
pub damage_of : (t r : ℕ) (w c s : List ℕ) → t + t ≤ r → Symbols w → IsWithin t r w c
    → ((k : ℕ) → k < t + t → get_or s k 0 ≡ value_of w (gf_pow 2 k)) → IsDamage t (length w) s (word_sum w c)
damage_of t r w c s l b h v = record {
  len = length-word_sum w c h.len;
  symbols = symbols-word_sum w c b h.symbols;
  few = omega (arith, weight_is (word_sum w c), spots_distance_is w c h.len, h.near);
  values = λ k lk. v k lk ∙ sym (add_zero (value_of w (gf_pow 2 k)))
      ∙ ap (gf_add (value_of w (gf_pow 2 k))) (sym (h.codeword.at k (omega arith)))
      ∙ sym (value_of-word_sum w c (gf_pow 2 k) h.len);
}

pub none_at_zero : (t r : ℕ) (w c : List ℕ) → t ≡ 0 → ¬ HasRoots r w → IsWithin t r w c → ⊥
none_at_zero t r w c z n h = n (subst (HasRoots r) (sym (distance_zero w c h.len (let d = h.near in omega arith)))
    h.codeword)

-- the values that the decoder is given, cut to the first 2 t
pub values_cut : (t r : ℕ) (s w : List ℕ) → t + t ≤ r → ((k : ℕ) → k < r → get_or s k 0 ≡ value_of w (gf_pow 2 k))
    → (k : ℕ) → k < t + t → get_or (take (t + t) s) k 0 ≡ value_of w (gf_pow 2 k)
values_cut t r s w l h k lk = get_or-take (t + t) s k 0 lk ∙ h k (omega arith)

pub halves : (r : ℕ) → r / 2 + r / 2 ≤ r
halves r = omega arith

pub positive : (t r : ℕ) (w c : List ℕ) → ¬ HasRoots r w → IsWithin t r w c → 0 < distance w c
positive t r w c n h = go (distance w c) refl
  where
    go : (d : ℕ) → distance w c ≡ d → 0 < distance w c
    go zero e = absurd (n (subst (HasRoots r) (sym (distance_zero w c h.len (omega (arith, e)))) h.codeword))
    go (suc d) e = omega (arith, e)
