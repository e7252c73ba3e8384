-- The nearest codeword, where a codeword is near or none is, and what the excess of the parity tells: it has the word's
-- values, and is zero where the word is a codeword. For `decode_within_by`, `has_excess` and `corrected` in rs_decode.
use Rattle.std.proofs.lemmas.Bool.{and_parts}
use Rattle.std.proofs.Common.{◌≡◌, ℕ, zero, suc, ◌+◌, ◌/◌, ◌≤◌, ◌<◌, Bool, true, false, refl, sym, ap, ◌∙◌, arith, List}
use Rattle.std.proofs.Common.{[], ◌∷◌, ◌++◌, length, get_or, Option, Some, None}
use Rattle.std.proofs.Math.Dec.{leb}
use Rattle.std.proofs.lemmas.Bool.{leb-true}
use Rattle.code_spec.specs.Field.{gf_add, gf_mul, gf_pow}
use Rattle.code_spec.specs.Code.{value_of, distance, nearest, nearest_if, is_near, is_codeword, IsCodeword, IsWord}
use Rattle.code_spec.specs.Code.{IsNear, parity_of}
use Rattle.code_laws.proofs.Ring.{add_self, equal_from_add, one_mul}
use Rattle.code_laws.proofs.Symbols.{HasRoots, Symbols, IsAdded}
use Rattle.code_laws.proofs.Words.{value_of-added, value_of-append}
use Rattle.code_laws.proofs.Steps.{zeros_codeword}
use Rattle.code_laws.proofs.Parity.{roots_of, codeword_of, bytes_of, symbols_of as symbols_of_bytes}
use Rattle.code_laws.proofs.Nearest.{nearest-IsNear, the_word-passes, distance_self}
use Rattle.code_laws.proofs.Laws.{nearest_law, parity_law, parity_made}
use Rattle.decoder_laws.specs.Damage.{IsWithin}
use Rattle.decoder_laws.proofs.Powers.{value_below}

-- ---- the nearest codeword
pub word_of : (w : List ℕ) → Symbols w → IsWord (length w) w
word_of w h = (refl, bytes_of w h)

pub nearest_of_within : (r : ℕ) (w c : List ℕ) → length w ≤ 255 → Symbols w → IsWithin (r / 2) r w c
    → nearest r w ≡ Some c
nearest_of_within r w c l b h = (nearest_law r w c l (word_of w b)).1
    ((sym h.len, bytes_of c h.symbols), codeword_of r c h.codeword, h.near)

pub nearest_of_none : (r : ℕ) (w : List ℕ) → Symbols w → ((c : List ℕ) → IsWithin (r / 2) r w c → ⊥)
    → nearest r w ≡ None
nearest_of_none r w b h = by (nearest r w) refl
  where
    by : (o : Option (List ℕ)) → nearest r w ≡ o → nearest r w ≡ None
    by None e = e
    by (Some c) e =
        let n : IsNear r w c = nearest-IsNear r w c (word_of w b) e in
        absurd (h c (record {
          len = sym n.word.0;
          symbols = symbols_of_bytes c n.word.1;
          codeword = roots_of r c n.codeword;
          near = n.within;
        }))

pub nearest_of_codeword : (r : ℕ) (w : List ℕ) → HasRoots r w → nearest r w ≡ Some w
unfolding nearest
nearest_of_codeword r w h = ap (λ (b : Bool). nearest_if b r w) (codeword_of r w h)

-- half the parity bounds nothing
pub nearest-close : (r : ℕ) (w c : List ℕ) → nearest r w ≡ Some c → distance w c ≤ r / 2
unfolding nearest is_near
nearest-close r w c e = by (is_codeword r w) e
  where
    by : (b : Bool) → nearest_if b r w ≡ Some c → distance w c ≤ r / 2
    by true e = let s : w ≡ c = cc in rw (← s) (omega (arith, distance_self w))
    by false e = leb-true (distance w c) (r / 2) (and_parts (is_codeword r c) (leb (distance w c) (r / 2))
        (the_word-passes (is_near r w) (length w) c e).0).1

excess_alg : (v q p : ℕ) → gf_add v q ≡ 0 → gf_add q p ≡ gf_add v p
excess_alg v q p e = ap (λ (y : ℕ). gf_add y p) (sym (equal_from_add v q e))

-- the excess has the word's values
pub excess_value : (m p n : List ℕ) → Symbols m → IsAdded 1 n (parity_of (length p) m) p → (i : ℕ) → i < length p
    → value_of n (gf_pow 2 i) ≡ value_of (m ++ p) (gf_pow 2 i)
excess_value m p n bm h i l =
    let q : List ℕ = parity_of (length p) m in
    let x : ℕ = gf_pow 2 i in
    let made : IsWord (length p) q × IsCodeword (length p) (m ++ q) = parity_made (length p) m (word_of m bm) in
    let zero : gf_add (gf_mul (value_of m x) (gf_pow x (length p))) (value_of q x) ≡ 0 =
    ap (λ (k : ℕ). gf_add (gf_mul (value_of m x) (gf_pow x k)) (value_of q x)) (sym made.0.0)
    ∙ sym (value_of-append m q x) ∙ (roots_of (length p) (m ++ q) made.1).at i l in
    value_of-added 1 x n q p h ∙ ap (gf_add (value_of q x)) (one_mul (value_of p x) (value_below p x))
    ∙ excess_alg (gf_mul (value_of m x) (gf_pow x (length p))) (value_of q x) (value_of p x) zero
    ∙ sym (value_of-append m p x)

-- no excess: a codeword
pub no_excess : (m p n : List ℕ) → Symbols m → IsAdded 1 n (parity_of (length p) m) p
    → ((k : ℕ) → k < length n → get_or n k 0 ≡ 0) → HasRoots (length p) (m ++ p)
no_excess m p n bm h z = record {
  at = λ i l. sym (excess_value m p n bm h i l)
      ∙ (zeros_codeword (length p) n z).at i l;
}

pub symbols_at : (w : List ℕ) (k : ℕ) → Symbols w → get_or w k 0 < 256
symbols_at [] k h = omega arith
symbols_at (c ∷ w) zero h = h.0
symbols_at (c ∷ w) (suc k) h = symbols_at w k h.1

-- a codeword: no excess
pub codeword_excess : (m p n : List ℕ) → length m + length p ≤ 255 → Symbols m → Symbols p
    → IsAdded 1 n (parity_of (length p) m) p → HasRoots (length p) (m ++ p) → (k : ℕ) → k < length n → get_or n k 0 ≡ 0
codeword_excess m p n l bm bp h c k lk =
    let e : parity_of (length p) m ≡ p = (parity_law (length p) m p l (word_of m bm)).1
    (word_of p bp, codeword_of (length p) (m ++ p) c) in
    h.at k lk ∙ ap (λ (u : List ℕ). gf_add (get_or u k 0) (gf_mul 1 (get_or p k 0))) e
    ∙ ap (gf_add (get_or p k 0)) (one_mul (get_or p k 0) (symbols_at p k bp)) ∙ add_self (get_or p k 0)
