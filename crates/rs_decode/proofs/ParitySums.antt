-- The sum of a parity and the one of its message, and what it tells. For `excess` and `excess_pair_by`.
use Rattle.std.proofs.Common.{◌≡◌, ℕ, ◌+◌, ◌≤◌, ◌<◌, ◌↔◌, Bool, IsTrue, List, ◌++◌, length, get_or, sym, ap, ◌∙◌, subst}
use Rattle.code_spec.specs.Field.{gf_add}
use Rattle.code_spec.specs.Code.{IsCodeword, parity_of}
use Rattle.code_laws.proofs.Ring.{one_mul}
use Rattle.code_laws.proofs.Symbols.{Symbols}
use Rattle.code_laws.proofs.Parity.{roots_of, codeword_of}
use Rattle.decoder_laws.proofs.Nearest.{no_excess, codeword_excess}
use Rattle.rs_decode.specs.Decoding.{IsExcess}

pub excess_is : (r : ℕ) (m p q w : List ℕ) → r ≡ length p → q ≡ parity_of r m → length q ≡ r → length w ≡ r
    → ((k : ℕ) → get_or p k 0 < 256)
    → ((k : ℕ) → k < length w → get_or w k 0 ≡ gf_add (get_or q k 0) (get_or p k 0)) → IsExcess m p w
excess_is r m p q w er eq lq lw bp h =
    let made : q ≡ parity_of (length p) m = eq ∙ ap (λ (i : ℕ). parity_of i m) er in
    record {
      length_m = lw ∙ sym lq ∙ ap length made;
      length_b = lw ∙ er;
      at = λ k l. h k l ∙ ap (λ (u : List ℕ). gf_add (get_or u k 0) (get_or p k 0)) made
          ∙ ap (gf_add (get_or (parity_of (length p) m) k 0)) (sym (one_mul (get_or p k 0) (bp k)));
    }

-- all is zero exactly for a codeword
pub excess_tells : (r : ℕ) (m p w : List ℕ) (b : Bool) → length p ≡ r → length m + length p ≤ 255 → Symbols m → Symbols p
    → IsExcess m p w → IsTrue b ↔ ((k : ℕ) → k < length w → get_or w k 0 ≡ 0) → IsTrue b ↔ IsCodeword r (m ++ p)
excess_tells r m p w b e l bm bp h z = subst (λ (i : ℕ). IsTrue b ↔ IsCodeword i (m ++ p)) e (
  (λ t. codeword_of (length p) (m ++ p) (no_excess m p w bm h (z.0 t))),
  (λ c. z.1 (codeword_excess m p w l bm bp h (roots_of (length p) (m ++ p) c))),
)
