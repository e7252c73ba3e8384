-- The rest of a message as a list of symbols
use Rattle.std.proofs.Common.{◌≡◌, subst, length-drop, ℕ, ◌+◌, ◌<◌, List, ◌++◌, ◌∷◌, [], length, get_or, sym, ◌∙◌}
use Rattle.std.proofs.Common.{arith, drop, take, replicate}
use Rattle.std.proofs.lemmas.List.{take_more}
use Rattle.list_laws.proofs.Elements.{get_or-replicate_default}
use Rattle.code_spec.specs.Field.{gf_add, gf_mul}
use Rattle.code_spec.specs.Code.{IsCodeword}
use Rattle.code_laws.proofs.Symbols.{HasRoots}
use Rattle.code_laws.proofs.Parity.{roots_of, codeword_of}
use Rattle.code_laws.proofs.Steps.{encode_step, zeros_codeword}
use Rattle.rs_encode.specs.Generator.{IsGenerator}
use Rattle.rs_encode.proofs.Steps.{low_of}

-- no symbols have the rest of zeros
pub bare_none : (r : ℕ) → IsCodeword r (replicate r 0)
bare_none r = codeword_of r (replicate r 0) (zeros_codeword r (replicate r 0) (λ k l. get_or-replicate_default r k 0))

-- one more symbol of the message
pub bare_step : (r i f : ℕ) (g m o n : List ℕ) → IsGenerator g → length g ≡ r + 1 → i < length m
    → get_or m i 0 < 256 → length o ≡ r → length n ≡ r → f ≡ gf_add (get_or m i 0) (get_or o 0 0)
    → ((k : ℕ) → k < length n
    → get_or n k 0 ≡ gf_add (get_or o (k + 1) 0) (gf_mul f (get_or (drop 1 g) k 0)))
    → IsCodeword r (take i m ++ o) → IsCodeword r (take (i + 1) m ++ n)
bare_step r i f g m o n hg lg l bc lo ln ef at h =
    let low : List ℕ = drop 1 g in
    let c : ℕ = get_or m i 0 in
    let w : List ℕ = take i m in
    let ll : length low ≡ r = omega (arith, length-drop 1 g) in
    subst (λ (u : List ℕ). IsCodeword r (u ++ n)) (sym (take_more m i 0 l))
    (codeword_of r ((w ++ c ∷ []) ++ n) (subst (λ (i : ℕ). HasRoots i ((w ++ c ∷ []) ++ n)) ll
    (encode_step w o n low c f bc (omega (arith, hg.some)) (ln ∙ sym lo) (ll ∙ sym lo) ef
    (λ k b. at k (omega (arith, b)))
    (low_of g hg) (subst (λ (i : ℕ). HasRoots i (w ++ o)) (sym ll) (roots_of r (w ++ o) h)))))
