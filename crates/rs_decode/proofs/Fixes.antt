-- The list of fixes that Chien's search and Forney's formula make is that of the damage. For `fill` and `candidate`.
use Rattle.std.proofs.lemmas.Bool.{cases_eq}
use Rattle.std.proofs.Common.{◌≡◌, ◌≢◌, ℕ, suc, ◌-◌, ◌≤◌, ◌<◌, eqb, refl, sym, ap, ap₂, ◌∙◌, subst, arith, List, []}
use Rattle.std.proofs.Common.{◌∷◌, ◌++◌, length, take, ◌⊎◌, inl, inr}
use Rattle.code_spec.specs.Field.{gf_mul}
use Rattle.code_laws.proofs.Ring.{mul_comm}
use Rattle.code_laws.proofs.Symbols.{Symbols}
use Rattle.decoder_laws.specs.Chien.{at_power, powers_of, roots_of}
use Rattle.decoder_laws.specs.Forney.{gap_ratio}
use Rattle.rs_decode.specs.Fixes.{IsFix, AreFixes, AllInside, fixes_from}
use Rattle.decoder_laws.specs.Damage.{IsFound}
use Rattle.rs_decode.specs.declared.Fix.{Fix}
use Rattle.decoder_laws.proofs.Forney.{found_mask, gap_ratio_below, gap_ratio_some}
use Rattle.std.proofs.lemmas.Bool.{cond-true, cond-false, eq-eqb, ne_eqb}
use Rattle.decoder_laws.proofs.Powers.{cancel_equal}
use Rattle.decoder_laws.proofs.Chien.{at_here, at_below, powers_skip, powers_keep, powers_below-255, powers_of-below}
use Rattle.decoder_laws.proofs.Chien.{found_powers}

-- ---- the list of fixes
pub are_fixes-push : (n c : ℕ) (r all ps : List ℕ) (fs : List Fix) (p : ℕ) (f : Fix) → AreFixes n c r all ps fs
    → IsFix n c r all p f → AreFixes n c r all (ps ++ p ∷ []) (fs ++ f ∷ [])
are_fixes-push n c r all [] [] p f h k = (k, tt)
are_fixes-push n c r all [] (g ∷ fs) p f h k = absurd (h tt)
are_fixes-push n c r all (q ∷ ps) [] p f h k = absurd (h tt)
are_fixes-push n c r all (q ∷ ps) (g ∷ fs) p f h k = (h.0, are_fixes-push n c r all ps fs p f h.1 k)

pub are_fixes-length : (n c : ℕ) (r all ps : List ℕ) (fs : List Fix) → AreFixes n c r all ps fs → length fs ≡ length ps
are_fixes-length n c r all [] [] h = refl
are_fixes-length n c r all [] (g ∷ fs) h = absurd (h tt)
are_fixes-length n c r all (q ∷ ps) [] h = absurd (h tt)
are_fixes-length n c r all (q ∷ ps) (g ∷ fs) h = ap suc (are_fixes-length n c r all ps fs h.1)

pub are_fixes-inside : (n c : ℕ) (r all ps : List ℕ) (fs : List Fix) → AreFixes n c r all ps fs → AllInside n fs
are_fixes-inside n c r all [] [] h = tt
are_fixes-inside n c r all [] (g ∷ fs) h = absurd (h tt)
are_fixes-inside n c r all (q ∷ ps) [] h = absurd (h tt)
are_fixes-inside n c r all (q ∷ ps) (g ∷ fs) h = (
  let e = h.0.place in
      omega arith,
  h.0.mask_byte,
  are_fixes-inside n c r all ps fs h.1,
)

-- the fixes are the places of D that are not zero
same_fixes : (n c : ℕ) (v r D d : List ℕ) (fs : List Fix) → n ≡ length D → IsFound D v r c → length d ≤ length D
    → Symbols d → ((j : ℕ) → j < length d → at_power D j ≡ at_power d j)
    → AreFixes n c r (powers_of D) (powers_of d) fs → fs ≡ fixes_from n d
same_fixes n c v r D [] [] en h l s at k = refl
same_fixes n c v r D [] (f ∷ fs) en h l s at k = absurd (k tt)
same_fixes n c v r D (b ∷ d) fs en h l s at k =
    go (cases_eq b 0) fs k (λ fs' k'. same_fixes n c v r D d fs' en h (omega arith) s.1
    (λ j lj. at j (omega arith) ∙ at_below b j d lj) k')
  where
    same_fix : (f : Fix) → b ≢ 0 → IsFix n c r (powers_of D) (length d) f
        → f ≡ record { place = n - 1 - length d; mask = b }
    same_fix f nb k =
        let here : at_power D (length d) ≡ b = at (length d) (omega arith) ∙ at_here b (length d) d refl in
        ap₂ (λ (p m : ℕ). record { place = p; mask = m }) (let e = k.place in omega arith)
        (cancel_equal f.mask b (gap_ratio (powers_of D) (length d)) k.mask_byte s.0
        (gap_ratio_below (powers_of D) (length d))
        (gap_ratio_some (powers_of D) (length d) (let q = h.len in omega arith)
        (powers_below-255 (length D) (powers_of D) h.len (powers_of-below D)))
        (mul_comm (gap_ratio (powers_of D) (length d)) f.mask ∙ k.mask
        ∙ sym (found_mask D v r c (length d) h (omega arith) (λ e. nb (sym here ∙ e))
        (subst (λ (x : ℕ). x < 256) (sym here) s.0))
        ∙ ap (λ (x : ℕ). gf_mul x (gap_ratio (powers_of D) (length d))) here
        ∙ mul_comm b (gap_ratio (powers_of D) (length d))))

    go : (b ≡ 0) ⊎ (b ≢ 0) → (fs : List Fix) → AreFixes n c r (powers_of D) (powers_of (b ∷ d)) fs
        → ((fs' : List Fix) → AreFixes n c r (powers_of D) (powers_of d) fs' → fs' ≡ fixes_from n d)
        → fs ≡ fixes_from n (b ∷ d)
    go (inl z) fs k ih = ih fs (subst (λ (ps : List ℕ). AreFixes n c r (powers_of D) ps fs) (powers_skip b d z) k)
        ∙ sym (cond-true (eqb b 0) (fixes_from n d) (record { place = n - 1 - length d; mask = b } ∷ fixes_from n d)
        (eq-eqb b 0 z))
    go (inr nb) fs k ih = more fs (subst (λ (ps : List ℕ). AreFixes n c r (powers_of D) ps fs) (powers_keep b d nb) k)
        ∙ sym (cond-false (eqb b 0) (fixes_from n d) (record { place = n - 1 - length d; mask = b }
        ∷ fixes_from n d) (ne_eqb b 0 nb))
      where
        more : (fs : List Fix) → AreFixes n c r (powers_of D) (length d ∷ powers_of d) fs
            → fs ≡ (record { place = n - 1 - length d; mask = b } ∷ fixes_from n d)
        more [] k = absurd (k tt)
        more (f ∷ fs) k = ap₂ ◌∷◌ (same_fix f nb k.0) (ih fs k.1)

pub found_fixes : (n c : ℕ) (v r D ps : List ℕ) (fs : List Fix) → n ≡ length D → IsFound D v r c
    → ps ≡ take (length v - 1) (roots_of v n) → AreFixes n c r ps ps fs → fs ≡ fixes_from n D
found_fixes n c v r D ps fs en h ep k =
    let e : ps ≡ powers_of D = found_powers n c v r D ps en h ep in
    same_fixes n c v r D D fs en h (omega arith) h.symbols (λ j l. refl)
    (subst (λ (u : List ℕ). AreFixes n c r u u fs) e k)
