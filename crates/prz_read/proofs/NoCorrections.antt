-- A zone whose reading counts no correction has none to store
use Rattle.std.proofs.Common.{◌≡◌, ℕ, ◌+◌, List, [], ◌∷◌, ◌++◌, length, take, slice_range, flat_map, refl, sym, ap, ap₂}
use Rattle.std.proofs.Common.{◌∙◌, arith, Option, Some, None}
use Rattle.std.specs.List.{sum_by}
use Rattle.std.proofs.Math.Seq.{take-append_seam}
use Rattle.std.proofs.lemmas.List.Sums.{sum_by-cons}
use Rattle.std.proofs.lemmas.Bool.Decides.{nat_tests}
use Rattle.code_spec.specs.Code.{nearest, distance}
use Rattle.code_laws.proofs.Nearest.{IsNear, nearest-IsNear}
use Rattle.code_laws.proofs.Nearest.{distance_zero}
use Rattle.zone_spec.specs.declared.Zone.{Zone}
use Rattle.zone_spec.specs.declared.State.{State}
use Rattle.zone_spec.specs.declared.State.TheVariants.{Unsigned, Empty, Invalid, Found}
use Rattle.zone_spec.specs.Parts.{AreBytes, Part, Header, Block, part_at, part_parity_at, part_bytes, part_word}
use Rattle.zone_spec.specs.PartReadings.{part_reading, reading_by, words_read}
use Rattle.zone_spec.specs.Reading.{zone_reading, reading_in, state_of}
use Rattle.zone_spec.specs.Stores.{Store}
use Rattle.zone_spec.specs.Boot.{fix_stores, part_fixes, boot_fixes, blocks_read}
use Rattle.ring_laws.proofs.PartWords.{part_word-IsWord, reading_near, reading_none}

fix-itself : (p : ℕ) (xs : List ℕ) → fix_stores p xs xs ≡ []
unfolding fix_stores
fix-itself p [] = refl
fix-itself p (x ∷ xs) = let rest = fix-itself (p + 1) xs in grind (arith, nat_tests, rest)

near-corrected : (z : Zone) (x : List ℕ) (p : Part) (c : List ℕ) → nearest z.parity (part_word z x p) ≡ Some c
    → (part_reading z x p).corrected ≡ distance (part_word z x p) c
unfolding part_reading
near-corrected z x p c e = ap (λ (o : Option (List ℕ)). (reading_by (part_bytes z x p) (part_word z x p) o).corrected) e

word-front : (z : Zone) (x : List ℕ) (p : Part) → take (length (part_bytes z x p)) (part_word z x p) ≡ part_bytes z x p
unfolding part_word
word-front z x p = take-append_seam (part_bytes z x p)
    (slice_range x (part_parity_at z p) (part_parity_at z p + z.parity))

-- a part without corrections reads what stands
part-uncorrected : (z : Zone) (x : List ℕ) (p : Part) → AreBytes x → (part_reading z x p).corrected ≡ 0
    → (part_reading z x p).bytes ≡ part_bytes z x p
part-uncorrected z x p h zero_is = by (nearest z.parity (part_word z x p)) refl
  where
    by : (o : Option (List ℕ)) → nearest z.parity (part_word z x p) ≡ o → (part_reading z x p).bytes ≡ part_bytes z x p
    by None e = reading_none z x p e
    by (Some c) e =
        let near : IsNear z.parity (part_word z x p) c = nearest-IsNear z.parity (part_word z x p) c
        (part_word-IsWord z x p h) e in
        let same : part_word z x p ≡ c = distance_zero (part_word z x p) c (sym near.word.0)
        (omega (arith, zero_is, near-corrected z x p c e)) in
        reading_near z x p c e ∙ ap (λ (w : List ℕ). take (length (part_bytes z x p)) w) (sym same) ∙ word-front z x p

part-none : (z : Zone) (x : List ℕ) (p : Part) → AreBytes x → (part_reading z x p).corrected ≡ 0 → part_fixes z x p ≡ []
part-none z x p h zero_is =
    ap (λ (bs : List ℕ). fix_stores (part_at z p) (part_bytes z x p) bs) (part-uncorrected z x p h zero_is)
    ∙ fix-itself (part_at z p) (part_bytes z x p)

blocks-none : (z : Zone) (x : List ℕ) (ks : List ℕ) → AreBytes x
    → sum_by (λ b. (part_reading z x (Block b)).corrected) ks ≡ 0 → flat_map (λ b. part_fixes z x (Block b)) ks ≡ []
blocks-none z x [] h zero_is = refl
blocks-none z x (k ∷ ks) h zero_is =
    let both = sum_by-cons (λ b. (part_reading z x (Block b)).corrected) k ks in
    ap₂ (λ (a b : List Store). a ++ b) (part-none z x (Block k) h (omega (arith, zero_is, both)))
    (blocks-none z x ks h (omega (arith, zero_is, both)))

pub boot_fixes-none : (z : Zone) (x : List ℕ) → AreBytes x → (zone_reading z x).corrected ≡ 0 → [] ≡ boot_fixes z x
unfolding boot_fixes zone_reading
boot_fixes-none z x h zero_is = sym (by (state_of z (words_read z x)) zero_is)
  where
    by : (s : State) → (reading_in z x (words_read z x) s).corrected ≡ 0
        → part_fixes z x Header ++ flat_map (λ b. part_fixes z x (Block b))
        (blocks_read z (reading_in z x (words_read z x) s) (reading_in z x (words_read z x) s).state) ≡ []
    by Unsigned e = ap (λ (l : List Store). l ++ []) (part-none z x Header h e)
    by Empty e = ap (λ (l : List Store). l ++ []) (part-none z x Header h e)
    by Invalid e = ap (λ (l : List Store). l ++ []) (part-none z x Header h e)
    by Found e = ap₂ (λ (a b : List Store). a ++ b) (part-none z x Header h (omega (arith, e)))
        (blocks-none z x _ h (omega (arith, e)))
