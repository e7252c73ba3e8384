-- What is answered and which fixes are made, where the nearest codeword is known. For `decode_within_by` and
-- `decode_by`, and in prz_ecc for `correct`.
use Rattle.std.proofs.lemmas.Bool.{cases_eq}
use Rattle.std.proofs.Common.{◌≡◌, ◌≢◌, ℕ, zero, suc, ◌+◌, ◌-◌, ◌/◌, ◌≤◌, ◌<◌, eqb, Bool, true, false, true≢false, refl}
use Rattle.std.proofs.Common.{sym, ap, ap₂, ◌∙◌, arith, List, [], ◌∷◌, ◌++◌, length, take, ◌⊎◌, inl, inr, Option, Some}
use Rattle.std.proofs.Common.{None, unwrap_or}
use Rattle.std.proofs.Math.Dec.{leb}
use Rattle.std.proofs.lemmas.Bool.{le-leb, cond-true, cond-false, eq-eqb, ne_eqb}
use Rattle.std.proofs.lemmas.Bool.Decides.{leb_tells}
use Rattle.std.proofs.Math.Seq.{take-append_seam}
use Rattle.decoder_laws.proofs.Nearest.{word_of, nearest_of_codeword, nearest-close}
use Rattle.code_spec.specs.Field.{gf_add}
use Rattle.code_spec.specs.Code.{distance, nearest, IsNear}
use Rattle.code_laws.proofs.Ring.{add_self, equal_from_add}
use Rattle.code_laws.proofs.Symbols.{HasRoots, Symbols}
use Rattle.code_laws.proofs.Words.{word_sum, length-word_sum}
use Rattle.code_laws.proofs.Parity.{roots_of, symbols_of as symbols_of_bytes}
use Rattle.code_laws.proofs.Nearest.{nearest-IsNear, distance_self}
use Rattle.rs_decode.specs.Decoding.{decoded_by, decoded_at, differences, fixes_by, within}
use Rattle.decoder_laws.specs.Damage.{IsWithin}
use Rattle.rs_decode.specs.Fixes.{fixes_from, fixes_between}
use Rattle.rs_decode.specs.declared.Fix.{Fix}
use Rattle.rs_decode.specs.declared.Decoded.TheVariants.{Clean, Fixed, Bad}

-- ---- the nearest codeword within a bound
within-some : (most : ℕ) (w c : List ℕ) (o : Option (List ℕ)) → o ≡ Some c → distance w c ≤ most
    → within most w o ≡ Some c
unfolding within
within-some most w c o e l = ap (within most w) e
    ∙ cond-true (leb (distance w c) most) (Some c) None (le-leb (distance w c) most l)

pub within_near : (most r : ℕ) (w c : List ℕ) → nearest r w ≡ Some c → IsWithin most r w c
    → within most w (nearest r w) ≡ Some c
within_near most r w c e h = within-some most w c (nearest r w) e h.near

pub within_codeword : (most r : ℕ) (w : List ℕ) → HasRoots r w → within most w (nearest r w) ≡ Some w
within_codeword most r w h = within-some most w w (nearest r w) (nearest_of_codeword r w h)
    (omega (arith, distance_self w))

pub within_none : (most r : ℕ) (w : List ℕ) → Symbols w → ((c : List ℕ) → IsWithin most r w c → ⊥)
    → within most w (nearest r w) ≡ None
unfolding within
within_none most r w b h = by (nearest r w) refl
  where
    far : (c : List ℕ) → nearest r w ≡ Some c → distance w c ≤ most → ⊥
    far c e l =
        let n : IsNear r w c = nearest-IsNear r w c (word_of w b) e in
        h c (record {
          len = sym n.word.0;
          symbols = symbols_of_bytes c n.word.1;
          codeword = roots_of r c n.codeword;
          near = l;
        })

    beyond : (c : List ℕ) → nearest r w ≡ Some c
        → ((leb (distance w c) most ≡ true) × (distance w c ≤ most))
        ⊎ ((leb (distance w c) most ≡ false) × (most < distance w c)) → leb (distance w c) most ≡ false
    beyond c e (inl h) = absurd (far c e h.1)
    beyond c e (inr h) = h.0

    by : (o : Option (List ℕ)) → nearest r w ≡ o → within most w (nearest r w) ≡ None
    by None e = ap (within most w) e
    by (Some c) e = ap (within most w) e
        ∙ cond-false (leb (distance w c) most) (Some c) None (beyond c e (leb_tells (distance w c) most))

pub within_half : (most r : ℕ) (w : List ℕ) → most ≡ r / 2 → within most w (nearest r w) ≡ nearest r w
unfolding within
within_half most r w m = by (nearest r w) refl
  where
    by : (o : Option (List ℕ)) → nearest r w ≡ o → within most w (nearest r w) ≡ nearest r w
    by None e = ap (within most w) e ∙ sym e
    by (Some c) e = within-some most w c (nearest r w) e (omega (arith, nearest-close r w c e)) ∙ sym e

-- ---- the fixes
differs_sum : (a b : ℕ) → gf_add a b ≢ 0 → a ≢ b
differs_sum a b n e = n (ap (gf_add a) (sym e) ∙ add_self a)

differences_from : (n i : ℕ) (w c : List ℕ) → length w ≡ length c → n ≡ i + length w
    → fixes_from n (word_sum w c) ≡ differences i w c
unfolding word_sum
differences_from n i [] [] e en = refl
differences_from n i [] (b ∷ c) e en = absurd (omega arith)
differences_from n i (a ∷ w) [] e en = absurd (omega arith)
differences_from n i (a ∷ w) (b ∷ c) e en = go (cases_eq (gf_add a b) 0)
    (differences_from n (suc i) w c (omega arith) (omega arith))
  where
    D : List ℕ
    D = word_sum w c

    go : (gf_add a b ≡ 0) ⊎ (gf_add a b ≢ 0) → fixes_from n D ≡ differences (suc i) w c
        → fixes_from n (gf_add a b ∷ D) ≡ differences i (a ∷ w) (b ∷ c)
    go (inl z) ih =
        cond-true (eqb (gf_add a b) 0) (fixes_from n D) (record { place = n - 1 - length D; mask = gf_add a b }
        ∷ fixes_from n D) (eq-eqb (gf_add a b) 0 z) ∙ ih
        ∙ sym (cond-true (eqb a b) (differences (suc i) w c)
        (record { place = i; mask = gf_add a b } ∷ differences (suc i) w c) (eq-eqb a b (equal_from_add a b z)))
    go (inr m) ih =
        cond-false (eqb (gf_add a b) 0) (fixes_from n D)
        (record { place = n - 1 - length D; mask = gf_add a b } ∷ fixes_from n D) (ne_eqb (gf_add a b) 0 m)
        ∙ ap₂ (λ (p : ℕ) (fs : List Fix). record { place = p; mask = gf_add a b } ∷ fs)
        (let h : n - 1 - length D ≡ i = omega (
          arith,
          length-word_sum w c
              (let l : length w ≡ length c = omega arith in l),
        ) in h) ih
        ∙ sym (cond-false (eqb a b) (differences (suc i) w c)
        (record { place = i; mask = gf_add a b } ∷ differences (suc i) w c) (ne_eqb a b (differs_sum a b m)))

pub differences_is : (w c : List ℕ) → length w ≡ length c → fixes_between w c ≡ differences 0 w c
differences_is w c e = differences_from (length w) 0 w c e (omega arith)

differences_self : (i : ℕ) (w : List ℕ) → differences i w w ≡ []
differences_self i [] = refl
differences_self i (a ∷ w) = cond-true (eqb a a) (differences (suc i) w w)
    (record { place = i; mask = gf_add a a } ∷ differences (suc i) w w) (eq-eqb a a refl)
    ∙ differences_self (suc i) w

-- ---- the answers, where the nearest codeword is known
decoded_positive : (d : ℕ) → 0 < d → decoded_at d ≡ Fixed d
decoded_positive zero h = absurd (omega arith)
decoded_positive (suc d) h = refl

pub decoded_fixed : (w c : List ℕ) (n : ℕ) (o : Option (List ℕ)) → o ≡ Some c → 0 < distance w c → distance w c ≡ n
    → Fixed n ≡ decoded_by w o
unfolding decoded_by
decoded_fixed w c n o e s d = sym (ap (decoded_by w) e ∙ decoded_positive (distance w c) s ∙ ap Fixed d)

pub decoded_clean : (w : List ℕ) (o : Option (List ℕ)) → o ≡ Some w → Clean ≡ decoded_by w o
unfolding decoded_by
decoded_clean w o e = sym (ap (decoded_by w) e ∙ ap decoded_at (distance_self w))

pub decoded_bad : (w : List ℕ) (o : Option (List ℕ)) → o ≡ None → Bad ≡ decoded_by w o
unfolding decoded_by
decoded_bad w o e = sym (ap (decoded_by w) e)

pub fixes_fixed : (w c : List ℕ) (fs : List Fix) (o : Option (List ℕ)) → length w ≡ length c → o ≡ Some c
    → fs ≡ fixes_between w c → fs ≡ fixes_by w o
unfolding fixes_by
fixes_fixed w c fs o l e f = f ∙ differences_is w c l ∙ sym (ap (fixes_by w) e)

pub fixes_clean : (w : List ℕ) (fs : List Fix) (o : Option (List ℕ)) → o ≡ Some w → fs ≡ [] → fs ≡ fixes_by w o
unfolding fixes_by
fixes_clean w fs o e f = f ∙ sym (ap (fixes_by w) e ∙ differences_self 0 w)

pub fixes_bad : (w : List ℕ) (fs : List Fix) (o : Option (List ℕ)) → o ≡ None → fs ≡ [] → fs ≡ fixes_by w o
unfolding fixes_by
fixes_bad w fs o e f = f ∙ sym (ap (fixes_by w) e)

-- no answer is both
pub true_false : (b : Bool) → b ≡ true → b ≡ false → ⊥
true_false b e f = absurd (true≢false (sym e ∙ f))

pub data_clean : (m p : List ℕ) (o : Option (List ℕ)) → o ≡ Some (m ++ p) → m ≡ take (length m) (unwrap_or o (m ++ p))
data_clean m p o e = sym (ap (λ (u : Option (List ℕ)). take (length m) (unwrap_or u (m ++ p))) e ∙ take-append_seam m p)

pub data_bad : (m p : List ℕ) (o : Option (List ℕ)) → o ≡ None → m ≡ take (length m) (unwrap_or o (m ++ p))
data_bad m p o e = sym (ap (λ (u : Option (List ℕ)). take (length m) (unwrap_or u (m ++ p))) e ∙ take-append_seam m p)

pub data_fixed : (m p c n : List ℕ) (o : Option (List ℕ)) → o ≡ Some c → n ≡ take (length m) c
    → n ≡ take (length m) (unwrap_or o (m ++ p))
data_fixed m p c n o e f = f ∙ sym (ap (λ (u : Option (List ℕ)). take (length m) (unwrap_or u (m ++ p))) e)
