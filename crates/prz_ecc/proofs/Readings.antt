-- A part's reading, by what the decoder answers of its word
use Rattle.std.proofs.Common.{◌≡◌, ℕ, zero, suc, ◌+◌, ◌-◌, ◌≤◌, List, [], ◌++◌, length, take, drop, refl, sym, ap}
use Rattle.std.proofs.Common.{subst, subst₂, ◌∙◌, arith, Option, Some, None, unwrap_or, length-drop, length-take, Bool}
use Rattle.std.proofs.Common.{true, eqb, IsTrue}
use Rattle.std.proofs.lemmas.Bool.{eqb-true}
use Rattle.std.specs.Prelude.{slice_range}
use Rattle.std.proofs.Math.Seq.{take-append_seam}
use Rattle.code_spec.specs.Code.{IsCodeword, nearest, is_codeword, distance, parity_of, the_word, all_words}
use Rattle.zone_spec.specs.declared.Zone.{Zone}
use Rattle.zone_spec.specs.Parts.{Part, part_at, part_len, part_parity_at, part_bytes, part_word}
use Rattle.zone_spec.specs.PartReadings.{part_reading, reading_by}
use Rattle.rs_decode.specs.Decoding.{decoded_by, decoded_at, fixes_by, IsExcess}
use Rattle.rs_decode.specs.declared.Fix.{Fix}
use Rattle.rs_decode.specs.declared.Decoded.{Decoded}
use Rattle.prz_ecc.specs.Outcomes.{outcome, part_word_fixes, CountsAre, IsPartExcess}

-- ---- without parity
pub parity_of-none : (r : ℕ) (m : List ℕ) → r ≡ 0 → parity_of r m ≡ []
unfolding parity_of the_word all_words is_codeword
parity_of-none r m e = ap (λ (k : ℕ). parity_of k m) e

pub nearest-none : (r : ℕ) (w : List ℕ) → r ≡ 0 → nearest r w ≡ Some w
unfolding nearest is_codeword
nearest-none r w e = ap (λ (k : ℕ). nearest k w) e

pub codeword-none : (r : ℕ) (w : List ℕ) → r ≡ 0 → IsCodeword r w
unfolding is_codeword
codeword-none r w e = ap (λ (k : ℕ). is_codeword k w) e

-- a list that is found empty
pub none_is : (xs : List ℕ) (e : Bool) → e ≡ eqb (length xs) 0 → e ≡ true → length xs ≡ 0
none_is xs e h t = eqb-true (length xs) 0 (sym h ∙ t)

pub data-none : (r : ℕ) (xs par : List ℕ) → r ≡ 0 → xs
    ≡ take (length xs) (unwrap_or (nearest r (xs ++ par)) (xs ++ par))
data-none r xs par e = sym (ap (λ (o : Option (List ℕ)). take (length xs) (unwrap_or o (xs ++ par)))
    (nearest-none r (xs ++ par) e) ∙ take-append_seam xs par)

-- ---- the bytes and the parity of a part
pub record IsPart (z : Zone) (image : List ℕ) (p : Part) (bytes par : List ℕ) : Type 0 where
  pub own : bytes ≡ part_bytes z image p
  pub word : bytes ++ par ≡ part_word z image p
  pub long : length par ≡ z.parity

pub own_is : (z : Zone) (image : List ℕ) (p : Part) (at len : ℕ) (bytes : List ℕ) → at ≡ part_at z p
    → len ≡ part_len z p → bytes ≡ slice_range image at (at + len) → bytes ≡ part_bytes z image p
unfolding part_bytes
own_is z image p at len bytes e f h = h ∙ ap (λ (n : ℕ). slice_range image n (n + len)) e
    ∙ ap (λ (n : ℕ). slice_range image (part_at z p) (part_at z p + n)) f

-- what lies at the part's places
pub is_part : (z : Zone) (image : List ℕ) (p : Part) (at len parity_at : ℕ) (bytes par : List ℕ) → at ≡ part_at z p
    → len ≡ part_len z p → parity_at ≡ part_parity_at z p
    → bytes ≡ slice_range image at (at + len) → par ≡ slice_range image parity_at (parity_at + z.parity)
    → parity_at + z.parity ≤ length image → IsPart z image p bytes par
unfolding part_word
is_part z image p at len parity_at bytes par e f g h k le =
    let one : bytes ≡ part_bytes z image p = own_is z image p at len bytes e f h in
    let two : slice_range image parity_at (parity_at + z.parity) ≡ slice_range image (part_parity_at z p)
    (part_parity_at z p + z.parity) = ap (λ (n : ℕ). slice_range image n (n + z.parity)) g in
    let size : parity_at + z.parity - parity_at ≡ z.parity = omega arith in
    record {
      own = one;
      word = ap (λ (l : List ℕ). l ++ par) one ∙ ap (λ (l : List ℕ). part_bytes z image p ++ l) (k ∙ two);
      long = omega (
        arith,
        ap length k,
        length-take (parity_at + z.parity - parity_at) (drop parity_at image),
        length-drop parity_at image,
        size,
      );
    }

-- ---- what the decoder answers of them
pub answer_is : (z : Zone) (image : List ℕ) (p : Part) (bytes par : List ℕ) (o : Decoded) → IsPart z image p bytes par
    → o ≡ decoded_by (bytes ++ par) (nearest (length par) (bytes ++ par)) → o ≡ outcome z image p
answer_is z image p bytes par o h e =
    e ∙ ap (λ (w : List ℕ). decoded_by w (nearest (length par) w)) h.word
    ∙ ap (λ (r : ℕ). decoded_by (part_word z image p) (nearest r (part_word z image p))) h.long

pub fixes_are : (z : Zone) (image : List ℕ) (p : Part) (bytes par : List ℕ) (fs : List Fix)
    → IsPart z image p bytes par → fs ≡ fixes_by (bytes ++ par) (nearest (length par) (bytes ++ par))
    → fs ≡ part_word_fixes z image p
fixes_are z image p bytes par fs h e =
    e ∙ ap (λ (w : List ℕ). fixes_by w (nearest (length par) w)) h.word
    ∙ ap (λ (r : ℕ). fixes_by (part_word z image p) (nearest r (part_word z image p))) h.long

reading-bytes : (bytes par : List ℕ) (o : Option (List ℕ))
    → take (length bytes) (unwrap_or o (bytes ++ par)) ≡ (reading_by bytes (bytes ++ par) o).bytes
reading-bytes bytes par (Some c) = refl
reading-bytes bytes par None = take-append_seam bytes par

pub data_is : (z : Zone) (image : List ℕ) (p : Part) (bytes par out : List ℕ) → IsPart z image p bytes par
    → out ≡ take (length bytes) (unwrap_or (nearest (length par) (bytes ++ par)) (bytes ++ par))
    → out ≡ (part_reading z image p).bytes
unfolding part_reading
data_is z image p bytes par out h e =
    e ∙ reading-bytes bytes par (nearest (length par) (bytes ++ par))
    ∙ ap (λ (r : ℕ). (reading_by bytes (bytes ++ par) (nearest r (bytes ++ par))).bytes) h.long
    ∙ ap (λ (w : List ℕ). (reading_by bytes w (nearest z.parity w)).bytes) h.word
    ∙ ap (λ (b : List ℕ). (reading_by b (part_word z image p) (nearest z.parity (part_word z image p))).bytes) h.own

-- ---- the counts
counts-at : (bytes w c : List ℕ) (n : ℕ) → distance w c ≡ n → CountsAre (decoded_at n) (reading_by bytes w (Some c))
counts-at bytes w c zero e = (e, refl)
counts-at bytes w c (suc n) e = (e, refl)

counts-by : (bytes w : List ℕ) (o : Option (List ℕ)) → CountsAre (decoded_by w o) (reading_by bytes w o)
unfolding decoded_by
counts-by bytes w (Some c) = counts-at bytes w c (distance w c) refl
counts-by bytes w None = (refl, refl)

pub counts : (z : Zone) (image : List ℕ) (p : Part) → CountsAre (outcome z image p) (part_reading z image p)
unfolding part_reading
counts z image p = counts-by (part_bytes z image p) (part_word z image p) (nearest z.parity (part_word z image p))

pub counts_are : (z : Zone) (image : List ℕ) (p : Part) (o : Decoded) → o ≡ outcome z image p
    → CountsAre o (part_reading z image p)
counts_are z image p o e = subst (λ (d : Decoded). CountsAre d (part_reading z image p)) (sym e) (counts z image p)

-- ---- codewords

-- the test of a word, by another number of parity bytes
pub codeword_by : (w : List ℕ) (k r : ℕ) (t : Bool) → k ≡ r → (IsTrue t → IsCodeword k w) × (IsCodeword k w → IsTrue t)
    → (IsTrue t → IsCodeword r w) × (IsCodeword r w → IsTrue t)
codeword_by w k r t e h = subst (λ (n : ℕ). (IsTrue t → IsCodeword n w) × (IsCodeword n w → IsTrue t)) e h

-- the test of a part's word
pub codeword_is : (z : Zone) (image : List ℕ) (p : Part) (bytes par : List ℕ) (r : ℕ) (t : Bool)
    → IsPart z image p bytes par → r ≡ z.parity
    → (IsTrue t → IsCodeword r (bytes ++ par)) × (IsCodeword r (bytes ++ par) → IsTrue t)
    → (IsTrue t → IsCodeword z.parity (part_word z image p)) × (IsCodeword z.parity (part_word z image p) → IsTrue t)
codeword_is z image p bytes par r t h e k =
    subst (λ (w : List ℕ). (IsTrue t → IsCodeword z.parity w) × (IsCodeword z.parity w → IsTrue t)) h.word
    (codeword_by (bytes ++ par) r z.parity t e k)

-- ---- the excess of a part
pub excess_to : (z : Zone) (image : List ℕ) (p : Part) (at : ℕ) (bytes par e : List ℕ) → bytes ≡ part_bytes z image p
    → at ≡ part_parity_at z p → par ≡ slice_range image at (at + z.parity) → IsExcess bytes par e → IsPartExcess z image p e
excess_to z image p at bytes par e own there is h =
    subst₂ (λ (m q : List ℕ). IsExcess m q e) own
    (is ∙ ap (λ (n : ℕ). slice_range image n (n + z.parity)) there) h

pub excess_from : (z : Zone) (image : List ℕ) (p : Part) (at : ℕ) (bytes par e : List ℕ) → bytes ≡ part_bytes z image p
    → at ≡ part_parity_at z p → par ≡ slice_range image at (at + z.parity) → IsPartExcess z image p e → IsExcess bytes par e
excess_from z image p at bytes par e own there is h =
    subst₂ (λ (m q : List ℕ). IsExcess m q e) (sym own)
    (sym (is ∙ ap (λ (n : ℕ). slice_range image n (n + z.parity)) there)) h

-- without parity the excess is empty
pub excess-none : (m p e : List ℕ) → length p ≡ 0 → length e ≡ 0 → IsExcess m p e
excess-none m p e lp le = record {
  length_m = le ∙ sym (ap length (parity_of-none (length p) m lp));
  length_b = le ∙ sym lp;
  at = λ k l. absurd (omega arith);
}
