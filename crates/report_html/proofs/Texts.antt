-- Escaped bytes are text
use Rattle.std.proofs.Common.{◌≡◌, ℕ, zero, suc, ◌+◌, ◌/◌, ◌%◌, ◌<◌, ◌==◌, Bool, true, false, ◌&&◌, nat_lt}
use Rattle.std.proofs.Common.{if◌then◌else◌, List, [], ◌∷◌, ◌++◌, refl, ap, ◌∙◌, arith, codes}
use Rattle.std.specs.Prelude.{flat_map}
use Rattle.std.specs.List.{list_all, range_with_len}
use Rattle.std.proofs.lemmas.Bool.{and_parts}
use Rattle.std.proofs.lemmas.Bool.Decides.{nat_tests}
use Rattle.std.proofs.lemmas.List.Folds.{list_all-append}
use Rattle.zone_spec.specs.Parts.{AreBytes}
use Rattle.report_spec.specs.Escaped.{is_plain, shown, hex_digit, escaped_byte, escaped, is_harmless, are_references}
use Rattle.report_spec.specs.Escaped.{IsText}

-- a test that holds of all numbers of a range
of-range : (p : ℕ → Bool) (a n : ℕ) → list_all p (range_with_len a n) ≡ true → (j : ℕ) → j < n → p (a + j) ≡ true
of-range p a zero e j h = absurd (omega (arith, h))
of-range p a (suc n) e zero h =
    ap p (let s : a + 0 ≡ a = omega arith in s) ∙ (and_parts (p a) (list_all p (range_with_len (a + 1) n)) e).0
of-range p a (suc n) e (suc j) h =
    ap p (let s : a + suc j ≡ a + 1 + j = omega arith in s)
    ∙ of-range p (a + 1) n (and_parts (p a) (list_all p (range_with_len (a + 1) n)) e).1 j (omega (arith, h))

harmless-byte : (b : ℕ) → b < 256 → list_all is_harmless (escaped_byte b) ≡ true
harmless-byte b h =
    ap (λ (k : ℕ). list_all is_harmless (escaped_byte k)) (let s : b ≡ 0 + b = omega arith in s)
    ∙ of-range (λ k. list_all is_harmless (escaped_byte k)) 0 256 refl b h

digit-other : (n : ℕ) → (hex_digit n == 38) ≡ false
digit-other n = by (nat_lt n 10)
  where
    by : (t : Bool) → ((if t then 48 + n else 87 + n) == 38) ≡ false
    by true = grind (arith, nat_tests)
    by false = grind (arith, nat_tests)

other-byte : (b : ℕ) (rest : List ℕ) → (b == 38) ≡ false → are_references (b ∷ rest) ≡ are_references rest
other-byte b rest e = rw e refl

references-byte : (b : ℕ) (rest : List ℕ) → are_references (escaped_byte b ++ rest) ≡ are_references rest
references-byte b rest = by (b == 38) (b == 60) (b == 62) (b == 34) (b == 39) (is_plain b) refl
  where
    by : (t1 t2 t3 t4 t5 t6 : Bool) → (b == 38) ≡ t1
        → are_references ((if t1 then codes "&amp;" else (if t2 then codes "&lt;" else (if t3 then codes "&gt;"
        else (if t4 then codes "&quot;" else (if t5 then codes "&#39;" else (if t6 then b ∷ [] else shown b))))))
        ++ rest) ≡ are_references rest
    by true t2 t3 t4 t5 t6 e = refl
    by false true t3 t4 t5 t6 e = refl
    by false false true t4 t5 t6 e = refl
    by false false false true t5 t6 e = refl
    by false false false false true t6 e = refl
    by false false false false false true e = other-byte b rest e
    by false false false false false false e =
        other-byte (hex_digit (b / 16)) (hex_digit (b % 16) ∷ rest) (digit-other (b / 16))
        ∙ other-byte (hex_digit (b % 16)) rest (digit-other (b % 16))

pub is-text : (bytes : List ℕ) → AreBytes bytes → IsText (escaped bytes)
unfolding escaped
is-text [] all = record { harmless = refl; references = refl }
is-text (b ∷ bs) all =
    let rest = is-text bs (λ i. all (suc i)) in
    record {
      harmless = list_all-append is_harmless (escaped_byte b) (escaped bs)
          ∙ ap (λ (t : Bool). t && list_all is_harmless (escaped bs)) (harmless-byte b (all 0)) ∙ rest.harmless;
      references = references-byte b (escaped bs) ∙ rest.references;
    }

pub escaped-is : (bytes : List ℕ) → escaped bytes ≡ flat_map escaped_byte bytes
unfolding escaped
escaped-is bytes = refl
