-- The text of a notice
use Rattle.std.proofs.Common.{◌≡◌, ℕ, ◌+◌, ◌<◌, ◌==◌, Bool, false, List, [], ◌∷◌, ◌++◌, refl, sym, ap, ap₂, ◌∙◌, arith}
use Rattle.std.proofs.Common.{append_assoc, length, length-append}
use Rattle.std.specs.Prelude.{codes, decimal, if◌then◌else◌}
use Rattle.std.proofs.lemmas.Bool.Decides.{nat_tests}
use Rattle.zone_spec.specs.Notices.{notice_text}

enclosed : (a d b e z : List ℕ) → ((((10 ∷ a) ++ d) ++ b) ++ e) ++ (z ++ 10 ∷ [])
    ≡ (10 ∷ ((((a ++ d) ++ b) ++ e) ++ z)) ++ 10 ∷ []
enclosed a d b e z = sym (append_assoc (((((10 ∷ a) ++ d) ++ b) ++ e)) z (10 ∷ []))

not-zero : (n : ℕ) → 0 < n → (n == 0) ≡ false
not-zero n some = grind (arith, nat_tests)

second : (t : Bool) (xs ys : List ℕ) → t ≡ false → (if t then xs else ys) ≡ ys
second t xs ys e = rw e refl

counted : (corrected bad : ℕ) → 0 < corrected + bad
    → notice_text corrected bad ≡ ((((codes "\nECC: " ++ decimal corrected) ++ codes " Corrected bytes, ")
    ++ decimal bad) ++ codes " unrecoverable blocks\n")
counted corrected bad some =
    ap (λ (xs : List ℕ). (10 ∷ xs) ++ 10 ∷ []) (second (corrected + bad == 0) (codes "ECC: No errors detected")
    (codes "ECC: " ++ decimal corrected ++ codes " Corrected bytes, " ++ decimal bad
    ++ codes " unrecoverable blocks") (not-zero (corrected + bad) some))
    ∙ sym (enclosed (codes "ECC: ") (decimal corrected) (codes " Corrected bytes, ") (decimal bad)
    (codes " unrecoverable blocks"))

-- the parts of a notice with counts, put one after another
pub written : (corrected bad : ℕ) (b1 b2 b3 b4 b5 d1 d2 : List ℕ) → 0 < corrected + bad → d1 ≡ decimal corrected
    → d2 ≡ decimal bad
    → b1 ≡ codes "\nECC: " → b2 ≡ b1 ++ d1 → b3 ≡ b2 ++ codes " Corrected bytes, " → b4 ≡ b3 ++ d2
    → b5 ≡ b4 ++ codes " unrecoverable blocks\n" → b5 ≡ notice_text corrected bad
written corrected bad b1 b2 b3 b4 b5 d1 d2 some first later e1 e2 e3 e4 e5 =
    let p2 : b2 ≡ codes "\nECC: " ++ decimal corrected = e2 ∙ ap₂ (λ (xs ys : List ℕ). xs ++ ys) e1 first in
    let p3 : b3 ≡ (codes "\nECC: " ++ decimal corrected) ++ codes " Corrected bytes, " =
    e3 ∙ ap (λ (xs : List ℕ). xs ++ codes " Corrected bytes, ") p2 in
    let p4 : b4 ≡ ((codes "\nECC: " ++ decimal corrected) ++ codes " Corrected bytes, ") ++ decimal bad =
    e4 ∙ ap₂ (λ (xs ys : List ℕ). xs ++ ys) p3 later in
    e5 ∙ ap (λ (xs : List ℕ). xs ++ codes " unrecoverable blocks\n") p4 ∙ sym (counted corrected bad some)

-- ---- its length

lengths : (a d m e z : List ℕ) → length ((((a ++ d) ++ m) ++ e) ++ z)
    ≡ length a + length m + length z + length d + length e
lengths a d m e z = omega (
  arith,
  length-append (((a ++ d) ++ m) ++ e) z,
  length-append ((a ++ d) ++ m) e,
  length-append (a ++ d) m,
  length-append a d,
)

pub no_errors_length : (corrected bad : ℕ) → corrected ≡ 0 → bad ≡ 0 → 25 ≡ length (notice_text corrected bad)
no_errors_length corrected bad e f =
    let plain : 25 ≡ length (notice_text 0 0) = refl in
    plain ∙ ap₂ (λ (c b : ℕ). length (notice_text c b)) (sym e) (sym f)

pub errors_length : (corrected bad d e : ℕ) → 0 < corrected + bad → d ≡ length (decimal corrected)
    → e ≡ length (decimal bad) → 46 + d + e ≡ length (notice_text corrected bad)
errors_length corrected bad d e some first later =
    let a : length (codes "\nECC: ") ≡ 6 = refl in
    let m : length (codes " Corrected bytes, ") ≡ 18 = refl in
    let z : length (codes " unrecoverable blocks\n") ≡ 22 = refl in
    omega (
      arith,
      ap length (counted corrected bad some),
      lengths (codes "\nECC: ") (decimal corrected) (codes " Corrected bytes, ") (decimal bad)
          (codes " unrecoverable blocks\n"),
      a,
      m,
      z,
      first,
      later,
    )
