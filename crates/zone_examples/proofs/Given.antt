-- Parity and nearest codewords that are given, not computed
use Rattle.std.specs.Prelude.{IsTrue}
use Rattle.std.proofs.Common.{◌≡◌, ◌+◌, ◌/◌, ◌<◌, ◌≤◌, ℕ, List, [], ◌∷◌, ◌++◌, ◌&&◌, ◌==◌, nat_le, nat_lt, not, Bool}
use Rattle.std.proofs.Common.{true, false, length, refl, sym, ◌∙◌, subst, arith, Option, Some, None}
use Rattle.std.proofs.lemmas.Bool.{ltb-true, leb-true, eqb-true, and_parts}
use Rattle.std.specs.List.{list_all, AllByRecursion}
use Rattle.list_laws.proofs.Elements.{AllByRecursion-append}
use Rattle.code_spec.specs.Code.{parity_of, nearest, distance, IsWord, IsCodeword}
use Rattle.code_laws.proofs.Laws.{parity_law, nearest_law, apart}
use Rattle.code_laws.proofs.Parity.{roots_of, codeword_of}
use Rattle.zone_examples.proofs.Values.{vanishes, vanishes-is}

abbrev pub are_bytes : List ℕ → Bool
are_bytes xs = list_all (λ b. nat_lt b 256) xs

bytes_are : (xs : List ℕ) → IsTrue (are_bytes xs) → AllByRecursion (λ b. b < 256) xs
bytes_are [] h = tt
bytes_are (x ∷ xs) h =
    let t : IsTrue (nat_lt x 256) × IsTrue (are_bytes xs) = and_parts (nat_lt x 256) (are_bytes xs) h in
    (ltb-true x 256 t.0, bytes_are xs t.1)

codeword_by : (r : ℕ) (w : List ℕ) → AllByRecursion (λ b. b < 256) w → IsTrue (vanishes r w) → IsCodeword r w
codeword_by r w bytes h = vanishes-is r w bytes ∙ h

-- p is r bytes, and makes a codeword of m
abbrev pub is_parity : ℕ → List ℕ → List ℕ → Bool
is_parity r m p = nat_le (length m + r) 255 && (are_bytes m &&
    ((length p == r) && (are_bytes p && vanishes r (m ++ p))))

pub given_parity : (r : ℕ) (m p : List ℕ) → IsTrue (is_parity r m p) → parity_of r m ≡ p
given_parity r m p h =
    let short : IsTrue (nat_le (length m + r) 255) × IsTrue
    (are_bytes m && ((length p == r) && (are_bytes p && vanishes r (m ++ p)))) =
    and_parts (nat_le (length m + r) 255) _ h in
    let message : IsTrue (are_bytes m) × IsTrue ((length p == r) && (are_bytes p && vanishes r (m ++ p))) =
    and_parts (are_bytes m) _ short.1 in
    let total : IsTrue (length p == r) × IsTrue (are_bytes p && vanishes r (m ++ p)) =
    and_parts (length p == r) _ message.1 in
    let codeword : IsTrue (are_bytes p) × IsTrue (vanishes r (m ++ p)) = and_parts (are_bytes p) _ total.1 in
    let bytes : AllByRecursion (λ b. b < 256) (m ++ p) =
    AllByRecursion-append (λ b. b < 256) m p (bytes_are m message.0) (bytes_are p codeword.0) in
    (parity_law r m p (leb-true (length m + r) 255 short.0) (refl, bytes_are m message.0)).1
    ((eqb-true (length p) r total.0, bytes_are p codeword.0), codeword_by r (m ++ p) bytes codeword.1)

-- c is a codeword of w's length within half the parity of it
abbrev pub is_nearest : ℕ → List ℕ → List ℕ → Bool
is_nearest r w c = nat_le (length w) 255 && (are_bytes w &&
    ((length c == length w) && (are_bytes c && (vanishes r c && nat_le (distance w c) (r / 2)))))

pub given_nearest : (r : ℕ) (w c : List ℕ) → IsTrue (is_nearest r w c) → nearest r w ≡ Some c
given_nearest r w c h =
    let short : IsTrue (nat_le (length w) 255) × IsTrue (are_bytes w &&
    ((length c == length w) && (are_bytes c && (vanishes r c && nat_le (distance w c) (r / 2))))) = and_parts
    (nat_le (length w) 255) _ h in
    let word : IsTrue (are_bytes w) × IsTrue ((length c == length w) &&
    (are_bytes c && (vanishes r c && nat_le (distance w c) (r / 2)))) = and_parts (are_bytes w) _ short.1 in
    let total : IsTrue (length c == length w) × IsTrue (are_bytes c &&
    (vanishes r c && nat_le (distance w c) (r / 2))) = and_parts (length c == length w) _ word.1 in
    let bytes : IsTrue (are_bytes c) × IsTrue (vanishes r c && nat_le (distance w c) (r / 2)) =
    and_parts (are_bytes c) _ total.1 in
    let near : IsTrue (vanishes r c) × IsTrue (nat_le (distance w c) (r / 2)) = and_parts (vanishes r c) _ bytes.1 in
    (nearest_law r w c (leb-true (length w) 255 short.0) (refl, bytes_are w word.0)).1 (
      (eqb-true (length c) (length w) total.0, bytes_are c bytes.0),
      codeword_by r c (bytes_are c bytes.0) near.0,
      leb-true (distance w c) (r / 2) near.1,
    )

-- a codeword is one of less parity too
fewer : (q r : ℕ) (w : List ℕ) → q ≤ r → IsCodeword r w → IsCodeword q w
fewer q r w l h = codeword_of q w (record { at = λ i below. (roots_of r w h).at i (omega (arith, below, l)) })

-- w's values at the first half of the powers are zero, and not all are
abbrev pub is_far : ℕ → List ℕ → Bool
is_far r w = nat_le (length w) 255 && (are_bytes w && (vanishes (r / 2) w && not (vanishes r w)))

half_below : (r : ℕ) → r / 2 ≤ r
half_below r = omega arith

pub clash : (b : Bool) → IsTrue b → IsTrue (not b) → ⊥
clash true h k = cc
clash false h k = cc

-- then no codeword is near: it would be w itself, by the law of distance for half the parity
pub given_none : (r : ℕ) (w : List ℕ) → IsTrue (is_far r w) → nearest r w ≡ None
given_none r w h = by (nearest r w) refl
  where
    short : IsTrue (nat_le (length w) 255) × IsTrue (are_bytes w && (vanishes (r / 2) w && not (vanishes r w)))
    short = and_parts (nat_le (length w) 255) _ h

    word : IsTrue (are_bytes w) × IsTrue (vanishes (r / 2) w && not (vanishes r w))
    word = and_parts (are_bytes w) _ short.1

    half : IsTrue (vanishes (r / 2) w) × IsTrue (not (vanishes r w))
    half = and_parts (vanishes (r / 2) w) _ word.1

    bytes : IsWord (length w) w
    bytes = (refl, bytes_are w word.0)

    by : (o : Option (List ℕ)) → nearest r w ≡ o → o ≡ None
    by None e = refl
    by (Some c) e =
        let l : length w ≤ 255 = leb-true (length w) 255 short.0 in
        let near : IsWord (length w) c × IsCodeword r c × (distance w c ≤ r / 2) = (nearest_law r w c l bytes).0 e in
        let same : w ≡ c = apart (r / 2) (length w) w c l bytes near.0 (codeword_by (r / 2) w bytes.1 half.0)
        (fewer (r / 2) r c (half_below r) near.1) near.2 in
        absurd (clash (vanishes r w) (sym (vanishes-is r w bytes.1) ∙ subst (IsCodeword r) (sym same) near.1) half.1)
