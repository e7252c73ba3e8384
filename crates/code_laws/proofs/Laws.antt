-- The law of distance, what nearest is, and what parity is
use Rattle.std.proofs.Common.{◌≡◌, ℕ, ◌+◌, ◌/◌, ◌<◌, ◌≤◌, List, ◌++◌, length, sym, ◌∙◌, subst, arith, ◌⊎◌, inl, inr}
use Rattle.std.proofs.Common.{Some, IsTrue}
use Rattle.std.specs.Prelude.{◌↔◌}
use Rattle.std.proofs.lemmas.Bool.{cases_lt}
use Rattle.code_spec.specs.Code.{is_codeword, IsCodeword, IsWord, distance, nearest, parity_of, the_word}
use Rattle.code_laws.specs.Statements.{LawOfDistance, NearestIs, ParityIs, ProductByShifts}
use Rattle.code_laws.proofs.Legible.{agree}
use Rattle.code_laws.proofs.Symbols.{HasRoots}
use Rattle.code_laws.proofs.Words.{law_of_distance}
use Rattle.code_laws.proofs.Steps.{parity_unique}
use Rattle.code_laws.proofs.Parity.{symbols_of, roots_of, parity_exists}
use Rattle.code_laws.proofs.Nearest.{IsNear, nearest-IsNear, nearest-is, the_word-passes, the_word-finds}

pub apart : (r n : ℕ) (c d : List ℕ) → n ≤ 255 → IsWord n c → IsWord n d → IsCodeword r c → IsCodeword r d
    → distance c d ≤ r → c ≡ d
apart r n c d l hc hd kc kd h =
    law_of_distance r c d (hc.0 ∙ sym hd.0) (omega (arith, hc.0)) (symbols_of c hc.1) (symbols_of d hd.1)
    (roots_of r c kc) (roots_of r d kd) h

pub nearest_law : (r : ℕ) (w c : List ℕ) → length w ≤ 255 → IsWord (length w) w
    → (nearest r w ≡ Some c) ↔ (IsWord (length w) c × IsCodeword r c × (distance w c ≤ r / 2))
nearest_law r w c l word = (
  (λ e. let n : IsNear r w c = nearest-IsNear r w c word e in (n.word, n.codeword, n.within)),
  (λ h. nearest-is r w c (λ a b ha hb ka kb d. apart r (length w) a b l ha hb ka kb d) word
      (record { codeword = h.1; within = h.2; word = h.0 })),
)

pub parity_made : (r : ℕ) (m : List ℕ) → IsWord (length m) m
    → IsWord r (parity_of r m) × IsCodeword r (m ++ parity_of r m)
unfolding parity_of
parity_made r m word =
    let p = parity_exists r m (symbols_of m word.1) in
    let found : (v : List ℕ) × (the_word r (λ q. is_codeword r (m ++ q)) ≡ Some v) =
    the_word-finds (λ q. is_codeword r (m ++ q)) r p.0 p.1 p.2 in
    let passes : IsTrue (is_codeword r (m ++ found.0)) × IsWord r found.0 =
    the_word-passes (λ q. is_codeword r (m ++ q)) r found.0 found.1 in
    rw found.1 (passes.1, passes.0)

pub parity_law : (r : ℕ) (m p : List ℕ) → length m + r ≤ 255 → IsWord (length m) m
    → (parity_of r m ≡ p) ↔ (IsWord r p × IsCodeword r (m ++ p))
parity_law r m p l word =
    let made : IsWord r (parity_of r m) × IsCodeword r (m ++ parity_of r m) = parity_made r m word in (
      (λ e. subst (λ q. IsWord r q × IsCodeword r (m ++ q)) e made),
      (λ h.
          let a : length (parity_of r m) ≡ r = made.0.0 in
          parity_unique m (parity_of r m) p (a ∙ sym h.0.0) (omega (arith, a)) (symbols_of m word.1)
          (symbols_of _ made.0.1) (symbols_of p h.0.1)
          (subst (λ n. HasRoots n (m ++ parity_of r m)) (sym a) (roots_of r _ made.1))
          (subst (λ n. HasRoots n (m ++ p)) (sym a) (roots_of r _ h.1))),
    )

pub law_is : LawOfDistance
law_is r n c d l hc hd kc kd other = go (cases_lt r (distance c d))
  where
    go : (r < distance c d) ⊎ (distance c d ≤ r) → r + 1 ≤ distance c d
    go (inl h) = omega arith
    go (inr h) = absurd (other (apart r n c d l hc hd kc kd h))

pub nearest_is : NearestIs
nearest_is r w c l word = nearest_law r w c l word

pub parity_is : ParityIs
parity_is r m p l word = parity_law r m p l word

pub product_is : ProductByShifts
product_is a b ha hb = agree a b ha hb
