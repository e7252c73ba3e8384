-- A usual layout agrees with what is known
use Rattle.std.proofs.Common.{◌≡◌, ℕ, Bool, true, false, ◌||◌, ◌==◌, if◌then◌else◌, List, [], ◌∷◌, length, Option, Some}
use Rattle.std.proofs.Common.{None, refl, sym, subst, eqb-true}
use Rattle.std.specs.Prelude.{unwrap_or}
use Rattle.layout_spec.specs.declared.Candidate.{Candidate}
use Rattle.layout_spec.specs.declared.Known.{Known}
use Rattle.layout_spec.specs.Family.{is_of_family, is_chosen, is_one_of, known_or, parities, processors}
use Rattle.layout_search.specs.Answers.{usual}
use Rattle.layout_search.specs.Tried.{IsKept}
use Rattle.layout_search.specs.declared.progress.Best.{Best}
use Rattle.layout_search.proofs.BestSoFar.{parts_in, tag_in, same_in, both, family_layout}

or_none : (b : Bool) → (b || false) ≡ true → b ≡ true
or_none true e = refl
or_none false e = e

pub one_of_one : (n p : ℕ) → is_one_of n (p ∷ []) ≡ true → n ≡ p
one_of_one n p h = eqb-true n p (or_none (n == p) h)

default_parity : (p : ℕ) → is_one_of p (0 ∷ 16 ∷ []) ≡ true → is_one_of p parities ≡ true
unfolding parities
default_parity p h = step (p == 0) refl h
  where
    step : (b : Bool) → (p == 0) ≡ b → (b || is_one_of p (16 ∷ [])) ≡ true → is_one_of p parities ≡ true
    step true e w = subst (λ n. is_one_of n parities ≡ true) (sym (eqb-true p 0 e)) refl
    step false e w = subst (λ n. is_one_of n parities ≡ true) (sym (one_of_one p 16 w)) refl

usual_parity : (k : Option ℕ) (p n : ℕ) → is_one_of p (0 ∷ 16 ∷ []) ≡ true
    → is_one_of n (unwrap_or k p ∷ []) ≡ true → is_one_of n (known_or k parities) ≡ true
usual_parity (Some q) p n two h = h
usual_parity None p n two h =
    subst (λ m. is_one_of m parities ≡ true) (sym (one_of_one n p h)) (default_parity p two)

one_processor : (n : ℕ) → is_one_of n (1 ∷ []) ≡ true → is_one_of n processors ≡ true
unfolding processors
one_processor n h = subst (λ m. is_one_of m processors ≡ true) (sym (one_of_one n 1 h)) refl

usual_cpus : (k : Option ℕ) (b : Bool) (n : ℕ)
    → is_one_of n (if b then 1 ∷ [] else unwrap_or k 1 ∷ []) ≡ true
    → is_one_of n (if b then 1 ∷ [] else known_or k processors) ≡ true
usual_cpus k true n h = h
usual_cpus (Some q) false n h = h
usual_cpus None false n h = one_processor n h

pub usual_family : (known : Known) (image : List ℕ) (d : Candidate) (p : ℕ)
    → is_one_of p (0 ∷ 16 ∷ []) ≡ true → is_of_family (usual known p) image d ≡ true
    → is_of_family known image d ≡ true
unfolding is_of_family is_chosen
usual_family known image d p two h =
    let parts = parts_in (usual known p) image d h in
    let cpus = usual_cpus known.cpus (d.ftrace == 0) d.cpus parts.cpus in
    let parity = usual_parity known.parity p d.parity two parts.parity in
    let chosen : is_chosen known (length image) d ≡ true =
    both _ _ (both _ _ (both _ _ (both _ _ (both _ _ parts.shape parts.told) parts.within) parts.order) cpus) parity in
    both _ _ (both _ _ (both _ _ chosen (tag_in (usual known p) image d h)) (same_in (usual known p) image d h))
    (family_layout (usual known p) image d h)

pub usual_kept : (known : Known) (image : List ℕ) (p : ℕ) (b : Best) → is_one_of p (0 ∷ 16 ∷ []) ≡ true
    → IsKept (usual known p) image None b → IsKept known image None b
usual_kept known image p b two kept = record {
  of_family = usual_family known image b.candidate p two kept.of_family;
  tally_is = kept.tally_is;
  key_is = kept.key_is;
  other = kept.other;
}
