-- Pages looked at one after another. For `look_at_all`.
use Rattle.std.proofs.Common.{◌≡◌, ℕ, suc, ◌+◌, ◌<◌, ◌≤◌, List, [], ◌∷◌, length, drop, IfSome, Option, Some, None, refl}
use Rattle.std.proofs.Common.{sym, ap, ◌∙◌, subst, drop-cons, get_or, add-one}
use Rattle.std.proofs.lemmas.List.{drop_all}
use Rattle.layout_spec.specs.declared.Known.{Known}
use Rattle.found_regions.specs.declared.search.Finding.{Finding}
use Rattle.found_regions.specs.Search.{Seen, nothing_seen, IsStep, AreSteps, AreFindings}

-- what the pages from a place on add, the pages before have led to
abbrev pub Continues : Known → List ℕ → List ℕ → ℕ → Seen → Type 0
Continues known memory pages i seen =
    (after : Seen) → AreSteps known memory (drop i pages) seen after → AreSteps known memory pages nothing_seen after

abbrev pub GoesOn : Known → Option (List ℕ) → List ℕ → ℕ → Seen → Type 0
GoesOn known holds pages i seen = IfSome holds (λ memory. Continues known memory pages i seen)

pub none_looked : (known : Known) (holds : Option (List ℕ)) (pages : List ℕ) (seen : Seen) → seen ≡ nothing_seen
    → GoesOn known holds pages 0 seen
none_looked known None pages seen e = tt
none_looked known (Some memory) pages seen e =
    λ after steps. subst (λ (s : Seen). AreSteps known memory pages s after) e steps

pub one_looked : (known : Known) (holds : Option (List ℕ)) (pages : List ℕ) (i page : ℕ) (before middle : Seen)
    → i < length pages → get_or pages i 0 ≡ page → IfSome holds (λ memory. IsStep known memory page before middle)
    → GoesOn known holds pages i before → GoesOn known holds pages (i + 1) middle
unfolding AreSteps
one_looked known None pages i page before middle inside is_page step so_far = tt
one_looked known (Some memory) pages i page before middle inside is_page step so_far =
    λ after steps. so_far after (subst (λ (ps : List ℕ). AreSteps known memory ps before after)
    (sym (drop-cons pages i 0 inside ∙ ap (λ p. p ∷ drop (suc i) pages) is_page
    ∙ ap (λ k. page ∷ drop k pages) (sym (add-one i))))
    (joined after steps))
  where
    joined : (after : Seen) → AreSteps known memory (drop (i + 1) pages) middle after
        → AreSteps known memory (page ∷ drop (i + 1) pages) before after
    joined after steps = (middle, step, steps)

pub all_looked : (known : Known) (holds : Option (List ℕ)) (pages : List ℕ) (i : ℕ) (seen : Seen)
    (findings : List Finding) → length pages ≤ i → GoesOn known holds pages i seen → findings ≡ seen.findings
    → IfSome holds (λ memory. AreFindings known memory pages findings)
unfolding AreSteps
all_looked known None pages i seen findings behind so_far e = tt
all_looked known (Some memory) pages i seen findings behind so_far e = record {
  after = seen;
  steps = so_far seen (subst (λ (ps : List ℕ). AreSteps known memory ps seen seen) (sym (drop_all i pages behind))
      stays);
  are = e;
}
  where
    stays : AreSteps known memory [] seen seen
    stays = refl
