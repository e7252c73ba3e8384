-- Regions, one after another. For the loop of `report_regions`.
use Rattle.std.proofs.Common.{◌≡◌, ℕ, suc, ◌+◌, ◌<◌, ◌≤◌, List, [], ◌∷◌, length, drop, Option, refl, sym, ap, ◌∙◌}
use Rattle.std.proofs.Common.{subst, drop-cons, get_or, add-one, inl, inr}
use Rattle.std.proofs.lemmas.List.{drop_all}
use Rattle.found_regions.specs.declared.region.Region.{Region}
use Rattle.report_run.specs.declared.plans.Asked.{Asked}
use Rattle.report_run.specs.declared.failures.Failure.{Failure}
use Rattle.report_run.specs.States.{State}
use Rattle.report_run.specs.Memories.{IsNamedDone, IsNamedUndone, AreRegionsDone, AreRegionsUndone}

module _ (asked : Asked) (path : List ℕ) (base : ℕ) (holds : Option (List ℕ)) (regions : List Region) (start : State)
    (first : ℕ) where
  -- what the regions from a place on do, those before have led to
  pub record Continues (i : ℕ) (s : State) : Type 0 where
    pub done : (after : State) → AreRegionsDone asked path base holds (drop i regions) s after
        → AreRegionsDone asked path base holds regions start after
    pub undone : (after : State) (now : ℕ) (why : Failure)
        → AreRegionsUndone asked path base holds first now (drop i regions) s after why
        → AreRegionsUndone asked path base holds first now regions start after why

  pub none_done : Continues 0 start
  none_done = record { done = λ after h. h; undone = λ after now why h. h }

  from : (i : ℕ) (region : Region) → i < length regions → region ≡ get_or regions i region
      → region ∷ drop (i + 1) regions ≡ drop i regions
  from i region inside is =
      sym (drop-cons regions i region inside ∙ ap (λ r. r ∷ drop (suc i) regions) (sym is)
      ∙ ap (λ k. region ∷ drop k regions) (sym (add-one i)))

  pub one_done : (i : ℕ) (region : Region) (held : Option (List ℕ)) (s m : State) → i < length regions
      → region ≡ get_or regions i region → held ≡ holds → IsNamedDone asked path base region held s m
      → Continues i s → Continues (i + 1) m
  unfolding AreRegionsDone AreRegionsUndone
  one_done i region held s m inside is same one so_far =
      let here = subst (λ (h : Option (List ℕ)). IsNamedDone asked path base region h s m) same one in
      record {
        done = λ after h. so_far.done after
            (subst (λ (rs : List Region). AreRegionsDone asked path base holds rs s after) (from i region inside is)
            (m, here, h));
        undone = λ after now why h. so_far.undone after now why
            (subst (λ (rs : List Region). AreRegionsUndone asked path base holds first now rs s after why)
            (from i region inside is) (inr (m, here, h)));
      }

  pub one_failed : (i : ℕ) (region : Region) (held : Option (List ℕ)) (s after : State) (before now : ℕ)
      (why : Failure) → i < length regions → region ≡ get_or regions i region → held ≡ holds → before ≡ first
      → IsNamedUndone asked path base region held before now s after why → Continues i s
      → AreRegionsUndone asked path base holds first now regions start after why
  unfolding AreRegionsUndone
  one_failed i region held s after before now why inside is same unread one so_far =
      so_far.undone after now why
      (subst (λ (rs : List Region). AreRegionsUndone asked path base holds first now rs s after why)
      (from i region inside is)
      (inl (subst (λ (n : ℕ). IsNamedUndone asked path base region holds n now s after why) unread
      (subst (λ (h : Option (List ℕ)). IsNamedUndone asked path base region h before now s after why) same one))))

  pub all_done : (i : ℕ) (s : State) → length regions ≤ i → Continues i s
      → AreRegionsDone asked path base holds regions start s
  unfolding AreRegionsDone
  all_done i s behind so_far =
      so_far.done s (subst (λ (rs : List Region). AreRegionsDone asked path base holds rs s s)
      (sym (drop_all i regions behind)) stays)
    where
      stays : AreRegionsDone asked path base holds [] s s
      stays = refl
