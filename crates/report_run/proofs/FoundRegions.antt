-- What was found and told, and whether it is reported. `regions_found` cites them.
use Rattle.std.proofs.Common.{◌≡◌, ℕ, List, Option, subst, refl}
use Rattle.std.specs.Prelude.{string_bytes}
use Rattle.layout_spec.specs.declared.Known.{Known}
use Rattle.found_regions.specs.declared.region.Region.{Region}
use Rattle.report_run.specs.declared.plans.Asked.{Asked}
use Rattle.report_run.specs.declared.choosing.Survey.{Survey}
use Rattle.report_run.specs.declared.failures.Failure.{Failure}
use Rattle.report_run.specs.Messages.{Seen, IsTold}
use Rattle.report_run.specs.Choice.{IsFoundBy, IsSearched, AreTaken, AreRefused, AreFound, AreUntaken}

module _ (asked : Asked) (known : Known) (path : List ℕ) (base : ℕ) (holds : Option (List ℕ)) (a b : Seen)
    (survey : Survey) (found : IsFoundBy known path base holds survey) (text : List ℕ)
    (text_is : text ≡ string_bytes survey.lines) (told : IsTold text a b) (slice : List Region)
    (slice_is : slice ≡ survey.regions.items) where
  searched : IsSearched known path base holds survey.regions.items a b
  searched = record {
    survey = survey;
    found = found;
    regions_are = refl;
    told = subst (λ (t : List ℕ). IsTold t a b) text_is told;
  }

  pub are_found : AreTaken asked slice → AreFound asked known path base holds a b survey.regions.items
  are_found taken = record {
    searched = searched;
    taken = subst (λ (rs : List Region). AreTaken asked rs) slice_is taken;
  }

  pub are_untaken : (before now : ℕ) (why : Failure) → now ≡ before → AreRefused asked base slice why
      → AreUntaken asked known path base holds before now a b why
  are_untaken before now why unread refused = record {
    regions = survey.regions.items;
    searched = searched;
    no_read_fault = unread;
    refused = subst (λ (rs : List Region). AreRefused asked base rs why) slice_is refused;
  }
