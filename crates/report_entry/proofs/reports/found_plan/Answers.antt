-- The layout that was found is taken, or it is not. For `found_plan`.
use Rattle.std.proofs.Common.{◌≡◌, ℕ, List, length, take, Option, Some, Result, Ok, Err, MatchResult, subst}
use Rattle.zone_spec.specs.Numbers.{most_memory}
use Rattle.layout_spec.specs.declared.Known.{Known}
use Rattle.layout_search.specs.declared.searching.Found.{Found}
use Rattle.layout_search.specs.Answers.{IsAnswer, IsSearched}
use Rattle.report_entry.specs.declared.reports.HintedPlan.{HintedPlan}
use Rattle.report_entry.specs.declared.reports.Refusal.{Refusal}
use Rattle.report_entry.specs.declared.reports.Refusal.TheVariants.{Memory, NotFound, Unexplained, Unfinished}
use Rattle.report_entry.specs.Memory.{image_bytes}
use Rattle.report_entry.specs.Reports.{IsPlanFound, IsNotTaken, IsFoundPlan, IsNotFound}
use Rattle.report_entry.proofs.reports.found_plan.Goals as goal

planned : (known : Known) (name image : List ℕ) (found : Found) → IsAnswer known (take most_memory image) found
    → (r : Result HintedPlan Refusal)
    → MatchResult r (IsPlanFound name (length image) found) (IsNotTaken name (length image) found)
    → MatchResult r (IsFoundPlan known name image) (IsNotFound known name image)
planned known name image found answer (Ok told) h = record { found = found; answer = answer; plan = h }
planned known name image found answer (Err Memory) h = tt
planned known name image found answer (Err (Unexplained hint)) h =
    record { found = found; answer = answer; why_is = h }
planned known name image found answer (Err (Unfinished hint)) h =
    record { found = found; answer = answer; why_is = h }
planned known name image found answer (Err other) h = absurd h

answer_of : (known : Known) (bytes : List ℕ) (o : Option Found) (found : Found) → o ≡ Some found
    → IsSearched known bytes o → IsAnswer known bytes found
answer_of known bytes o found e h = subst (IsSearched known bytes) e h

pub returns-clause-planned : goal.returns-clause-planned
returns-clause-planned c =
    planned c.args.known.now c.args.name.now (image_bytes c.args.image.now) c.in-Ok-Some.found
    (answer_of c.args.known.now (take most_memory (image_bytes c.args.image.now)) c.in-Ok-Some.field-0
    c.in-Ok-Some.found c.in-Ok-Some.field-0-is c.in-Ok-Some.ensures.found)
    c.plan_found.result (rw c.bytes.ensures at c.plan_found.ensures)
