-- An image that may be a storage: how its report ends. For `unlogged_report`.
use Rattle.std.proofs.Common.{◌≡◌, ℕ, List, Option, Some, None, refl, subst, inl, inr}
use Rattle.std.specs.Prelude.{Result, Ok, Err, MatchResult}
use Rattle.layout_spec.specs.declared.Known.{Known}
use Rattle.region_report.specs.Reports.{ReportHeld}
use Rattle.storage_report.specs.declared.storage.HeldStorage.{HeldStorage}
use Rattle.storage_report.specs.Held.{IsLookedAt}
use Rattle.report_run.specs.declared.plans.Asked.{Asked}
use Rattle.report_run.specs.declared.failures.Failure.{Failure}
use Rattle.report_run.specs.Messages.{Seen}
use Rattle.report_run.specs.Images.{IsSoughtReport, IsNoSoughtReport}
use Rattle.report_run.specs.Storages.{IsUnfound, IsStorageShown, IsStorageUnshown}
use Rattle.report_run.specs.Storages.{IsUnloggedReport, IsNoUnloggedReport}

module _ (asked : Asked) (known : Known) (path : List ℕ) (holds given now : Option (List ℕ)) (read0 read2 put0 put1 : ℕ)
  where
    pub unread : (a : Seen) (why : Failure) → IsUnfound asked.storages holds read0 read2 why
        → IsNoUnloggedReport asked known path holds read0 read2 given given put0 put0 a a why
    unread a why h = inl (record { cause = h; unput = refl; no_put_fault = refl; silent = refl })

    pub by_storage : (storage : HeldStorage) (a b : Seen) (r : Result ReportHeld Failure)
        → IsLookedAt asked.storages holds (Some storage) → read2 ≡ read0
        → MatchResult r (IsStorageShown asked path storage given now a b)
        (IsStorageUnshown asked path storage given now put0 put1 a b)
        → MatchResult r (IsUnloggedReport asked known path holds given now a b)
        (IsNoUnloggedReport asked known path holds read0 read2 given now put0 put1 a b)
    by_storage storage a b (Ok report) is same h = inl (record { storage = storage; held = is; reported = h })
    by_storage storage a b (Err why) is same h =
        inr (inl (record { no_read_fault = same; storage = storage; held = is; cause = h }))

    pub by_layout : (same : Option (List ℕ)) (read1 : ℕ) (a b : Seen) (r : Result ReportHeld Failure)
        → IsLookedAt asked.storages holds None → same ≡ holds → read1 ≡ read0
        → MatchResult r (IsSoughtReport asked known path same given now a b)
        (IsNoSoughtReport asked known path same read1 read2 given now put0 put1 a b)
        → MatchResult r (IsUnloggedReport asked known path holds given now a b)
        (IsNoUnloggedReport asked known path holds read0 read2 given now put0 put1 a b)
    by_layout same read1 a b (Ok report) none e kept h =
        inr (record {
          no_storage = none;
          reported = subst (λ (o : Option (List ℕ)). IsSoughtReport asked known path o given now a b report) e h;
        })
    by_layout same read1 a b (Err why) none e kept h =
        inr (inr (record {
          no_storage = none;
          cause = subst (λ (n : ℕ). IsNoSoughtReport asked known path holds n read2 given now put0 put1 a b why) kept
              (subst (λ (o : Option (List ℕ)).
              IsNoSoughtReport asked known path o read1 read2 given now put0 put1 a b why) e h);
        }))
