-- The storage that the image is was reported. For `report_of`.
use Rattle.std.proofs.Common.{◌∙◌, sym, subst, Option, Some, inl}
use Rattle.storage_report.specs.declared.storage.HeldStorage.{HeldStorage}
use Rattle.storage_report.specs.Held.{IsLookedAt}
use Rattle.report_entry.proofs.reports.report_of.Goals as goal

pub returns-in_ok-storage_report-in-Ok-Some : goal.returns-in_ok-storage_report-in-Ok-Some
returns-in_ok-storage_report-in-Ok-Some c =
    inl (record {
      storages = c.in-Ok.storages;
      by_words = sym c.storages_in.ensures ∙ c.in-Ok.is;
      held = c.in-Ok-Some.held;
      looked = subst (λ (o : Option HeldStorage). IsLookedAt c.in-Ok.storages (Some c.args.image.now) o)
          c.in-Ok-Some.field-0-is c.in-Ok-Some.ensures;
      reported = c.in_ok-storage_report-in-Ok-Some.ensures;
    })
