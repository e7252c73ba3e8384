-- Readings and records are the same. For `copy_is_enough`.
use Rattle.std.proofs.Common.{◌∙◌, List, sym, subst}
use Rattle.zone_spec.specs.RecordsHeld.{RecordHeld}
use Rattle.storage_spec.specs.Zones.{zones_in}
use Rattle.report_spec.specs.Packed.{AreShown}
use Rattle.storage_report.proofs.laws.copy_is_enough.Goals as goal

pub returns : goal.returns
returns c = λ s names image copy report same is. record {
  of_storage = is.of_storage;
  zones = is.zones;
  readings = is.readings ∙ sym same.readings;
  parts = is.parts;
  records = subst (λ (held : List RecordHeld). AreShown (zones_in s.machine s.sizes) names held report.records)
      (sym same.records) is.records;
}
