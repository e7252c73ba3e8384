-- The report of a storage is one of its zones. For `read`.
use Rattle.std.proofs.Common.{◌≡◌, ◌∙◌, ℕ, List, length, sym, ap}
use Rattle.std.proofs.lemmas.List.{length-map, length-replicate}
use Rattle.psz_spec.specs.declared.Machine.{Machine}
use Rattle.psz_spec.specs.declared.Sizes.{Sizes}
use Rattle.psz_spec.specs.Layouts.{zones_of}
use Rattle.psz_spec.specs.Parts.{read_order}
use Rattle.storage_spec.specs.declared.Storage.{Storage}
use Rattle.storage_spec.specs.Zones.{zones_in, readings_in, reading_in, zone_of, no_parts}
use Rattle.report_tool.specs.Shown.{AreOf}
use Rattle.storage_report.specs.declared.reading.StorageRead.{StorageRead}
use Rattle.storage_report.specs.Reports.{IsRead}

read_len : (machine : Machine) (sizes : Sizes) (image : List ℕ)
    → length (readings_in machine sizes image) ≡ length (zones_in machine sizes)
unfolding readings_in zones_in
read_len machine sizes image =
    length-map (read_order (zones_of sizes)) (reading_in machine image)
    ∙ sym (length-map (read_order (zones_of sizes)) (zone_of machine))

pub are_of : (s : Storage) (names image : List ℕ) (r : StorageRead) → IsRead s names image r
    → AreOf r.zones.items r.report
are_of s names image r is = record {
  zones_same = is.zones ∙ sym is.report.zones;
  readings_len = ap length is.report.readings ∙ read_len s.machine s.sizes image ∙ sym (ap length is.zones);
  parts_len = ap length is.report.parts ∙ length-replicate (length (zones_in s.machine s.sizes)) no_parts
      ∙ sym (ap length is.zones);
}
