-- The report of a storage
use Rattle.std.specs.Prelude.{◌≡◌, ℕ, List, length, replicate}
use Rattle.storage_spec.specs.declared.Storage.{Storage}
use Rattle.storage_spec.specs.Zones.{zones_in, readings_in, no_parts}
use Rattle.storage_spec.specs.Records.{held_in}
use Rattle.report_spec.specs.declared.Origin.TheVariants.{Storage as OfStorage}
use Rattle.report_spec.specs.Packed.{AreShown}
use Rattle.region_report.specs.Reports.{ReportHeld}
use Rattle.storage_report.specs.declared.reading.StorageRead.{StorageRead}

-- by its sizes and its machine, with the functions of a map: the zones as a boot takes them, and the records that the
-- next boot lists, as they are shown
pub record IsStorageReport (s : Storage) (names image : List ℕ) (r : ReportHeld) : Type 0 where
  pub of_storage : r.origin ≡ OfStorage
  pub zones : r.logs.zones ≡ zones_in s.machine s.sizes
  pub readings : r.logs.readings ≡ readings_in s.machine s.sizes image
  pub parts : r.parts ≡ replicate (length (zones_in s.machine s.sizes)) no_parts
  pub records : AreShown (zones_in s.machine s.sizes) names (held_in s.machine s.sizes image) r.records

pub record IsRead (s : Storage) (names image : List ℕ) (r : StorageRead) : Type 0 where
  pub zones : r.zones.items ≡ zones_in s.machine s.sizes
  pub report : IsStorageReport s names image r.report
