-- What a boot reports of each zone
use Rattle.std.specs.Prelude.{ℕ, List, map, zip, Option, Some, None}
use Rattle.zone_spec.specs.declared.Zone.{Zone}
use Rattle.zone_spec.specs.declared.ZoneName.{ZoneName}
use Rattle.zone_spec.specs.declared.Verdict.{Verdict}
use Rattle.zone_spec.specs.Reading.{ZoneReading, zone_reading}
use Rattle.zone_spec.specs.Verdicts.{verdict_of}
use Rattle.zone_spec.specs.Cut.{Cut, CutReport, cut_report}
use Rattle.machine_spec.specs.Zones.{zone_bytes}
use Rattle.machine_spec.specs.States.{OffZone, OffState}

-- the zone, its log against its told list, and its cut
pub record ZoneReport : Type 0 where
  pub name : ZoneName
  pub verdict : Verdict
  pub cut : Option CutReport

-- the report of a cut, where there is one
abbrev pub report_cut : Zone → ZoneReading → Option Cut → Option CutReport
report_cut z reading None = None
report_cut z reading (Some cut) = Some (cut_report z reading cut)

-- the report of a zone by its bytes
abbrev pub zone_report : Zone → OffZone → List ℕ → ZoneReport
zone_report z zone now =
    let reading = zone_reading z now in
    record { name = z.name; verdict = verdict_of zone.told reading.log; cut = report_cut z reading zone.cut }

-- the report of a boot, in layout order
abbrev pub report : List Zone → OffState → List ZoneReport
report layout off = map (λ (pair : Zone × OffZone). zone_report pair.0 pair.1 (zone_bytes pair.0 off.image))
    (zip layout off.zones)
