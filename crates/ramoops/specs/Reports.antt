-- What a boot tells of a zone, as the definitions have it
use Rattle.std.specs.Prelude.{ℕ}
use Rattle.std.specs.Option.{option_map}
use Rattle.circular_buffer.specs.Buffer.{Buffer}
use Rattle.zone_spec.specs.declared.Zone.{Zone}
use Rattle.zone_spec.specs.Reading.{ZoneReading}
use Rattle.zone_spec.specs.Verdicts.{verdict_of}
use Rattle.zone_spec.specs.Pairs.{header_seen}
use Rattle.zone_spec.specs.Cut.{CutReport}
use Rattle.machine_spec.specs.Report.{ZoneReport}
use Rattle.ramoops.specs.declared.report.Cut.{Cut as RustCut}
use Rattle.ramoops.specs.declared.report.ZoneReport.{ZoneReport as RustZoneReport}
use Rattle.ramoops.specs.declared.known.KnownZone.{KnownZone}
use Rattle.ramoops.specs.SeenCut.{SeenCut}

abbrev pub cut_seen : RustCut → CutReport
cut_seen c = record { kind = c.kind; made = c.made; total = c.total; header = c.header; runs = c.runs.items }

abbrev pub report_seen : RustZoneReport → ZoneReport
report_seen r = record { name = r.name; verdict = r.verdict; cut = option_map cut_seen r.cut }

-- by the zone's reading and what was known of it
abbrev pub report_cut : Zone → ZoneReading → SeenCut → CutReport
report_cut z reading cut = record {
  kind = cut.kind;
  made = cut.made;
  total = cut.total;
  header = header_seen z reading.words cut.pairs;
  runs = cut.runs;
}

abbrev pub report_zone : Zone → KnownZone → ZoneReading → ZoneReport
report_zone z known reading = record {
  name = z.name;
  verdict = verdict_of
      (option_map (λ (t : Buffer ℕ). t.items) known.told) reading.log;
  cut = option_map (report_cut z reading) known.cut;
}
