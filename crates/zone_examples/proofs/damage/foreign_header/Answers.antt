-- The row `foreign_header`: a cut header that reads as another zone's. Computed with
-- `TwoParityBytes`.
use Rattle.std.specs.Prelude.{replicate, Some}
use Rattle.std.proofs.Common.{refl, ap, ◌∙◌}
use Rattle.zone_spec.specs.Reading.{ZoneReading, zone_reading}
use Rattle.zone_spec.specs.Verdicts.{verdict_of}
use Rattle.zone_spec.specs.Told.{Append}
use Rattle.machine_spec.specs.Report.{report_cut}
use Rattle.zone_examples.specs.Zones.{console, console_of_two}
use Rattle.zone_examples.specs.Damage.{cut_zone, full_ring}
use Rattle.zone_examples.specs.Shown.{Shown, shown_by}
use Rattle.zone_examples.proofs.Unfoldings.{computing}
use Rattle.zone_examples.proofs.TwoParityBytes.{foreign-is, foreign-reads}
use Rattle.zone_examples.proofs.damage.foreign_header.Goals as goal

shown_of : ZoneReading → Shown
shown_of r = shown_by r (record {
  name = console;
  verdict = verdict_of (Some (replicate 4018 0x61)) r.log;
  cut = report_cut console_of_two r (cut_zone console_of_two full_ring (replicate 4018 0x61)
      (Append (replicate 1541 0x62)) 1).cut;
})

pub returns : goal.returns
unfolding computing shown_of
returns c =
    let reads = ap (zone_reading console_of_two) foreign-is ∙ foreign-reads in
    (ap shown_of reads ∙ refl, ap (λ r. r.words.sig) reads)
