-- The row `cut_with_parity_after_first_store`: an append with parity, cut after its first store.
-- Computed with `SixteenParityBytes`.
use Rattle.std.specs.Prelude.{Some}
use Rattle.std.proofs.Common.{ℕ, List, refl, ap, ap₂, ◌∙◌}
use Rattle.zone_spec.specs.Reading.{ZoneReading, zone_reading}
use Rattle.zone_spec.specs.Verdicts.{verdict_of}
use Rattle.zone_spec.specs.Told.{Append}
use Rattle.zone_spec.specs.Calls.{image_after}
use Rattle.machine_spec.specs.Report.{report_cut}
use Rattle.zone_examples.specs.Zones.{console, console_of_sixteen}
use Rattle.zone_examples.specs.Scenes.{abc, def}
use Rattle.zone_examples.specs.Damage.{cut_zone}
use Rattle.zone_examples.specs.Shown.{Shown, shown_by}
use Rattle.zone_examples.proofs.Unfoldings.{computing}
use Rattle.zone_examples.proofs.SixteenParityBytes.{three-is, cut_at-is, first_store-reads}
use Rattle.zone_examples.proofs.damage.cut_with_parity_after_first_store.Goals as goal

-- what is shown of the reading, before being the image before the call
shown_of : List ℕ → ZoneReading → Shown
shown_of before r = shown_by r (record {
  name = console;
  verdict = verdict_of (Some abc) r.log;
  cut = report_cut console_of_sixteen r (cut_zone console_of_sixteen before abc (Append def) 1).cut;
})

pub returns : goal.returns
unfolding computing shown_of
returns c =
    let image = ap (λ before. image_after console_of_sixteen (Append def) before 1) three-is ∙ cut_at-is 1 in
    let reads = ap (zone_reading console_of_sixteen) image ∙ first_store-reads in
    (ap₂ shown_of three-is reads ∙ refl, ap (λ r. r.log) reads)
