-- The row `stopped_erasure_with_parity`: a boot with parity, cut within the erasure of a console.
-- Computed with `SixteenParityBytes`.
use Rattle.std.specs.Prelude.{Some}
use Rattle.std.proofs.Common.{◌≡◌, ℕ, List, [], take, refl, ap, ap₂, ◌∙◌}
use Rattle.zone_spec.specs.Parts.{Header, part_word}
use Rattle.zone_spec.specs.Reading.{ZoneReading, zone_reading}
use Rattle.zone_spec.specs.Stores.{Store, after_stores}
use Rattle.zone_spec.specs.Boot.{boot_stores}
use Rattle.zone_spec.specs.Cut.{Cut, ByBoot}
use Rattle.zone_spec.specs.Verdicts.{verdict_of}
use Rattle.machine_spec.specs.Report.{report_cut}
use Rattle.machine_spec.specs.BootPart.{boot_cut}
use Rattle.std.proofs.Common.{◌-◌, length}
use Rattle.zone_examples.specs.Zones.{console, console_of_sixteen}
use Rattle.zone_examples.specs.Scenes.{abc}
use Rattle.zone_examples.specs.Shown.{Shown, shown_by}
use Rattle.zone_examples.proofs.Unfoldings.{computing}
use Rattle.zone_examples.proofs.SixteenParityBytes.{three, three-is, three-fixes, erasing-is, erasing-reads}
use Rattle.zone_examples.proofs.parity.stopped_erasure_with_parity.Goals as goal

-- a boot's cut by its corrections
cut_by : List ℕ → List Store → Cut
cut_by bytes fixes = record {
  by = ByBoot;
  header = part_word console_of_sixteen (after_stores bytes fixes) Header;
  made = 1 - length fixes;
}

cut-is : boot_cut console_of_sixteen three 1 ≡ cut_by three []
unfolding cut_by
cut-is = ap (cut_by three) three-fixes

shown_of : Cut → ZoneReading → Shown
shown_of cut r = shown_by r (record {
  name = console;
  verdict = verdict_of (Some abc) r.log;
  cut = report_cut console_of_sixteen r (Some cut);
})

pub returns : goal.returns
unfolding computing shown_of cut_by
returns c =
    let image = ap (λ before. after_stores before (take 1 (boot_stores console_of_sixteen before))) three-is
    ∙ erasing-is in
    let reads = ap (zone_reading console_of_sixteen) image ∙ erasing-reads in (
      ap₂ shown_of (ap (λ before. boot_cut console_of_sixteen before 1) three-is ∙ cut-is) reads
          ∙ refl,
      ap (λ r. r.log) reads,
    )
