-- The row `eight_flips_in_header`: eight flips in a header are corrected. Computed with
-- `SixteenParityBytes`.
use Rattle.std.specs.Prelude.{replicate, Some, None}
use Rattle.std.proofs.Common.{ap, ◌∙◌}
use Rattle.zone_spec.specs.Reading.{zone_reading}
use Rattle.zone_spec.specs.Verdicts.{verdict_of}
use Rattle.zone_examples.specs.Zones.{console, console_of_sixteen}
use Rattle.zone_examples.specs.Scenes.{abc}
use Rattle.zone_examples.specs.Damage.{flipped_from}
use Rattle.zone_examples.specs.Shown.{shown_by}
use Rattle.zone_examples.proofs.SixteenParityBytes.{three-is, header_flipped-reads}
use Rattle.zone_examples.proofs.damage.eight_flips_in_header.Goals as goal

pub returns : goal.returns
returns c =
    let reads = ap (λ image. zone_reading console_of_sixteen (flipped_from 0 (replicate 8 255) image)) three-is
    ∙ header_flipped-reads in (
      ap (λ r. shown_by r (record { name = console; verdict = verdict_of (Some (abc)) r.log; cut = None })) reads,
      ap (λ r. r.log) reads,
    )
