-- The row `nine_flips_in_block`: nine flips in a block that no codeword is near to: it reads as it
-- stands. Computed with `SixteenParityBytes`.
use Rattle.std.specs.Prelude.{replicate, Some, None}
use Rattle.std.proofs.Common.{ap, ◌∙◌}
use Rattle.zone_spec.specs.Reading.{zone_reading}
use Rattle.zone_spec.specs.Verdicts.{verdict_of}
use Rattle.zone_examples.specs.Zones.{console, console_of_sixteen}
use Rattle.zone_examples.specs.Damage.{flipped_from, nine_masks}
use Rattle.zone_examples.specs.Shown.{shown_by}
use Rattle.zone_examples.proofs.SixteenParityBytes.{two_hundred-is, nine_flipped-reads}
use Rattle.zone_examples.proofs.damage.nine_flips_in_block.Goals as goal

pub returns : goal.returns
returns c =
    let reads = ap (λ image. zone_reading console_of_sixteen (flipped_from 12 nine_masks image)) two_hundred-is
    ∙ nine_flipped-reads in (
      ap (λ r. shown_by r (record {
        name = console;
        verdict = verdict_of (Some (replicate 200 0x61)) r.log;
        cut = None;
      })) reads,
      ap (λ r. r.log) reads,
    )
