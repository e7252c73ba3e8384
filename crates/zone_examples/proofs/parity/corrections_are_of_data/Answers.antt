-- The row `corrections_are_of_data`: what a boot corrects in a block. Computed with
-- `TwoParityBytes`.
use Rattle.std.proofs.Common.{[], ◌∷◌, ap, ◌∙◌}
use Rattle.zone_spec.specs.Reading.{zone_reading}
use Rattle.zone_spec.specs.Boot.{boot_fixes}
use Rattle.zone_examples.specs.Zones.{console_of_two}
use Rattle.zone_examples.specs.Damage.{flipped_from}
use Rattle.zone_examples.proofs.TwoParityBytes.{three-is, behind_size-fixes, parity-fixes, parity-counts}
use Rattle.zone_examples.proofs.parity.corrections_are_of_data.Goals as goal

pub returns : goal.returns
returns c = (
  ap (λ image. boot_fixes console_of_two (flipped_from 62 (1 ∷ []) image)) three-is ∙ behind_size-fixes,
  ap (λ image. boot_fixes console_of_two (flipped_from 4030 (1 ∷ []) image)) three-is ∙ parity-fixes,
  ap (λ image. (zone_reading console_of_two (flipped_from 4030 (1 ∷ []) image)).corrected) three-is ∙ parity-counts,
)
