-- The row `parity_of_first_record`: the parity of block and header after a first record. Computed
-- with `TwoParityBytes`.
use Rattle.std.proofs.Common.{refl, ap, ◌∙◌, slice_range}
use Rattle.zone_examples.proofs.Unfoldings.{computing}
use Rattle.zone_examples.proofs.TwoParityBytes.{three-is}
use Rattle.zone_examples.proofs.parity.parity_of_first_record.Goals as goal

pub returns : goal.returns
unfolding computing
returns c = (
  ap (λ image. slice_range image 0 15) three-is ∙ refl,
  ap (λ image. slice_range image 4030 4032) three-is ∙ refl,
  ap (λ image. slice_range image 4094 4096) three-is ∙ refl,
)
