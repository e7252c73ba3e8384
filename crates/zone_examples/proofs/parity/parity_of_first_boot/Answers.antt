-- The row `parity_of_first_boot`: the header's parity after a first boot. Computed with
-- `TwoParityBytes`.
use Rattle.std.proofs.Common.{refl, ap, ◌∙◌, slice_range}
use Rattle.zone_examples.proofs.Unfoldings.{computing}
use Rattle.zone_examples.proofs.TwoParityBytes.{booted-is}
use Rattle.zone_examples.proofs.parity.parity_of_first_boot.Goals as goal

pub returns : goal.returns
unfolding computing
returns c = ap (λ image. slice_range image 4094 4096) booted-is ∙ refl
