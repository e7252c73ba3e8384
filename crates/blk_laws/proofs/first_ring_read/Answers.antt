-- Worked: the log that is saved of a first append. The checker computes it.
use Rattle.std.proofs.Common.{refl}
use Rattle.blk_spec.specs.Reading.{saved_ring}
use Rattle.blk_laws.proofs.first_ring_read.Goals as goal

pub returns : goal.returns
unfolding saved_ring
returns c = refl
