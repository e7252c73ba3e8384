-- Worked: the bytes of a first dump. The checker computes it.
use Rattle.std.proofs.Common.{refl}
use Rattle.blk_spec.specs.Dumps.{dump_writes}
use Rattle.blk_laws.proofs.first_dump.Goals as goal

pub returns : goal.returns
unfolding dump_writes
returns c = refl
