-- Worked: the writes of a first append of three bytes. The checker computes it.
use Rattle.std.proofs.Common.{refl}
use Rattle.blk_spec.specs.Rings.{append_writes, kept_writes}
use Rattle.blk_laws.proofs.first_append.Goals as goal

pub returns : goal.returns
unfolding append_writes kept_writes
returns c = refl
