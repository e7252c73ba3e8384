-- Worked: one byte more to a full ring is a data byte, a shorter header and the full one. The
-- checker computes it.
use Rattle.std.proofs.Common.{refl}
use Rattle.blk_spec.specs.Rings.{append_writes, kept_writes}
use Rattle.blk_laws.proofs.full_ring_append.Goals as goal

pub returns : goal.returns
unfolding append_writes kept_writes
returns c = refl
