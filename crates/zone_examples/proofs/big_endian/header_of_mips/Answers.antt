-- The row `header_of_mips`. The checker computes it.
use Rattle.std.proofs.Common.{refl}
use Rattle.zone_examples.proofs.Unfoldings.{computing}
use Rattle.zone_examples.proofs.big_endian.header_of_mips.Goals as goal

pub returns : goal.returns
unfolding computing
returns c = record { codeword = refl; big = refl; little = refl }
