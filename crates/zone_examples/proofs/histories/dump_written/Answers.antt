-- The row `dump_written`: a dump that a boot keeps, and its erasure. The checker computes it.
use Rattle.std.proofs.Common.{refl}
use Rattle.zone_examples.proofs.Unfoldings.{computing_all}
use Rattle.history_spec.specs.Written.{written}
use Rattle.zone_examples.proofs.histories.dump_written.Goals as goal

pub returns : goal.returns
unfolding computing_all written
returns c = refl
