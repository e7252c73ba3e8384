-- The row `dumps_kept`: two dumps, kept over a boot; the record of one is erased. The checker
-- computes it.
use Rattle.std.proofs.Common.{refl}
use Rattle.zone_examples.proofs.Unfoldings.{computing_all}
use Rattle.zone_examples.proofs.dumps.dumps_kept.Goals as goal

pub returns : goal.returns
unfolding computing_all
returns c = (refl, refl, refl)
