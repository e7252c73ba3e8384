-- The row `dump_without_notice`: a record of a zone without parity. The checker computes it.
use Rattle.std.proofs.Common.{refl}
use Rattle.zone_examples.proofs.Unfoldings.{computing_all}
use Rattle.zone_examples.proofs.notices.dump_without_notice.Goals as goal

pub returns : goal.returns
unfolding computing_all
returns c = refl
