-- The zones of a layout are valid. For the test's `zone_of`.
use Rattle.std.proofs.Common.{arith}
use Rattle.std.proofs.lemmas.Option.{slice_get-get_or}
use Rattle.zone_tests.proofs.prz_ecc_tests.zone_of.Goals as goal

pub returns-in-len1-up : goal.returns-in-len1-up
returns-in-len1-up c = (c.zones.ensures.laid_out.valid 0 _ (slice_get-get_or c.zones.result.now 0 _ (omega arith))).0
