-- Each storage takes bytes from the rest, so the loop of `show_all` ends.
use Rattle.std.proofs.Common.{length}
use Rattle.psz_zones.proofs.show_all.Given as goal

abbrev pub decreases-loop-rest : goal.decreases-loop-rest
decreases-loop-rest g l = length l.rest
