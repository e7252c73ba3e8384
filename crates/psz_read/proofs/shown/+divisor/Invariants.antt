-- The second number falls. For `divisor`.
use Rattle.psz_read.proofs.shown.+divisor.Given as goal

abbrev pub decreases-divisor : goal.decreases-divisor
decreases-divisor l = l.b
