-- The row `start_at_cap`: what may begin on a ring whose start is its capacity. The checker
-- computes it.
use Rattle.std.proofs.Common.{arith}
use Rattle.zone_examples.proofs.counts.start_at_cap.Goals as goal

pub returns : goal.returns
returns c = (tt, λ h. absurd (omega (arith, h.0)))
