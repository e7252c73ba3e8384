-- The call is kept, and its zone is the one it began with. For the loop of the test's `plays`.
use Rattle.std.proofs.Common.{◌≡◌}
use Rattle.store_steps.specs.Flying.{flying}
use Rattle.store_steps.specs.Machine.{IsKept}
use Rattle.zone_tests.proofs.store_steps_tests.plays.Given as goal

abbrev pub invariant-loop-wanted : goal.invariant-loop-wanted
invariant-loop-wanted g l = IsKept (flying l.steps l.line l.payload) × (l.steps.zone ≡ l.fn.zone)
