-- What was handed out leaves a kept call on the same zone. For the test's `plays`.
use Rattle.std.proofs.Common.{◌≡◌, ◌∙◌}
use Rattle.zone_tests.proofs.store_steps_tests.plays.Goals as goal

pub loop-wanted-preserved : goal.loop-wanted-preserved
loop-wanted-preserved g c = (c.next.ensures.kept, c.next.ensures.same.zone ∙ c.loop-wanted.invariant.1)
