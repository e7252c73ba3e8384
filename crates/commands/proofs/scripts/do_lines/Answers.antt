-- Lines on a shared zone put nothing themselves.
use Rattle.commands.proofs.Taking.{nothing_said}
use Rattle.commands.proofs.scripts.do_lines.Goals as goal

pub returns-in-Shared-clause-left : goal.returns-in-Shared-clause-left
returns-in-Shared-clause-left g c = rw c.in-Shared.is (c.share.ensures _ _)

pub returns-in-Ram-clause-takes : goal.returns-in-Ram-clause-takes
returns-in-Ram-clause-takes g c = rw c.in-Ram.is c.play_lines.ensures.takes

pub returns-in-Shared-clause-takes : goal.returns-in-Shared-clause-takes
returns-in-Shared-clause-takes g c = rw c.in-Shared.is (nothing_said c.share.result)
