-- Five fields are four of which the last has two. For `five`.
use Rattle.script.proofs.Counts.{five_of_four}
use Rattle.script.proofs.rows.five.Goals as goal

pub returns : goal.returns
returns c = five_of_four _ _ _ _ _ _ _ c.in_ok-a.ensures.parts c.in_ok-b.ensures
