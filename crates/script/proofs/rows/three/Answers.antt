-- Three fields are two of which the last has two. For `three`.
use Rattle.script.proofs.Counts.{three_of_two}
use Rattle.script.proofs.rows.three.Goals as goal

pub returns : goal.returns
returns c = three_of_two _ _ _ _ _ c.in_ok-a.ensures.parts c.in_ok-b.ensures
