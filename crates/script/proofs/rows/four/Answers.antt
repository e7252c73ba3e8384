-- Four fields are a pair and a pair. For `four`.
use Rattle.script.proofs.Counts.{four_of_two}
use Rattle.script.proofs.rows.four.Goals as goal

pub returns : goal.returns
returns c = four_of_two _ _ _ _ _ _ _ c.in_ok-a.ensures.parts c.in_ok-b.ensures.parts c.in_ok-c.ensures
