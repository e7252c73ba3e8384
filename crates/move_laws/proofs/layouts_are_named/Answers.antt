-- Each zone of a list of parameters is the one that its name finds. By `Rising`.
use Rattle.move_laws.proofs.Rising.{layouts_are_named as law}
use Rattle.move_laws.proofs.layouts_are_named.Goals as goal

pub returns : goal.returns
returns c = law
