-- A zone of zeros is sound after a boot, in no flight, and told nothing. By `Blank`.
use Rattle.move_laws.proofs.Blank.{blank_zone_is_told_nothing as law}
use Rattle.move_laws.proofs.blank_zone_is_told_nothing.Goals as goal

pub returns : goal.returns
returns c = law
