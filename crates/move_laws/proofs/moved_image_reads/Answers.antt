-- Each zone of a moved image reads the log that was found of it, or nothing, with nothing
-- corrected and nothing bad. By `MovedState`.
use Rattle.move_laws.proofs.MovedState.{moved_image_reads as law}
use Rattle.move_laws.proofs.moved_image_reads.Goals as goal

pub returns : goal.returns
returns c = law
