-- A boot after a move from any parameters to others lists the records that fit, and no other. By
-- `Ranks`.
use Rattle.move_laws.proofs.Rising.{layouts_keep_records as law}
use Rattle.move_laws.proofs.layouts_keep_records.Goals as goal

pub returns : goal.returns
returns c = law
