-- A loading leaves the store its 16384 bytes. For the test's `load`.
use Rattle.blk_tests.proofs.zone_blk_tests.load.Goals as goal

pub returns-clause-room : goal.returns-clause-room
returns-clause-room c = c.load.ensures.room 16384 c.requires.room
