-- The pieces of a dump, written one after another, leave what its one write leaves, also if the
-- store stops within them. By `Pieces`.
use Rattle.blk_laws.proofs.Pieces.{dump-pieces}
use Rattle.blk_laws.proofs.dump_pieces_are_one_write.Goals as goal

pub returns : goal.returns
returns c = dump-pieces
