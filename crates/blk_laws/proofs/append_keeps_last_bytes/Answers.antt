-- An append to a ring that stands for a list leaves one that stands for the last bytes of that
-- list and the payload, as many as the ring holds. By `Appends`.
use Rattle.blk_laws.proofs.Appends.{append-stands}
use Rattle.blk_laws.proofs.append_keeps_last_bytes.Goals as goal

pub returns : goal.returns
returns c = append-stands
