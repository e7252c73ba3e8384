-- An append, a dump and an erasure write within their own zone alone. By `OwnZones`.
use Rattle.blk_laws.proofs.OwnZones.{append-within, dump-within, header-within}
use Rattle.blk_laws.proofs.calls_write_within.Goals as goal

pub returns : goal.returns
returns c = (append-within, dump-within, header-within)
