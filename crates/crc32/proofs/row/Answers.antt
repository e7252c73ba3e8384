-- The table's row is what eight bits leave. For `row`.
use Rattle.crc32.proofs.Table.{row_is}
use Rattle.crc32.proofs.row.Goals as goal

pub returns : goal.returns
returns c = row_is c.args.low c.requires
