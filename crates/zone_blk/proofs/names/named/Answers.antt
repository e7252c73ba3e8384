-- Bytes that are no UTF-8 name nothing
use Rattle.zone_blk.proofs.OneNameText.{no-text}
use Rattle.zone_blk.proofs.names.named.Goals as goal

pub returns-in-Err : goal.returns-in-Err
returns-in-Err c = no-text c.args.text.now c.in-Err.ensures.cases.0
