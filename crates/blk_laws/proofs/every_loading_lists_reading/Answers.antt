-- After any calls, done, refused or failed, a loading lists the reading of the store's bytes as
-- they then stand. By `Lines`.
use Rattle.blk_laws.proofs.Lines.{every-loading}
use Rattle.blk_laws.proofs.every_loading_lists_reading.Goals as goal

pub returns : goal.returns
returns c = every-loading
