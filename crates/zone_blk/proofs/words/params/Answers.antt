-- Each parameter is the number of its key, or its default. For `params`.
use Rattle.zone_blk.proofs.words.params.Goals as goal

pub returns : goal.returns
returns c = cc
