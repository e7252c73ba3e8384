-- By `Agreeing`. For `few_bytes_are_enough`.
use Rattle.psz_read.proofs.Agreeing.{listed_same}
use Rattle.psz_read.proofs.laws.few_bytes_are_enough.Goals as goal

pub returns : goal.returns
returns c = listed_same
