-- n + k numbers in a row are the first n and then k more. By `Ranges`.
use Rattle.list_laws.proofs.Ranges.{range_with_len-add}
use Rattle.list_laws.proofs.ranges_end_to_end.Goals as goal

pub returns : goal.returns
returns c = range_with_len-add
