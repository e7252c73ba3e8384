-- The only zone of the list lies in the image, so it can be looked at. For `is_first_or_unlike`.
use Rattle.std.proofs.Common.{arith}
use Rattle.std.proofs.lemmas.Option.{slice_get-get_or}
use Rattle.layout_search.proofs.peeking.is_first_or_unlike.Goals as goal

pub see-requires-clause-inside : goal.see-requires-clause-inside
see-requires-clause-inside c = c.requires.inside 0 _ (slice_get-get_or c.args.zones.now 0 _ (omega arith))
