-- A zone of a layout is valid, and is the one of its place.
use Rattle.std.proofs.Common.{arith}
use Rattle.std.proofs.lemmas.Option.{slice_get-get_or}
use Rattle.oopsbox_c.proofs.zones.read_in.Goals as goal

pub read_place-requires-clause-valid : goal.read_place-requires-clause-valid
read_place-requires-clause-valid c =
    (c.zones-zones.ensures.laid_out.valid c.args.index _ (slice_get-get_or c.zones-zones.result.now c.args.index _
    (let inside = c.if-index-zones.false in omega (arith, inside)))).0
