-- The zones of a layout are valid, so one can be read with its parts. For the test's
-- `read_with_parts`.
use Rattle.std.proofs.lemmas.Option.{slice_get-get_or}
use Rattle.zone_tests.proofs.prz_read_tests.read_with_parts.Goals as goal

pub read_parts-requires-clause-valid : goal.read_parts-requires-clause-valid
read_parts-requires-clause-valid c =
    let zones = c.zones-zones.result.now in
    (c.zones-zones.ensures.laid_out.valid c.args.i _ (slice_get-get_or zones c.args.i _ c.if-i-zones.true)).0
