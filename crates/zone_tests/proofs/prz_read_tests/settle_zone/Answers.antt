-- The zones of a layout are valid, so one can be read and settled. For the test's `settle_zone`.
use Rattle.std.proofs.lemmas.Option.{slice_get-get_or}
use Rattle.zone_tests.proofs.prz_read_tests.settle_zone.Goals as goal

pub read_zone-requires-clause-valid : goal.read_zone-requires-clause-valid
read_zone-requires-clause-valid c =
    let zones = c.zones-zones.result.now in
    (c.zones-zones.ensures.laid_out.valid c.args.i _ (slice_get-get_or zones c.args.i _ c.if-i-zones.true)).0

pub settle-requires-clause-valid : goal.settle-requires-clause-valid
settle-requires-clause-valid c =
    let zones = c.zones-zones.result.now in
    (c.zones-zones.ensures.laid_out.valid c.args.i _ (slice_get-get_or zones c.args.i _ c.if-i-zones.true)).0
