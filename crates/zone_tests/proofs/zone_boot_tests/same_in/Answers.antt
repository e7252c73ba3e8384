-- The zones of a layout are valid, so one can be booted both ways. For the test's `same_in`.
use Rattle.std.proofs.lemmas.Option.{slice_get-get_or}
use Rattle.zone_tests.proofs.zone_boot_tests.same_in.Goals as goal

pub same_at-requires : goal.same_at-requires
same_at-requires o c =
    let zones = c.zones-zones.result.now in
    (c.zones-zones.ensures.laid_out.valid c.args.i _ (slice_get-get_or zones c.args.i _ c.if-i-zones.true)).0
