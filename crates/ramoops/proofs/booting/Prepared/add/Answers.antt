-- A zone's log fits a `u32` and the told list's room. For `Prepared::add`.
use Rattle.std.proofs.Common.{length, ap, arith}
use Rattle.zone_spec.specs.Reading.{ZoneReading}
use Rattle.ramoops.proofs.BootReading.{log_fits, cap_small}
use Rattle.ramoops.proofs.booting.Prepared.add.Goals as goal

pub report_of-requires : goal.report_of-requires
report_of-requires c =
    let fits = log_fits c.args.zone.now c.args.span.now in let small = cap_small c.args.zone.now c.requires.valid in
    let same = ap (λ (r : ZoneReading). length r.log) c.in_ok-reading.ensures in
    omega (arith, fits, small, same)

pub hold-requires : goal.hold-requires
hold-requires c =
    let fits = log_fits c.args.zone.now c.args.span.now in let same =
    ap (λ (r : ZoneReading). length r.log) c.in_ok-reading.ensures in
    omega (arith, fits, same)
