-- The zone has the index that was asked for. For `next_cursor`.
use Rattle.std.proofs.Common.{◌≡◌, ap, arith}
use Rattle.psz_spec.specs.declared.Zone.{Zone}
use Rattle.psz_read.proofs.cursor.next_cursor.Goals as goal

pub with_bytes-requires : goal.with_bytes-requires
with_bytes-requires c =
    let e : c.run_zone-zone.result.index ≡ c.args.index = ap (λ (z : Zone). z.index) c.run_zone-zone.ensures in
    omega (arith, e, c.requires.below)
