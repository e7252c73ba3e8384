-- The last test is that of the boot
use Rattle.std.proofs.Common.{sym, subst}
use Rattle.zone_boot.specs.Booting.{IsKept}
use Rattle.oopsbox_c.proofs.boots.is_boot.Goals as goal

pub returns : goal.returns
returns c = (
  λ t. record {
    place = c.is_place.ensures.0 c.if-not-is_place.false;
    phase = c.if-boot-gt6.false;
    erasure = c.if-boot-gt2.false;
    kept = subst IsKept c.boot_in.ensures (c.is_kept.ensures.0 t);
  },
  λ f. c.is_kept.ensures.1 (subst IsKept (sym c.boot_in.ensures) f.kept),
)
