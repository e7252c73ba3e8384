-- The numbers are those of the boot that was begun
use Rattle.std.proofs.Common.{List, ℕ, sym, ap, subst, ◌∙◌}
use Rattle.zone_boot.specs.declared.boots.Boot.{Boot}
use Rattle.zone_boot.specs.Booting.{IsKept, IsBooting}
use Rattle.oopsbox_c.specs.Places.{IsPlace}
use Rattle.oopsbox_c.proofs.boots.begin.Goals as goal

pub returns : goal.returns
returns c =
    let image : List ℕ = c.args.image.now in
    let can = c.can_boot.ensures.0 c.if-not-can_boot.false in
    let of = c.boot_of.ensures in
    let begun = c.begin-begun.ensures in (
      can,
      record {
        boot = record {
          place = subst IsPlace (sym of.zone) can.is_place;
          phase = of.phase;
          erasure = of.erasure;
          kept = subst IsKept (sym of.boot) begun.kept;
        };
        zone = of.zone;
        made = ap (λ (x : Boot). x.made) of.boot ∙ begun.made;
        stands = subst (λ x. IsBooting x image image) (sym of.boot) begun.stands;
      },
    )
