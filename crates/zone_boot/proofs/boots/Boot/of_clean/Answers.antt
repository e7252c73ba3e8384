-- Without corrections the erasure is all that is left. For `Boot::of_clean`.
use Rattle.std.proofs.Common.{[], refl, sym}
use Rattle.zone_boot.proofs.LaterStores.{after-none}
use Rattle.zone_boot.proofs.BootStart.{starts-clean, stages-by}
use Rattle.zone_boot.proofs.boots.Boot.of_clean.Goals as goal

pub returns-clause-stands : goal.returns-clause-stands
returns-clause-stands c = λ image state kept none.
    let z = c.args.zone.now in
    record {
      done = [];
      whole = starts-clean z image c.erasure_of.result none
          (stages-by z image c.args.state c.args.is_kept c.erasure_of.result state kept c.erasure_of.ensures);
      image = sym (after-none image);
      count = refl;
    }
