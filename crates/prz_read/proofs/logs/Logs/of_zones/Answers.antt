-- New logs have these zones, and room for a reading of each
use Rattle.std.proofs.Common.{ap, length, arith, ◌∙◌, sym}
use Rattle.std.specs.Prelude.{slice_get}
use Rattle.prz_read.proofs.logs.Logs.of_zones.Goals as goal

pub invariant_of-result : goal.invariant_of-result
invariant_of-result c =
    let none = ap length c.in_ok-readings.ensures.items in
    let same = ap length c.in_ok-zones.ensures.items in
    record {
      below = omega (arith, none);
      room = grind (arith, c.in_ok-readings.ensures.capacity, c.len.ensures, c.in_ok-zones.zones.ok);
      few = (let f = c.requires.few in omega (arith, same, f));
      numbered = λ k z e. c.requires.numbered k z (ap (λ zs. slice_get zs k) (sym c.in_ok-zones.ensures.items) ∙ e);
    }
