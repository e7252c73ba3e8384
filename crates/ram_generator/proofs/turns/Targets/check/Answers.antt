-- The zones of a layout are few and lie within 32 bits. For `check`.
use Rattle.std.proofs.Common.{arith}
use Rattle.ram_generator.proofs.Fits.{zones_few, zones_fit}
use Rattle.ram_generator.proofs.turns.Targets.check.Goals as goal

pub returns-clause-few : goal.returns-clause-few
returns-clause-few c = zones_few _ _ (rw c.zones-zones.ensures.value at c.zones-zones.ensures.laid_out)
    (omega (arith, c.mem-mem.ensures, c.mem-mem.type_inv))

pub returns-clause-within : goal.returns-clause-within
returns-clause-within c = zones_fit _ _ (rw c.zones-zones.ensures.value at c.zones-zones.ensures.laid_out)
    (omega (arith, c.mem-mem.ensures, c.mem-mem.type_inv))
