-- There are no more rings than zones. For `new`.
use Rattle.std.proofs.Common.{length, ap, arith}
use Rattle.zone_spec.specs.declared.ZoneName.{ZoneName}
use Rattle.ram_generator.proofs.Fits.{rings_few}
use Rattle.ram_generator.proofs.turns.Targets.new.Goals as goal

pub returns-clause-few : goal.returns-clause-few
returns-clause-few c = omega (arith, rings_few c.args.zones.now, ap (length {A = ZoneName}) c.in_ok-rings.ensures)
