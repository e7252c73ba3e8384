-- The first flips are made. For the loop of `make_damage`.
use Rattle.ram_generator.proofs.Flips.{AreUnderWay}
use Rattle.ram_generator.proofs.damage.make_damage.Given as goal

abbrev pub invariant-flips : goal.invariant-flips
invariant-flips l = AreUnderWay l.initial.off l.flips l.flip-index l.off
