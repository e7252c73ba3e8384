-- One flip more is made, and in the end all are. For `make_damage`.
use Rattle.std.proofs.Common.{refl, arith}
use Rattle.ram_generator.proofs.Flips.{flips_start, flips_more, flips_end}
use Rattle.ram_generator.proofs.damage.make_damage.Goals as goal

pub flips-init : goal.flips-init
flips-init c = flips_start c.args.off.now c.args.flips.now

pub flips-preserved : goal.flips-preserved
flips-preserved c = flips_more c.args.off.now c.flips.off c.make_flip.new.off c.args.flips.now c.flips.flip-index _ _
    c.flips-test.true refl c.make_flip.ensures c.flips.invariant

pub returns : goal.returns
returns c = flips_end c.args.off.now c.flips.off c.args.flips.now c.flips.flip-index
    (omega (arith, c.flips-test.false, c.flips.auto.flip-index-end)) c.flips.invariant
