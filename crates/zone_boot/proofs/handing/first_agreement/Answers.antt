-- A byte that differs is one store more of the run. For the loop of `first_agreement`.
use Rattle.zone_boot.proofs.PartFixes.{agree-none, agree-next}
use Rattle.zone_boot.proofs.handing.first_agreement.Goals as goal

pub loop-i-init : goal.loop-i-init
loop-i-init c = λ at. agree-none c.args.stands.now c.args.reads.now c.requires.same c.args.from at

pub loop-i-preserved : goal.loop-i-preserved
loop-i-preserved c = agree-next c.args.stands.now c.args.reads.now c.requires.same c.args.from c.loop-i.i
    c.loop-i.auto.i c.loop-i-test.true c.if-stands-i.false c.loop-i.invariant
