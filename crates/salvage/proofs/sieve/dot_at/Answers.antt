-- One product more is added. For `dot_at`.
use Rattle.std.specs.Prelude.{slice_index}
use Rattle.salvage.proofs.BlockFactors.{dot_begun, dot_next, dot_done}
use Rattle.salvage.proofs.sieve.dot_at.Goals as goal

pub loop-j-init : goal.loop-j-init
loop-j-init c = dot_begun c.args.factors.now (slice_index c.args.sums.now) c.args.start

pub loop-j-preserved : goal.loop-j-preserved
loop-j-preserved c = dot_next c.args.factors.now (slice_index c.args.sums.now) c.args.start c.loop-j.j c.loop-j.sum
    c.mul.result c.add-sum.result _ c.loop-j-test.true c.mul.ensures c.add-sum.ensures c.loop-j.invariant

pub returns : goal.returns
returns c = dot_done c.args.factors.now (slice_index c.args.sums.now) c.args.start c.loop-j.j c.loop-j.sum _
    c.loop-j-test.false c.loop-j.invariant
