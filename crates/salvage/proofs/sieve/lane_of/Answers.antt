-- One product more goes to the lane's low end. For the loop of `lane_of`.
use Rattle.std.proofs.Common.{ap, ◌∙◌, arith}
use Rattle.code_spec.specs.Field.{gf_mul}
use Rattle.rs_encode.proofs.Lanes.{lane_push}
use Rattle.salvage.proofs.sieve.lane_of.Goals as goal

pub loop-k-preserved : goal.loop-k-preserved
loop-k-preserved c =
    lane_push c.loop-k.lane c.from.result c.args.factor c.loop-k.k c.args.counts.now (omega arith)
    (omega (arith, c.from.ensures, c.mul.type_inv))
    (c.from.ensures ∙ c.mul.ensures ∙ ap (gf_mul c.args.factor) c.count_or_zero.ensures) c.loop-k.invariant
