-- One symbol more adds its row to the lane. For the loop of `value_lane`.
use Rattle.std.proofs.Common.{ap, ◌∙◌}
use Rattle.code_spec.specs.Field.{gf_add, gf_pow}
use Rattle.code_spec.specs.Code.{value_of}
use Rattle.code_laws.proofs.Ring.{zero_add}
use Rattle.rs_encode.proofs.Lanes.{digit-zero}
use Rattle.rs_decode.proofs.PowerRows.{lane_more, lane_done}
use Rattle.rs_decode.proofs.lanes.value_lane.Goals as goal

pub loop-i-init : goal.loop-i-init
loop-i-init c = λ k p e. ap (λ y. gf_add y (value_of c.args.word.now (gf_pow 2 k))) (digit-zero p)
    ∙ zero_add (value_of c.args.word.now (gf_pow 2 k))

pub loop-i-preserved : goal.loop-i-preserved
loop-i-preserved c = λ k p e. lane_more c.loop-i.lane c.row-lane.result k p c.loop-i.i c.args.word.now
    c.loop-i-test.true (c.row-lane.ensures k p e) (c.loop-i.invariant k p e)

pub returns : goal.returns
returns c = λ k p e. lane_done c.loop-i.lane k p c.loop-i.i c.args.word.now c.loop-i-test.false
    (c.loop-i.invariant k p e)
