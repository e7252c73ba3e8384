-- One symbol more makes the lane the rest of the message so far. For the loop of `rest_in_lane`.
use Rattle.std.proofs.Common.{◌∷◌, [], ℕ, List, subst, arith}
use Rattle.std.proofs.lemmas.List.{take_all}
use Rattle.list_laws.proofs.Elements.{get_or-replicate_default}
use Rattle.rs_encode.specs.Lanes.{IsRest}
use Rattle.rs_encode.proofs.Steps.{rest_one, rest_none}
use Rattle.rs_encode.proofs.rest_in_lane.Goals as goal

pub loop-c-init : goal.loop-c-init
loop-c-init c = λ r few t. rest_none r (0 ∷ []) (λ k. get_or-replicate_default 1 k 0)

pub loop-c-preserved : goal.loop-c-preserved
loop-c-preserved c = λ r few t.
    rest_one r c.add-factor.result c.loop-c.rest c.loop-c.c-index c.args.msg.now c.args.rows.now t few (omega arith)
    (c.type_inv.msg c.loop-c.c-index).fits (omega arith) c.add-factor.type_inv c.add-factor.ensures
    (c.loop-c.invariant r few t)

pub returns : goal.returns
returns c = λ r few t.
    subst (λ (m : List ℕ). IsRest r m (c.loop-c.rest ∷ [])) (take_all c.loop-c.c-index c.args.msg.now (omega arith))
    (c.loop-c.invariant r few t)
