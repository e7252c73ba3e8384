-- One symbol more of each message makes the two lanes their rests so far. For the loop of
-- `rest_pair`.
use Rattle.std.proofs.Common.{◌∷◌, [], ℕ, List, subst, arith}
use Rattle.std.proofs.lemmas.List.{take_all}
use Rattle.list_laws.proofs.Elements.{get_or-replicate_default}
use Rattle.rs_encode.specs.Lanes.{IsRest}
use Rattle.rs_encode.proofs.Steps.{rest_one, rest_none}
use Rattle.rs_encode.proofs.rest_pair.Goals as goal

pub loop-i-init : goal.loop-i-init
loop-i-init c = record {
  a = λ r few t. rest_none r (0 ∷ []) (λ k. get_or-replicate_default 1 k 0);
  b = λ r few t. rest_none r (0 ∷ []) (λ k. get_or-replicate_default 1 k 0);
}

pub loop-i-preserved : goal.loop-i-preserved
loop-i-preserved c = record {
  a = λ r few t. rest_one r c.add-factor_a.result c.loop-i.rest_a c.loop-i.i c.args.a.now c.args.rows.now t few
      (omega arith) (c.type_inv.a c.loop-i.i).fits (omega arith) c.add-factor_a.type_inv c.add-factor_a.ensures
      (c.loop-i.invariant.a r few t);
  b = λ r few t. rest_one r c.add-factor_b.result c.loop-i.rest_b c.loop-i.i c.args.b.now c.args.rows.now t few
      (omega arith) (c.type_inv.b c.loop-i.i).fits (omega arith) c.add-factor_b.type_inv c.add-factor_b.ensures
      (c.loop-i.invariant.b r few t);
}

pub returns-clause-a : goal.returns-clause-a
returns-clause-a c = λ r few t.
    subst (λ (m : List ℕ). IsRest r m (c.loop-i.rest_a ∷ [])) (take_all c.loop-i.i c.args.a.now (omega arith))
    (c.loop-i.invariant.a r few t)

pub returns-clause-b : goal.returns-clause-b
returns-clause-b c = λ r few t.
    subst (λ (m : List ℕ). IsRest r m (c.loop-i.rest_b ∷ [])) (take_all c.loop-i.i c.args.b.now (omega arith))
    (c.loop-i.invariant.b r few t)
