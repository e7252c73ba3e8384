-- The values are those of the evaluator at the reciprocals of the locators. For `evaluated`.
use Rattle.std.proofs.Common.{ℕ, ap, ◌∙◌, arith, length-take}
use Rattle.code_spec.specs.Field.{gf_pow}
use Rattle.code_spec.specs.Code.{value_of}
use Rattle.rs_decode.proofs.forney.evaluated.Goals as goal

pub returns : goal.returns
returns c = λ k l.
    c.values_at.ensures k l
    ∙ ap (λ (n : ℕ). value_of c.args.evaluator.now (gf_pow 2 n))
    (c.reciprocals.ensures k (omega (arith, c.reciprocals.auto.logs, length-take {A = ℕ})))
