-- Forney's mask times its scale and gaps is the evaluator's value. For `fix_of`.
use Rattle.std.proofs.Common.{◌≡◌, ℕ, ◌-◌, ◌<◌, sym, ap, ap₂, ◌∙◌, arith}
use Rattle.code_spec.specs.Field.{gf_mul, gf_pow}
use Rattle.code_laws.proofs.Powers.{pow_inverse}
use Rattle.code_laws.proofs.Ring.{mul_one, mul_assoc, mul_comm}
use Rattle.decoder_laws.specs.Forney.{gap_ratio}
use Rattle.rs_decode.proofs.forney.fix_of.Goals as goal

quotient : (o u g m : ℕ) → o < 256 → u < 255 → gf_pow 2 u ≡ g → m ≡ gf_mul o (gf_pow 2 (255 - u)) → gf_mul m g ≡ o
quotient o u g m b l eg em =
    ap₂ gf_mul em (sym eg) ∙ mul_assoc o (gf_pow 2 (255 - u)) (gf_pow 2 u)
    ∙ ap (gf_mul o) (mul_comm (gf_pow 2 (255 - u)) (gf_pow 2 u) ∙ pow_inverse u (omega arith)) ∙ mul_one o b

pub returns-clause-mask : goal.returns-clause-mask
returns-clause-mask c =
    quotient c.mul-over.result c.ratio-under.result (gap_ratio c.args.powers.now c.args.power) c.mul_pow.result
    c.mul-over.type_inv c.ratio-under.ensures.below c.ratio-under.ensures.value c.mul_pow.ensures
    ∙ c.mul-over.ensures
