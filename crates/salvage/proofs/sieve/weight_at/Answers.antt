-- One count more is the one before times the locator. For `weight_at`.
use Rattle.std.proofs.Common.{◌≢◌, ℕ, ap, ap₂, ◌∙◌, arith, below_more, get_or-set_same, get_or-set_other, length-set}
use Rattle.code_spec.specs.Field.{gf_mul}
use Rattle.salvage.specs.Sieves.{times_power}
use Rattle.salvage.proofs.BlockFactors.{zeroth_is, next_power}
use Rattle.salvage.proofs.sieve.weight_at.Goals as goal

pub loop-i-init : goal.loop-i-init
loop-i-init c = record {
  next = c.product_at-count.ensures ∙ zeroth_is c.args.others.now c.args.power;
  done = λ k l. absurd (omega (arith, l));
  len = omega arith;
}

pub loop-i-preserved : goal.loop-i-preserved
loop-i-preserved c = record {
  next = c.mul-count.ensures ∙ ap₂ gf_mul c.loop-i.invariant.next c.alpha_pow.ensures
      ∙ next_power c.args.others.now c.loop-i.i c.args.power
      ∙ ap (λ (i : ℕ). times_power c.args.others.now i c.args.power) (omega arith);
  done = below_more _ _
      (λ k l. let ne : k ≢ c.loop-i.i = omega arith in
      get_or-set_other c.loop-i.counts c.loop-i.i k c.loop-i.count 0 ne ∙ c.loop-i.invariant.done k l)
      (get_or-set_same c.loop-i.counts c.loop-i.i c.loop-i.count 0 (omega (
        arith,
        c.loop-i.invariant.len,
        c.loop-i-test.true,
      )) ∙ c.loop-i.invariant.next);
  len = length-set c.loop-i.counts c.loop-i.i c.loop-i.count ∙ c.loop-i.invariant.len;
}

pub returns : goal.returns
returns c = λ i l. c.loop-i.invariant.done i (omega (arith, l, c.loop-i-test.false))
