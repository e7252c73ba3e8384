-- The logarithm goes up by the power each turn, so each value gets its own term. For the loop of
-- `add_terms`.
use Rattle.std.proofs.Common.{◌≢◌, ◌<◌, length, refl, sym, ap, ap₂, ◌∙◌, arith, get_or-set_other, get_or-set_same}
use Rattle.std.proofs.Common.{below_more}
use Rattle.code_spec.specs.Field.{gf_add, gf_mul, gf_pow}
use Rattle.code_laws.proofs.Ring.{mul_one, pow_zero, pow_below}
use Rattle.decoder_laws.proofs.Powers.{pow_term_step}
use Rattle.rs_decode.proofs.mending.add_terms.Goals as goal

pub loop-k-init : goal.loop-k-init
loop-k-init c = record {
  below = c.requires.mask_log;
  term = sym (ap (gf_mul (gf_pow 2 c.args.mask_log)) (pow_zero (gf_pow 2 c.args.power))
      ∙ mul_one (gf_pow 2 c.args.mask_log) (pow_below 2 c.args.mask_log));
  done = λ k h. absurd (omega arith);
  rest = λ k h. refl;
}

pub loop-k-preserved : goal.loop-k-preserved
loop-k-preserved c = record {
  below = c.log_product-term.ensures.below;
  term = pow_term_step (gf_pow 2 c.args.mask_log) (gf_pow 2 c.args.power) c.loop-k.k c.loop-k.term
      c.log_product-term.result c.loop-k.invariant.term c.log_product-term.ensures.value;
  done = below_more _ _
      (λ k h. let ne : k ≢ c.loop-k.k = omega arith in rw get_or-set_other (c.loop-k.invariant.done k h))
      (let lt : c.loop-k.k < length c.loop-k.values = omega arith in rw get_or-set_same (c.add.ensures
      ∙ ap₂ gf_add (c.loop-k.invariant.rest c.loop-k.k (omega arith))
      (c.alpha_pow.ensures ∙ c.loop-k.invariant.term)));
  rest = λ k h. let ne : k ≢ c.loop-k.k = omega arith in
      rw get_or-set_other (c.loop-k.invariant.rest k (omega arith));
}
