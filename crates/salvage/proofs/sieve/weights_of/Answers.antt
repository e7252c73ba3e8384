-- One weight more is that of its power. For `weights_of`.
use Rattle.std.proofs.Common.{◌≢◌, ◌-◌, ◌∙◌, arith, sym, subst, below_more, get_or-set_same, get_or-set_other}
use Rattle.std.proofs.Common.{length-set}
use Rattle.salvage.specs.Sieves.{IsWeight, none}
use Rattle.salvage.specs.declared.sieve.Weight.{Weight}
use Rattle.salvage.proofs.sieve.weights_of.Goals as goal

pub loop-k-preserved : goal.loop-k-preserved
loop-k-preserved c = record {
  done = below_more _ _
      (λ i l. let ne : i ≢ c.loop-k.k = omega arith in
      subst (λ (g : Weight). IsWeight c.args.others.now (c.args.power - i) g)
      (sym (get_or-set_other c.loop-k.weights c.loop-k.k i c.weight_at.result none ne)) (c.loop-k.invariant.done i l))
      (subst (λ (g : Weight). IsWeight c.args.others.now (c.args.power - c.loop-k.k) g)
      (sym (get_or-set_same c.loop-k.weights c.loop-k.k c.weight_at.result none (omega (
        arith,
        c.loop-k.invariant.len,
        c.loop-k-test.true,
        c.requires.count,
      )))) c.weight_at.ensures);
  len = length-set c.loop-k.weights c.loop-k.k c.weight_at.result ∙ c.loop-k.invariant.len;
}
