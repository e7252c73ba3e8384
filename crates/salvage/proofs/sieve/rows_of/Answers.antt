-- One row more. For `rows_of`.
use Rattle.std.proofs.Common.{[], ◌≢◌, ℕ, ◌+◌, ◌*◌, ◌/◌, sym, subst, ◌∙◌, arith, get_or, below_more, get_or-set_same}
use Rattle.std.proofs.Common.{get_or-set_other, length-set}
use Rattle.std.proofs.lemmas.List.{get_or_default}
use Rattle.rs_encode.specs.Lanes.{IsMultiple}
use Rattle.salvage.specs.declared.sieve.Weight.{Weight}
use Rattle.salvage.specs.Sieves.{none, factor_of}
use Rattle.salvage.proofs.Rows.{low_row, high_row}
use Rattle.salvage.proofs.sieve.rows_of.Goals as goal

pub loop-i-preserved : goal.loop-i-preserved
loop-i-preserved c = record {
  done = below_more _ _
      (λ j l. let ne : j ≢ c.loop-i.i = omega arith in
      subst (λ (x : ℕ). IsMultiple (factor_of j) (get_or c.args.weights.now (j / 32) none).counts x)
      (sym (get_or-set_other c.loop-i.rows.items c.loop-i.i j c.lane_of.result 0 ne)) (c.loop-i.invariant.done j l))
      (subst (λ (x : ℕ). IsMultiple (factor_of c.loop-i.i) (get_or c.args.weights.now (c.loop-i.i / 32) none).counts x)
      (sym (get_or-set_same c.loop-i.rows.items c.loop-i.i c.lane_of.result 0 (omega (
        arith,
        c.loop-i.invariant.len,
        c.loop-i-test.true,
      ))))
      (subst (λ (f : ℕ). IsMultiple f (get_or c.args.weights.now (c.loop-i.i / 32) none).counts c.lane_of.result)
      c.factor_of.ensures (subst (λ (g : Weight). IsMultiple c.factor_of.result g.counts c.lane_of.result)
      (get_or_default c.args.weights.now (c.loop-i.i / 32) (record { counts = [] }) none (omega (
        arith,
        c.requires,
        c.loop-i-test.true,
      ))) c.lane_of.ensures)));
  len = length-set c.loop-i.rows.items c.loop-i.i c.lane_of.result ∙ c.loop-i.invariant.len;
}

pub returns-clause-rows : goal.returns-clause-rows
returns-clause-rows c = record {
  low = λ k f m n. low_row c.args.weights.now c.loop-i.rows.items k f n
      (c.loop-i.invariant.done (32 * k + f) (omega (arith, m, n, c.requires, c.loop-i-test.false)));
  high = λ k f m n. high_row c.args.weights.now c.loop-i.rows.items k f n
      (c.loop-i.invariant.done (32 * k + 16 + f) (omega (arith, m, n, c.requires, c.loop-i-test.false)));
}
