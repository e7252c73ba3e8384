-- All sums before the last are zero, and the last is not. For `are_factors`.
use Rattle.std.proofs.Common.{sym, ◌∙◌, arith, below_more}
use Rattle.salvage.proofs.BlockFactors.{unequal}
use Rattle.salvage.proofs.sieve.are_factors.Goals as goal

pub loop-l-preserved : goal.loop-l-preserved
loop-l-preserved c = below_more _ _ c.loop-l.invariant (sym c.dot_at.ensures ∙ omega arith)

pub returns : goal.returns
returns c = λ h. record {
  zero = λ l m. c.loop-l.invariant l (omega (arith, m, c.loop-l-test.false));
  some = λ e. unequal c.dot_at-2.result 0 h (c.dot_at-2.ensures ∙ e);
}
