-- One place more is counted in each sum. For `sums_of`.
use Rattle.std.proofs.Common.{ℕ, ap, ◌∙◌, sym, arith, get_or}
use Rattle.code_spec.specs.Field.{gf_add}
use Rattle.code_laws.proofs.Ring.{zero_add}
use Rattle.rs_encode.proofs.Lanes.{digit-xor, digit-zero}
use Rattle.rs_encode.specs.Lanes.{digit}
use Rattle.salvage.specs.declared.sieve.Weight.{Weight}
use Rattle.salvage.specs.Sieves.{none, sum_at}
use Rattle.salvage.proofs.BlockFactors.{weighed_next, weighed_done}
use Rattle.salvage.proofs.Rows.{count_row}
use Rattle.salvage.proofs.sieve.sums_of.Goals as goal

pub loop-k-init : goal.loop-k-init
loop-k-init c = λ gs l h i p e.
    ap (λ (n : ℕ). gf_add n (sum_at i gs c.args.word.now c.args.base.now)) (digit-zero p)
    ∙ zero_add (sum_at i gs c.args.word.now c.args.base.now)

pub loop-k-preserved : goal.loop-k-preserved
loop-k-preserved c = λ gs l h i p e. weighed_next (λ (g : Weight). get_or g.counts i 0) gs c.args.word.now
    c.args.base.now c.loop-k.k none (digit c.loop-k.sums p) (digit c.row_for-sums.result p) c.add.result _ _
    (omega (arith, l, c.loop-k-test.true)) (sym l) (c.requires.base ∙ sym l) c.add.ensures
    (count_row gs c.loop-k.k c.add.result c.row_for-sums.result i p e
    (c.row_for-sums.ensures gs (omega (arith, l, c.loop-k-test.true)) h))
    (digit-xor c.loop-k.sums c.row_for-sums.result p) (c.loop-k.invariant gs l h i p e)

pub returns : goal.returns
returns c = λ gs l h i p e. weighed_done (λ (g : Weight). get_or g.counts i 0) c.loop-k.k gs
    c.args.word.now c.args.base.now (digit c.loop-k.sums p) _ (omega (arith, l, c.loop-k-test.false))
    (c.loop-k.invariant gs l h i p e)
