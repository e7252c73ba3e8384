-- Without parity any two lists of bytes are codewords, and nothing is left. For `sum_pair`.
use Rattle.std.proofs.Common.{refl, arith}
use Rattle.prz_ecc.proofs.Readings.{codeword-none, none_is, excess-none}
use Rattle.prz_ecc.proofs.sum_pair.Goals as goal

pub returns-then-is_empty-clause-a : goal.returns-then-is_empty-clause-a
returns-then-is_empty-clause-a c =
    ((λ h. codeword-none _ _ (none_is _ _ c.is_empty.ensures c.if-is_empty.true)), (λ h. refl))

pub returns-then-is_empty-clause-b : goal.returns-then-is_empty-clause-b
returns-then-is_empty-clause-b c =
    ((λ h. codeword-none _ _ (none_is _ _ c.is_empty.ensures c.if-is_empty.true)), (λ h. refl))

pub returns-then-is_empty-clause-excess_a : goal.returns-then-is_empty-clause-excess_a
returns-then-is_empty-clause-excess_a c =
    let e = none_is _ _ c.is_empty.ensures c.if-is_empty.true in
    excess-none c.args.a.now c.args.par_a.now c.args.out_a.now e (omega (arith, e, c.requires.len_a))

pub returns-then-is_empty-clause-excess_b : goal.returns-then-is_empty-clause-excess_b
returns-then-is_empty-clause-excess_b c =
    let e = none_is _ _ c.is_empty.ensures c.if-is_empty.true in
    excess-none c.args.b.now c.args.par_b.now c.args.out_b.now (omega (arith, e, c.requires.same_par))
    (omega (arith, e, c.requires.len_b))
