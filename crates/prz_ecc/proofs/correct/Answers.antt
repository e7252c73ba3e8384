-- Without parity bytes stand as they should be: nothing is corrected, and the answer is clean. For
-- `correct`.
use Rattle.std.proofs.Common.{◌++◌}
use Rattle.rs_decode.proofs.NearestFixes.{decoded_clean, fixes_clean}
use Rattle.prz_ecc.proofs.Readings.{nearest-none, data-none, none_is}
use Rattle.prz_ecc.proofs.correct.Goals as goal

pub returns-then-is_empty-clause-answer : goal.returns-then-is_empty-clause-answer
returns-then-is_empty-clause-answer c = decoded_clean _ _
    (nearest-none _ (c.args.out.now.items ++ c.args.par.now) (none_is _ _ c.is_empty.ensures c.if-is_empty.true))

pub returns-then-is_empty-clause-data : goal.returns-then-is_empty-clause-data
returns-then-is_empty-clause-data c =
    data-none _ c.args.out.now.items c.args.par.now (none_is _ _ c.is_empty.ensures c.if-is_empty.true)

pub returns-then-is_empty-clause-fixes : goal.returns-then-is_empty-clause-fixes
returns-then-is_empty-clause-fixes c = fixes_clean _ _ _
    (nearest-none _ (c.args.out.now.items ++ c.args.par.now) (none_is _ _ c.is_empty.ensures c.if-is_empty.true))
    c.clear.ensures
