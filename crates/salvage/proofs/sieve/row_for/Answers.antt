-- A byte's multiple is the sum of its halves' multiples. For `row_for`.
use Rattle.std.proofs.Common.{arith}
use Rattle.salvage.proofs.Rows.{row_sum}
use Rattle.salvage.proofs.sieve.row_for.Goals as goal

pub returns : goal.returns
returns c = λ gs l h. row_sum gs c.args.rows.now c.args.k c.args.symbol h l (omega arith)
