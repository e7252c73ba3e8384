-- Each row is that of its number
use Rattle.std.proofs.Common.{◌∙◌, arith, length-set}
use Rattle.oopsbox_c.proofs.StoredRows.{more, all}
use Rattle.oopsbox_c.proofs.tables.store_rows.Goals as goal

pub loop-i-preserved : goal.loop-i-preserved
loop-i-preserved c = record {
  stored = more c.loop-i.table c.args.rows.now c.loop-i.i c.row_of.result
      (omega (arith, c.loop-i-test.true, c.loop-i.invariant.len)) c.row_of.ensures c.loop-i.invariant.stored;
  len = length-set c.loop-i.table c.loop-i.i c.row_of.result ∙ c.loop-i.invariant.len;
}

pub returns : goal.returns
returns c = all c.loop-i.table c.args.rows.now (omega (arith, c.loop-i.invariant.len, c.requires.rows))
    (λ k lt. c.loop-i.invariant.stored k (omega (arith, lt, c.loop-i.invariant.len, c.loop-i-test.false)))
