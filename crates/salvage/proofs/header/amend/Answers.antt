-- One known byte more is put in and counted if it differs. For `amend`.
use Rattle.std.proofs.Common.{arith}
use Rattle.salvage.proofs.Amends.{next, whole, counted}
use Rattle.salvage.proofs.header.amend.Goals as goal

pub loop-i-preserved : goal.loop-i-preserved
loop-i-preserved c =
    next c.args.expected.now c.args.bytes.now c.loop-i.bytes c.loop-i.i c.loop-i.count c.put-byte.result
    c.differs-count.result c.requires.len (omega (arith, c.loop-i.auto.bytes)) (omega (
      arith,
      c.loop-i-test.true,
      c.loop-i.auto.bytes,
    )) c.loop-i.invariant
    c.put-byte.ensures c.differs-count.ensures

pub returns-clause-bytes : goal.returns-clause-bytes
returns-clause-bytes c =
    whole _ _ _ c.loop-i.i c.loop-i.count (omega (arith, c.loop-i.auto.bytes)) (omega (arith, c.loop-i-test.false))
    c.loop-i.invariant

pub returns-clause-count : goal.returns-clause-count
returns-clause-count c =
    counted _ _ _ c.loop-i.i c.loop-i.count (omega (arith, c.loop-i.auto.bytes)) (omega (
      arith,
      c.loop-i-test.false,
    )) c.loop-i.invariant

pub returns-clause-most : goal.returns-clause-most
returns-clause-most c = omega (arith, c.loop-i.invariant.few, c.loop-i.auto.bytes)
