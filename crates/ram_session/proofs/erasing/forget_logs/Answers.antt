-- One log more is forgotten or kept, and in the end the record's are forgotten. For `forget_logs`.
use Rattle.std.proofs.Common.{arith}
use Rattle.ram_session.proofs.EraseLines.{forgets_none, forgets_stay, forgets_next, forgets_all}
use Rattle.ram_session.proofs.erasing.forget_logs.Goals as goal
use Rattle.ram_session.proofs.erasing.forget_logs.Goals.{then-is_in, else-is_in}

pub loop-i-init : goal.loop-i-init
loop-i-init c = forgets_none c.args.logs.now c.args.name

pub name-requires : goal.name-requires
name-requires c = omega (arith, c.loop-i.invariant.count, c.len-i-end.ensures.readings, c.loop-i-test.true)

pub forget-requires : goal.forget-requires
forget-requires c = omega (arith, c.loop-i.invariant.count, c.len-i-end.ensures.readings, c.loop-i-test.true)

pub loop-i-preserved : goal.loop-i-preserved
loop-i-preserved c = elim c.if-is_in.branch [
  | then-is_in w ↦ (rw w.logs-is (forgets_next c.args.logs.now c.loop-i.logs c.args.name c.loop-i.i c.name.result
      c.is_in.result c.loop-i.invariant c.name.ensures c.is_in.ensures w.forget.new.self w.if-is_in.true
      w.forget.ensures))
  | else-is_in w ↦ (rw w.logs-is (forgets_stay c.args.logs.now c.loop-i.logs c.args.name c.loop-i.i c.name.result
      c.is_in.result c.loop-i.invariant c.name.ensures c.is_in.ensures w.if-is_in.false))
]

pub returns : goal.returns
returns c = forgets_all c.args.logs.now c.loop-i.logs c.args.name c.loop-i.i c.len-i-end.result
    c.len-i-end.ensures.readings c.len-i-end.ensures.saved (omega (arith, c.loop-i-test.false)) c.loop-i.invariant
