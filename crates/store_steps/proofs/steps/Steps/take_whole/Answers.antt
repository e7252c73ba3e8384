-- All stores are handed out, and the call is at its end. For `Steps::take_whole`.
use Rattle.std.proofs.Common.{arith}
use Rattle.store_steps.proofs.WholeTaken.{total, taken_whole}
use Rattle.store_steps.proofs.steps.Steps.take_whole.Goals as goal

pub returns-clause-taken : goal.returns-clause-taken
returns-clause-taken c =
    let plain = c.is_plain.ensures.0 c.if-not-is_plain.false in
    taken_whole c.args.self.now c.args.line.now c.args.payload.now c.whole-whole.result c.count-count.result c.args.most
    c.requires plain.0 plain.1 plain.2 c.whole-whole.ensures.stores c.whole-whole.ensures.inside
    (c.count-count.ensures c.args.self.now.zone.size c.args.payload.now c.whole-whole.ensures.inside)
    (omega (arith, c.if-most-count.false))

pub returns-then-most-count-clause-due : goal.returns-then-most-count-clause-due
returns-then-most-count-clause-due c = λ call.
    let all = total c.args.self.now c.args.line.now c.args.payload.now c.whole-whole.result c.requires call.kind
    call.parity c.whole-whole.ensures.stores in
    let count = c.count-count.ensures c.args.self.now.zone.size c.args.payload.now c.whole-whole.ensures.inside in
    omega (arith, all, count, call.few, c.if-most-count.true)
