-- No byte left to pass is no write, and the bytes passed on are one write, whole or cut. For
-- `write`.
use Rattle.std.proofs.Common.{arith}
use Rattle.blk_spec.specs.Answers.{device}
use Rattle.zone_blk.proofs.Sequences.{makes-none, ends-one}
use Rattle.zone_blk.proofs.writing.write.Goals as goal

pub returns-then-passing-eq0-clause-ends : goal.returns-then-passing-eq0-clause-ends
returns-then-passing-eq0-clause-ends g c =
    makes-none (device (g.M.Load.holds c.args.store.now) (g.M.Load.writes c.args.store.now)
    (g.M.Load.read_faults c.args.store.now)) c.args.cut.now c.pass-passing.result.cut c.args.at
    c.pass-passing.result.count c.args.bytes.now c.pass-passing.ensures.count c.if-passing-eq0.true
    c.pass-passing.ensures.cut

pub returns-clause-ends : goal.returns-clause-ends
returns-clause-ends g c =
    ends-one c.write_at.result (device (g.M.Load.holds c.args.store.now) (g.M.Load.writes c.args.store.now)
    (g.M.Load.read_faults c.args.store.now))
    (device (g.M.Load.holds c.write_at.new.self) (g.M.Load.writes c.write_at.new.self)
    (g.M.Load.read_faults c.write_at.new.self))
    c.args.cut.now c.pass-passing.result.cut c.args.at c.pass-passing.result.count c.args.bytes.now
    (omega (arith, c.if-passing-eq0.false)) c.pass-passing.ensures.count c.pass-passing.ensures.cut
    c.write_at.ensures.counted c.write_at.ensures.unread c.write_at.ensures.bytes
