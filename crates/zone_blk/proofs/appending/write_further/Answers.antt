-- If the last header says all there is, `write_further` makes no write.
use Rattle.blk_spec.specs.Answers.{device}
use Rattle.zone_blk.proofs.Turns.{makes-unless}
use Rattle.zone_blk.proofs.appending.write_further.Goals as goal

pub returns-then-not-is_short-clause-ends : goal.returns-then-not-is_short-clause-ends
returns-then-not-is_short-clause-ends g c = makes-unless c.args.is_short _ c.args.cut.now
    (device (g.M.Load.holds c.args.store.now) (g.M.Load.writes c.args.store.now)
    (g.M.Load.read_faults c.args.store.now)) c.if-not-is_short.true
