-- If nothing goes on from place 0, `write_rest` makes no write.
use Rattle.std.proofs.Common.{◌∙◌, sym, length, nat_lt}
use Rattle.blk_spec.specs.Answers.{device}
use Rattle.zone_blk.proofs.Turns.{makes-unless, not-some}
use Rattle.zone_blk.proofs.appending.write_rest.Goals as goal

pub returns-then-is_empty-clause-ends : goal.returns-then-is_empty-clause-ends
returns-then-is_empty-clause-ends g c =
    makes-unless (nat_lt 0 (length c.args.bytes.now)) _ c.args.cut.now
    (device (g.M.Load.holds c.args.store.now) (g.M.Load.writes c.args.store.now)
    (g.M.Load.read_faults c.args.store.now))
    (not-some (length c.args.bytes.now) (sym c.is_empty.ensures ∙ c.if-is_empty.true))
