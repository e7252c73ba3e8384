-- The data and then the header are written in turn; if the data fails no header is. For
-- `write_run`.
use Rattle.std.proofs.Common.{◌∷◌, [], ◌+◌}
use Rattle.blk_spec.specs.Rings.{header_write}
use Rattle.blk_spec.specs.Answers.{device}
use Rattle.zone_blk.specs.Outcomes.{one_write}
use Rattle.zone_blk.proofs.Sequences.{then-ends, fails-before}
use Rattle.zone_blk.proofs.writing.write_run.Goals as goal

pub returns-in-Ok-clause-ends : goal.returns-in-Ok-clause-ends
returns-in-Ok-clause-ends g c =
    then-ends c.write_header.result (one_write (c.args.zone.at + 12 + c.args.place) c.args.bytes.now)
    (header_write c.args.zone c.args.words ∷ []) _ _ _ _ _ _ c.in-Ok.ensures.ends c.write_header.ensures.ends

pub returns-in-Err-clause-ends : goal.returns-in-Err-clause-ends
returns-in-Err-clause-ends g c =
    fails-before (one_write (c.args.zone.at + 12 + c.args.place) c.args.bytes.now)
    (header_write c.args.zone c.args.words ∷ []) c.args.cut.now c.write.new.cut c.write.new.cut
    _ _ (device (g.M.Load.holds c.write.new.store) (g.M.Load.writes c.write.new.store)
    (g.M.Load.read_faults c.write.new.store))
    c.in-Err.ensures.ends
