-- A line `kdump` is a dump with the reason of its number. For `kdump`.
use Rattle.std.proofs.Common.{Some}
use Rattle.blk_spec.specs.Session.{Dump as DumpNow}
use Rattle.grammar_spec.specs.declared.line.Line.TheVariants.{KDump}
use Rattle.blk_session.proofs.Operations.{line_ends}
use Rattle.blk_session.proofs.CallLines.{kdump_is}
use Rattle.blk_session.proofs.calls.kdump.Goals as goal

pub returns-clause-done : goal.returns-clause-done
returns-clause-done g c =
    line_ends c.args.blk.now.layout (Some c.args.blk.now)
    (KDump c.args.time.secs c.args.time.nanos c.args.packed c.args.reason c.args.body.now)
    (DumpNow c.args.time c.args.packed c.of_number.result c.as_slice.result.now)
    (kdump_is (Some c.args.blk.now) c.args.time c.args.packed c.args.reason c.of_number.result c.args.body.now
    c.as_slice.result.now c.of_number.ensures c.as_slice.ensures)
    c.dump.result (Some c.dump.new.blk) _ _
    (g.S.Load.faults c.args.store.now) (g.S.Load.faults c.dump.new.store) c.dump.ensures.done
