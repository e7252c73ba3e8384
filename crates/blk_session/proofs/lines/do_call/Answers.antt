-- The seconds and nanoseconds of a line `kdump` are in range, and a line that sets a cut is done.
-- For `do_call`.
use Rattle.std.proofs.Common.{[], Some, sym, subst}
use Rattle.grammar_spec.specs.Printed.{HasFields}
use Rattle.grammar_spec.specs.declared.line.Line.{Line}
use Rattle.blk_session.specs.Lines.{LineDone}
use Rattle.blk_session.proofs.CallLines.{cut_done}
use Rattle.blk_session.proofs.OtherLines.{kdump_fields}
use Rattle.blk_spec.specs.Answers.{Device, device}
use Rattle.blk_session.proofs.lines.do_call.Goals as goal

pub kdump-requires-clause-secs : goal.kdump-requires-clause-secs
kdump-requires-clause-secs g c = (kdump_fields c.in-KDump.secs c.in-KDump.nanos c.in-KDump.packed c.in-KDump.reason
    c.in-KDump.body (subst HasFields c.in-KDump.is c.requires.fields)).0

pub kdump-requires-clause-nanos : goal.kdump-requires-clause-nanos
kdump-requires-clause-nanos g c = (kdump_fields c.in-KDump.secs c.in-KDump.nanos c.in-KDump.packed c.in-KDump.reason
    c.in-KDump.body (subst HasFields c.in-KDump.is c.requires.fields)).1

pub returns-in-CutAfter-clause-done : goal.returns-in-CutAfter-clause-done
returns-in-CutAfter-clause-done g c =
    let a : Device = device (g.S.Load.holds c.args.store.now) (g.S.Load.writes c.args.store.now)
    (g.S.Load.read_faults c.args.store.now) in
    subst (λ (line : Line). LineDone c.args.blk.now.layout (Some c.args.blk.now) line (Some c.cut_after.new.self) [] a
    a)
    (sym c.in-CutAfter.is)
    (cut_done c.args.blk.now c.cut_after.new.self c.in-CutAfter.limit a (rw c.from.ensures at c.cut_after.ensures))
