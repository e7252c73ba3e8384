-- The text of a record is the line `extract`; a name that no record has is refused. For `extract`.
use Rattle.std.proofs.Common.{sym, ◌∙◌}
use Rattle.prz_read.specs.Saving.{saved}
use Rattle.ram_session.proofs.RecordLines.{extract_done, extract_refused, extract_takes, given_none, none_is}
use Rattle.ram_session.proofs.record_lines.extract.Goals as goal

pub returns-in-Ok : goal.returns-in-Ok
returns-in-Ok c = λ live. extract_done live c.args.logs.now c.args.name.now c.in-Some.name c.in-Ok.text.items
    (sym c.in-Some.is ∙ (rw c.as_slice.ensures at c.named.ensures)) c.in-Ok.ensures

pub returns-in-Err-NoRecord : goal.returns-in-Err-NoRecord
returns-in-Err-NoRecord c = λ live. extract_refused live c.args.logs.now c.args.name.now
    (given_none (saved c.args.logs.now) c.args.name.now c.in-Some.name
    (sym c.in-Some.is ∙ (rw c.as_slice.ensures at c.named.ensures))
    (rw c.in-Err-NoRecord.field-0-is at c.in-Err-NoRecord.ensures))

pub returns-in-Err-Memory : goal.returns-in-Err-Memory
returns-in-Err-Memory c = λ live. extract_takes live c.args.logs.now c.args.name.now c.in-Some.name
    (sym c.in-Some.is ∙ (rw c.as_slice.ensures at c.named.ensures))

pub returns-in-None : goal.returns-in-None
returns-in-None c = λ live. extract_refused live c.args.logs.now c.args.name.now
    (none_is (saved c.args.logs.now) c.args.name.now (sym c.in-None.is
    ∙ (rw c.as_slice.ensures at c.named.ensures)))
