-- The content that is found, or that there is none, is that of the record of this name. For
-- `content_of`.
use Rattle.std.proofs.Common.{refl, sym, ◌∙◌}
use Rattle.prz_read.specs.Saving.{saved}
use Rattle.ram_session.proofs.RecordLines.{given_content, given_none, some_is}
use Rattle.ram_session.proofs.record_lines.content_of.Goals as goal

pub returns-in-Ok : goal.returns-in-Ok
returns-in-Ok c = given_content (saved c.args.logs.now) c.args.name.now c.in-Some.name c.in-Ok.bytes
    (sym c.in-Some.is ∙ c.named.ensures) c.in-Ok.ensures

pub returns-in-Err-NoRecord : goal.returns-in-Err-NoRecord
returns-in-Err-NoRecord c = (
  refl,
  given_none (saved c.args.logs.now) c.args.name.now c.in-Some.name
      (sym c.in-Some.is ∙ c.named.ensures) (rw c.in-Err-NoRecord.field-0-is at c.in-Err-NoRecord.ensures),
)

pub returns-in-Err-Memory : goal.returns-in-Err-Memory
returns-in-Err-Memory c = some_is (saved c.args.logs.now) c.args.name.now c.in-Some.name
    (sym c.in-Some.is ∙ c.named.ensures)
