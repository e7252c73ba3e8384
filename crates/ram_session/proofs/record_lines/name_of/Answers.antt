-- Bytes that are no UTF-8 name nothing
use Rattle.ram_session.proofs.NamedRecord.{no-text}
use Rattle.ram_session.proofs.record_lines.name_of.Goals as goal

pub returns-in-Err-clause-name : goal.returns-in-Err-clause-name
returns-in-Err-clause-name c = no-text c.args.text.now c.in-Err.ensures.cases.0

pub returns-in-Err-clause-only : goal.returns-in-Err-clause-only
returns-in-Err-clause-only c = λ name small e. absurd (no-text c.args.text.now c.in-Err.ensures.cases.0 name small e)
