-- A text with none of the names' fronts is no name of a record. For `candidate`.
use Rattle.std.proofs.Common.{sym, ◌∙◌}
use Rattle.pstore_records.proofs.DumpNumbers.{nameless}
use Rattle.pstore_records.proofs.naming.candidate.Goals as goal

pub returns-in-None : goal.returns-in-None
returns-in-None c = nameless c.args.text.now (sym c.eq.ensures ∙ c.if-eq.false) (sym c.eq-2.ensures ∙ c.if-eq-2.false)
    (sym c.eq-3.ensures ∙ c.if-eq-3.false) c.in-None.ensures.cases
