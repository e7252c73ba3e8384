-- The front of the row that was stored is the byte escaped. For `put_byte`.
use Rattle.std.proofs.Common.{◌∙◌, ap, take, arith}
use Rattle.report_html.proofs.Runs.{row-stored}
use Rattle.report_html.proofs.escaping.put_byte.Goals as goal

pub returns-clause-text : goal.returns-clause-text
returns-clause-text c =
    let n = c.row_of-row.ensures.len in
    row-stored c.args.room.now c.row_of-row.result c.args.at c.from.result (omega arith) (omega arith)
    (ap (λ k. take k c.row_of-row.result) c.from.ensures ∙ c.row_of-row.ensures.text)
