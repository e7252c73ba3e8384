-- A row of bytes that are there
use Rattle.std.proofs.Common.{◌∙◌, ◌++◌, List, ap, sym}
use Rattle.std.proofs.lemmas.Result.{on_ok_weaker}
use Rattle.report_html.specs.Pieces.{Part, parts}
use Rattle.report_html.proofs.FactRows.{row_is}
use Rattle.report_html.proofs.facts.add_bytes.Goals as goal

pub returns-clause-parts : goal.returns-clause-parts
returns-clause-parts c =
    let old : List Part = parts c.args.pieces.now.items in
    on_ok_weaker c.add.result
    (λ e. e ∙ ap (λ (more : List Part). old ++ more)
    (row_is c.args.label.now c.args.bytes.now (sym c.is_empty.ensures ∙ c.if-is_empty.false)))
    c.add.ensures
