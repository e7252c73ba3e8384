-- Words that are there
use Rattle.std.proofs.Common.{◌∙◌, ◌++◌, List, ap, sym}
use Rattle.std.proofs.lemmas.Result.{on_ok_weaker}
use Rattle.report_html.specs.Pieces.{Part, parts}
use Rattle.report_html.proofs.FactRows.{better_is}
use Rattle.report_html.proofs.warnings.add_better.Goals as goal

pub returns : goal.returns
returns c =
    let old : List Part = parts c.args.pieces.now.items in
    on_ok_weaker c.add.result
    (λ e. e ∙ ap (λ (more : List Part). old ++ more)
    (better_is c.args.better.now (sym c.is_empty.ensures ∙ c.if-is_empty.false)))
    c.add.ensures
