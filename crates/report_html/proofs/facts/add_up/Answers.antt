-- A row of a stamp that is there
use Rattle.std.proofs.Common.{◌∙◌, ◌++◌, List, ap, sym}
use Rattle.std.proofs.lemmas.Result.{on_ok_weaker}
use Rattle.report_html.specs.Pieces.{Part, parts}
use Rattle.report_html.proofs.FactRows.{up_is}
use Rattle.report_html.proofs.facts.add_up.Goals as goal

pub returns-clause-parts : goal.returns-clause-parts
returns-clause-parts c =
    let old : List Part = parts c.args.pieces.now.items in
    on_ok_weaker c.add-2.result
    (λ e. e ∙ ap (λ (more : List Part). old ++ more)
    (up_is c.args.uptime.now c.seconds.result (sym c.is_empty.ensures ∙ c.if-is_empty.false) c.seconds.ensures))
    c.add-2.ensures
