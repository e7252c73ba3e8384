-- A date, or none
use Rattle.std.proofs.Common.{◌∙◌, ◌++◌, List, ap, sym}
use Rattle.std.proofs.lemmas.Result.{on_ok_weaker}
use Rattle.report_html.specs.Pieces.{Part, parts}
use Rattle.report_html.specs.Facts.{when_parts}
use Rattle.report_html.proofs.facts.add_when.Goals as goal

pub returns-in-Some : goal.returns-in-Some
returns-in-Some c =
    let old : List Part = parts c.args.pieces.now.items in
    on_ok_weaker c.add.result (λ e. e ∙ ap (λ (more : List Part). old ++ more) (sym (ap when_parts c.in-Some.is)))
    c.add.ensures

pub returns-in-None : goal.returns-in-None
returns-in-None c =
    let old : List Part = parts c.args.pieces.now.items in
    on_ok_weaker c.add-in-None.result
    (λ e. e ∙ ap (λ (more : List Part). old ++ more) (sym (ap when_parts c.in-None.is))) c.add-in-None.ensures
