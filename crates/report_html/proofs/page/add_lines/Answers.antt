-- The lines, or where they stand
use Rattle.std.proofs.Common.{◌∙◌, ◌++◌, Bool, List, ap, sym}
use Rattle.std.proofs.lemmas.Result.{on_ok_weaker}
use Rattle.report_html.specs.Pieces.{Part, parts}
use Rattle.report_html.specs.Pages.{content_parts}
use Rattle.report_html.proofs.page.add_lines.Goals as goal

pub returns-then-tells : goal.returns-then-tells
returns-then-tells c =
    let old : List Part = parts c.args.pieces.now.items in
    on_ok_weaker c.add.result
    (λ e. e ∙ ap (λ (t : Bool). old ++ content_parts t c.args.name c.args.doubts.now c.args.content.now) (sym c.if-tells.true)) c.add.ensures

pub returns-else-tells : goal.returns-else-tells
returns-else-tells c =
    let old : List Part = parts c.args.pieces.now.items in
    on_ok_weaker c.add-else-tells.result
    (λ e. e ∙ ap (λ (t : Bool). old ++ content_parts t c.args.name c.args.doubts.now c.args.content.now) (sym c.if-tells.false))
    c.add-else-tells.ensures
