-- The text's name is that of its view
use Rattle.std.proofs.Common.{◌∙◌, ◌++◌, ℕ, List, Option, ap, sym}
use Rattle.std.specs.Option.{option_copied}
use Rattle.std.proofs.lemmas.Result.{on_ok_weaker}
use Rattle.report_spec.specs.declared.Mended.{Mended}
use Rattle.report_html.specs.Pieces.{Part, parts}
use Rattle.report_html.specs.Died.{mended_parts}
use Rattle.report_html.proofs.died.add_mended.Goals as goal

pub returns-in-Some : goal.returns-in-Some
returns-in-Some c =
    let old : List Part = parts c.args.pieces.now.items in
    on_ok_weaker c.add.result
    (λ e. e
    ∙ ap (λ (m : Option (Mended (List ℕ))). old ++ mended_parts m) (sym (ap (λ o. option_copied o) c.in-Some.is)))
    c.add.ensures
