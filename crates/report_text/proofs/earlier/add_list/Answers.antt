-- The heading, and then the rows
use Rattle.std.proofs.Common.{◌≡◌, ◌∙◌, ◌++◌, ◌∷◌, [], List, length, map, ap, sym, append_assoc, codes}
use Rattle.std.specs.Prelude.{flat_map}
use Rattle.std.proofs.lemmas.Result.{on_ok_weaker}
use Rattle.region_report.specs.Tellers.{as_told}
use Rattle.report_text.specs.Pieces.{Part, Words, parts}
use Rattle.report_text.specs.Earlier.{earlier_row}
use Rattle.report_text.proofs.Others.{filled}
use Rattle.report_text.proofs.earlier.add_list.Goals as goal

pub returns : goal.returns
returns c =
    let old : List Part = parts c.args.pieces.now.items in
    let ts = c.args.tellings.now in
    let head : Part = Words (codes "\nearlier deaths\n") in
    let rows : List Part = flat_map earlier_row (map as_told ts) in
    let some : length ts ≡ 0 → ⊥ = c.if-count-eq0.false in
    on_ok_weaker c.add_each.result
    (λ e. e ∙ ap (λ (ps : List Part). ps ++ rows) c.in_ok-add.ensures ∙ append_assoc old (head ∷ []) rows
    ∙ ap (λ (ps : List Part). old ++ ps) (sym (filled ts some))) c.add_each.ensures
