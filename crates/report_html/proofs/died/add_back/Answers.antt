-- The lines after those that tell, with their doubts
use Rattle.std.proofs.Common.{◌∙◌, ◌++◌, ℕ, Bool, List, codes, ap₂}
use Rattle.std.proofs.lemmas.Result.{on_ok_weaker}
use Rattle.report_html.specs.Pieces.{Part, parts}
use Rattle.report_html.specs.Died.{folded_parts}
use Rattle.report_html.proofs.died.add_back.Goals as goal

pub returns : goal.returns
returns c =
    let old : List Part = parts c.args.pieces.now.items in
    on_ok_weaker c.add_folded.result
    (λ e. e ∙ ap₂ (λ (ds : List Bool) (bs : List ℕ). old ++ folded_parts (codes "Lines after") ds bs)
    c.doubts_between-doubts.ensures c.part-back.ensures.part) c.add_folded.ensures
