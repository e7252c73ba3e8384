-- The deaths are those that other dumps tell of
use Rattle.std.proofs.Common.{◌∙◌, ◌++◌, List, ap}
use Rattle.std.proofs.lemmas.Result.{on_ok_weaker}
use Rattle.report_spec.specs.Deaths.{DeathTold}
use Rattle.region_report.specs.declared.deaths.Telling.{Telling}
use Rattle.report_text.specs.Pieces.{Part, parts}
use Rattle.report_text.specs.Earlier.{earlier_parts, earlier_of}
use Rattle.report_text.proofs.Others.{earlier-is}
use Rattle.report_text.proofs.earlier.add_other_than.Goals as goal

pub returns : goal.returns
returns c =
    let old : List Part = parts c.args.pieces.now.items in
    on_ok_weaker c.add_list.result
    (λ e. e ∙ ap (λ (ts : List Telling). old ++ earlier_of ts) c.as_slice.ensures.value
    ∙ ap (λ (ps : List Part). old ++ ps) (earlier-is c.in_ok-tellings.tellings.items)
    ∙ ap (λ (ds : List DeathTold). old ++ earlier_parts ds) c.in_ok-tellings.ensures) c.add_list.ensures
