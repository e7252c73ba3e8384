-- By the mendings of these records. For `records_mended`.
use Rattle.std.proofs.Common.{List, subst, ◌∙◌}
use Rattle.std.proofs.lemmas.Result.{IfOk-weaker}
use Rattle.report_spec.specs.Packed.{RecordShown}
use Rattle.region_report.specs.Mendings.{AreMendings}
use Rattle.region_report.proofs.MendedRecords.{all-mended}
use Rattle.region_report.proofs.mended.records_mended.Goals as goal

pub returns : goal.returns
returns c =
    let are = subst (λ (rs : List RecordShown). AreMendings c.args.parts.now rs c.in_ok-mendings.mendings)
    c.deref.ensures.value c.in_ok-mendings.ensures in
    IfOk-weaker c.with_mendings.result _ _ (λ all h. h
    ∙ all-mended c.args.parts.now c.args.records.items c.in_ok-mendings.mendings are) c.with_mendings.ensures
