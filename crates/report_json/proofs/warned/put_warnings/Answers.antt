-- The warnings of the report
use Rattle.std.proofs.Common.{◌∙◌, ◌∷◌, List, ap, codes}
use Rattle.json.specs.Token.{Token, key}
use Rattle.report_spec.specs.declared.Origin.{Origin}
use Rattle.report_spec.specs.declared.Warning.{Warning}
use Rattle.report_json.specs.Schema.{warnings_data}
use Rattle.report_json.specs.Tokens.{onto}
use Rattle.report_json.proofs.Places.{on_ok}
use Rattle.report_json.proofs.warned.put_warnings.Goals as goal

pub returns : goal.returns
returns c =
    let ahead : List Token = key (codes "warnings") ∷ c.args.line.now in
    on_ok c.put_list.result _ _ (λ e. e
    ∙ ap (λ (ts : List Token). onto (warnings_data c.origin.result c.as_slice.result.now) ts) c.in_ok-key.ensures
    ∙ ap (λ (o : Origin). onto (warnings_data o c.as_slice.result.now) ahead) c.origin.ensures
    ∙ ap (λ (ws : List Warning). onto (warnings_data c.args.report.now.origin ws) ahead)
    (c.as_slice.ensures.value ∙ c.in_ok-warnings.ensures)) c.put_list.ensures
