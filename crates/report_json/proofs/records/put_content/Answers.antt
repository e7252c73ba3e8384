-- The content is text, or in base64
use Rattle.std.proofs.Common.{◌≡◌, ◌∙◌, refl, ap}
use Rattle.prz_read.specs.Saving.{saved}
use Rattle.serde_json.specs.Data.{Data, null, string}
use Rattle.report_spec.specs.Packed.{RecordShown}
use Rattle.report_json.specs.Tokens.{onto}
use Rattle.report_json.proofs.Contents.{text_record, base64_record}
use Rattle.report_json.proofs.Places.{on_ok}
use Rattle.report_json.proofs.records.put_content.Goals as goal

pub returns-in-Ok : goal.returns-in-Ok
returns-in-Ok c =
    let same : c.as_slice-bytes.result.now ≡ c.args.held.now.content = (let a = c.as_slice-bytes.ensures in
    let v = c.held.view_is in cc) in
    let valid = c.in-Ok.ensures.cases in
    on_ok c.put_with.result _ _ (λ e. e ∙ ap (λ (d : Data). onto d c.args.line.now) (text_record c.args.origin
    (saved c.args.logs.now) c.args.held.now c.as_slice-bytes.result.now (string c.in-Ok.text.now) null same valid.1
    (ap string valid.0) refl)) c.put_with.ensures

pub returns-in_ok-base64-in-Err : goal.returns-in_ok-base64-in-Err
returns-in_ok-base64-in-Err c =
    let same : c.as_slice-bytes.result.now ≡ c.args.held.now.content = c.as_slice-bytes.ensures
    ∙ ap (λ (r : RecordShown). r.content) c.held.view_is in
    on_ok c.put_with-in-Err.result _ _ (λ e. e ∙ ap (λ (d : Data). onto d c.args.line.now) (base64_record c.args.origin
    (saved c.args.logs.now) c.args.held.now c.as_slice-bytes.result.now (string c.as_str.result.now) null same
    c.in-Err.ensures.cases.0 (ap string (c.as_str.ensures.value ∙ c.in_ok-base64-in-Err.ensures.text)) refl))
    c.put_with-in-Err.ensures
