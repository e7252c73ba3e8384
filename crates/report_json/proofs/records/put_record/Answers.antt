-- A record is shown by its packing
use Rattle.std.proofs.Common.{◌≡◌, ◌⊎◌, ◌∙◌, ℕ, ap, sym, inl, inr}
use Rattle.serde_json.specs.Data.{Data}
use Rattle.prz_read.specs.Saving.{saved}
use Rattle.report_spec.specs.declared.Packing.TheVariants.{Plain, Whole}
use Rattle.report_spec.specs.Packed.{RecordShown}
use Rattle.report_json.specs.Schema.{part_data_of}
use Rattle.report_json.specs.Tokens.{onto}
use Rattle.report_json.proofs.Contents.{part_record, whole_record}
use Rattle.report_json.proofs.Places.{on_ok}
use Rattle.report_json.proofs.records.put_record.Goals as goal

pub returns-in-Part : goal.returns-in-Part
returns-in-Part c =
    let zones = saved c.args.logs.now in
    let r : RecordShown = c.args.held.now in
    on_ok c.put_part.result _ _ (λ e. e ∙ ap (λ (d : Data). onto d c.args.line.now)
    (ap (part_data_of c.args.origin zones r) c.as_slice.ensures
    ∙ part_record c.args.origin zones r c.in-Part.fault c.in-Part.text
    (sym (ap (λ (q : RecordShown). q.packing) c.held.view_is) ∙ c.in-Part.is))) c.put_part.ensures

pub returns-in-Plain : goal.returns-in-Plain
returns-in-Plain c =
    let zones = saved c.args.logs.now in
    let r : RecordShown = c.args.held.now in
    let packing = sym (ap (λ (q : RecordShown). q.packing) c.held.view_is) in
    let how : (r.packing ≡ Plain) ⊎ ((taken : ℕ) × (r.packing ≡ Whole taken)) = elim c.in-Plain.is [
      | inl e ↦ inl (packing ∙ e)
      | inr w ↦ inr (w.0, packing ∙ w.1)
    ] in
    on_ok c.put_content.result _ _ (λ e. e ∙ ap (λ (d : Data). onto d c.args.line.now)
    (whole_record c.args.origin zones r how)) c.put_content.ensures
