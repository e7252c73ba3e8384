-- A record's content is text exactly where it is UTF-8
use Rattle.std.proofs.Common.{◌≡◌, ◌⊎◌, ℕ, List, Bool, true, false, ap, ◌∙◌, sym, refl, inl, inr}
use Rattle.std.specs.Str.{IsUtf8, is_utf8}
use Rattle.std.proofs.lemmas.Str.{is_utf8-from_IsUtf8, IsUtf8-from_is_utf8}
use Rattle.base64.specs.Engines.{standard}
use Rattle.base64.specs.GeneralPurpose.{encode_of}
use Rattle.serde_json.specs.Data.{Data, null, string}
use Rattle.zone_spec.specs.Records.{Saved}
use Rattle.report_spec.specs.declared.Origin.{Origin}
use Rattle.report_spec.specs.declared.TextFault.{TextFault}
use Rattle.report_spec.specs.declared.Packing.{Packing}
use Rattle.report_spec.specs.declared.Packing.TheVariants.{Plain, Whole, Part}
use Rattle.report_spec.specs.Packed.{RecordShown}
use Rattle.report_json.specs.Schema.{record_with, content_data, part_data_of, data_by, record_data}

by_text : (origin : Origin) (zones : List Saved) (r : RecordShown) (b : Bool) → is_utf8 r.content ≡ b → b ≡ true
    → record_with origin zones r (string r.content) null ≡ content_data origin zones r
unfolding content_data
by_text origin zones r b e t = rw (e ∙ t) refl

pub text_record : (origin : Origin) (zones : List Saved) (r : RecordShown) (bytes : List ℕ) (d n : Data) → bytes ≡ r.content
    → IsUtf8 bytes → d ≡ string bytes → n ≡ null → record_with origin zones r d n ≡ content_data origin zones r
text_record origin zones r bytes d n same valid is none =
    ap (record_with origin zones r d) none ∙ ap (λ d. record_with origin zones r d null) (is ∙ ap string same)
    ∙ by_text origin zones r _ (ap is_utf8 (sym same)) (is_utf8-from_IsUtf8 bytes valid)

not_utf8 : (bytes : List ℕ) (b : Bool) → is_utf8 bytes ≡ b → ¬ (IsUtf8 bytes) → b ≡ false
not_utf8 bytes true e bad = absurd (bad (IsUtf8-from_is_utf8 bytes e))
not_utf8 bytes false e bad = refl

by_base64 : (origin : Origin) (zones : List Saved) (r : RecordShown) (b : Bool) → is_utf8 r.content ≡ b → b ≡ false
    → record_with origin zones r null (string (encode_of standard r.content)) ≡ content_data origin zones r
unfolding content_data
by_base64 origin zones r b e t = rw (e ∙ t) refl

pub base64_record : (origin : Origin) (zones : List Saved) (r : RecordShown) (bytes : List ℕ) (d n : Data) → bytes ≡ r.content
    → ¬ (IsUtf8 bytes) → d ≡ string (encode_of standard bytes) → n ≡ null
    → record_with origin zones r n d ≡ content_data origin zones r
base64_record origin zones r bytes d n same bad is none =
    ap (λ m. record_with origin zones r m d) none ∙ ap (record_with origin zones r null)
    (is ∙ ap (λ bs. string (encode_of standard bs)) same)
    ∙ by_base64 origin zones r _ (ap is_utf8 (sym same)) (not_utf8 bytes _ refl bad)

-- ---- a record by its packing

pub part_record : (origin : Origin) (zones : List Saved) (r : RecordShown) (fault : TextFault) (text : List ℕ)
    → r.packing ≡ Part fault text → part_data_of origin zones r text ≡ record_data origin zones r
unfolding record_data
part_record origin zones r fault text e = sym (ap (λ (p : Packing (List ℕ)). data_by origin p zones r) e)

pub whole_record : (origin : Origin) (zones : List Saved) (r : RecordShown)
    → (r.packing ≡ Plain) ⊎ ((taken : ℕ) × (r.packing ≡ Whole taken)) → content_data origin zones r ≡ record_data origin zones r
unfolding record_data
whole_record origin zones r how = elim how [
  | inl e ↦ sym (ap (λ (p : Packing (List ℕ)). data_by origin p zones r) e)
  | inr w ↦ sym (ap (λ (p : Packing (List ℕ)). data_by origin p zones r) w.1)
]
