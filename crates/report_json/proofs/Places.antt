-- The values of the zones, one after another
use Rattle.std.proofs.Common.{◌≡◌, ℕ, zero, suc, ◌+◌, List, [], ◌∷◌, ◌++◌, length, slice_get, sym, ap, ◌∙◌, subst}
use Rattle.std.proofs.Common.{arith, inl, inr, Option, Some, length-append, Result, Ok, Err, OnOk}
use Rattle.std.specs.List.{zip}
use Rattle.std.specs.Option.{option_map}
use Rattle.std.proofs.lemmas.Bool.{cases_lt}
use Rattle.circular_buffer.proofs.Places.{slice_get-append_left, slice_get-last}
use Rattle.serde_json.specs.Data.{Data}
use Rattle.zone_spec.specs.declared.Zone.{Zone}
use Rattle.zone_spec.specs.Reading.{ZoneReading}
use Rattle.zone_spec.specs.Records.{Saved}
use Rattle.zone_spec.specs.PartStates.{PartStates}
use Rattle.report_json.specs.Schema.{IsZoneAt, AreZones}

-- the reading beside a zone
pub beside : (zones : List Zone) (readings : List (Option ZoneReading)) (i : ℕ) (o q : Option ZoneReading)
    → option_map (λ (s : Saved). s.1) (slice_get (zip zones readings) i) ≡ Some o → slice_get readings i ≡ Some q
    → o ≡ q
beside [] readings i o q at own = let n : ◌≡◌ {A = ℕ} 0 1 = cc in absurd (omega (arith, n))
beside (z ∷ zs) [] i o q at own = let n : ◌≡◌ {A = ℕ} 0 1 = cc in absurd (omega (arith, n))
beside (z ∷ zs) (r ∷ rs) zero o q at own = cc
beside (z ∷ zs) (r ∷ rs) (suc i) o q at own = beside zs rs i o q at own

pub zones-next : (zones : List Zone) (readings : List (Option ZoneReading)) (parts : List PartStates) (n : ℕ)
    (values more : List Data) (d : Data) → AreZones zones readings parts n values → IsZoneAt zones readings parts n d
    → more ≡ values ++ d ∷ [] → AreZones zones readings parts (n + 1) more
zones-next zones readings parts n values more d are is same = record {
  count_same = (let a = ap length same in let b = length-append values (d ∷ []) in let c = are.count_same in
      omega (arith, a, b, c));
  each = λ i e below at. elim (cases_lt i n) [
    | inl l ↦ are.each i e l (sym (slice_get-append_left values (d ∷ []) i
        (let c = are.count_same in omega (arith, l, c))) ∙ ap (λ ds. slice_get ds i) (sym same) ∙ at)
    | inr g ↦ (let here : i ≡ n = omega (arith, below, g) in
        let got : Some d ≡ Some e = sym (slice_get-last values d i (here ∙ sym are.count_same))
        ∙ ap (λ ds. slice_get ds i) (sym same) ∙ at in
        let own : d ≡ e = cc in
        subst (λ (k : ℕ). IsZoneAt zones readings parts k e) (sym here)
        (subst (IsZoneAt zones readings parts n) own is))
  ];
}

-- what follows of success follows where there is one
pub on_ok : {A E : Type 0} (r : Result A E) (P Q : Type 0) → (P → Q) → OnOk r P → OnOk r Q
on_ok (Ok a) P Q h p = h p
on_ok (Err e) P Q h p = p
