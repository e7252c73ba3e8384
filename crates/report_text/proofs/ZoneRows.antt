-- The row of a zone is that of its saved zone
use Rattle.std.proofs.Common.{◌≡◌, ℕ, List, [], ◌∷◌, ap, ap₂, sym, ◌∙◌, append-nil}
use Rattle.std.specs.Prelude.{Option, Some, slice_get, flat_map}
use Rattle.std.specs.Option.{option_map}
use Rattle.zone_spec.specs.declared.Zone.{Zone}
use Rattle.zone_spec.specs.Reading.{ZoneReading}
use Rattle.zone_spec.specs.Records.{Saved}
use Rattle.report_text.specs.Tables.{zone_row}

-- the zone and its reading at a place are the saved one
pub row-of : (zones : List Zone) (all : List Saved) (i : ℕ) (z : Zone) (r : Option ZoneReading) (s : Saved)
    → option_map (λ (t : Saved). t.0) (slice_get all i) ≡ Some z
    → option_map (λ (t : Saved). t.1) (slice_get all i) ≡ Some r → slice_get all i ≡ Some s
    → zone_row (z, r) ≡ flat_map zone_row (s ∷ [])
row-of zones all i z r s ez er es =
    let hz : Some s.0 ≡ Some z = sym (ap (option_map (λ (t : Saved). t.0)) es) ∙ ez in
    let hr : Some s.1 ≡ Some r = sym (ap (option_map (λ (t : Saved). t.1)) es) ∙ er in
    let sz : s.0 ≡ z = cc in
    let sr : s.1 ≡ r = cc in
    ap₂ (λ (y : Zone) (q : Option ZoneReading). zone_row (y, q)) (sym sz) (sym sr)
    ∙ sym (append-nil (zone_row s))
