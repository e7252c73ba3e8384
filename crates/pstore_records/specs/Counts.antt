-- What the zones of a record count
use Rattle.std.specs.Prelude.{ℕ, Bool, nat_lt, if◌then◌else◌, List, [], filter, flat_map, sum_by}
use Rattle.std.specs.List.{list_any}
use Rattle.zone_spec.specs.declared.Name.{Name}
use Rattle.zone_spec.specs.Reading.{ZoneReading}
use Rattle.zone_spec.specs.Records.{Saved, found}
use Rattle.zone_spec.specs.Notices.{is_in, notice_text}

-- the zones of a record
abbrev pub zones_of : Name → List Saved → List Saved
zones_of name zones = filter (λ (zone : Saved). is_in name zone.0) zones

-- their readings, of those that were found
abbrev pub readings_of : Name → List Saved → List ZoneReading
readings_of name zones = flat_map (λ (zone : Saved). found zone.1) (zones_of name zones)

-- whether one of them has parity
abbrev pub has_parity : Name → List Saved → Bool
has_parity name zones = list_any (λ (zone : Saved). nat_lt 0 zone.0.parity) (zones_of name zones)

abbrev pub corrected_in : Name → List Saved → ℕ
corrected_in name zones = sum_by (λ (r : ZoneReading). r.corrected) (readings_of name zones)

abbrev pub bad_in : Name → List Saved → ℕ
bad_in name zones = sum_by (λ (r : ZoneReading). r.bad) (readings_of name zones)

-- the notice with these counts
abbrev pub notice_with : Bool → ℕ → ℕ → List ℕ
notice_with has_parity corrected bad = if has_parity then notice_text corrected bad else []
