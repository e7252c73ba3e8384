-- What zones give is what their parts give, end to end
use Rattle.std.proofs.Common.{◌≡◌, ◌+◌, ◌||◌, List, [], ◌++◌, map, ap, ◌∙◌}
use Rattle.std.specs.Prelude.{flat_map, sum_by, nat_lt, if◌then◌else◌}
use Rattle.std.specs.List.{list_any}
use Rattle.std.proofs.lemmas.List.Concat.{flat_map-append}
use Rattle.std.proofs.lemmas.List.Elements.{filter-append}
use Rattle.std.proofs.lemmas.List.Sums.{sum_by-append}
use Rattle.std.proofs.lemmas.List.Folds.{list_any-append}
use Rattle.zone_spec.specs.declared.Kind.{Kind}
use Rattle.zone_spec.specs.declared.Kind.TheVariants.{Dump}
use Rattle.zone_spec.specs.declared.Name.{Name}
use Rattle.zone_spec.specs.Reading.{ZoneReading}
use Rattle.zone_spec.specs.TimeLines.{read_line}
use Rattle.zone_spec.specs.Records.{Saved, is_of, found, logs_of, dump_of, dumps_of}
use Rattle.zone_spec.specs.Notices.{is_in}
use Rattle.pstore_records.specs.Counts.{zones_of, readings_of, has_parity, corrected_in, bad_in}

-- the logs of a kind, and the dumps
pub logs_of-append : (kind : Kind) (xs ys : List Saved) → logs_of kind (xs ++ ys) ≡ logs_of kind xs ++ logs_of kind ys
logs_of-append kind xs ys = flat_map-append (λ (zone : Saved). if is_of kind zone.0.name.kind then map
    (λ (r : ZoneReading). r.log) (found zone.1) else []) xs ys

pub dumps_of-append : (xs ys : List Saved) → dumps_of (xs ++ ys) ≡ dumps_of xs ++ dumps_of ys
dumps_of-append xs ys = flat_map-append (λ (zone : Saved). if is_of Dump zone.0.name.kind then flat_map
    (λ (r : ZoneReading). dump_of zone.0.name.index r.log (read_line r.log)) (found zone.1) else []) xs ys

-- the zones of a record, and what they count
pub zones_of-append : (name : Name) (xs ys : List Saved)
    → zones_of name (xs ++ ys) ≡ zones_of name xs ++ zones_of name ys
zones_of-append name xs ys = filter-append (λ (zone : Saved). is_in name zone.0) xs ys

pub readings_of-append : (name : Name) (xs ys : List Saved)
    → readings_of name (xs ++ ys) ≡ readings_of name xs ++ readings_of name ys
readings_of-append name xs ys =
    ap (λ (zs : List Saved). flat_map (λ (zone : Saved). found zone.1) zs) (zones_of-append name xs ys)
    ∙ flat_map-append (λ (zone : Saved). found zone.1) (zones_of name xs) (zones_of name ys)

pub has_parity-append : (name : Name) (xs ys : List Saved)
    → has_parity name (xs ++ ys) ≡ (has_parity name xs || has_parity name ys)
has_parity-append name xs ys =
    ap (list_any (λ (zone : Saved). nat_lt 0 zone.0.parity)) (zones_of-append name xs ys)
    ∙ list_any-append (λ (zone : Saved). nat_lt 0 zone.0.parity) (zones_of name xs) (zones_of name ys)

pub corrected_in-append : (name : Name) (xs ys : List Saved)
    → corrected_in name (xs ++ ys) ≡ corrected_in name xs + corrected_in name ys
corrected_in-append name xs ys =
    ap (sum_by (λ (r : ZoneReading). r.corrected)) (readings_of-append name xs ys)
    ∙ sum_by-append (λ (r : ZoneReading). r.corrected) (readings_of name xs) (readings_of name ys)

pub bad_in-append : (name : Name) (xs ys : List Saved) → bad_in name (xs ++ ys) ≡ bad_in name xs + bad_in name ys
bad_in-append name xs ys =
    ap (sum_by (λ (r : ZoneReading). r.bad)) (readings_of-append name xs ys)
    ∙ sum_by-append (λ (r : ZoneReading). r.bad) (readings_of name xs) (readings_of name ys)
