-- The listed records as a table
use Rattle.std.specs.Prelude.{ℕ, ◌+◌, Bool, true, ◌&&◌, if◌then◌else◌, nat_le, List, [], ◌∷◌, length}
use Rattle.zone_spec.specs.declared.Kind.TheVariants.{Dump}
use Rattle.zone_spec.specs.Records.{Saved, Listed, is_of}
use Rattle.zone_spec.specs.Notices.{content}
use Rattle.pstore_records.specs.declared.table.Entry.{Entry}

-- a record's name, the length of its content with its notice, and its time
abbrev pub entry_of : List Saved → Listed → Entry
entry_of zones r = record { name = r.name; len = length (content zones r); time = r.time }

-- whether the numbers of the dump zones rise, from this one on
unfoldable pub numbers_rise : ℕ → List Saved → Bool
numbers_rise least [] = true
numbers_rise least (zone ∷ zones) =
    if is_of Dump zone.0.name.kind then (nat_le least zone.0.name.index && numbers_rise (zone.0.name.index + 1) zones)
    else numbers_rise least zones

-- the zones that a dump's record is asked of: its own alone, or all
abbrev pub zones_counted : Bool → Saved → List Saved → List Saved
zones_counted is_alone zone zones = if is_alone then zone ∷ [] else zones
