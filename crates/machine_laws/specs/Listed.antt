-- When a record is listed
use Rattle.std.specs.Prelude.{◌≡◌, is_some, List}
use Rattle.zone_spec.specs.declared.Name.{Name}
use Rattle.zone_spec.specs.Records.{Saved, record_of}
use Rattle.zone_spec.specs.Listing.{is_listed}

-- a name is listed exactly where a record is found by it
abbrev pub ListedIsFound : Type 0
ListedIsFound = (zones : List Saved) (name : Name) → is_some (record_of zones name) ≡ is_listed zones name
