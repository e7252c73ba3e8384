-- The zones of a storage as they read
use Rattle.std.specs.Prelude.{◌≡◌, ℕ, List, [], ◌∷◌, ◌++◌, length, replicate}
use Rattle.psz_spec.specs.declared.Machine.{Machine}
use Rattle.psz_spec.specs.declared.Sizes.{Sizes}
use Rattle.psz_spec.specs.declared.Zone.{Zone as StorageZone}
use Rattle.storage_spec.specs.Zones.{zones_in, readings_in, reading_in, no_parts}
use Rattle.storage_zones.specs.declared.zones.ZonesRead.{ZonesRead}

pub record IsOneMore (machine : Machine) (image : List ℕ) (z : StorageZone) (old new : ZonesRead) : Type 0 where
  pub zones_same : new.zones.items ≡ old.zones.items
  pub logs_zones : new.logs.zones ≡ old.logs.zones
  pub readings : new.logs.readings ≡ old.logs.readings ++ reading_in machine image z ∷ []
  pub parts : new.parts.items ≡ old.parts.items ++ no_parts ∷ []

pub record IsZonesRead (machine : Machine) (sizes : Sizes) (image : List ℕ) (r : ZonesRead) : Type 0 where
  pub zones : r.zones.items ≡ zones_in machine sizes
  pub logs_zones : r.logs.zones ≡ zones_in machine sizes
  pub readings : r.logs.readings ≡ readings_in machine sizes image
  pub parts : r.parts.items ≡ replicate (length (zones_in machine sizes)) no_parts
