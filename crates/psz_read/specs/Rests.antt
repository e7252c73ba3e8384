-- What a loop over zones meets at each index
use Rattle.std.specs.Prelude.{ℕ, List, Option, Some, None}
use Rattle.psz_spec.specs.declared.Zone.{Zone}
use Rattle.psz_spec.specs.declared.Machine.{Machine}
use Rattle.psz_spec.specs.declared.Part.{Part}
use Rattle.psz_spec.specs.States.{zone_bytes}
use Rattle.psz_spec.specs.Parts.{part_of}

abbrev pub part_at : Machine → Option Zone → List ℕ → Option Part
part_at machine None image = None
part_at machine (Some z) image = part_of machine z (zone_bytes z image)
