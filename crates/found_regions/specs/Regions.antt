-- The region that begins at a place of a memory
use Rattle.std.specs.Prelude.{◌≡◌, ℕ, List, take, drop, Option, Some, None}
use Rattle.std.specs.Option.{option_map}
use Rattle.std.specs.List.{find}
use Rattle.layout_spec.specs.declared.Known.{Known}
use Rattle.layout_search.specs.declared.searching.Found.{Found}
use Rattle.memory_regions.specs.declared.choosing.Reading.{Reading}
use Rattle.memory_regions.specs.Choice.{AreReadings, best_from, is_rival}
use Rattle.found_regions.specs.declared.region.Region.{Region}

-- the size of the first reading that is larger and explains as much
abbrev pub larger_size : List Reading → Reading → Option ℕ
larger_size readings first = option_map (λ (r : Reading). r.size) (find (is_rival first) readings)

abbrev pub region_found : ℕ → List Reading → Reading → Option Found → Option Region
region_found place readings first None = None
region_found place readings first (Some found) =
    Some (record { place = place; found = found; larger = larger_size readings first })

-- the region of the best of these readings, if one explains its bytes
abbrev pub region_by : ℕ → List Reading → Option Reading → Option Region
region_by place readings None = None
region_by place readings (Some first) = region_found place readings first first.found

-- the region at a place, by the readings of the 16 MiB from there on
pub record IsRegionAt (known : Known) (memory : List ℕ) (place : ℕ) (region : Option Region) : Type 0 where
  pub readings : List Reading
  pub are : AreReadings known (take 16777216 (drop place memory)) readings
  pub is : region ≡ region_by place readings (best_from None readings)
