-- How many stores a call made in a span
use Rattle.std.specs.Prelude.{◌≡◌, ℕ, List, length}
use Rattle.zone_spec.specs.Stores.{Store}
use Rattle.prz_region.specs.CutRegion.{CutRegion, stored}

-- so many stores were made in the i-th span, and nowhere else
pub record HasStored (i n : ℕ) (old new : CutRegion) : Type 0 where
  pub stores : List Store
  pub count : length stores ≡ n
  pub made : new ≡ stored old i stores
