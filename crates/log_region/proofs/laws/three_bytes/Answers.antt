-- The row computes.
use Rattle.std.proofs.Common.{refl}
use Rattle.log_region.specs.Regions.{zone_sizes, size_for, region_of}
use Rattle.log_region.proofs.laws.three_bytes.Goals as goal

pub returns : goal.returns
unfolding zone_sizes size_for region_of
returns c = refl
