-- How many bytes the parts of a zone have
use Rattle.std.proofs.Common.{◌≡◌, ℕ, ◌+◌, ◌-◌, ◌*◌, ◌<◌, min, List, length, arith}
use Rattle.list_laws.proofs.Slices.{length-slice_range}
use Rattle.zone_spec.specs.declared.Zone.{Zone}
use Rattle.zone_spec.specs.Zones.{IsValidZone}
use Rattle.zone_spec.specs.Parts.{Header, Block, part_bytes}

-- a block has block bytes, the last one those that are left
pub block-length : (z : Zone) (x : List ℕ) (b : ℕ) → IsValidZone z → length x ≡ z.size → z.block * b < z.cap
    → length (part_bytes z x (Block b)) ≡ min (z.block * (b + 1)) z.cap - z.block * b
unfolding part_bytes
block-length z x b valid size within = length-slice_range x (12 + z.block * b)
    (min (z.block * (b + 1)) z.cap - z.block * b)
    (let c = valid.cap in omega (arith, c))

pub header-length : (z : Zone) (x : List ℕ) → IsValidZone z → length x ≡ z.size → length (part_bytes z x Header) ≡ 12
unfolding part_bytes
header-length z x valid size = length-slice_range x 0 12 (let c = valid.at_least in omega (arith, c))
