-- Writes within a zone, and zones that share no byte
use Rattle.std.specs.Prelude.{◌+◌, ◌≤◌, ◌⊎◌, List, [], ◌∷◌, length}
use Rattle.blk_spec.specs.declared.BlkZone.{BlkZone}
use Rattle.blk_spec.specs.Writes.{Write}

-- all these writes lie within the zone
unfoldable pub AreWithin : BlkZone → List Write → Type 0
AreWithin z [] = Unit
AreWithin z (w ∷ ws) = (z.at ≤ w.at) × (w.at + length w.bytes ≤ z.at + z.size) × AreWithin z ws

-- one of the zones ends before the other begins
abbrev pub AreApart : BlkZone → BlkZone → Type 0
AreApart z other = (z.at + z.size ≤ other.at) ⊎ (other.at + other.size ≤ z.at)
