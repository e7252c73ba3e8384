-- What holds of zones, of rings and of a loaded store
use Rattle.std.specs.Prelude.{◌≡◌, ◌+◌, ◌^◌, ◌<◌, ◌≤◌, ◌⊎◌}
use Rattle.blk_spec.specs.declared.BlkZone.{BlkZone}
use Rattle.blk_spec.specs.declared.BlkWords.{BlkWords}
use Rattle.blk_spec.specs.Layout.{capacity}

-- a zone of a layout has no byte, or at least 4096
pub record IsZone (z : BlkZone) : Type 0 where
  pub end : z.at + z.size ≤ 2 ^ 24
  pub sized : (z.size ≡ 0) ⊎ (4096 ≤ z.size)

-- a ring's words lie within its data
pub record IsWithin (z : BlkZone) (words : BlkWords) : Type 0 where
  pub start : 0 < z.size → words.start < capacity z
  pub size : 0 < z.size → words.size ≤ capacity z
