-- Zones that a layout can have
use Rattle.std.specs.Prelude.{◌≡◌, ℕ, ◌+◌, ◌-◌, ◌*◌, ◌/◌, ◌^◌, ◌<◌, ◌≤◌, ◌⊎◌}
use Rattle.zone_spec.specs.declared.Zone.{Zone}
use Rattle.zone_spec.specs.Numbers.{header_len, most_memory}

-- the parity blocks of a zone of this size with r parity bytes and blocks of k bytes
-- (fs/pstore/ram_core.c, persistent_ram_init_ecc)
abbrev pub blocks_in : ℕ → ℕ → ℕ → ℕ
blocks_in size r k = (((size - header_len) - r) + (k + r) - 1) / (k + r)

-- block size, size and parity are within the project's own limits, blocks and capacity follow from them,
-- and the signature is a word of 32 bits
pub record IsValidZone (z : Zone) : Type 0 where
  pub block : (z.block ≡ 32) ⊎ (z.block ≡ 64) ⊎ (z.block ≡ 128)
  pub at_least : 256 ≤ z.size
  pub at_most : z.size ≤ most_memory
  pub parity : z.parity ≤ 127
  pub room : 64 ≤ z.cap
  pub blocks : z.blocks ≡ blocks_in z.size z.parity z.block
  pub cap : z.cap + (z.blocks + 1) * z.parity + header_len ≡ z.size
  pub word : z.sig < 2 ^ 32
