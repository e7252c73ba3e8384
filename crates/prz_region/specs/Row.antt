-- A row of bytes in a block
use Rattle.std.specs.Prelude.{◌≡◌, ℕ, ◌^◌, ◌<◌}
use denote.RawPtr.{Ptr}
use Rattle.core.specs.Mem.Slots.{slots_items, slots_ptr, slots_len, IsFull}
use Rattle.core.specs.declared.slots.Slots.{Slots}
use Rattle.zone_spec.specs.Parts.{AreBytes}

-- the row begins at this place, and has a byte at each of its places
pub record IsRow (base : Ptr) (row : Slots ℕ) : Type 0 where
  pub at : slots_ptr row ≡ base
  pub full : IsFull row
  pub short : slots_len row < 2 ^ 32
  pub bytes : AreBytes (slots_items row)
