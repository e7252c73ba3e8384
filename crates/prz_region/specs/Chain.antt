-- Pieces of a block that lie side by side
use Rattle.std.specs.Prelude.{◌≡◌, ℕ, ◌+◌, List, [], ◌∷◌, map, take, slice_get, Some}
use denote.RawPtr.{Ptr, ◌+ₚ◌}
use Rattle.core.specs.Mem.Slots.{slots_items, slots_ptr, slots_len, IsFull}
use Rattle.core.specs.declared.slots.Slots.{Slots}
use Rattle.zone_spec.specs.declared.Zone.{Zone}
use Rattle.prz_region.specs.declared.pieces.Piece.{Piece}
use Rattle.zone_spec.specs.Layouts.{zones_end}

-- the bytes of a piece
abbrev pub piece_bytes : Piece → List ℕ
piece_bytes p = slots_items p.slots

abbrev pub all_bytes : List Piece → List (List ℕ)
all_bytes pieces = map piece_bytes pieces

abbrev pub all_len : List Piece → ℕ
all_len [] = 0
all_len (p ∷ ps) = slots_len p.slots + all_len ps

-- the second piece lies where the first lies
pub record SamePlace (p p' : Piece) : Type 0 where
  pub at : slots_ptr p'.slots ≡ slots_ptr p.slots
  pub long : slots_len p'.slots ≡ slots_len p.slots

-- the first piece begins at the one place, each other where the one before it ends, and the last ends at
-- the other place
abbrev pub Chain : Ptr → List Piece → Ptr → Type 0
Chain from [] to = from ≡ to
Chain from (p ∷ ps) to = (slots_ptr p.slots ≡ from) × Chain (from +ₚ slots_len p.slots) ps to

-- the pieces, and behind them the rest, fill the n places from a place on
pub record Laid (from : Ptr) (n : ℕ) (pieces : List Piece) (rest : Slots ℕ) : Type 0 where
  pub chain : Chain from pieces (slots_ptr rest)
  pub full : IsFull rest
  pub long : all_len pieces + slots_len rest ≡ n

-- each zone begins where the one before it ends, the first at 0
abbrev pub AreSideBySide : List Zone → Type 0
AreSideBySide zones = (i : ℕ) (z : Zone) → slice_get zones i ≡ Some z → z.at ≡ zones_end (take i zones)
