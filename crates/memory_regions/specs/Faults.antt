-- Why a memory was not read
use Rattle.std.specs.Prelude.{◌≡◌, ℕ}
use Rattle.outside.specs.Outside.{Rose}
use Rattle.memory_regions.specs.declared.pages.Unread.{Unread}
use Rattle.memory_regions.specs.declared.pages.Unread.TheVariants.{Memory, Fault}

-- no memory, and no read failed: the count of faults is as before; or one failed: the count rose
abbrev pub IsUnread : Unread → ℕ → ℕ → Type 0
IsUnread Memory before now = now ≡ before
IsUnread Fault before now = Rose before now
