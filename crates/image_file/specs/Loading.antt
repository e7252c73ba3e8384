-- Why the reading of an image stops
use Rattle.std.specs.Prelude.{◌≡◌, ℕ, ◌<◌, List, length, ⊤, Option, IfSome}
use Rattle.outside.specs.Outside.{Rose}
use Rattle.command_spec.specs.declared.Stop.{Stop}
use Rattle.command_spec.specs.declared.Stop.TheVariants.{Memory, ImageFault, Short}

-- looking at an image's size
abbrev pub SizeStop : Stop → ℕ → Option (List ℕ) → ℕ → ℕ → Type 0
SizeStop ImageFault mem holds before now = Rose before now
SizeStop (Short has needed) mem holds before now = (needed ≡ mem) × (has < mem) × IfSome holds (λ bs. has ≡ length bs)
SizeStop s mem holds before now = ⊥

-- reading so many bytes that a store has
abbrev pub FrontStop : Stop → ℕ → ℕ → Type 0
FrontStop Memory before now = ⊤
FrontStop ImageFault before now = Rose before now
FrontStop s before now = ⊥

-- reading an image of this size
abbrev pub LoadStop : Stop → ℕ → Option (List ℕ) → ℕ → ℕ → Type 0
LoadStop Memory mem holds before now = ⊤
LoadStop ImageFault mem holds before now = Rose before now
LoadStop (Short has needed) mem holds before now = (needed ≡ mem) × (has < mem) × IfSome holds (λ bs. has ≡ length bs)
LoadStop s mem holds before now = ⊥
