-- The parts of a zone that are damaged, and the damage as it is made
use Rattle.std.specs.Prelude.{◌≡◌, ℕ, ◌+◌, ◌^◌, ◌<◌, List, length, map, fold}
use Rattle.zone_spec.specs.declared.Zone.{Zone}
use Rattle.zone_spec.specs.Zones.{IsValidZone}
use Rattle.zone_spec.specs.Parts.{Part, Block}
use Rattle.zone_spec.specs.Reading.{blocks_below}
use Rattle.machine_spec.specs.States.{OffState, Off}
use Rattle.ramoops.specs.OffSeen.{OffSeen, StandsOff}
use Rattle.script_spec.specs.Generated.{Generated, with_flip}

-- a zone that a layout can have, within 32 bits
abbrev pub IsWithin : Zone → Type 0
IsWithin z = IsValidZone z × (z.at + z.size < 2 ^ 32)

-- the blocks with data
abbrev pub blocks_of : Zone → List Part
blocks_of z = map (λ b. Block b) (blocks_below z z.cap)

-- the session after a state, with so many flips more
abbrev pub flipped_to : Generated → OffState → ℕ → Generated
flipped_to g s count = record g { session = Off s; flips = g.flips + count }

-- one flip was made, and the machine stands for the state that it leaves
pub record IsFlipped (layout : List Zone) (mem : ℕ) (g : Generated) (flip : ℕ × ℕ) (v : OffSeen) : Type 0 where
  pub next : OffState
  pub made : with_flip layout g flip ≡ flipped_to g next 1
  pub stands : StandsOff layout mem v next
  pub size : length next.image ≡ mem

-- flips were made, and the machine stands for the state that they leave
pub record IsDamaged (layout : List Zone) (mem : ℕ) (g : Generated) (flips : List (ℕ × ℕ)) (v : OffSeen) : Type 0 where
  pub next : OffState
  pub made : fold (with_flip layout) g flips ≡ flipped_to g next (length flips)
  pub stands : StandsOff layout mem v next
  pub size : length next.image ≡ mem
