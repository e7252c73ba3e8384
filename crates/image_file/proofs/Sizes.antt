-- A stop at an image's size, or at its bytes, as a stop of its reading; the front of a store
use Rattle.std.proofs.Common.{ℕ, List, Option}
use Rattle.command_spec.specs.declared.Stop.{Stop}
use Rattle.command_spec.specs.declared.Stop.TheVariants.{Memory, Short, ImageFault}
use Rattle.image_file.specs.Loading.{SizeStop, FrontStop, LoadStop}

pub size_load : (s : Stop) (mem : ℕ) (holds : Option (List ℕ)) (before now : ℕ) → SizeStop s mem holds before now
    → LoadStop s mem holds before now
size_load ImageFault mem holds before now h = h
size_load (Short has needed) mem holds before now h = h
size_load s mem holds before now h = absurd h

pub front_load : (s : Stop) (mem : ℕ) (holds : Option (List ℕ)) (before now : ℕ) → FrontStop s before now
    → LoadStop s mem holds before now
front_load ImageFault mem holds before now h = h
front_load Memory mem holds before now h = tt
front_load s mem holds before now h = absurd h
