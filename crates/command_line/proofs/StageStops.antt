-- The stops that each stage of a run has, and no others
use Rattle.std.proofs.Common.{◌≡◌, ℕ, ◌<◌, ◌≤◌, List, length, Option, Err, IfSome}
use Rattle.std.specs.Io.KnownBytes.{IsAtEnd}
use Rattle.outside.specs.Outside.{Rose}
use Rattle.grammar_spec.specs.Lines.{script_of}
use Rattle.command_spec.specs.Commands.{script_limit}
use Rattle.command_spec.specs.declared.Stop.{Stop}
use Rattle.command_spec.specs.declared.Stop.TheVariants.{Memory, Short, ScriptFault, ImageFault, TooLong, BadLine}
use Rattle.image_file.specs.Loading.{LoadStop}
use Rattle.command_line.specs.Stages.{ScriptStop}

module _ (P : Stop → Type 0) where
  -- reading an image
  pub load_stops : (mem : ℕ) (holds : Option (List ℕ)) (f g : ℕ) → P Memory → (Rose f g → P ImageFault)
      → ((has needed : ℕ) → (needed ≡ mem) × (has < mem) × IfSome holds (λ bs. has ≡ length bs) → P (Short has needed))
      → (s : Stop) → LoadStop s mem holds f g → P s
  load_stops mem holds f g memory fault short Memory h = memory
  load_stops mem holds f g memory fault short ImageFault h = fault h
  load_stops mem holds f g memory fault short (Short has needed) h = short has needed h
  load_stops mem holds f g memory fault short s h = absurd h

  -- reading a script and its lines
  pub script_stops : (left rest : Option (List ℕ)) (f g : ℕ) → P Memory → (Rose f g → P ScriptFault)
      → (IfSome left (λ bs. script_limit < length bs) → P TooLong)
      → ((n : ℕ) → IsAtEnd rest × IfSome left (λ bs. (length bs ≤ script_limit) × (script_of bs ≡ Err n))
      → P (BadLine n))
      → (s : Stop) → ScriptStop s left rest f g → P s
  script_stops left rest f g memory fault long bad Memory h = memory
  script_stops left rest f g memory fault long bad ScriptFault h = fault h
  script_stops left rest f g memory fault long bad TooLong h = long h
  script_stops left rest f g memory fault long bad (BadLine n) h = bad n h
  script_stops left rest f g memory fault long bad s h = absurd h
