-- What the reading of a script gives, and why it stops
use Rattle.std.specs.Prelude.{◌≡◌, ℕ, ◌<◌, ◌≤◌, List, length, ⊤, Option, IfSome, Ok, Err}
use Rattle.std.specs.Io.KnownBytes.{Consumes, IsAtEnd}
use Rattle.outside.specs.Outside.{Rose}
use Rattle.grammar_spec.specs.Lines.{script_of}
use Rattle.grammar_spec.specs.declared.line.Line.{Line}
use Rattle.script.specs.Pieces.{ReadingSeen, HasTaken}
use Rattle.command_spec.specs.Commands.{script_limit}
use Rattle.command_spec.specs.declared.Stop.{Stop}
use Rattle.command_spec.specs.declared.Stop.TheVariants.{Memory, ScriptFault, TooLong, BadLine}

-- a script was read to its end, and has these lines
pub record ReadLines (lines : List Line) (left rest : Option (List ℕ)) : Type 0 where
  pub read : IfSome left (λ bs. (length bs ≤ script_limit) × (script_of bs ≡ Ok lines))
  pub end : IsAtEnd rest

abbrev pub ScriptStop : Stop → Option (List ℕ) → Option (List ℕ) → ℕ → ℕ → Type 0
ScriptStop Memory left rest before now = ⊤
ScriptStop ScriptFault left rest before now = Rose before now
ScriptStop TooLong left rest before now = IfSome left (λ bs. script_limit < length bs)
ScriptStop (BadLine n) left rest before now =
    IsAtEnd rest × IfSome left (λ bs. (length bs ≤ script_limit) × (script_of bs ≡ Err n))
ScriptStop s left rest before now = ⊥

-- a script was taken to its end
pub record IsTaken (left : Option (List ℕ)) (r : ReadingSeen) : Type 0 where
  pub given : List ℕ
  pub taken : HasTaken r given
  pub few : length given ≤ script_limit
  pub all : IfSome left (λ bs. given ≡ bs)

-- so many bytes of a script were taken
pub record TakesSoFar (left now : Option (List ℕ)) (r : ReadingSeen) (len : ℕ) : Type 0 where
  pub given : List ℕ
  pub taken : HasTaken r given
  pub count : length given ≡ len
  pub from : Consumes left now given
