-- When the image fails under a script or a move: before all else, or once it was asked to be written
use Rattle.std.specs.Prelude.{◌≡◌, ◌⊎◌, ⊤, ℕ, Result, Ok, Err}
use Rattle.std.specs.Io.KnownBytes.{Appends}
use Rattle.outside.specs.Outside.{Rose}
use Rattle.command_spec.specs.Ends.{End, last_line}
use Rattle.command_spec.specs.Commands.{Class, RunsScript, class_of, Plan, OfRam, OfMove}
use Rattle.command_spec.specs.Answers.{Outside, NoScript}
use Rattle.command_spec.specs.PlanAnswers.{NeverWrites}
use Rattle.command_spec.specs.declared.Stop.{Stop}
use Rattle.command_spec.specs.declared.Stop.TheVariants.{ImageFault}

-- ---- the work of a command, before its last line

-- the script was not touched, no text was put, and no write was asked for
pub record BeforeAll (a b : Outside) : Type 0 where
  pub script : NoScript a b
  pub given : b.given ≡ a.given
  pub writes : NeverWrites a b

-- the image failed then, or a write was asked for
abbrev pub FailsAt : Outside → Outside → End → Type 0
FailsAt a b (Err ImageFault) = BeforeAll a b ⊎ Rose a.writes b.writes
FailsAt a b e = ⊤

abbrev pub ClassFails : Class → Outside → Outside → End → Type 0
ClassFails RunsScript a b e = FailsAt a b e
ClassFails other a b e = ⊤

abbrev pub PlanFails : Result Plan Stop → Outside → Outside → End → Type 0
PlanFails (Ok (OfRam plan)) a b e = ClassFails (class_of plan.command) a b e
PlanFails (Ok (OfMove plan)) a b e = FailsAt a b e
PlanFails other a b e = ⊤

-- ---- the whole run

-- the script was not touched, no write was asked for, and the last line is all the text
pub record LineBeforeAll (a b : Outside) : Type 0 where
  pub script : NoScript a b
  pub put : Appends a.given b.given (last_line ImageFault)
  pub writes : NeverWrites a b

abbrev pub FaultAt : Outside → Outside → ℕ → Type 0
FaultAt a b status = status ≡ 6 → LineBeforeAll a b ⊎ Rose a.writes b.writes

abbrev pub ClassFault : Class → Outside → Outside → ℕ → Type 0
ClassFault RunsScript a b status = FaultAt a b status
ClassFault other a b status = ⊤

-- of a script on the ram store, of one on a shared zone, and of a move
abbrev pub ImageFails : Result Plan Stop → Outside → Outside → ℕ → Type 0
ImageFails (Ok (OfRam plan)) a b status = ClassFault (class_of plan.command) a b status
ImageFails (Ok (OfMove plan)) a b status = FaultAt a b status
ImageFails other a b status = ⊤
