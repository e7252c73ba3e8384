-- Where a script on the ram store runs out of memory: before the text of its first line, or at a line that takes memory
use Rattle.std.specs.Prelude.{◌≡◌, ◌⊎◌, ⊤, ℕ, List, take, Option, Result, Ok, Err}
use Rattle.std.specs.Io.KnownBytes.{Appends}
use Rattle.ramoops_layout.specs.Laid.{zones_of}
use Rattle.grammar_spec.specs.Lines.{script_of}
use Rattle.grammar_spec.specs.declared.line.Line.{Line}
use Rattle.script_spec.specs.Playing.{StopsTaking}
use Rattle.command_spec.specs.Ends.{End, last_line}
use Rattle.command_spec.specs.Commands.{RamCommand, Run, RamPlan, Plan, OfRam, mem_of}
use Rattle.command_spec.specs.Answers.{Outside, IfTold}
use Rattle.command_spec.specs.declared.Stop.{Stop}
use Rattle.command_spec.specs.declared.Stop.TheVariants.{Memory}
use Rattle.commands.specs.declared.scripts.Session.{Session}
use Rattle.commands.specs.declared.scripts.Session.TheVariants.{Ram}

-- ---- the lines

-- no text was put, or the next line takes memory and is not refused
abbrev pub SessionTakes : Session → List ℕ → List Line → Option (List ℕ) → Option (List ℕ) → Stop → Type 0
SessionTakes (Ram layout) image lines given given' Memory =
    (given' ≡ given) ⊎ StopsTaking (zones_of layout) image lines given given'
SessionTakes session image lines given given' stop = ⊤

-- ---- the work of a command, before its last line

-- the lines of this script on the image's bytes
pub record StopsAtLine (plan : RamPlan) (bytes script : List ℕ) (given given' : Option (List ℕ)) : Type 0 where
  pub lines : List Line
  pub are : script_of script ≡ Ok lines
  pub stops : StopsTaking plan.zones (take (mem_of plan) bytes) lines given given'

abbrev pub TakesIn : RamPlan → List ℕ → List ℕ → Option (List ℕ) → Option (List ℕ) → Type 0
TakesIn plan bytes script given given' = (given' ≡ given) ⊎ StopsAtLine plan bytes script given given'

abbrev pub RunTakes : RamPlan → Outside → Outside → End → Type 0
RunTakes plan a b (Err Memory) = IfTold a (λ bytes script. TakesIn plan bytes script a.given b.given)
RunTakes plan a b e = ⊤

abbrev pub CommandTakes : RamCommand → RamPlan → Outside → Outside → End → Type 0
CommandTakes Run plan a b e = RunTakes plan a b e
CommandTakes other plan a b e = ⊤

abbrev pub PlanTakes : Result Plan Stop → Outside → Outside → End → Type 0
PlanTakes (Ok (OfRam plan)) a b e = CommandTakes plan.command plan a b e
PlanTakes other a b e = ⊤

-- ---- the whole run

-- the output had this before the last line
pub record TookIn (plan : RamPlan) (bytes script : List ℕ) (a b : Outside) : Type 0 where
  pub mid : Option (List ℕ)
  pub takes : TakesIn plan bytes script a.given mid
  pub put : Appends mid b.given (last_line Memory)

abbrev pub CommandTook : RamCommand → RamPlan → Outside → Outside → ℕ → Type 0
CommandTook Run plan a b status = status ≡ 1 → IfTold a (λ bytes script. TookIn plan bytes script a b)
CommandTook other plan a b status = ⊤

-- of a script on the ram store
abbrev pub PlanTook : Result Plan Stop → Outside → Outside → ℕ → Type 0
PlanTook (Ok (OfRam plan)) a b status = CommandTook plan.command plan a b status
PlanTook other a b status = ⊤
