-- What the lines of a script leave of what is wanted of them, and what a run of them keeps to
use Rattle.std.specs.Prelude.{◌≡◌, ⊤, ℕ, List, ◌++◌, Option, Some, Result, Ok, Err}
use Rattle.std.specs.Global.{Vec}
use Rattle.std.specs.Io.KnownBytes.{Appends}
use Rattle.outside.specs.Outside.{Rose}
use Rattle.ramoops_layout.specs.Laid.{zones_of}
use Rattle.blk_spec.specs.Answers.{Device}
use Rattle.grammar_spec.specs.Fields.{Text}
use Rattle.grammar_spec.specs.declared.line.Line.{Line}
use Rattle.script_spec.specs.Texts.{whole}
use Rattle.script_spec.specs.Playing.{PutTexts, PutSome}
use Rattle.command_spec.specs.Ends.{End}
use Rattle.command_spec.specs.Commands.{Run, SharedRun, RamPlan, OfRam, Wanted, wanted_script, wanted_shared_lines}
use Rattle.command_spec.specs.Answers.{Outside}
use Rattle.command_spec.specs.declared.Stop.{Stop}
use Rattle.command_spec.specs.declared.Stop.TheVariants.{Memory, SinkFault, Refused}
use Rattle.command_line.specs.Words.{plan_for, CanShareIn}
use Rattle.command_line.specs.Ended.{WorkDone}
use Rattle.commands.specs.Asked.{FailsAt}
use Rattle.commands.specs.Unread.{UnwrittenOrRead}
use Rattle.commands.specs.Due.{PutsBefore}
use Rattle.commands.specs.Taking.{CommandTakes}
use Rattle.commands.specs.declared.scripts.Session.{Session}
use Rattle.commands.specs.declared.scripts.Session.TheVariants.{Ram, Shared}

-- ---- what lines are done on

abbrev pub session_plan : Session → RamPlan
session_plan (Ram layout) = plan_for Run layout
session_plan (Shared booted layout) = plan_for SharedRun booted

-- of an image and of the lines of a script
abbrev pub session_wants : Session → List ℕ → Result (List Line) ℕ → Wanted
session_wants (Ram layout) = wanted_script (zones_of layout)
session_wants (Shared booted layout) = wanted_shared_lines (zones_of booted)

abbrev pub CanRun : Session → Type 0
CanRun (Ram layout) = ⊤
CanRun (Shared booted layout) = CanShareIn booted layout

-- ---- what lines leave

-- all were done: this text was put, and this text and this image are left
pub record AllLeft (w : Wanted) (given given' : Option (List ℕ)) (text image : List ℕ) : Type 0 where
  pub end : w.end ≡ Ok tt
  pub before : Text
  pub put : Appends given given' before
  pub texts : whole w.texts ≡ before ++ text
  pub writes : w.writes ≡ Some image

-- or why they stopped
abbrev pub LinesLeave : Wanted → Option (List ℕ) → Option (List ℕ) → ℕ → ℕ → Result (Vec ℕ × List ℕ) Stop → Type 0
LinesLeave w given given' h h' (Ok left) = AllLeft w given given' left.0.items left.1
LinesLeave w given given' h h' (Err Memory) = PutTexts w.texts given given'
LinesLeave w given given' h h' (Err SinkFault) = Rose h h' × PutSome w.texts given given'
LinesLeave w given given' h h' (Err (Refused n cause)) =
    (w.end ≡ Err (Refused n cause)) × Appends given given' (whole w.texts)
LinesLeave w given given' h h' (Err other) = ⊥

-- lines on a shared zone put nothing themselves
abbrev pub IsSilent : Session → Option (List ℕ) → Option (List ℕ) → Type 0
IsSilent (Ram layout) given given' = ⊤
IsSilent (Shared booted layout) given given' = given' ≡ given

-- ---- the run

-- with the image before and after it
pub record ScriptDone (plan : RamPlan) (a b : Outside) (before now : Device) (e : End) : Type 0 where
  pub work : WorkDone (Ok (OfRam plan)) a b e
  pub asked : FailsAt a b e
  pub unread : UnwrittenOrRead before now
  pub put : PutsBefore plan.command a.given b.given e
  pub takes : CommandTakes plan.command plan a b e
