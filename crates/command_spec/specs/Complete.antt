-- How the work of any words ends if no fault and no want of memory comes in its way, and that it does end so
use Rattle.std.specs.Prelude.{◌≡◌, ◌⊎◌, ⊤, ℕ, List, Some, Result, Ok, Err}
use Rattle.blk_spec.specs.declared.BlkLayout.{BlkLayout}
use Rattle.grammar_spec.specs.Fields.{Text}
use Rattle.grammar_spec.specs.declared.line.Line.{Line}
use Rattle.command_spec.specs.Ends.{End}
use Rattle.command_spec.specs.Commands.{Class, RunsScript, MakesImage, ShowsText, class_of, Plan, OfRam, OfBlk, OfMove}
use Rattle.command_spec.specs.Commands.{wanted, wanted_move, plan_of}
use Rattle.script_spec.specs.BlkScripts.{blk_ran}
use Rattle.command_spec.specs.Answers.{Outside, RoseFor}
use Rattle.command_spec.specs.BlkAnswers.{blk_lines, blk_end}
use Rattle.command_spec.specs.declared.Stop.{Stop}
use Rattle.command_spec.specs.declared.Stop.TheVariants.{ScriptFault, ImageFault, SinkFault}

-- ---- the end that is wanted

-- of lines on the block store, or of what comes before the first
abbrev pub lines_end : BlkLayout → List ℕ → Result (List Line) Stop → End
lines_end layout bytes (Ok lines) = blk_end (blk_ran layout bytes lines)
lines_end layout bytes (Err stop) = Err stop

abbrev pub plan_end : Result Plan Stop → List ℕ → List ℕ → End
plan_end (Ok (OfRam plan)) bytes script = (wanted plan bytes script).end
plan_end (Ok (OfBlk layout)) bytes script = lines_end layout bytes (blk_lines layout bytes script)
plan_end (Ok (OfMove plan)) bytes script = (wanted_move plan bytes).end
plan_end (Err stop) bytes script = Err stop

-- of any words, on these bytes of the image and of the script
abbrev pub wanted_end : List Text → List ℕ → List ℕ → End
wanted_end words bytes script = plan_end (plan_of words) bytes script

-- ---- what the outside must tell

-- the image holds these bytes, and these are left of the script, as far as a command reads them
abbrev pub ClassTells : Class → Outside → List ℕ → List ℕ → Type 0
ClassTells RunsScript a bytes script = (a.holds ≡ Some bytes) × (a.left ≡ Some script)
ClassTells MakesImage a bytes script = ⊤
ClassTells ShowsText a bytes script = ⊤
ClassTells other a bytes script = a.holds ≡ Some bytes

abbrev pub PlanTells : Result Plan Stop → Outside → List ℕ → List ℕ → Type 0
PlanTells (Ok (OfRam plan)) a bytes script = ClassTells (class_of plan.command) a bytes script
PlanTells (Ok (OfBlk layout)) a bytes script = (a.holds ≡ Some bytes) × (a.left ≡ Some script)
PlanTells (Ok (OfMove plan)) a bytes script = a.holds ≡ Some bytes
PlanTells (Err stop) a bytes script = ⊤

abbrev pub Tells : List Text → Outside → List ℕ → List ℕ → Type 0
Tells words a bytes script = PlanTells (plan_of words) a bytes script

-- ---- completeness

-- where nothing that is asked for is refused, and neither script, image nor output failed, the status is 0, or 1 for
-- memory
abbrev pub Completes : List Text → Outside → Outside → ℕ → Type 0
Completes words a b status = (bytes script : List ℕ) → Tells words a bytes script
    → wanted_end words bytes script ≡ Ok tt
    → (RoseFor ScriptFault a b → ⊥) → (RoseFor ImageFault a b → ⊥) → (RoseFor SinkFault a b → ⊥)
    → (status ≡ 0) ⊎ (status ≡ 1)
