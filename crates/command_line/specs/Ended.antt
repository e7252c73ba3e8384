-- How the work of a run ends, before its last line
use Rattle.std.specs.Prelude.{◌≡◌, ◌⊎◌, ⊤, ℕ, ◌≤◌, ◌<◌, List, [], length, Option, Result, Ok, Err, IsOk}
use Rattle.std.specs.Io.KnownBytes.{Appends, IsAtEnd}
use Rattle.outside.specs.Outside.{Rose}
use Rattle.blk_spec.specs.declared.BlkLayout.{BlkLayout}
use Rattle.grammar_spec.specs.Fields.{Text}
use Rattle.grammar_spec.specs.Lines.{script_of}
use Rattle.grammar_spec.specs.declared.line.Line.{Line}
use Rattle.command_spec.specs.Ends.{End, status_of}
use Rattle.command_spec.specs.Commands.{RamCommand, Class, RunsScript, ReadsImage, ReadsDump, WritesImage, MakesImage}
use Rattle.command_spec.specs.Commands.{ShowsText, class_of, RamPlan, Plan, OfRam, OfBlk, OfMove, Wanted, wanted}
use Rattle.command_spec.specs.Commands.{wanted_of_image, wanted_move, mem_of, stops, script_limit}
use Rattle.command_spec.specs.Answers.{Outside, IfHolds, IfLeft, IfTold, NoScript, NoImage, Later, WritesAll}
use Rattle.command_spec.specs.Answers.{WritesSome, OfScript, OfImage, OfReading, OfMaking, OfShowing}
use Rattle.script_spec.specs.Texts.{whole}
use Rattle.command_spec.specs.BlkAnswers.{blk_lines, BlkStop}
use Rattle.script_spec.specs.BlkStops.{AllDone}
use Rattle.command_spec.specs.PlanAnswers.{ram_statuses, statuses, IsAmong, WritesLast}
use Rattle.script_spec.specs.Playing.{KeptUnless, PutTexts, PutSome}
use Rattle.command_spec.specs.declared.Stop.{Stop}
use Rattle.command_spec.specs.declared.Stop.TheVariants.{Memory, Usage, Param, Layout, NoSharedZone, Short, ScriptFault}
use Rattle.command_spec.specs.declared.Stop.TheVariants.{ImageFault, SinkFault, TooLong, BadLine, Refused}

-- the output and the image after the work of a command that wants this
abbrev pub EndedAt : Wanted → Option (List ℕ) → Option (List ℕ) → Option (List ℕ) → Option (List ℕ) → End → Type 0
EndedAt w given given' holds holds' (Ok u) = (w.end ≡ Ok tt) × Appends given given' (whole w.texts)
    × WritesAll w.writes holds holds'
EndedAt w given given' holds holds' (Err Memory) = PutTexts w.texts given given' × (holds' ≡ holds)
EndedAt w given given' holds holds' (Err ScriptFault) = (given' ≡ given) × (holds' ≡ holds)
EndedAt w given given' holds holds' (Err ImageFault) =
    ((given' ≡ given) × (holds' ≡ holds)) ⊎ ((w.end ≡ Ok tt) × Appends given given' (whole w.texts)
    × WritesSome w.writes holds holds')
EndedAt w given given' holds holds' (Err SinkFault) = PutSome w.texts given given' × (holds' ≡ holds)
EndedAt w given given' holds holds' (Err s) = (w.end ≡ Err s) × Appends given given' (whole w.texts) × (holds' ≡ holds)

abbrev pub Ended : Wanted → Outside → Outside → End → Type 0
Ended w a b e = EndedAt w a.given b.given a.holds b.holds e

-- a fault is told only where its count rose: of the source, of the store, of the sink
abbrev pub CausedAt : ℕ → ℕ → ℕ → ℕ → ℕ → ℕ → End → Type 0
CausedAt f f' g g' h h' (Err ScriptFault) = Rose f f'
CausedAt f f' g g' h h' (Err ImageFault) = Rose g g'
CausedAt f f' g g' h h' (Err SinkFault) = Rose h h'
CausedAt f f' g g' h h' e = ⊤

abbrev pub Caused : Outside → Outside → End → Type 0
Caused a b e = CausedAt a.source_faults b.source_faults a.store_faults b.store_faults a.sink_faults b.sink_faults e

-- each count of faults is as before, unless the work ends for a fault of that object
pub record Counted (a b : Outside) (e : End) : Type 0 where
  pub source : KeptUnless ScriptFault e a.source_faults b.source_faults
  pub store : KeptUnless ImageFault e a.store_faults b.store_faults
  pub sink : KeptUnless SinkFault e a.sink_faults b.sink_faults

-- what is of the image stays, but where all was done or writing it failed: its bytes, and how often it was asked to be
-- written
abbrev pub KeptAt : {A : Type 0} → A → A → End → Type 0
KeptAt old new (Ok u) = ⊤
KeptAt old new (Err ImageFault) = ⊤
KeptAt old new (Err s) = new ≡ old

-- an image of this size: too short, or long enough for what comes after its reading
abbrev pub ShortAt : ℕ → ℕ → End → Type 0
ShortAt mem size (Err Memory) = ⊤
ShortAt mem size (Err ImageFault) = ⊤
ShortAt mem size (Err (Short has needed)) = (size < mem) × (has ≡ size) × (needed ≡ mem)
ShortAt mem size e = mem ≤ size

-- a script: too long, bad in a line, or good for what comes after its reading
abbrev pub ScriptAt : List ℕ → End → Type 0
ScriptAt script (Err Memory) = ⊤
ScriptAt script (Err (Short has needed)) = ⊤
ScriptAt script (Err ScriptFault) = ⊤
ScriptAt script (Err ImageFault) = ⊤
ScriptAt script (Err SinkFault) = ⊤
ScriptAt script (Err TooLong) = script_limit < length script
ScriptAt script (Err (BadLine n)) = (length script ≤ script_limit) × (script_of script ≡ Err n)
ScriptAt script e = (length script ≤ script_limit) × IsOk (script_of script)

-- how much of the script was read, and that nothing was put before its first line
abbrev pub UseAt : Outside → Outside → End → Type 0
UseAt a b (Ok u) = IsAtEnd b.left
UseAt a b (Err (Short has needed)) = NoScript a b × (b.given ≡ a.given)
UseAt a b (Err ScriptFault) = b.given ≡ a.given
UseAt a b (Err ImageFault) = NoScript a b ⊎ IsAtEnd b.left
UseAt a b (Err TooLong) = b.given ≡ a.given
UseAt a b (Err (BadLine n)) = IsAtEnd b.left × (b.given ≡ a.given)
UseAt a b (Err (Refused n cause)) = IsAtEnd b.left
UseAt a b e = ⊤

-- the work of a command that reads an image of this size and a script
pub record ScriptEnds (mem : ℕ) (a b : Outside) (e : End) : Type 0 where
  pub image : IfHolds a (λ bytes. ShortAt mem (length bytes) e)
  pub unread : IfHolds a (λ bytes. length bytes < mem → NoScript a b)
  pub script : IfLeft a (λ script. ScriptAt script e)
  pub used : UseAt a b e

-- an end whose status the command can answer
abbrev pub CanEnd : RamPlan → End → Type 0
CanEnd plan e = IsAmong (ram_statuses plan.command) (status_of e)

-- the image fails only as it is written
abbrev pub WrittenAt : Wanted → Outside → Outside → End → Type 0
WrittenAt w a b (Err ImageFault) = (w.end ≡ Ok tt) × Appends a.given b.given (whole w.texts)
    × WritesSome w.writes a.holds b.holds
WrittenAt w a b e = ⊤

-- how each kind of command's work ends, as far as the outside tells what it uses
abbrev pub RunEnds : RamPlan → Outside → Outside → End → Type 0
RunEnds plan a b e = OfScript (λ d. CanEnd plan d) (λ d. ScriptEnds (mem_of plan) a b d) (λ d w. Ended w a b d)
    (λ d w. WrittenAt w a b d) plan a b e

-- with these statuses, where this is wanted of the image
abbrev pub ImageEnds : List ℕ → (List ℕ → Wanted) → Outside → Outside → End → Type 0
ImageEnds all want a b e = OfImage (λ d. IsAmong all (status_of d)) (λ d w. Ended w a b d) want a b e

abbrev pub ReadEnds : List ℕ → (List ℕ → Wanted) → Outside → Outside → End → Type 0
ReadEnds all want a b e = OfReading (λ d. IsAmong all (status_of d)) (λ d w. Ended w a b d) want a b e

-- the same of commands on an image
abbrev pub RamImageEnds : RamPlan → Outside → Outside → End → Type 0
RamImageEnds plan a b e = ImageEnds (ram_statuses plan.command) (wanted_of_image plan) a b e

abbrev pub RamReadEnds : RamPlan → Outside → Outside → End → Type 0
RamReadEnds plan a b e = ReadEnds (ram_statuses plan.command) (wanted_of_image plan) a b e

abbrev pub MakeEnds : RamPlan → Outside → Outside → End → Type 0
MakeEnds plan a b e = OfMaking (λ d. CanEnd plan d) (λ d w. Ended w a b d) (λ d w. WrittenAt w a b d)
    (wanted plan [] []) a b e

abbrev pub ShowEnds : RamPlan → Outside → Outside → End → Type 0
ShowEnds plan a b e = OfShowing (λ d. CanEnd plan d) (λ d w. Ended w a b d) (wanted plan [] []) a b e

-- ---- a script on the block store

-- good lines stopped for this cause, and their text was put
pub record StoppedAt (stop : Stop) (layout : BlkLayout) (bytes : List ℕ) (lines : List Line)
    (a b : Outside) : Type 0 where
  pub text : Text
  pub stops : BlkStop stop layout bytes lines text a b
  pub put : Appends a.given b.given text

abbrev pub LinesEnded : BlkLayout → List ℕ → List Line → Outside → Outside → End → Type 0
LinesEnded layout bytes lines a b (Ok u) = AllDone layout bytes lines a.given b.given b.holds
LinesEnded layout bytes lines a b (Err stop) = StoppedAt stop layout bytes lines a b

-- the image failed before the script was read
abbrev pub UnreadAt : Outside → Outside → End → Type 0
UnreadAt a b (Err ImageFault) = NoScript a b
UnreadAt a b e = ⊤

-- the lines that are wanted, or what comes before the first
abbrev pub LinesOrStopEnded : BlkLayout → List ℕ → Result (List Line) Stop → Outside → Outside → End → Type 0
LinesOrStopEnded layout bytes (Ok lines) a b e = LinesEnded layout bytes lines a b e
LinesOrStopEnded layout bytes (Err stop) a b e = Ended (stops stop) a b e × UnreadAt a b e

-- the ends that there are; the store stays, but where lines were begun
abbrev pub KeptBefore : Option (List ℕ) → Option (List ℕ) → End → Type 0
KeptBefore holds holds' (Ok u) = ⊤
KeptBefore holds holds' (Err Memory) = ⊤
KeptBefore holds holds' (Err ImageFault) = ⊤
KeptBefore holds holds' (Err SinkFault) = ⊤
KeptBefore holds holds' (Err (Refused n cause)) = ⊤
KeptBefore holds holds' (Err Usage) = ⊥
KeptBefore holds holds' (Err (Param fault before)) = ⊥
KeptBefore holds holds' (Err (Layout fault)) = ⊥
KeptBefore holds holds' (Err NoSharedZone) = ⊥
KeptBefore holds holds' (Err s) = holds' ≡ holds

-- a script on the block store, as far as the outside tells what it uses
pub record BlkEnds (layout : BlkLayout) (a b : Outside) (e : End) : Type 0 where
  pub whole : IfTold a (λ bytes script. LinesOrStopEnded layout bytes (blk_lines layout bytes script) a b e)
  pub read : ScriptEnds layout.total a b e
  pub kept : KeptBefore a.holds b.holds e

-- ---- any words

abbrev pub ClassEnds : Class → RamPlan → Outside → Outside → End → Type 0
ClassEnds RunsScript plan a b e = RunEnds plan a b e
ClassEnds ReadsImage plan a b e = RamReadEnds plan a b e
ClassEnds ReadsDump plan a b e = RamReadEnds plan a b e
ClassEnds WritesImage plan a b e = RamImageEnds plan a b e
ClassEnds MakesImage plan a b e = MakeEnds plan a b e
ClassEnds ShowsText plan a b e = ShowEnds plan a b e

abbrev pub RamEnds : RamCommand → RamPlan → Outside → Outside → End → Type 0
RamEnds command plan a b e = ClassEnds (class_of command) plan a b e

abbrev pub PlanEnds : Plan → Outside → Outside → End → Type 0
PlanEnds (OfRam plan) a b e = RamEnds plan.command plan a b e
PlanEnds (OfBlk layout) a b e = BlkEnds layout a b e
PlanEnds (OfMove plan) a b e = ImageEnds (statuses (OfMove plan)) (wanted_move plan) a b e

-- nothing was touched or put
pub record Nothing (a b : Outside) : Type 0 where
  pub script : NoScript a b
  pub image : NoImage a b
  pub given : b.given ≡ a.given

-- the work of a plan, or of none
abbrev pub WorkEnds : Result Plan Stop → Outside → Outside → End → Type 0
WorkEnds (Ok plan) a b e = PlanEnds plan a b e
WorkEnds (Err s) a b e = (e ≡ Err s) × Nothing a b

-- the image failed only after it was asked
abbrev pub FailsAsked : ℕ → ℕ → End → Type 0
FailsAsked old new (Err ImageFault) = Rose old new
FailsAsked old new e = ⊤

-- how often the image was asked to be written: a command that only reads never asks
abbrev pub ClassAsks : Class → ℕ → ℕ → End → Type 0
ClassAsks RunsScript old new e = KeptAt old new e
ClassAsks WritesImage old new e = KeptAt old new e
ClassAsks MakesImage old new e = KeptAt old new e × FailsAsked old new e
ClassAsks other old new e = new ≡ old

-- a script on the block store asks as its lines are done, and not before
abbrev pub LinesAsk : ℕ → ℕ → End → Type 0
LinesAsk old new (Ok u) = ⊤
LinesAsk old new (Err Memory) = ⊤
LinesAsk old new (Err ImageFault) = ⊤
LinesAsk old new (Err SinkFault) = ⊤
LinesAsk old new (Err (Refused n cause)) = ⊤
LinesAsk old new (Err s) = new ≡ old

abbrev pub Asks : Result Plan Stop → ℕ → ℕ → End → Type 0
Asks (Ok (OfRam plan)) old new e = ClassAsks (class_of plan.command) old new e
Asks (Ok (OfBlk layout)) old new e = LinesAsk old new e
Asks (Ok (OfMove plan)) old new e = ClassAsks WritesImage old new e
Asks (Err s) old new e = new ≡ old

-- all that holds once the work is done, before the last line: no count of faults falls, a fault has its cause and no
-- other was met, the image stays until it is written last, and the work ended so
pub record WorkDone (r : Result Plan Stop) (a b : Outside) (e : End) : Type 0 where
  pub later : Later a b
  pub caused : Caused a b e
  pub counts : Counted a b e
  pub kept : WritesLast r → KeptAt a.holds b.holds e
  pub asks : Asks r a.writes b.writes e
  pub ended : WorkEnds r a b e
