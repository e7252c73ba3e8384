-- What a script on the block store answers
use Rattle.std.specs.Prelude.{◌≡◌, ◌≢◌, ◌⊎◌, ℕ, if◌then◌else◌, nat_lt, List, [], ◌++◌, length, take, Option, Some}
use Rattle.std.specs.Prelude.{Result, Ok, Err}
use Rattle.std.specs.Io.KnownBytes.{Appends}
use Rattle.blk_spec.specs.declared.BlkLayout.{BlkLayout}
use Rattle.grammar_spec.specs.Fields.{Text}
use Rattle.grammar_spec.specs.Lines.{script_of}
use Rattle.grammar_spec.specs.declared.line.Line.{Line}
use Rattle.command_spec.specs.Ends.{End, status_of, last_line}
use Rattle.command_spec.specs.Commands.{script_end, script_limit, stops}
use Rattle.command_spec.specs.Answers.{Outside, IfTold, NoScript, RoseFor, IsFree, Answers, ScriptRead}
use Rattle.script_spec.specs.BlkScripts.{BlkRan, blk_ran}
use Rattle.script_spec.specs.BlkStops.{StopsTaking, StopsWriting, StopsPutting, StopsRefused, AllDone}
use Rattle.command_spec.specs.declared.Stop.{Stop}
use Rattle.command_spec.specs.declared.Stop.TheVariants.{Memory, Short, ScriptFault, ImageFault, SinkFault, TooLong}
use Rattle.command_spec.specs.declared.Stop.TheVariants.{BadLine, Refused}

-- ---- the lines that are to be done

abbrev pub lines_or_bad : Result (List Line) ℕ → Result (List Line) Stop
lines_or_bad (Ok lines) = Ok lines
lines_or_bad (Err n) = Err (BadLine n)

-- the lines of a script on a store's bytes, or what comes before the first: a store that is too short, a script that is
-- too long, a bad line
abbrev pub blk_lines : BlkLayout → List ℕ → List ℕ → Result (List Line) Stop
blk_lines layout bytes script =
    if nat_lt (length bytes) layout.total then Err (Short (length bytes) layout.total)
    else if nat_lt script_limit (length script) then Err TooLong
    else lines_or_bad (script_of script)

-- ---- lines that stop

-- how lines end where nothing comes in their way
abbrev pub blk_end : BlkRan → End
blk_end ran = script_end (length ran.texts) ran.refused

-- none was done
pub record StopsBefore (bytes : List ℕ) (text : Text) (now : Option (List ℕ)) : Type 0 where
  pub texts : text ≡ []
  pub holds : now ≡ Some bytes

-- why good lines on a store with room stop, begun or not: want of memory and faults may come before the first line, and
-- then the image fails only before the script is read
abbrev pub BlkStop : Stop → BlkLayout → List ℕ → List Line → Text → Outside → Outside → Type 0
BlkStop ScriptFault layout bytes lines text a b = StopsBefore bytes text b.holds
BlkStop Memory layout bytes lines text a b =
    StopsBefore bytes text b.holds ⊎ StopsTaking layout bytes lines text b.holds
BlkStop ImageFault layout bytes lines text a b =
    (NoScript a b × StopsBefore bytes text b.holds) ⊎ StopsWriting layout bytes lines text b.holds
BlkStop SinkFault layout bytes lines text a b = StopsPutting layout bytes lines text b.holds
BlkStop (Refused n cause) layout bytes lines text a b = StopsRefused layout bytes lines n cause text b.holds
BlkStop other layout bytes lines text a b = ⊥

-- ---- answers

-- lines stopped for this cause, and then the last line was put
pub record StoppedFor (stop : Stop) (layout : BlkLayout) (bytes : List ℕ) (lines : List Line)
    (a b : Outside) : Type 0 where
  pub text : Text
  pub stops : BlkStop stop layout bytes lines text a b
  pub put : Appends a.given b.given (text ++ last_line stop)

-- lines stopped for some cause, and only a part of the last line was put; if the text of a line was put in part, there
-- is no last line
pub record StoppedUnput (layout : BlkLayout) (bytes : List ℕ) (lines : List Line) (a b : Outside) : Type 0 where
  pub stop : Stop
  pub rose : RoseFor stop a b
  pub text : Text
  pub stops : BlkStop stop layout bytes lines text a b
  pub part : ℕ
  pub put : Appends a.given b.given (text ++ take part (last_line stop))

-- good lines on a store with room
pub record LinesAnswers (layout : BlkLayout) (bytes : List ℕ) (lines : List Line) (a b : Outside)
    (status : ℕ) : Type 0 where
  -- the status that is wanted, but for memory and faults
  pub exact : (status ≡ status_of (blk_end (blk_ran layout bytes lines))) ⊎ IsFree a b status
  pub done : status ≡ 0 → AllDone layout bytes lines a.given b.given b.holds
  pub refused : status ≡ 10 → (stop : Stop) → blk_end (blk_ran layout bytes lines) ≡ Err stop
      → StoppedFor stop layout bytes lines a b
  pub memory : status ≡ 1 → StoppedFor Memory layout bytes lines a b
  pub script_fault : status ≡ 5 → StoppedFor ScriptFault layout bytes lines a b
  pub image_fault : status ≡ 6 → StoppedFor ImageFault layout bytes lines a b
  pub sink_fault : status ≡ 7 → StoppedUnput layout bytes lines a b

-- these lines, or what comes before the first; then the image fails only before the script is read
abbrev pub LinesOrStopAnswers : BlkLayout → List ℕ → Result (List Line) Stop → Outside → Outside → ℕ → Type 0
LinesOrStopAnswers layout bytes (Ok lines) a b status = LinesAnswers layout bytes lines a b status
LinesOrStopAnswers layout bytes (Err stop) a b status =
    Answers (stops stop) a b status × (status ≡ 6 → NoScript a b)

-- a script on the block store
pub record BlkAnswers (layout : BlkLayout) (a b : Outside) (status : ℕ) : Type 0 where
  pub whole : IfTold a (λ bytes script. LinesOrStopAnswers layout bytes (blk_lines layout bytes script) a b status)
  pub read : ScriptRead layout.total a b status
  -- the store is untouched on a status that comes before the lines alone
  pub kept : status ≢ 0 → status ≢ 1 → status ≢ 6 → status ≢ 7 → status ≢ 10 → b.holds ≡ a.holds
