-- The last line of a run, whatever the outside tells of the image and of the script
use Rattle.std.specs.Prelude.{◌≡◌, ◌≢◌, ◌⊎◌, ⊤, ℕ, List, ◌++◌, Option, Result, Ok, Err}
use Rattle.std.specs.Io.KnownBytes.{Appends}
use Rattle.grammar_spec.specs.Fields.{Text}
use Rattle.command_spec.specs.Ends.{End, status_of, last_line}
use Rattle.command_spec.specs.Commands.{RamCommand, Run, Make, SharedRun, Plan, OfRam, OfBlk, OfMove}
use Rattle.command_spec.specs.Answers.{Outside}
use Rattle.command_spec.specs.declared.Stop.{Stop}
use Rattle.script_spec.specs.Playing.{PutsText}
use Rattle.command_spec.specs.declared.Stop.TheVariants.{ImageFault, SinkFault}

-- ---- the work of a command, before its last line

-- nothing was put, but where all was done or the output failed
abbrev pub PutsNone : Option (List ℕ) → Option (List ℕ) → End → Type 0
PutsNone given given' (Ok u) = ⊤
PutsNone given given' (Err SinkFault) = ⊤
PutsNone given given' (Err s) = given' ≡ given

-- the same of a command that writes the image behind its text: that can fail
abbrev pub PutsFirst : Option (List ℕ) → Option (List ℕ) → End → Type 0
PutsFirst given given' (Err ImageFault) = PutsText given given'
PutsFirst given given' e = PutsNone given given' e

-- the text of some lines was put
abbrev pub PutsLines : Option (List ℕ) → Option (List ℕ) → End → Type 0
PutsLines given given' (Ok u) = ⊤
PutsLines given given' (Err s) = PutsText given given'

-- when a command puts its text
pub data Puts : Type 0 where
  -- last of all, or none
  PutsLast : Puts
  -- before it writes the image
  PutsTextFirst : Puts
  -- as its lines are done
  PutsByLine : Puts

abbrev pub puts_of : RamCommand → Puts
puts_of Run = PutsByLine
puts_of SharedRun = PutsTextFirst
puts_of (Make n) = PutsTextFirst
puts_of other = PutsLast

abbrev pub PutsAs : Puts → Option (List ℕ) → Option (List ℕ) → End → Type 0
PutsAs PutsLast given given' e = PutsNone given given' e
PutsAs PutsTextFirst given given' e = PutsFirst given given' e
PutsAs PutsByLine given given' e = PutsLines given given' e

abbrev pub PutsBefore : RamCommand → Option (List ℕ) → Option (List ℕ) → End → Type 0
PutsBefore command given given' e = PutsAs (puts_of command) given given' e

abbrev pub PutsByPlan : Result Plan Stop → Option (List ℕ) → Option (List ℕ) → End → Type 0
PutsByPlan (Ok (OfRam plan)) given given' e = PutsBefore plan.command given given' e
PutsByPlan (Ok (OfBlk layout)) given given' e = PutsLines given given' e
PutsByPlan (Ok (OfMove plan)) given given' e = PutsFirst given given' e
PutsByPlan (Err s) given given' e = PutsNone given given' e

-- ---- the whole run

-- the last line of a stop of this status was put, after some text
pub record EndsIn (a b : Outside) (status : ℕ) : Type 0 where
  pub stop : Stop
  pub is : status ≡ status_of (Err stop)
  pub before : Text
  pub put : Appends a.given b.given (before ++ last_line stop)

-- that line was put, and nothing else
pub record IsLine (a b : Outside) (status : ℕ) : Type 0 where
  pub stop : Stop
  pub is : status ≡ status_of (Err stop)
  pub put : Appends a.given b.given (last_line stop)

-- on every status but 0 and 7: that line alone
abbrev pub LineAlone : Outside → Outside → ℕ → Type 0
LineAlone a b status = status ≢ 0 → status ≢ 7 → IsLine a b status

-- or, where the image failed as it was written, the text before it
abbrev pub LineOrText : Outside → Outside → ℕ → Type 0
LineOrText a b status = status ≢ 0 → status ≢ 7 → IsLine a b status ⊎ ((status ≡ 6) × EndsIn a b status)

-- or the texts of some lines before it
abbrev pub LineAtEnd : Outside → Outside → ℕ → Type 0
LineAtEnd a b status = status ≢ 0 → status ≢ 7 → EndsIn a b status

abbrev pub LineAs : Puts → Outside → Outside → ℕ → Type 0
LineAs PutsLast a b status = LineAlone a b status
LineAs PutsTextFirst a b status = LineOrText a b status
LineAs PutsByLine a b status = LineAtEnd a b status

-- what each command puts last
abbrev pub LastLine : Result Plan Stop → Outside → Outside → ℕ → Type 0
LastLine (Ok (OfRam plan)) a b status = LineAs (puts_of plan.command) a b status
LastLine (Ok (OfBlk layout)) a b status = LineAtEnd a b status
LastLine (Ok (OfMove plan)) a b status = LineOrText a b status
LastLine (Err s) a b status = LineAlone a b status
