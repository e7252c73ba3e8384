-- Doing the lines of a script in order, and why they stop
use Rattle.std.specs.Prelude.{◌≡◌, ◌≢◌, ⊤, ℕ, ◌+◌, ◌<◌, List, length, take, slice_get, Option, Some, None, Result, Ok}
use Rattle.std.specs.Prelude.{Err}
use Rattle.std.specs.Io.KnownBytes.{Appends}
use Rattle.outside.specs.Outside.{Rose, AppendsFront}
use Rattle.zone_spec.specs.declared.Zone.{Zone}
use Rattle.machine_spec.specs.States.{Session}
use Rattle.grammar_spec.specs.Fields.{Text}
use Rattle.grammar_spec.specs.declared.line.Line.{Line}
use Rattle.grammar_spec.specs.declared.line.Line.TheVariants.{Boot, BootPart, List as ListLine, Extract, Crash}
use Rattle.script_spec.specs.Scripts.{Kernel, ran}
use Rattle.script_spec.specs.Texts.{front, whole}
use Rattle.script_spec.specs.declared.Cause.{Cause}
use Rattle.script_spec.specs.declared.LineStop.{LineStop}
use Rattle.script_spec.specs.declared.LineStop.TheVariants.{Memory, StoreFault, SinkFault, Refused}

-- how lines end: all were done, or why not
abbrev pub LinesEnd : Type 0
LinesEnd = Result (Unit {0}) LineStop

-- a count is as before, unless there is a stop for this fault
abbrev pub KeptUnless : {T S : Type 0} → S → Result T S → ℕ → ℕ → Type 0
KeptUnless fault (Ok done) before now = now ≡ before
KeptUnless fault (Err stop) before now = stop ≢ fault → now ≡ before

-- the lines that take memory: a boot, whole or in part, a listing, a record's text, the body of a crash. The block
-- store refuses a boot in part and a crash
abbrev pub TakesMemory : Line → Type 0
TakesMemory Boot = ⊤
TakesMemory (BootPart limit) = ⊤
TakesMemory ListLine = ⊤
TakesMemory (Extract name) = ⊤
TakesMemory (Crash reason time) = ⊤
TakesMemory other = ⊥

-- ---- texts

-- some text was put
pub record PutsText (old new : Option (List ℕ)) : Type 0 where
  pub text : Text
  pub put : Appends old new text

-- some first texts were put
pub record PutTexts (texts : List Text) (old new : Option (List ℕ)) : Type 0 where
  pub count : ℕ
  pub bytes : Appends old new (front texts count)

-- a front of some first texts was put
pub record PutSome (texts : List Text) (old new : Option (List ℕ)) : Type 0 where
  pub count : ℕ
  pub bytes : AppendsFront old new (front texts count)

-- ---- on an image

-- a script whose lines were all done
pub record Played (layout : List Zone) (image : List ℕ) (lines : List Line) (session : Session)
    (old new : Option (List ℕ)) : Type 0 where
  pub state : (ran layout image lines).session ≡ session
  pub none : (ran layout image lines).refused ≡ None
  pub texts : Appends old new (whole (ran layout image lines).texts)

-- the first i lines of a script were done
pub record PlayedTo (layout : List Zone) (image : List ℕ) (lines : List Line) (i : ℕ) (session : Session)
    (kernel : Kernel) (old new : Option (List ℕ)) : Type 0 where
  pub count : length (ran layout image (take i lines)).texts ≡ i
  pub kernel_is : (ran layout image (take i lines)).kernel ≡ kernel
  pub so_far : Played layout image (take i lines) session old new

-- the line of this number was refused, and the texts of the lines before it were put
pub record PlayedBefore (layout : List Zone) (image : List ℕ) (lines : List Line) (n : ℕ) (cause : Cause)
    (old new : Option (List ℕ)) : Type 0 where
  pub number : n ≡ length (ran layout image lines).texts + 1
  pub refused : (ran layout image lines).refused ≡ Some cause
  pub texts : Appends old new (whole (ran layout image lines).texts)

-- some first lines were done, and their texts put; the next, which is not refused and takes memory, found none
pub record StopsTaking (layout : List Zone) (image : List ℕ) (lines : List Line) (old new : Option (List ℕ))
    : Type 0 where
  pub count : ℕ
  pub line : Line
  pub next : slice_get lines count ≡ Some line
  pub wanted : count < length (ran layout image lines).texts
  pub takes : TakesMemory line
  pub bytes : Appends old new (front (ran layout image lines).texts count)

-- why the lines of a script stop: the texts of the lines before were put, or some front of them and the next
abbrev pub PlayStop : LineStop → List Zone → List ℕ → List Line → Option (List ℕ) → Option (List ℕ) → ℕ → ℕ → Type 0
PlayStop Memory layout image lines old new before now = StopsTaking layout image lines old new
PlayStop StoreFault layout image lines old new before now = ⊥
PlayStop SinkFault layout image lines old new before now =
    Rose before now × PutSome (ran layout image lines).texts old new
PlayStop (Refused n cause) layout image lines old new before now =
    PlayedBefore layout image lines n cause old new

-- ---- on the block store

-- a fault is told only where its count rose: of the store, of the output
abbrev pub BlkPlayCaused : LinesEnd → ℕ → ℕ → ℕ → ℕ → Type 0
BlkPlayCaused (Err StoreFault) g g' h h' = Rose g g'
BlkPlayCaused (Err SinkFault) g g' h h' = Rose h h'
BlkPlayCaused e g g' h h' = ⊤
