-- What a command answers: its status, the text that it put, and what the image then holds
use Rattle.std.specs.Prelude.{◌≡◌, ◌≢◌, ◌⊎◌, ⊤, ℕ, ◌≤◌, ◌<◌, List, ◌++◌, length, take, Option, None, Some, Ok, Err}
use Rattle.std.specs.Io.KnownBytes.{Appends, IsAtEnd}
use Rattle.outside.specs.Outside.{Rose, AppendsFront, Writes, WritesFront}
use Rattle.grammar_spec.specs.Fields.{Text}
use Rattle.grammar_spec.specs.Lines.{script_of}
use Rattle.script_spec.specs.Texts.{front, whole}
use Rattle.command_spec.specs.Ends.{End, status_of, last_line}
use Rattle.command_spec.specs.Commands.{RamPlan, Wanted, wanted, script_limit}
use Rattle.command_spec.specs.declared.Stop.{Stop}
use Rattle.command_spec.specs.declared.Stop.TheVariants.{Memory, Short, ScriptFault, ImageFault, SinkFault, TooLong}
use Rattle.command_spec.specs.declared.Stop.TheVariants.{BadLine}

-- ---- the outside

-- what is left of the script, what the image holds and what the output was given at one moment, each where
-- it is told, with the counts of faults, and how often the image was asked to be written
pub record Outside : Type 0 where
  pub left : Option (List ℕ)
  pub source_faults : ℕ
  pub holds : Option (List ℕ)
  pub store_faults : ℕ
  pub writes : ℕ
  pub given : Option (List ℕ)
  pub sink_faults : ℕ

abbrev pub outside : Option (List ℕ) → ℕ → Option (List ℕ) → ℕ → ℕ → Option (List ℕ) → ℕ → Outside
outside left f holds g w given h = record {
  left = left;
  source_faults = f;
  holds = holds;
  store_faults = g;
  writes = w;
  given = given;
  sink_faults = h;
}

-- P of the bytes of the image, where they are told
pub record IfHolds (a : Outside) (P : List ℕ → Type 0) : Type 0 where
  pub told : (bytes : List ℕ) → a.holds ≡ Some bytes → P bytes

-- P of the bytes of the script, where they are told
pub record IfLeft (a : Outside) (P : List ℕ → Type 0) : Type 0 where
  pub told : (script : List ℕ) → a.left ≡ Some script → P script

-- P of both, where both are told
pub record IfTold (a : Outside) (P : List ℕ → List ℕ → Type 0) : Type 0 where
  pub told : (bytes script : List ℕ) → a.holds ≡ Some bytes → a.left ≡ Some script → P bytes script

-- the script was not touched
pub record NoScript (a b : Outside) : Type 0 where
  pub left : b.left ≡ a.left
  pub source : b.source_faults ≡ a.source_faults

-- nor was the image
pub record NoImage (a b : Outside) : Type 0 where
  pub holds : b.holds ≡ a.holds
  pub store : b.store_faults ≡ a.store_faults

-- no count of faults falls
pub record Later (a b : Outside) : Type 0 where
  pub source : a.source_faults ≤ b.source_faults
  pub store : a.store_faults ≤ b.store_faults
  pub sink : a.sink_faults ≤ b.sink_faults

-- a fault of the script, the image or the output is named only if its count rose
abbrev pub RoseFor : Stop → Outside → Outside → Type 0
RoseFor ScriptFault a b = Rose a.source_faults b.source_faults
RoseFor ImageFault a b = Rose a.store_faults b.store_faults
RoseFor SinkFault a b = Rose a.sink_faults b.sink_faults
RoseFor s a b = ⊤

-- a fault that decides nothing is none: each count is as it was, unless the status names that fault, or the output
-- failed; and then not both the script and the image had failed before it
pub record NoOtherFault (a b : Outside) (status : ℕ) : Type 0 where
  pub source : status ≢ 5 → status ≢ 7 → b.source_faults ≡ a.source_faults
  pub store : status ≢ 6 → status ≢ 7 → b.store_faults ≡ a.store_faults
  pub sink : status ≢ 7 → b.sink_faults ≡ a.sink_faults
  pub either : (b.source_faults ≡ a.source_faults) ⊎ (b.store_faults ≡ a.store_faults)

-- ---- text and image

-- some first texts were put, and then a last line
pub record PutThen (texts : List Text) (old new : Option (List ℕ)) (last : Text) : Type 0 where
  pub count : ℕ
  pub bytes : Appends old new (front texts count ++ last)

-- the stops that can come where a command wants something else, and the one that it wants
abbrev pub CanStop : End → Stop → Type 0
CanStop end Memory = ⊤
CanStop end ScriptFault = ⊤
CanStop end ImageFault = ⊤
CanStop end SinkFault = ⊤
CanStop end s = end ≡ Err s

-- all that is wanted was written to the image's front, and else nothing
abbrev pub WritesAll : Option (List ℕ) → Option (List ℕ) → Option (List ℕ) → Type 0
WritesAll None old new = new ≡ old
WritesAll (Some bytes) old new = Writes old new 0 bytes

-- a front of what is wanted was written
abbrev pub WritesSome : Option (List ℕ) → Option (List ℕ) → Option (List ℕ) → Type 0
WritesSome None old new = ⊥
WritesSome (Some bytes) old new = WritesFront old new 0 bytes

-- ---- answers

-- the statuses that come beside a wanted one: out of memory; and a fault of the script, the image or the output,
-- each only if its count rose
abbrev pub IsFree : Outside → Outside → ℕ → Type 0
IsFree a b status = (status ≡ 1) ⊎ (((status ≡ 5) × RoseFor ScriptFault a b)
    ⊎ (((status ≡ 6) × RoseFor ImageFault a b) ⊎ ((status ≡ 7) × RoseFor SinkFault a b)))

-- the output failed: a front of some first texts and a last line was put, and the image is untouched
pub record PutFront (w : Wanted) (a b : Outside) : Type 0 where
  pub count : ℕ
  pub last : Stop
  pub can : CanStop w.end last
  pub rose : RoseFor last a b
  pub bytes : AppendsFront a.given b.given (front w.texts count ++ last_line last)
  pub holds : b.holds ≡ a.holds

-- the image failed as it was written back: all else was done, the whole text was put and then this, and a front of
-- what is wanted was written
pub record SavedInPart (w : Wanted) (a b : Outside) (last : Text) : Type 0 where
  pub end : w.end ≡ Ok tt
  pub rose : RoseFor ImageFault a b
  pub put : Appends a.given b.given (whole w.texts ++ last)
  pub written : WritesSome w.writes a.holds b.holds

-- the whole text was put, and maybe more
abbrev pub PutsAll : Wanted → Outside → Outside → Type 0
PutsAll w a b = (more : Text) × Appends a.given b.given (whole w.texts ++ more)

-- what is answered where a command wants this
pub record Answers (w : Wanted) (a b : Outside) (status : ℕ) : Type 0 where
  -- the status that is wanted, but for memory and faults
  pub exact : (status ≡ status_of w.end) ⊎ IsFree a b status
  -- all was done: the whole text was put, and what is to be written was
  pub done : status ≡ 0 → (w.end ≡ Ok tt) × Appends a.given b.given (whole w.texts) × WritesAll w.writes a.holds b.holds
  -- a refusal: the texts before it, and the last line
  pub refused : (s : Stop) → w.end ≡ Err s → (IsFree a b status → ⊥)
      → Appends a.given b.given (whole w.texts ++ last_line s)
  -- out of memory: some first texts, and the last line
  pub memory : status ≡ 1 → PutThen w.texts a.given b.given (last_line Memory)
  pub script_fault : status ≡ 5 → Appends a.given b.given (last_line ScriptFault)
  -- the image failed as it was read, before any text, or as it was written back
  pub image_fault : status ≡ 6 → (Appends a.given b.given (last_line ImageFault) × (b.holds ≡ a.holds))
      ⊎ SavedInPart w a b (last_line ImageFault)
  -- the output failed, maybe in the last line after the image failed as it was written back
  pub sink_fault : status ≡ 7 → PutFront w a b ⊎ ((k : ℕ) × SavedInPart w a b (take k (last_line ImageFault)))
  -- the image is untouched, but for a fault in writing it back
  pub kept : status ≢ 0 → status ≢ 6 → status ≢ 7 → b.holds ≡ a.holds

-- where the words, the parameters or the layout are at fault: the status and the last line, and nothing touched
pub record FaultAnswers (s : Stop) (a b : Outside) (status : ℕ) : Type 0 where
  pub exact : (status ≡ status_of (Err s)) ⊎ (status ≡ 7)
  pub shown : status ≢ 7 → Appends a.given b.given (last_line s)
  pub sink_fault : status ≡ 7 → AppendsFront a.given b.given (last_line s)
  pub script : NoScript a b
  pub image : NoImage a b

-- an image of this size that is read: status 4 exactly if it is too short, but for what comes before; and then the
-- script is not read, whatever the status
pub record ShortAnswers (mem : ℕ) (bytes : List ℕ) (a b : Outside) (status : ℕ) : Type 0 where
  pub short : status ≡ 4 → (length bytes < mem) × Appends a.given b.given (last_line (Short (length bytes) mem))
  pub told : length bytes < mem → (status ≡ 4) ⊎ ((status ≡ 1) ⊎ (((status ≡ 6) × RoseFor ImageFault a b)
      ⊎ ((status ≡ 7) × RoseFor SinkFault a b)))
  pub unread : length bytes < mem → NoScript a b

-- a script that is read: status 8 exactly if it is too long, and 9 exactly if it has a bad line, but for what comes
-- before
pub record ScriptAnswers (script : List ℕ) (a b : Outside) (status : ℕ) : Type 0 where
  pub long : status ≡ 8 → script_limit < length script
  pub bad : status ≡ 9 → (n : ℕ) × (script_of script ≡ Err n) × Appends a.given b.given (last_line (BadLine n))
  pub told_long : script_limit < length script → (status ≡ 8) ⊎ (status ≡ 4) ⊎ IsFree a b status
  pub told_bad : (n : ℕ) → script_of script ≡ Err n → length script ≤ script_limit
      → (status ≡ 9) ⊎ (status ≡ 4) ⊎ IsFree a b status

-- how much of the script was read, and the texts that need neither the image nor the script to be told
pub record ScriptUse (a b : Outside) (status : ℕ) : Type 0 where
  -- an image that is too short comes before the script
  pub unread : status ≡ 4 → NoScript a b
  -- all lines are read before the first is done
  pub whole : (status ≡ 0) ⊎ ((status ≡ 9) ⊎ (status ≡ 10)) → IsAtEnd b.left
  -- the image failed before the script was read, or after its last line
  pub either : status ≡ 6 → NoScript a b ⊎ IsAtEnd b.left
  pub fault : status ≡ 5 → Appends a.given b.given (last_line ScriptFault)
  pub long : status ≡ 8 → Appends a.given b.given (last_line TooLong)

-- an image of this size and a script that are read: what may be said if only one of them is told, or neither
pub record ScriptRead (mem : ℕ) (a b : Outside) (status : ℕ) : Type 0 where
  pub image : IfHolds a (λ bytes. ShortAnswers mem bytes a b status)
  pub script : IfLeft a (λ script. ScriptAnswers script a b status)
  pub used : ScriptUse a b status

-- ---- one form for what is said of a command's work, by how it ends, and of its whole run, by its status

-- it can end so; P holds of what it wants, where that is told, and F where the image failed as it was written

-- a command that reads a script: what it wants stands on both the image and the script
pub record OfScript {X : Type 0} (C R : X → Type 0) (P F : X → Wanted → Type 0) (plan : RamPlan) (a b : Outside)
    (x : X) : Type 0 where
  pub can : C x
  pub whole : IfTold a (λ bytes script. P x (wanted plan bytes script))
  pub read : R x
  -- the image failed before the script was read, or as it was written back
  pub image_fault : NoScript a b ⊎ IfTold a (λ bytes script. F x (wanted plan bytes script))

-- a command that reads the image, of which it wants this, and leaves the script
pub record OfImage {X : Type 0} (C : X → Type 0) (P : X → Wanted → Type 0) (want : List ℕ → Wanted) (a b : Outside)
    (x : X) : Type 0 where
  pub can : C x
  pub whole : IfHolds a (λ bytes. P x (want bytes))
  pub script : NoScript a b

-- the same, and it leaves the image as it is
pub record OfReading {X : Type 0} (C : X → Type 0) (P : X → Wanted → Type 0) (want : List ℕ → Wanted) (a b : Outside)
    (x : X) : Type 0 where
  pub can : C x
  pub whole : IfHolds a (λ bytes. P x (want bytes))
  pub script : NoScript a b
  pub image : b.holds ≡ a.holds

-- a command that reads nothing: it puts its whole text before it touches the image
pub record OfMaking {X : Type 0} (C : X → Type 0) (P F : X → Wanted → Type 0) (w : Wanted) (a b : Outside)
    (x : X) : Type 0 where
  pub can : C x
  pub whole : P x w
  pub script : NoScript a b
  pub image_fault : F x w
  pub text_first : NoImage a b ⊎ PutsAll w a b

-- and does not look at the image
pub record OfShowing {X : Type 0} (C : X → Type 0) (P : X → Wanted → Type 0) (w : Wanted) (a b : Outside)
    (x : X) : Type 0 where
  pub can : C x
  pub whole : P x w
  pub script : NoScript a b
  pub image : NoImage a b
