-- Where the lines of a script on the block store stop, and how they end
use Rattle.std.specs.Prelude.{◌≡◌, ℕ, ◌+◌, ◌<◌, ◌≤◌, List, ◌++◌, length, take, slice_get, Option, Some, None, Ok, Err}
use Rattle.std.specs.Io.KnownBytes.{Appends}
use Rattle.blk_spec.specs.declared.BlkLayout.{BlkLayout}
use Rattle.blk_spec.specs.Writes.{after_writes, bytes_in, first_bytes}
use Rattle.grammar_spec.specs.Fields.{Text}
use Rattle.grammar_spec.specs.declared.line.Line.{Line}
use Rattle.script_spec.specs.Texts.{front, whole}
use Rattle.script_spec.specs.BlkScripts.{blk_ran, line_writes, NeedsStore}
use Rattle.script_spec.specs.Playing.{LinesEnd, TakesMemory}
use Rattle.script_spec.specs.declared.Cause.{Cause}
use Rattle.script_spec.specs.declared.LineStop.{LineStop}
use Rattle.script_spec.specs.declared.LineStop.TheVariants.{Memory, StoreFault, SinkFault, Refused}

-- some first lines were done: this is their text, and the store holds what they leave; the next, which is not refused
-- and takes memory, found none
pub record StopsTaking (layout : BlkLayout) (bytes : List ℕ) (lines : List Line) (text : Text)
    (now : Option (List ℕ)) : Type 0 where
  pub count : ℕ
  pub line : Line
  pub next : slice_get lines count ≡ Some line
  pub wanted : count < length (blk_ran layout bytes lines).texts
  pub takes : TakesMemory line
  pub texts : text ≡ front (blk_ran layout bytes lines).texts count
  pub holds : now ≡ Some (blk_ran layout bytes (take count lines)).session.store

-- some first lines were done, and of the next, which is not refused and needs the store, that has some first bytes of
-- what the line writes
pub record StopsWriting (layout : BlkLayout) (bytes : List ℕ) (lines : List Line) (text : Text)
    (now : Option (List ℕ)) : Type 0 where
  pub count : ℕ
  pub line : Line
  pub next : slice_get lines count ≡ Some line
  pub wanted : count < length (blk_ran layout bytes lines).texts
  pub needs : NeedsStore layout (blk_ran layout bytes (take count lines)).session.blk line
  pub texts : text ≡ front (blk_ran layout bytes lines).texts count
  pub kept : ℕ
  pub within : kept ≤ bytes_in (line_writes layout (blk_ran layout bytes (take count lines)).session.blk line)
  pub holds : now ≡ Some (after_writes (first_bytes kept
      (line_writes layout (blk_ran layout bytes (take count lines)).session.blk line))
      (blk_ran layout bytes (take count lines)).session.store)

-- some first lines were done, and the next too, of whose text only a part is here
pub record StopsPutting (layout : BlkLayout) (bytes : List ℕ) (lines : List Line) (text : Text)
    (now : Option (List ℕ)) : Type 0 where
  pub count : ℕ
  pub next : Text
  pub last : slice_get (blk_ran layout bytes lines).texts count ≡ Some next
  pub part : ℕ
  pub texts : text ≡ front (blk_ran layout bytes lines).texts count ++ take part next
  pub holds : now ≡ Some (blk_ran layout bytes (take (count + 1) lines)).session.store

-- all lines before the refused one, of this number, were done
pub record StopsRefused (layout : BlkLayout) (bytes : List ℕ) (lines : List Line) (n : ℕ) (cause : Cause) (text : Text)
    (now : Option (List ℕ)) : Type 0 where
  pub number : n ≡ length (blk_ran layout bytes lines).texts + 1
  pub refused : (blk_ran layout bytes lines).refused ≡ Some cause
  pub texts : text ≡ whole (blk_ran layout bytes lines).texts
  pub holds : now ≡ Some (blk_ran layout bytes lines).session.store

-- why lines that were begun can stop, with the text that was put by then, and what the store then holds
abbrev pub LinesStop : LineStop → BlkLayout → List ℕ → List Line → Text → Option (List ℕ) → Type 0
LinesStop Memory layout bytes lines text now = StopsTaking layout bytes lines text now
LinesStop StoreFault layout bytes lines text now = StopsWriting layout bytes lines text now
LinesStop SinkFault layout bytes lines text now = StopsPutting layout bytes lines text now
LinesStop (Refused n cause) layout bytes lines text now = StopsRefused layout bytes lines n cause text now

-- all lines were done: their texts were put, and the store holds what they leave
pub record AllDone (layout : BlkLayout) (bytes : List ℕ) (lines : List Line) (old new now : Option (List ℕ))
    : Type 0 where
  pub none : (blk_ran layout bytes lines).refused ≡ None
  pub texts : Appends old new (whole (blk_ran layout bytes lines).texts)
  pub holds : now ≡ Some (blk_ran layout bytes lines).session.store

-- lines that were begun stopped, and their text was put
pub record StopsAt (stop : LineStop) (layout : BlkLayout) (bytes : List ℕ) (lines : List Line)
    (old new now : Option (List ℕ)) : Type 0 where
  pub text : Text
  pub stops : LinesStop stop layout bytes lines text now
  pub put : Appends old new text

-- how lines that were begun end, with the output before and after them, and the store after them
abbrev pub EndsAt : LinesEnd → BlkLayout → List ℕ → List Line → Option (List ℕ) → Option (List ℕ) → Option (List ℕ)
    → Type 0
EndsAt (Ok u) layout bytes lines old new now = AllDone layout bytes lines old new now
EndsAt (Err stop) layout bytes lines old new now = StopsAt stop layout bytes lines old new now
