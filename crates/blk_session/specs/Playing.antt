-- A line of a script done on the block store, and its text put
use Rattle.std.specs.Prelude.{◌≡◌, ℕ, ◌≤◌, List, take, slice_get, Option, Some}
use Rattle.std.specs.Io.KnownBytes.{Appends}
use Rattle.outside.specs.Outside.{AppendsFront, Rose}
use Rattle.blk_spec.specs.declared.BlkLayout.{BlkLayout}
use Rattle.blk_spec.specs.States.{BlkState}
use Rattle.blk_spec.specs.Answers.{Device, further}
use Rattle.grammar_spec.specs.Fields.{Text}
use Rattle.grammar_spec.specs.declared.line.Line.{Line}
use Rattle.grammar_spec.specs.declared.line.Line.TheVariants.{Boot}
use Rattle.script_spec.specs.BlkScripts.{blk_ran}
use Rattle.script_spec.specs.declared.LineStop.{LineStop}
use Rattle.script_spec.specs.declared.LineStop.TheVariants.{Memory, StoreFault, SinkFault, Refused}
use Rattle.blk_session.specs.declared.errors.LineError.TheVariants.{Memory as MemoryThere}
use Rattle.blk_session.specs.declared.errors.LineError.TheVariants.{StoreFault as StoreFaultThere}
use Rattle.blk_session.specs.declared.errors.LineError.TheVariants.{Refused as RefusedThere}
use Rattle.blk_session.specs.Asked.{lines_ask}
use Rattle.blk_session.specs.Lines.{LineDone, LineFails}

-- the store and what the output was given at one moment, each as far as it is told, with the counts of faults
pub record Seen : Type 0 where
  pub store : Device
  pub store_faults : ℕ
  pub given : Option (List ℕ)
  pub sink_faults : ℕ

abbrev pub seen : Device → ℕ → Option (List ℕ) → ℕ → Seen
seen store g given h = record { store = store; store_faults = g; given = given; sink_faults = h }

-- a line was done and its text put, whole or in part
pub record Puts (layout : BlkLayout) (old : Option BlkState) (line : Line) (new : Option BlkState)
    (a b : Seen) : Type 0 where
  pub text : Text
  pub done : LineDone layout old line new text a.store b.store
  pub put : Appends a.given b.given text

pub record PutsPart (layout : BlkLayout) (old : Option BlkState) (line : Line) (a b : Seen) : Type 0 where
  pub new : Option BlkState
  pub text : Text
  pub done : LineDone layout old line new text a.store b.store
  pub put : AppendsFront a.given b.given text

-- why a line of this number was not done or not put
abbrev pub LineStops : LineStop → BlkLayout → Option BlkState → Line → ℕ → Seen → Seen → Type 0
LineStops Memory layout old line number a b =
    (b.given ≡ a.given) × LineFails MemoryThere layout old line a.store b.store a.store_faults b.store_faults
LineStops StoreFault layout old line number a b =
    (b.given ≡ a.given) × LineFails StoreFaultThere layout old line a.store b.store a.store_faults b.store_faults
LineStops SinkFault layout old line number a b = Rose a.sink_faults b.sink_faults × PutsPart layout old line a b
LineStops (Refused n cause) layout old line number a b =
    (n ≡ number) × (b.given ≡ a.given) × LineFails (RefusedThere cause)
    layout old line a.store b.store a.store_faults b.store_faults

-- no count of faults falls
pub record Later (a b : Seen) : Type 0 where
  pub store : a.store_faults ≤ b.store_faults
  pub sink : a.sink_faults ≤ b.sink_faults

-- some first lines were done, and the next is to load the store, which holds what these lines leave and was asked to
-- write as often as they ask
pub record StopsLoading (layout : BlkLayout) (bytes : List ℕ) (lines : List Line) (before now : Device) : Type 0 where
  pub count : ℕ
  pub next : slice_get lines count ≡ Some Boot
  pub holds : now.holds ≡ Some (blk_ran layout bytes (take count lines)).session.store
  pub asked : now.writes ≡ further (lines_ask layout bytes (take count lines)) before.writes
