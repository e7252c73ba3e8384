-- Scripts on the block store as sessions, and what the laws of sessions say of them
use Rattle.std.specs.Prelude.{◌≡◌, ℕ, ◌≤◌, Bool, true, false, List, [], ◌∷◌, ◌++◌, map, length, Option, Some, None}
use Rattle.std.specs.List.{list_all}
use Rattle.zone_spec.specs.declared.ZoneName.{ZoneName}
use Rattle.blk_spec.specs.declared.BlkLayout.{BlkLayout}
use Rattle.blk_spec.specs.declared.BlkRing.{BlkRing}
use Rattle.blk_spec.specs.declared.BlkCut.TheVariants.{After}
use Rattle.blk_spec.specs.Layout.{IsLayout}
use Rattle.blk_spec.specs.States.{BlkState, loaded}
use Rattle.blk_spec.specs.Session.{Operation, session_run, begun, Call, done_call}
use Rattle.blk_laws.specs.Sessions.{untold, told_run, is_whole, ring_read, ring_told, IsEarly}
use Rattle.grammar_spec.specs.declared.line.Line.{Line}
use Rattle.grammar_spec.specs.declared.line.Line.TheVariants.{Boot, Write}
use Rattle.script_spec.specs.BlkScripts.{BlkRan, blk_next_line, blk_ran, blk_started, operation_of, ring_for}
use Rattle.script_spec.specs.declared.Cause.{Cause}

-- the operation of a line that is not behind a refused one
abbrev pub operation_unless : Option Cause → Option BlkState → Line → Option Operation
operation_unless None blk line = operation_of blk line
operation_unless (Some cause) blk line = None

abbrev pub before : Option Operation → List Operation → List Operation
before None operations = operations
before (Some operation) operations = operation ∷ operations

-- the operations of a script's lines up to the first that is refused, each in the state that those before it leave
unfoldable pub operations_from : BlkLayout → BlkRan → List Line → List Operation
operations_from layout ran [] = []
operations_from layout ran (line ∷ lines) =
    before (operation_unless ran.refused ran.session.blk line)
    (operations_from layout (blk_next_line layout ran line) lines)

abbrev pub script_operations : BlkLayout → List ℕ → List Line → List Operation
script_operations layout store lines = operations_from layout (blk_started store) lines

abbrev pub ScriptsAreSessions : Type 0
ScriptsAreSessions =
    (layout : BlkLayout) (store : List ℕ) (lines : List Line)
    → (blk_ran layout store lines).session ≡ session_run layout (begun store) (script_operations layout store lines)

-- one boot more, of which the listing and the contents then speak
abbrev pub EveryBootListsReading : Type 0
EveryBootListsReading =
    (layout : BlkLayout) (store : List ℕ) (lines : List Line) → (blk_ran layout store lines).refused ≡ None
    → (blk_ran layout store (lines ++ Boot ∷ [])).session.blk
    ≡ Some (loaded layout (blk_ran layout store lines).session.store)

-- a script's operations, none of which meets a fault, as calls
abbrev pub script_calls : BlkLayout → List ℕ → List Line → List Call
script_calls layout store lines = map done_call (script_operations layout store lines)

abbrev pub WholeScriptListsTold : Type 0
WholeScriptListsTold =
    (layout : BlkLayout) (store : List ℕ) (lines : List Line) (ring : BlkRing) → IsLayout layout
    → layout.total ≤ length store
    → is_whole (blk_ran layout store lines).session.blk ≡ true
    → ring_read layout (blk_ran layout store lines).session ring
    ≡ ring_told layout (told_run layout (begun store) untold (script_calls layout store lines)) ring

abbrev pub is_no_boot : Line → Bool
is_no_boot Boot = false
is_no_boot other = true

-- a `write` line whose append was cut early, and no boot after it
abbrev pub EarlyCutScriptListsBefore : Type 0
EarlyCutScriptListsBefore =
    (layout : BlkLayout) (store : List ℕ) (lines behind : List Line) (b : BlkState) (zone : ZoneName) (ring : BlkRing)
    (payload : List ℕ) (limit : ℕ) → IsLayout layout → layout.total ≤ length store
    → (blk_ran layout store lines).refused ≡ None → (blk_ran layout store lines).session.blk ≡ Some b
    → ring_for zone.kind ≡ Some ring → b.cut ≡ After limit → IsEarly b ring payload limit
    → is_whole (blk_ran layout store (lines ++ Write zone payload ∷ [])).session.blk ≡ false
    → list_all is_no_boot behind ≡ true
    → ring_read layout (blk_ran layout store (lines ++ Write zone payload ∷ behind)).session ring
    ≡ ring_told layout (told_run layout (begun store) untold (script_calls layout store lines)) ring
