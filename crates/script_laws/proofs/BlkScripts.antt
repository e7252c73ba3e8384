-- A script's lines as the operations of a session
use Rattle.std.proofs.Common.{◌≡◌, ℕ, ◌≤◌, true, List, [], ◌∷◌, ◌++◌, map, length, Option, Some, None, IfSome, refl}
use Rattle.std.proofs.Common.{sym, ap, ◌∙◌, subst}
use Rattle.std.specs.List.{fold, list_all}
use Rattle.std.proofs.lemmas.Bool.{and_from, and_parts}
use Rattle.std.proofs.lemmas.List.Sums.{fold-append}
use Rattle.blk_spec.specs.declared.BlkLayout.{BlkLayout}
use Rattle.blk_spec.specs.declared.BlkRing.{BlkRing}
use Rattle.blk_spec.specs.Layout.{IsLayout}
use Rattle.blk_spec.specs.States.{BlkState, loaded}
use Rattle.blk_spec.specs.Session.{Operation, Load, Append, Cause as SessionCause, Session, cause_of, session_after}
use Rattle.blk_spec.specs.Session.{session_run, begun, Done, done_call, call_after, calls_run}
use Rattle.blk_laws.specs.Sessions.{untold, told_run, is_whole, is_no_load, no_faults, no_loads, ring_read, append_call}
use Rattle.blk_laws.proofs.Lines.{every-loading, session-is-calls}
use Rattle.blk_laws.proofs.Sessions.{Goes, calls-goes, begun-goes, lists-told}
use Rattle.blk_laws.proofs.CutSessions.{cut-run}
use Rattle.zone_spec.specs.declared.ZoneName.{ZoneName}
use Rattle.grammar_spec.specs.declared.line.Line.{Line}
use Rattle.grammar_spec.specs.declared.line.Line.TheVariants.{Blank, Write, Boot, List as ListLine, Extract, Erase}
use Rattle.grammar_spec.specs.declared.line.Line.TheVariants.{KDump, CutAfter}
use Rattle.script_spec.specs.BlkScripts.{BlkRan, blk_ran_on, blk_next_line, blk_ran, blk_started, blk_line_done}
use Rattle.script_spec.specs.BlkScripts.{operation_of, performs_if, done_unless, put_by, ring_for, append_to}
use Rattle.script_spec.specs.declared.Cause.{Cause}
use Rattle.script_laws.specs.BlkScripts.{operation_unless, before, operations_from, script_operations, script_calls}
use Rattle.script_laws.specs.BlkScripts.{is_no_boot, ScriptsAreSessions, EveryBootListsReading, WholeScriptListsTold}
use Rattle.script_laws.specs.BlkScripts.{EarlyCutScriptListsBefore}

-- what a script so far is left in by an operation, done or refused
by_cause : (ran : BlkRan) (operation : Operation) (text : List ℕ) (cause : Option SessionCause)
    → cause_of ran.session.blk operation ≡ cause → (layout : BlkLayout)
    → (blk_ran_on ran None (done_unless cause (record {
      session = session_after layout ran.session operation;
      text = text;
    }))).session ≡ session_after layout ran.session operation
unfolding session_after
by_cause ran operation text None e layout = refl
by_cause ran operation text (Some cause) e layout = rw e refl

by_operation : (layout : BlkLayout) (ran : BlkRan) (operation : Option Operation) (operations : List Operation)
    → session_run layout (blk_ran_on ran None (performs_if layout ran.session operation)).session operations
    ≡ session_run layout ran.session (before operation operations)
unfolding session_run
by_operation layout ran None operations = refl
by_operation layout ran (Some operation) operations =
    ap (λ (s : Session). session_run layout s operations)
    (by_cause ran operation (put_by ran.session.blk operation) (cause_of ran.session.blk operation) refl layout)

by_line : (layout : BlkLayout) (ran : BlkRan) (line : Line) (operations : List Operation)
    → session_run layout (blk_ran_on ran None (blk_line_done layout ran.session line)).session operations
    ≡ session_run layout ran.session (before (operation_of ran.session.blk line) operations)
unfolding blk_line_done operation_of
by_line layout ran Blank operations = refl
by_line layout ran (Write zone bytes) operations = by_operation layout ran
    (operation_of ran.session.blk (Write zone bytes)) operations
by_line layout ran Boot operations = by_operation layout ran (operation_of ran.session.blk Boot) operations
by_line layout ran ListLine operations = by_operation layout ran (operation_of ran.session.blk ListLine) operations
by_line layout ran (Extract name) operations = by_operation layout ran (operation_of ran.session.blk (Extract name))
    operations
by_line layout ran (Erase name) operations = by_operation layout ran (operation_of ran.session.blk (Erase name))
    operations
by_line layout ran (KDump secs nanos packed reason bytes) operations =
    by_operation layout ran (operation_of ran.session.blk (KDump secs nanos packed reason bytes)) operations
by_line layout ran (CutAfter k) operations = by_operation layout ran (operation_of ran.session.blk (CutAfter k))
    operations
by_line layout ran line operations = by_operation layout ran None operations

unless_behind : (layout : BlkLayout) (ran : BlkRan) (cause : Option Cause) (line : Line) (operations : List Operation)
    → session_run layout (blk_ran_on ran cause (blk_line_done layout ran.session line)).session operations
    ≡ session_run layout ran.session (before (operation_unless cause ran.session.blk line) operations)
unless_behind layout ran (Some cause) line operations = refl
unless_behind layout ran None line operations = by_line layout ran line operations

run_from : (layout : BlkLayout) (lines : List Line) (ran : BlkRan)
    → (fold (blk_next_line layout) ran lines).session ≡ session_run layout ran.session
    (operations_from layout ran lines)
unfolding session_run operations_from
run_from layout [] ran = refl
run_from layout (line ∷ lines) ran =
    run_from layout lines (blk_next_line layout ran line)
    ∙ unless_behind layout ran ran.refused line (operations_from layout (blk_next_line layout ran line) lines)

pub scripts_are : ScriptsAreSessions
scripts_are layout store lines = run_from layout lines (blk_started store)

-- a boot is a loading, which is not refused
loads : (layout : BlkLayout) (ran : BlkRan) (blk : Option BlkState) → ran.session.blk ≡ blk → ran.refused ≡ None
    → (blk_next_line layout ran Boot).session ≡ session_after layout ran.session Load
unfolding blk_line_done operation_of cause_of session_after
loads layout ran None e none = rw (none, e) refl
loads layout ran (Some b) e none = rw (none, e) refl

-- ---- a script's operations as calls

calls_are : (layout : BlkLayout) (store : List ℕ) (lines : List Line)
    → (blk_ran layout store lines).session ≡ calls_run layout (begun store) (script_calls layout store lines)
calls_are layout store lines = scripts_are layout store lines
    ∙ session-is-calls layout (begun store) (script_operations layout store lines)

all_done : (operations : List Operation) → no_faults (map done_call operations) ≡ true
all_done [] = refl
all_done (operation ∷ operations) = all_done operations

script_goes : (layout : BlkLayout) (store : List ℕ) (lines : List Line) → IsLayout layout
    → layout.total ≤ length store
    → Goes layout (blk_ran layout store lines).session
    (told_run layout (begun store) untold (script_calls layout store lines))
script_goes layout store lines valid room =
    let calls = script_calls layout store lines in
    subst (λ (s : Session). Goes layout s (told_run layout (begun store) untold calls))
    (sym (calls_are layout store lines))
    (calls-goes layout (begun store) untold calls valid (all_done (script_operations layout store lines))
    (begun-goes layout store room))

pub boot_lists : EveryBootListsReading
unfolding call_after
boot_lists layout store lines none =
    let ran = blk_ran layout store lines in
    let is = calls_are layout store lines in
    ap (λ (r : BlkRan). r.session.blk) (fold-append (blk_next_line layout) (blk_started store) lines (Boot ∷ []))
    ∙ ap (λ (s : Session). s.blk) (loads layout ran ran.session.blk refl none)
    ∙ ap (λ (s : Session). (session_after layout s Load).blk) is
    ∙ every-loading layout store (script_calls layout store lines)
    ∙ ap (λ (s : Session). Some (loaded layout s.store)) (sym is)

pub script_lists : WholeScriptListsTold
script_lists layout store lines ring valid room whole =
    lists-told layout (blk_ran layout store lines).session
    (told_run layout (begun store) untold (script_calls layout store lines)) ring valid
    (script_goes layout store lines valid room) whole

-- ---- a line whose append is cut

-- the lines behind some first ones, from the session that these leave
lines_behind : (layout : BlkLayout) (store : List ℕ) (lines behind : List Line)
    → (blk_ran layout store (lines ++ behind)).session
    ≡ calls_run layout (blk_ran layout store lines).session
    (map done_call (operations_from layout (blk_ran layout store lines) behind))
lines_behind layout store lines behind =
    let ran = blk_ran layout store lines in
    ap (λ (r : BlkRan). r.session) (fold-append (blk_next_line layout) (blk_started store) lines behind)
    ∙ run_from layout behind ran ∙ session-is-calls layout ran.session (operations_from layout ran behind)

append_no_load : (ring : Option BlkRing) (bytes : List ℕ) → is_no_load (append_to ring bytes) Done ≡ true
append_no_load None bytes = refl
append_no_load (Some ring) bytes = refl

line_no_load : (blk : Option BlkState) (line : Line) → is_no_boot line ≡ true
    → IfSome (operation_of blk line) (λ (operation : Operation). is_no_load operation Done ≡ true)
unfolding operation_of
line_no_load blk (Write zone bytes) h = append_no_load (ring_for zone.kind) bytes
line_no_load blk Boot h = cc
line_no_load blk ListLine h = refl
line_no_load blk (Extract name) h = refl
line_no_load blk (Erase name) h = refl
line_no_load blk (KDump secs nanos packed reason bytes) h = refl
line_no_load blk (CutAfter k) h = refl
line_no_load blk line h = tt

unless_no_load : (cause : Option Cause) (blk : Option BlkState) (line : Line) → is_no_boot line ≡ true
    → IfSome (operation_unless cause blk line) (λ (operation : Operation). is_no_load operation Done ≡ true)
unless_no_load None blk line h = line_no_load blk line h
unless_no_load (Some cause) blk line h = tt

before_no_load : (operation : Option Operation) (operations : List Operation)
    → IfSome operation (λ (o : Operation). is_no_load o Done ≡ true) → no_loads (map done_call operations) ≡ true
    → no_loads (map done_call (before operation operations)) ≡ true
before_no_load None operations h k = k
before_no_load (Some operation) operations h k = and_from (is_no_load operation Done)
    (no_loads (map done_call operations)) h k

lines_no_load : (layout : BlkLayout) (ran : BlkRan) (lines : List Line) → list_all is_no_boot lines ≡ true
    → no_loads (map done_call (operations_from layout ran lines)) ≡ true
unfolding operations_from
lines_no_load layout ran [] h = refl
lines_no_load layout ran (line ∷ lines) h =
    let parts = and_parts (is_no_boot line) (list_all is_no_boot lines) h in
    before_no_load (operation_unless ran.refused ran.session.blk line)
    (operations_from layout (blk_next_line layout ran line) lines)
    (unless_no_load ran.refused ran.session.blk line parts.0)
    (lines_no_load layout (blk_next_line layout ran line) lines parts.1)

-- a line that appends to a ring is that append
write_operation : (blk : Option BlkState) (zone : ZoneName) (ring : BlkRing) (payload : List ℕ) (cause : Option Cause)
    → cause ≡ None → ring_for zone.kind ≡ Some ring → (operations : List Operation)
    → before (operation_unless cause blk (Write zone payload)) operations ≡ Append ring payload ∷ operations
unfolding operation_of
write_operation blk zone ring payload None e is operations =
    ap (λ (r : Option BlkRing). append_to r payload ∷ operations) is
write_operation blk zone ring payload (Some cause) e is operations = cc

write_behind : (layout : BlkLayout) (store : List ℕ) (lines behind : List Line) (zone : ZoneName) (ring : BlkRing)
    (payload : List ℕ) → (blk_ran layout store lines).refused ≡ None → ring_for zone.kind ≡ Some ring
    → (blk_ran layout store (lines ++ Write zone payload ∷ behind)).session
    ≡ calls_run layout (call_after layout (blk_ran layout store lines).session (append_call ring payload Done))
    (map done_call (operations_from layout
    (blk_next_line layout (blk_ran layout store lines) (Write zone payload)) behind))
unfolding operations_from calls_run
write_behind layout store lines behind zone ring payload none is =
    let ran = blk_ran layout store lines in
    lines_behind layout store lines (Write zone payload ∷ behind)
    ∙ ap (λ (operations : List Operation). calls_run layout ran.session (map done_call operations))
    (write_operation ran.session.blk zone ring payload ran.refused none is
    (operations_from layout (blk_next_line layout ran (Write zone payload)) behind))

pub script_lists_before : EarlyCutScriptListsBefore
unfolding operations_from calls_run
script_lists_before layout store lines behind b zone ring payload limit valid room none is to at early cut unbooted =
    let ran = blk_ran layout store lines in
    let next = blk_next_line layout ran (Write zone payload) in
    let t = told_run layout (begun store) untold (script_calls layout store lines) in
    ap (λ (s : Session). ring_read layout s ring) (write_behind layout store lines behind zone ring payload none to)
    ∙ cut-run layout ran.session.store ran.session.blk t b ring payload Done limit
    (map done_call (operations_from layout next behind)) valid (script_goes layout store lines valid room) is at early
    (ap (λ (s : Session). is_whole s.blk) (sym (write_behind layout store lines [] zone ring payload none to)) ∙ cut)
    (lines_no_load layout next behind unbooted)
