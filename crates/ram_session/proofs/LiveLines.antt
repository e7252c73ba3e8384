-- Calls as lines, while the machine is live
use Rattle.std.proofs.Common.{◌≡◌, ℕ, Bool, true, false, cond, is_some, List, [], zip, Option, Some, None, Result, Ok}
use Rattle.std.proofs.Common.{Err, refl, sym, ap, ◌∙◌}
use Rattle.zone_spec.specs.declared.Zone.{Zone}
use Rattle.zone_spec.specs.declared.ZoneName.{ZoneName}
use Rattle.zone_spec.specs.declared.Time.{Time}
use Rattle.zone_spec.specs.declared.Refusal.{Refusal}
use Rattle.zone_spec.specs.declared.Refusal.TheVariants.{Idle}
use Rattle.zone_spec.specs.Reading.{ZoneReading}
use Rattle.machine_spec.specs.States.{LiveState, Off as OffOf, Live as LiveOf}
use Rattle.machine_spec.specs.LiveZones.{Target, target, changed}
use Rattle.machine_spec.specs.ZoneCalls.{finished}
use Rattle.machine_spec.specs.LiveCalls.{Ask, Append, Erase, Dump, asked_name, begin, make, step, finish, finish_at}
use Rattle.machine_spec.specs.LiveCalls.{and_finish, goes_on}
use Rattle.machine_spec.specs.Operations.{answered}
use Rattle.prz_read.specs.Saving.{SavedLogs}
use Rattle.ramoops.specs.LiveSeen.{LiveSeen}
use Rattle.grammar_spec.specs.declared.line.Line.{Line}
use Rattle.grammar_spec.specs.declared.line.Line.TheVariants.{Write, Dump as DumpLine, BeginWrite, BeginErase}
use Rattle.grammar_spec.specs.declared.line.Line.TheVariants.{BeginDump, Step, Finish}
use Rattle.script_spec.specs.Scripts.{store_line, done_or_refused, refusal_cause}
use Rattle.script_spec.specs.declared.Cause.{Cause}
use Rattle.script_laws.proofs.Steps.{calls_keep_logs}
use Rattle.ram_session.specs.Answers.{Done, IsRefused, Begun, NotBegun}
use Rattle.ram_session.specs.Sessions.{Live, LineDone, LineRefused}

-- ---- saved logs stay

finish_at_logs : (layout : List Zone) (s : LiveState) (o : Option Target) → (finish_at layout s o).logs ≡ s.logs
finish_at_logs layout s None = refl
finish_at_logs layout s (Some t) = refl

and_finish_logs : (layout : List Zone) (s n : LiveState) (name : ZoneName) (r : Result LiveState Refusal)
    → ((m : LiveState) → r ≡ Ok m → m.logs ≡ s.logs) → and_finish layout name r ≡ Ok n → n.logs ≡ s.logs
and_finish_logs layout s n name (Ok m) kept h =
    let same : finish_at layout m (target layout m name) ≡ n = cc in
    ap (λ (x : LiveState). x.logs) (sym same) ∙ finish_at_logs layout m (target layout m name) ∙ kept m refl
and_finish_logs layout s n name (Err why) kept h = absurd (cc)

make_logs : (ask : Ask) (layout : List Zone) (s n : LiveState) → make layout s ask ≡ Ok n → n.logs ≡ s.logs
make_logs ask layout s n h = and_finish_logs layout s n (asked_name s ask) (begin layout s ask)
    (λ m e. (calls_keep_logs layout s m).0 ask e) h

begin_logs : (ask : Ask) (layout : List Zone) (s n : LiveState) → begin layout s ask ≡ Ok n → n.logs ≡ s.logs
begin_logs ask layout s n h = (calls_keep_logs layout s n).0 ask h

step_logs : (name : ZoneName) (k : ℕ) (layout : List Zone) (s n : LiveState) → step layout s name k ≡ Ok n
    → n.logs ≡ s.logs
step_logs name k layout s n h = (calls_keep_logs layout s n).1 name k h

goes_logs : (layout : List Zone) (s n : LiveState) (o : Option Target)
    → goes_on layout s (λ z zone. finished z zone) o ≡ Ok n → n.logs ≡ s.logs
goes_logs layout s n None h = absurd (cc)
goes_logs layout s n (Some t) h = flown (is_some t.live.flight) h
  where
    flown : (b : Bool) → cond b (Ok (changed layout s t (λ z zone. finished z zone))) (Err Idle) ≡ Ok n
        → n.logs ≡ s.logs
    flown true h = let same : changed layout s t (λ z zone. finished z zone) ≡ n = cc in
        ap (λ (x : LiveState). x.logs) (sym same)
    flown false h = absurd (cc)

finish_logs : (name : ZoneName) (layout : List Zone) (s n : LiveState) → finish layout s name ≡ Ok n → n.logs ≡ s.logs
finish_logs name layout s n h = goes_logs layout s n (target layout s name) h

-- ---- a line that is a call

-- the line does what this answers in a live state, and puts nothing
abbrev IsCall : Line → (List Zone → LiveState → Result LiveState Refusal) → Type 0
IsCall line f = (layout : List Zone) (s : LiveState) → store_line layout (LiveOf s) line
    ≡ done_or_refused (LiveOf s) [] (answered (f layout s))

call_done : (old new : LiveSeen) (logs : SavedLogs) (line : Line)
    (f : List Zone → LiveState → Result LiveState Refusal) → IsCall line f
    → ((layout : List Zone) (s n : LiveState) → f layout s ≡ Ok n → n.logs ≡ s.logs) → Done old new f
    → LineDone (Live old logs) line (Live new logs) []
call_done old new logs line f is kept done layout mem (OffOf s) lies stands state = absurd stands
call_done old new logs line f is kept done layout mem (LiveOf s) lies stands state =
    let d = done layout mem s lies stands.0 state in
    record {
      next = LiveOf d.next;
      done = is layout s ∙ ap (λ (r : Result LiveState Refusal). done_or_refused (LiveOf s) [] (answered r)) d.done;
      stands = (
        d.stands,
        stands.1 ∙ ap (λ (l : List (Option ZoneReading)). zip layout l)
            (sym (kept layout s d.next d.done)),
      );
    }

call_refused : (old : LiveSeen) (logs : SavedLogs) (line : Line)
    (f : List Zone → LiveState → Result LiveState Refusal) (why : Refusal) → IsCall line f → IsRefused old why f
    → LineRefused (Live old logs) line (refusal_cause why)
call_refused old logs line f why is refused layout mem (OffOf s) lies stands state = absurd stands
call_refused old logs line f why is refused layout mem (LiveOf s) lies stands state =
    is layout s ∙ ap (λ (r : Result LiveState Refusal). done_or_refused (LiveOf s) [] (answered r))
    (refused layout mem s lies stands.0 state)

-- ---- the lines

write_is : (z : ZoneName) (bytes : List ℕ) → IsCall (Write z bytes) (λ layout s. make layout s (Append z bytes))
unfolding store_line
write_is z bytes layout s = refl

dump_is : (t : Time) (packed : Bool) (bytes : List ℕ) → IsCall (DumpLine t packed bytes)
    (λ layout s. make layout s (Dump t packed bytes))
unfolding store_line
dump_is t packed bytes layout s = refl

begin_write_is : (z : ZoneName) (bytes : List ℕ) → IsCall (BeginWrite z bytes)
    (λ layout s. begin layout s (Append z bytes))
unfolding store_line
begin_write_is z bytes layout s = refl

begin_erase_is : (z : ZoneName) → IsCall (BeginErase z) (λ layout s. begin layout s (Erase z))
unfolding store_line
begin_erase_is z layout s = refl

begin_dump_is : (t : Time) (packed : Bool) (bytes : List ℕ)
    → IsCall (BeginDump t packed bytes) (λ layout s. begin layout s (Dump t packed bytes))
unfolding store_line
begin_dump_is t packed bytes layout s = refl

step_is : (z : ZoneName) (k : ℕ) → IsCall (Step z k) (λ layout s. step layout s z k)
unfolding store_line
step_is z k layout s = refl

finish_is : (z : ZoneName) → IsCall (Finish z) (λ layout s. finish layout s z)
unfolding store_line
finish_is z layout s = refl

begun_done : (old new : LiveSeen) (ask : Ask) (name : ZoneName) → Begun old new ask name
    → Done old new (λ layout s. begin layout s ask)
begun_done old new ask name h layout mem s lies stands state = (h layout mem s stands).1

begun_refused : (old : LiveSeen) (ask : Ask) (why : Refusal) → NotBegun old ask why
    → IsRefused old why (λ layout s. begin layout s ask)
begun_refused old ask why h layout mem s lies stands state = h layout mem s stands

pub write_done : (old new : LiveSeen) (logs : SavedLogs) (z : ZoneName) (bytes : List ℕ)
    → Done old new (λ layout s. make layout s (Append z bytes))
    → LineDone (Live old logs) (Write z bytes) (Live new logs) []
write_done old new logs z bytes h = call_done old new logs (Write z bytes)
    (λ layout s. make layout s (Append z bytes)) (write_is z bytes) (make_logs (Append z bytes)) h

pub write_refused : (old : LiveSeen) (logs : SavedLogs) (z : ZoneName) (bytes : List ℕ) (why : Refusal)
    (cause : Cause) → cause ≡ refusal_cause why → IsRefused old why (λ layout s. make layout s (Append z bytes))
    → LineRefused (Live old logs) (Write z bytes) cause
write_refused old logs z bytes why cause same h = rw same
    (call_refused old logs (Write z bytes) (λ layout s. make layout s (Append z bytes)) why (write_is z bytes) h)

pub dump_done : (old new : LiveSeen) (logs : SavedLogs) (t : Time) (packed : Bool) (bytes : List ℕ)
    → Done old new (λ layout s. make layout s (Dump t packed bytes))
    → LineDone (Live old logs) (DumpLine t packed bytes) (Live new logs) []
dump_done old new logs t packed bytes h = call_done old new logs (DumpLine t packed bytes)
    (λ layout s. make layout s (Dump t packed bytes)) (dump_is t packed bytes) (make_logs (Dump t packed bytes)) h

pub dump_refused : (old : LiveSeen) (logs : SavedLogs) (t : Time) (packed : Bool) (bytes : List ℕ) (why : Refusal)
    (cause : Cause) → cause ≡ refusal_cause why → IsRefused old why (λ layout s. make layout s (Dump t packed bytes))
    → LineRefused (Live old logs) (DumpLine t packed bytes) cause
dump_refused old logs t packed bytes why cause same h =
    rw same (call_refused old logs (DumpLine t packed bytes) (λ layout s. make layout s (Dump t packed bytes)) why
    (dump_is t packed bytes) h)

pub begin_write_done : (old new : LiveSeen) (logs : SavedLogs) (z : ZoneName) (bytes : List ℕ) (name : ZoneName)
    → Begun old new (Append z bytes) name → LineDone (Live old logs) (BeginWrite z bytes) (Live new logs) []
begin_write_done old new logs z bytes name h = call_done old new logs (BeginWrite z bytes)
    (λ layout s. begin layout s (Append z bytes)) (begin_write_is z bytes) (begin_logs (Append z bytes))
    (begun_done old new (Append z bytes) name h)

pub begin_write_refused : (old : LiveSeen) (logs : SavedLogs) (z : ZoneName) (bytes : List ℕ) (why : Refusal)
    (cause : Cause) → cause ≡ refusal_cause why → NotBegun old (Append z bytes) why
    → LineRefused (Live old logs) (BeginWrite z bytes) cause
begin_write_refused old logs z bytes why cause same h =
    rw same (call_refused old logs (BeginWrite z bytes) (λ layout s. begin layout s (Append z bytes)) why
    (begin_write_is z bytes) (begun_refused old (Append z bytes) why h))

pub begin_erase_done : (old new : LiveSeen) (logs : SavedLogs) (z : ZoneName) (name : ZoneName)
    → Begun old new (Erase z) name → LineDone (Live old logs) (BeginErase z) (Live new logs) []
begin_erase_done old new logs z name h = call_done old new logs (BeginErase z) (λ layout s. begin layout s (Erase z))
    (begin_erase_is z) (begin_logs (Erase z)) (begun_done old new (Erase z) name h)

pub begin_erase_refused : (old : LiveSeen) (logs : SavedLogs) (z : ZoneName) (why : Refusal) (cause : Cause)
    → cause ≡ refusal_cause why → NotBegun old (Erase z) why → LineRefused (Live old logs) (BeginErase z) cause
begin_erase_refused old logs z why cause same h = rw same
    (call_refused old logs (BeginErase z) (λ layout s. begin layout s (Erase z)) why (begin_erase_is z)
    (begun_refused old (Erase z) why h))

pub begin_dump_done : (old new : LiveSeen) (logs : SavedLogs) (t : Time) (packed : Bool) (bytes : List ℕ)
    (name : ZoneName) → Begun old new (Dump t packed bytes) name
    → LineDone (Live old logs) (BeginDump t packed bytes) (Live new logs) []
begin_dump_done old new logs t packed bytes name h = call_done old new logs (BeginDump t packed bytes)
    (λ layout s. begin layout s (Dump t packed bytes)) (begin_dump_is t packed bytes)
    (begin_logs (Dump t packed bytes)) (begun_done old new (Dump t packed bytes) name h)

pub begin_dump_refused : (old : LiveSeen) (logs : SavedLogs) (t : Time) (packed : Bool) (bytes : List ℕ)
    (why : Refusal) (cause : Cause) → cause ≡ refusal_cause why → NotBegun old (Dump t packed bytes) why
    → LineRefused (Live old logs) (BeginDump t packed bytes) cause
begin_dump_refused old logs t packed bytes why cause same h =
    rw same (call_refused old logs (BeginDump t packed bytes) (λ layout s. begin layout s (Dump t packed bytes)) why
    (begin_dump_is t packed bytes) (begun_refused old (Dump t packed bytes) why h))

pub step_done : (old new : LiveSeen) (logs : SavedLogs) (z : ZoneName) (k : ℕ)
    → Done old new (λ layout s. step layout s z k) → LineDone (Live old logs) (Step z k) (Live new logs) []
step_done old new logs z k h = call_done old new logs (Step z k) (λ layout s. step layout s z k) (step_is z k)
    (step_logs z k) h

pub step_refused : (old : LiveSeen) (logs : SavedLogs) (z : ZoneName) (k : ℕ) (why : Refusal) (cause : Cause)
    → cause ≡ refusal_cause why → IsRefused old why (λ layout s. step layout s z k)
    → LineRefused (Live old logs) (Step z k) cause
step_refused old logs z k why cause same h = rw same (call_refused old logs (Step z k) (λ layout s. step layout s z k)
    why (step_is z k) h)

pub finish_done : (old new : LiveSeen) (logs : SavedLogs) (z : ZoneName)
    → Done old new (λ layout s. finish layout s z) → LineDone (Live old logs) (Finish z) (Live new logs) []
finish_done old new logs z h = call_done old new logs (Finish z) (λ layout s. finish layout s z) (finish_is z)
    (finish_logs z) h

pub finish_refused : (old : LiveSeen) (logs : SavedLogs) (z : ZoneName) (why : Refusal) (cause : Cause)
    → cause ≡ refusal_cause why → IsRefused old why (λ layout s. finish layout s z)
    → LineRefused (Live old logs) (Finish z) cause
finish_refused old logs z why cause same h = rw same (call_refused old logs (Finish z) (λ layout s. finish layout s z)
    why (finish_is z) h)
