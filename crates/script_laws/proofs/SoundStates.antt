-- Every state of a script is sound
use Rattle.std.specs.Prelude.{All}
use Rattle.std.proofs.Common.{◌≡◌, ℕ, zero, suc, ◌+◌, Bool, true, false, cond, nat_lt, List, [], ◌∷◌, ◌++◌, length}
use Rattle.std.proofs.Common.{take, Option, Some, None, Result, Ok, Err, refl, sym, ap, arith, inl, inr}
use Rattle.std.proofs.lemmas.Bool.{cases_lt}
use Rattle.std.proofs.lemmas.List.{get_or_past}
use Rattle.std.proofs.lemmas.List.Elements.{All-nil, All-push}
use Rattle.zone_spec.specs.declared.Time.{Time}
use Rattle.std.specs.List.{fold}
use Rattle.zone_spec.specs.declared.Zone.{Zone}
use Rattle.zone_spec.specs.Parts.{AreBytes}
use Rattle.zone_spec.specs.Layouts.{IsLayout}
use Rattle.zone_spec.specs.Records.{Listed}
use Rattle.machine_spec.specs.States.{LiveState, Session, Off, Live}
use Rattle.machine_spec.specs.Sound.{IsState, IsOperation, IsTime}
use Rattle.machine_spec.specs.Erasures.{saved_logs}
use Rattle.machine_spec.specs.Operations.{Operation, operated, left_by, EraseRecord, Cause as SessionCause}
use Rattle.machine_laws.proofs.Operations.{fresh_is_sound, operations_keep_states_sound}
use Rattle.grammar_spec.specs.declared.line.Line.{Line}
use Rattle.grammar_spec.specs.declared.line.Line.TheVariants.{Blank, Write, Dump, BeginWrite, BeginDump, Stop, Flip}
use Rattle.grammar_spec.specs.declared.line.Line.TheVariants.{Boot, List as ListLine, Extract, Erase, KDump, CutAfter}
use Rattle.grammar_spec.specs.declared.line.Line.TheVariants.{KMsg, Crash, Reserve, StoreNext}
use Rattle.grammar_spec.specs.Fields.{Text}
use Rattle.grammar_spec.specs.Printed.{HasFields, AllHaveFields, IsPayload}
use Rattle.script_spec.specs.Scripts.{StoreDone, Kernel, new_kernel, Done, Ran, ran, ran_on, next_line, started}
use Rattle.script_spec.specs.Scripts.{store_line, beside, prints, crash_body, crashed, crashes, log_limit, room_in}
use Rattle.script_spec.specs.Scripts.{dump_target, line_done, does, done_or_refused, named, lists, extracts}
use Rattle.script_spec.specs.Scripts.{extracts_of, erases, erases_of, put_by}
use Rattle.script_spec.specs.declared.Cause.{Cause}
use Rattle.script_spec.specs.declared.Cause.TheVariants.{TooLong}
use Rattle.kmsg_spec.specs.Reasons.{reason_of}
use Rattle.kmsg_spec.specs.Bodies.{last_lines}
use Rattle.script_laws.proofs.Kernels.{all_last, body_bytes}

payload_bytes : (xs : List ℕ) → IsPayload xs → AreBytes xs
payload_bytes xs h = λ i. elim (cases_lt i (length xs)) [
  | inl below ↦ h i 0 below
  | inr above ↦ rw (get_or_past xs i 0 above) (omega arith)
]

-- what was done, and the state that the operation leaves
left_is : (session : Session) (text : Text) (r : Result Session SessionCause) (d : StoreDone)
    → done_or_refused session text r ≡ Ok d → left_by session r ≡ d.session
left_is session text (Ok next) d h = let same : record { session = next; text = text } ≡ d = cc in
    ap (λ (x : StoreDone). x.session) same
left_is session text (Err cause) d h = absurd (cc)

does_sound : (layout : List Zone) (mem : ℕ) (session : Session) (o : Operation) (d : StoreDone) → IsLayout layout mem
    → IsState layout mem session → IsOperation o → does layout session o ≡ Ok d → IsState layout mem d.session
does_sound layout mem session o d lies state fit h =
    rw (← left_is session (put_by layout session o) (operated layout session o) d h)
    (operations_keep_states_sound layout mem session o lies state fit)

same_session : (session : Session) (text : Text) (d : StoreDone)
    → (let r : Result StoreDone Cause = Ok (record { session = session; text = text }) in r) ≡ Ok d
    → d.session ≡ session
same_session session text d h = let same : record { session = session; text = text } ≡ d = cc in
    ap (λ (x : StoreDone). x.session) (sym same)

extracts_sound : (layout : List Zone) (mem : ℕ) (live : LiveState) (r : Option Listed) (d : StoreDone)
    → IsState layout mem (Live live) → extracts_of layout live r ≡ Ok d → IsState layout mem d.session
extracts_sound layout mem live None d state h = absurd (cc)
extracts_sound layout mem live (Some r) d state h = rw (same_session (Live live) _ d h) state

erases_sound : (layout : List Zone) (mem : ℕ) (live : LiveState) (r : Option Listed) (d : StoreDone)
    → IsLayout layout mem
    → IsState layout mem (Live live) → erases_of layout live r ≡ Ok d → IsState layout mem d.session
erases_sound layout mem live None d lies state h = absurd (cc)
erases_sound layout mem live (Some r) d lies state h =
    does_sound layout mem (Live live) (EraseRecord r.name) d lies state tt h

lists_sound : (layout : List Zone) (mem : ℕ) (session : Session) (d : StoreDone) → IsState layout mem session
    → lists layout session ≡ Ok d → IsState layout mem d.session
lists_sound layout mem (Off off) d state h = absurd (cc)
lists_sound layout mem (Live live) d state h = rw (same_session (Live live) _ d h) state

extract_sound : (layout : List Zone) (mem : ℕ) (session : Session) (name : Text) (d : StoreDone)
    → IsState layout mem session → extracts layout session name ≡ Ok d → IsState layout mem d.session
extract_sound layout mem (Off off) name d state h = absurd (cc)
extract_sound layout mem (Live live) name d state h = extracts_sound layout mem live
    (named (saved_logs layout live) name) d state h

erase_sound : (layout : List Zone) (mem : ℕ) (session : Session) (name : Text) (d : StoreDone) → IsLayout layout mem
    → IsState layout mem session → erases layout session name ≡ Ok d → IsState layout mem d.session
erase_sound layout mem (Off off) name d lies state h = absurd (cc)
erase_sound layout mem (Live live) name d lies state h =
    erases_sound layout mem live (named (saved_logs layout live) name) d lies state h

-- a line of the store leaves a sound state sound
store_sound : (layout : List Zone) (mem : ℕ) (session : Session) (line : Line) (d : StoreDone) → IsLayout layout mem
    → IsState layout mem session → HasFields line → store_line layout session line ≡ Ok d → IsState layout mem d.session
unfolding store_line HasFields
store_sound layout mem session Blank d lies state fit h = rw (same_session session [] d h) state
store_sound layout mem session (Write z bytes) d lies state fit h =
    does_sound layout mem session _ d lies state (payload_bytes bytes fit.1) h
store_sound layout mem session (Dump t packed bytes) d lies state fit h =
    does_sound layout mem session _ d lies state (fit.0, payload_bytes bytes fit.1) h
store_sound layout mem session (BeginWrite z bytes) d lies state fit h =
    does_sound layout mem session _ d lies state (payload_bytes bytes fit.1) h
store_sound layout mem session (BeginDump t packed bytes) d lies state fit h =
    does_sound layout mem session _ d lies state (fit.0, payload_bytes bytes fit.1) h
store_sound layout mem session (Flip place m) d lies state fit h = does_sound layout mem session _ d lies state fit.2 h
store_sound layout mem session ListLine d lies state fit h = lists_sound layout mem session d state h
store_sound layout mem session (Extract name) d lies state fit h = extract_sound layout mem session name d state h
store_sound layout mem session (Erase name) d lies state fit h = erase_sound layout mem session name d lies state h
store_sound layout mem session (KDump secs nanos packed reason bytes) d lies state fit h = absurd (cc)
store_sound layout mem session (CutAfter k) d lies state fit h = absurd (cc)
store_sound layout mem session (KMsg bytes) d lies state fit h = absurd (cc)
store_sound layout mem session (Crash reason time) d lies state fit h = absurd (cc)
store_sound layout mem session (Reserve bytes) d lies state fit h = absurd (cc)
store_sound layout mem session (StoreNext ticket k) d lies state fit h = absurd (cc)
store_sound layout mem session line d lies state fit h = does_sound layout mem session _ d lies state tt h

-- ---- all lines

-- a sound state, and a kernel that printed bytes
pub record IsSound (layout : List Zone) (mem : ℕ) (session : Session) (kernel : Kernel) : Type 0 where
  pub state : IsState layout mem session
  pub printed : All IsPayload kernel.printed

-- a line of the store that was done beside a kernel
beside_done : (kernel : Kernel) (r : Result StoreDone Cause) (d : Done) → beside kernel r ≡ Ok d
    → (e : StoreDone) × (r ≡ Ok e) × (d.session ≡ e.session) × (d.kernel ≡ kernel)
beside_done kernel (Ok e) d h =
    let same : record { session = e.session; kernel = kernel; text = e.text } ≡ d = cc in
    (e, refl, ap (λ (x : Done). x.session) (sym same), ap (λ (x : Done). x.kernel) (sym same))
beside_done kernel (Err cause) d h = absurd (cc)

module _ (layout : List Zone) (mem : ℕ) (lies : IsLayout layout mem) (session : Session) (kernel : Kernel) where
  beside_sound : (next : Kernel) (line : Line) (d : Done) → IsSound layout mem session kernel
      → All IsPayload next.printed → HasFields line → beside next (store_line layout session line) ≡ Ok d
      → IsSound layout mem d.session d.kernel
  beside_sound next line d s printed fit h =
      let b = beside_done next (store_line layout session line) d h in
      record {
        state = rw b.2 (store_sound layout mem session line b.0 lies s.state fit b.1);
        printed = rw b.3 printed;
      }

prints_sound : (layout : List Zone) (mem : ℕ) (session : Session) (kernel : Kernel) (text : List ℕ) (d : Done)
    → IsSound layout mem session kernel → IsPayload text → prints session kernel text ≡ Ok d
    → IsSound layout mem d.session d.kernel
prints_sound layout mem (Off off) kernel text d s fit h = absurd (cc)
prints_sound layout mem (Live live) kernel text d s fit h = by (nat_lt log_limit (length text + 1)) h
  where
    next : Done
    next = record {
      session = Live live;
      kernel = record kernel { printed = kernel.printed ++ text ∷ [] };
      text = [];
    }

    by : (b : Bool) → cond b (Err TooLong) (Ok next) ≡ Ok d → IsSound layout mem d.session d.kernel
    by true h = absurd (cc)
    by false h =
        let same : next ≡ d = cc in
        rw (← same) (record { state = s.state; printed = All-push IsPayload kernel.printed text s.printed fit })

crash_fields : (time : Time) (body : List ℕ) → IsTime time → IsPayload body → HasFields (Dump time false body)
unfolding HasFields
crash_fields time body h k = (h, k)

crash_sound : (layout : List Zone) (mem : ℕ) (session : Session) (kernel : Kernel) (reason : ℕ) (time : Time)
    (d : Done) → IsLayout layout mem → IsSound layout mem session kernel → IsTime time
    → crashes layout session kernel reason time ≡ Ok d → IsSound layout mem d.session d.kernel
crash_sound layout mem (Off off) kernel reason time d lies s fit h = absurd (cc)
crash_sound layout mem (Live live) kernel reason time d lies s fit h =
    let bytes = body_bytes (reason_of reason) (kernel.crashes + 1) (room_in (dump_target layout live) time)
    (last_lines log_limit kernel.printed) (all_last IsPayload log_limit kernel.printed s.printed) in
    beside_sound layout mem lies (Live live) kernel (crashed kernel)
    (Dump time false (crash_body layout live kernel reason time)) d s s.printed
    (crash_fields time (crash_body layout live kernel reason time) fit bytes) h

message_bytes : (text : List ℕ) → HasFields (KMsg text) → IsPayload text
unfolding HasFields
message_bytes text h = h.0

crash_time : (reason : ℕ) (time : Time) → HasFields (Crash reason time) → IsTime time
unfolding HasFields
crash_time reason time h = h.2

-- a line leaves a sound state sound
line_sound : (layout : List Zone) (mem : ℕ) (session : Session) (kernel : Kernel) (line : Line) (d : Done)
    → IsLayout layout mem → IsSound layout mem session kernel → HasFields line
    → line_done layout session kernel line ≡ Ok d → IsSound layout mem d.session d.kernel
unfolding line_done
line_sound layout mem session kernel Boot d lies s fit h =
    beside_sound layout mem lies session kernel new_kernel Boot d s (All-nil IsPayload) fit h
line_sound layout mem session kernel Stop d lies s fit h =
    beside_sound layout mem lies session kernel new_kernel Stop d s (All-nil IsPayload) fit h
line_sound layout mem session kernel (KMsg text) d lies s fit h =
    prints_sound layout mem session kernel text d s (message_bytes text fit) h
line_sound layout mem session kernel (Crash reason time) d lies s fit h =
    crash_sound layout mem session kernel reason time d lies s (crash_time reason time fit) h
line_sound layout mem session kernel line d lies s fit h =
    beside_sound layout mem lies session kernel kernel line d s s.printed fit h

-- and so does a line of a script, done or not
on_sound : (layout : List Zone) (mem : ℕ) (r : Ran) (c : Option Cause) (next : Result Done Cause)
    → IsSound layout mem r.session r.kernel → ((d : Done) → next ≡ Ok d → IsSound layout mem d.session d.kernel)
    → IsSound layout mem (ran_on r c next).session (ran_on r c next).kernel
on_sound layout mem r (Some c) next sound done = sound
on_sound layout mem r None (Ok d) sound done = done d refl
on_sound layout mem r None (Err cause) sound done = sound

pub fold_sound : (layout : List Zone) (mem : ℕ) (lines : List Line) (r : Ran) → IsLayout layout mem
    → IsSound layout mem r.session r.kernel → AllHaveFields lines
    → IsSound layout mem (fold (next_line layout) r lines).session (fold (next_line layout) r lines).kernel
fold_sound layout mem [] r lies sound fit = sound
fold_sound layout mem (line ∷ lines) r lies sound fit =
    fold_sound layout mem lines (next_line layout r line) lies
    (on_sound layout mem r r.refused (line_done layout r.session r.kernel line) sound
    (λ d h. line_sound layout mem r.session r.kernel line d lies sound fit.0 h)) fit.1

pub take_fit : (k : ℕ) (lines : List Line) → AllHaveFields lines → AllHaveFields (take k lines)
take_fit zero lines fit = tt
take_fit (suc k) [] fit = tt
take_fit (suc k) (line ∷ lines) fit = (fit.0, take_fit k lines fit.1)

-- nothing is printed yet
pub start_sound : (layout : List Zone) (mem : ℕ) (image : List ℕ) → IsLayout layout mem → length image ≡ mem
    → AreBytes image → IsSound layout mem (started layout image).session (started layout image).kernel
start_sound layout mem image lies size bytes = record {
  state = fresh_is_sound layout mem image lies size bytes;
  printed = All-nil IsPayload;
}

pub states_sound : (layout : List Zone) (mem : ℕ) (image : List ℕ) (lines : List Line) → IsLayout layout mem
    → length image ≡ mem → AreBytes image → AllHaveFields lines → (k : ℕ)
    → IsState layout mem (ran layout image (take k lines)).session
states_sound layout mem image lines lies size bytes fit k =
    (fold_sound layout mem (take k lines) (started layout image) lies (start_sound layout mem image lies size bytes)
    (take_fit k lines fit)).state
