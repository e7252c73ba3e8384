-- What the kernel prints, and its crashes
use Rattle.std.proofs.Common.{◌≡◌, ℕ, zero, suc, ◌+◌, ◌-◌, ◌<◌, ◌≤◌, Bool, true, false, nat_le, List, [], ◌∷◌, ◌++◌}
use Rattle.std.proofs.Common.{length, Option, Some, None, Ok, Err, refl, sym, ap, ◌∙◌, arith, subst}
use Rattle.std.specs.Prelude.{not, ◌==◌, ◌||◌, cond, is_some, Result}
use Rattle.std.specs.Option.{option_map}
use Rattle.std.specs.Result.{result_err}
use Rattle.std.specs.List.{find, slice_get}
use Rattle.std.proofs.lemmas.Option.{get_or_from_slice_get}
use Rattle.std.proofs.lemmas.List.Quantifiers.{position-Some}
use Rattle.std.proofs.lemmas.List.Elements.{All-get_or}
use Rattle.std.proofs.lemmas.List.Sums.{AllPass-from_list_all}
use Rattle.std.proofs.lemmas.Bool.{leb-true, leb-false, lt-ltb, le-ltb, true≢false, and_parts}
use Rattle.zone_spec.specs.declared.Zone.{Zone}
use Rattle.zone_spec.specs.declared.Time.{Time}
use Rattle.zone_spec.specs.declared.ZoneName.{ZoneName}
use Rattle.zone_spec.specs.declared.Refusal.{Refusal}
use Rattle.zone_spec.specs.declared.Refusal.TheVariants.{Busy as BusyThere}
use Rattle.zone_spec.specs.Told.{Call}
use Rattle.zone_spec.specs.declared.Kind.TheVariants.{Dump as DumpKind}
use Rattle.zone_spec.specs.Layouts.{IsLayout, is_zone, zone_place}
use Rattle.zone_spec.specs.Records.{is_of}
use Rattle.zone_spec.specs.TimeLines.{line_text}
use Rattle.machine_spec.specs.States.{LiveZone, LiveState, Session, Off as OffOf, Live as LiveOf}
use Rattle.machine_spec.specs.Sound.{IsTime, IsState}
use Rattle.machine_spec.specs.ZoneCalls.{begun}
use Rattle.machine_spec.specs.LiveZones.{Target, target_of, target_at, changed}
use Rattle.machine_spec.specs.LiveCalls.{Dump as DumpAsk, call_of, asked_name, asked_zone, is_barred, begins, begin}
use Rattle.machine_spec.specs.LiveCalls.{and_finish}
use Rattle.machine_spec.specs.Operations.{answered}
use Rattle.prz_read.specs.Saving.{SavedLogs}
use Rattle.ramoops.specs.LiveSeen.{LiveSeen}
use Rattle.kmsg_spec.specs.declared.Reason.{Reason}
use Rattle.kmsg_spec.specs.Reasons.{reason_of}
use Rattle.kmsg_spec.specs.Bodies.{last_lines, body}
use Rattle.kmsg_dump.specs.Kept.{IsLine, Keeps}
use Rattle.grammar_spec.specs.Fields.{is_message}
use Rattle.grammar_spec.specs.Printed.{HasFields}
use Rattle.grammar_spec.specs.declared.line.Line.TheVariants.{KMsg, Crash, Dump, BeginDump}
use Rattle.script_spec.specs.Scripts.{Kernel as KernelOf, beside, prints, crash_body, crashed, log_limit, room_in}
use Rattle.script_spec.specs.Scripts.{dump_target, store_line, line_done, refusal_cause, done_or_refused}
use Rattle.script_spec.specs.declared.Cause.{Cause}
use Rattle.script_spec.specs.declared.Cause.TheVariants.{TooLong, NoZone}
use Rattle.ram_session.specs.Kernels.{StandsForKernel, DumpsAlike, left_in, first_room}
use Rattle.ram_session.specs.Sessions.{Live as LiveStore, Stands, LineDone, LineRefused, LineFails, IsWanted}
use Rattle.ram_session.specs.Machines.{HasKernel, MachineDone, MachineRefused, MachineFails, MachineTakes}
use Rattle.ram_session.proofs.Machines.{wanted_beside}
use Rattle.ram_session.specs.declared.kernel.Kernel.{Kernel}
use Rattle.ram_session.specs.declared.machine.Machine.TheVariants.{Live}
use Rattle.ram_session.specs.declared.machine.LineError.{LineError}
use Rattle.ram_session.specs.declared.machine.LineError.TheVariants.{Memory, Refused}

-- ---- a line that is printed

print_is : (layout : List Zone) (s : LiveState) (k : KernelOf) (text : List ℕ)
    → line_done layout (LiveOf s) k (KMsg text) ≡ prints (LiveOf s) k text
unfolding line_done
print_is layout s k text = refl

fits_is : (s : LiveState) (k : KernelOf) (text : List ℕ) → length text + 1 ≤ log_limit
    → prints (LiveOf s) k text ≡ Ok (record {
      session = LiveOf s;
      kernel = record k { printed = k.printed ++ text ∷ [] };
      text = [];
    })
fits_is s k text h = rw (le-ltb log_limit (length text + 1) h) refl

long_is : (s : LiveState) (k : KernelOf) (text : List ℕ) → log_limit < length text + 1
    → prints (LiveOf s) k text ≡ Err TooLong
long_is s k text h = rw (lt-ltb log_limit (length text + 1) h) refl

pub print_done : (live : LiveSeen) (logs : SavedLogs) (old new : Kernel) (text : List ℕ)
    → nat_le (length text + 1) old.log.capacity ≡ true → new.log.capacity ≡ old.log.capacity
    → new.crashes ≡ old.crashes
    → ((given : List (List ℕ)) → Keeps old.log given → Keeps new.log (given ++ text ∷ []))
    → MachineDone (Live live logs old) (KMsg text) (Live live logs new) []
print_done live logs old new text fits same count keeps layout mem (OffOf s) k lies alike stands has state =
    absurd stands
print_done live logs old new text fits same count keeps layout mem (LiveOf s) k lies alike stands has state =
    record {
      next = LiveOf s;
      kernel = record k { printed = k.printed ++ text ∷ [] };
      done = print_is layout s k text
          ∙ fits_is s k text (subst (λ (n : ℕ). length text + 1 ≤ n) has.limit
          (leb-true (length text + 1) old.log.capacity fits));
      stands = stands;
      has = record {
        log = keeps k.printed has.log;
        limit = same ∙ has.limit;
        crashes = count ∙ has.crashes;
      };
    }

pub print_refused : (live : LiveSeen) (logs : SavedLogs) (old : Kernel) (text : List ℕ)
    → nat_le (length text + 1) old.log.capacity ≡ false → MachineRefused (Live live logs old) (KMsg text) TooLong
print_refused live logs old text long layout mem (OffOf s) k lies alike stands has state = absurd stands
print_refused live logs old text long layout mem (LiveOf s) k lies alike stands has state =
    print_is layout s k text
    ∙ long_is s k text (subst (λ (n : ℕ). n < length text + 1) has.limit
    (leb-false (length text + 1) old.log.capacity long))

-- ---- the room of a crash

-- the first of a list that passes, where one does
pub record IsFound {X : Type 0} (p : X → Bool) (xs : List X) : Type 0 where
  pub item : X
  pub place : ℕ
  pub is : find p xs ≡ Some item
  pub there : slice_get xs place ≡ Some item
  pub passes : p item ≡ true

found_behind : {X : Type 0} (p : X → Bool) (x : X) (xs : List X) (b : Bool) → p x ≡ b
    → (b ≡ false → IsFound p xs) → IsFound p (x ∷ xs)
found_behind p x xs true e rest = record { item = x; place = 0; is = rw e refl; there = refl; passes = e }
found_behind p x xs false e rest = let r = rest refl in record {
  item = r.item;
  place = suc r.place;
  is = rw e r.is;
  there = r.there;
  passes = r.passes;
}

found : {X : Type 0} (p : X → Bool) (xs : List X) (i : ℕ) (z : X) → slice_get xs i ≡ Some z → p z ≡ true
    → IsFound p xs
found p [] i z e h = absurd (cc)
found p (x ∷ xs) zero z e h = let same : x ≡ z = cc in
    found_behind p x xs true (ap p same ∙ h) (λ n. absurd (true≢false n))
found p (x ∷ xs) (suc i) z e h = found_behind p x xs (p x) refl (λ n. found p xs i z e h)

-- the target of a dump is a dump zone of the layout
pub record IsDumpAt (layout : List Zone) (t : Target) : Type 0 where
  pub place : ℕ
  pub there : slice_get layout place ≡ Some t.zone
  pub dump : is_of DumpKind t.zone.name.kind ≡ true

dump_there : (layout : List Zone) (s : LiveState) (i n : ℕ) (z : Option Zone) (l : Option LiveZone) (t : Target)
    → zone_place layout (record { kind = DumpKind; index = n }) ≡ Some i → slice_get layout i ≡ z
    → target_of i z l ≡ Some t → IsDumpAt layout t
dump_there layout s i n (Some z) (Some l) t e g h =
    let whole : record { place = i; zone = z; live = l } ≡ t = cc in
    let same : z ≡ t.zone = ap (λ (x : Target). x.zone) whole in
    let passes = (position-Some (is_zone (record { kind = DumpKind; index = n })) layout i z e).1 in
    let named = ap (is_zone (record { kind = DumpKind; index = n })) (get_or_from_slice_get layout i z z g) in
    record {
      place = i;
      there = g ∙ ap Some same;
      dump = rw (← same) (and_parts (is_of DumpKind z.name.kind) (z.name.index == n) (sym named ∙ passes)).0;
    }
dump_there layout s i n (Some z) None t e g h = absurd (cc)
dump_there layout s i n None l t e g h = absurd (cc)

dump_at : (layout : List Zone) (s : LiveState) (t : Target) → dump_target layout s ≡ Some t → IsDumpAt layout t
dump_at layout s t h = by (zone_place layout (record { kind = DumpKind; index = s.cursor })) refl h
  where
    by : (o : Option ℕ) → zone_place layout (record { kind = DumpKind; index = s.cursor }) ≡ o
        → target_at layout s o ≡ Some t → IsDumpAt layout t
    by None e h = absurd (cc)
    by (Some i) e h = dump_there layout s i s.cursor (slice_get layout i) (slice_get s.zones i) t e refl h

room_same : (layout : List Zone) (s : LiveState) (t : Target) (time : Time) → DumpsAlike layout
    → dump_target layout s ≡ Some t → first_room layout time ≡ room_in (Some t) time
room_same layout s t time alike h =
    let d = dump_at layout s t h in
    let f = found (λ (z : Zone). is_of DumpKind z.name.kind) layout d.place t.zone d.there d.dump in
    ap (λ (o : Option Zone). left_in o time) f.is
    ∙ ap (λ (cap : ℕ). cap - length (line_text time false))
    (alike f.place d.place f.item t.zone f.there d.there f.passes d.dump)

-- ---- a crash

nowhere : (layout : List Zone) (s : LiveState) (time : Time) (bytes : List ℕ) → dump_target layout s ≡ None
    → store_line layout (LiveOf s) (Dump time false bytes) ≡ Err NoZone
unfolding store_line
nowhere layout s time bytes e = rw e refl

-- where there is a dump zone, the room is that of the first; and without one the body is never told
same_dump : (layout : List Zone) (s : LiveState) (time : Time) (dumps : ℕ → List ℕ) (o : Option Target)
    → DumpsAlike layout → dump_target layout s ≡ o
    → store_line layout (LiveOf s) (Dump time false (dumps (room_in o time)))
    ≡ store_line layout (LiveOf s) (Dump time false (dumps (first_room layout time)))
same_dump layout s time dumps None alike e =
    nowhere layout s time (dumps 0) e ∙ sym (nowhere layout s time (dumps (first_room layout time)) e)
same_dump layout s time dumps (Some t) alike e =
    ap (λ (n : ℕ). store_line layout (LiveOf s) (Dump time false (dumps n))) (sym (room_same layout s t time alike e))

crash_is : (layout : List Zone) (s : LiveState) (k : KernelOf) (reason : ℕ) (time : Time)
    → line_done layout (LiveOf s) k (Crash reason time)
    ≡ beside (crashed k) (store_line layout (LiveOf s) (Dump time false (crash_body layout s k reason time)))
unfolding line_done
crash_is layout s k reason time = refl

-- the body that is dumped, by the kernel
abbrev pub IsBody : List Zone → Kernel → ℕ → Time → List ℕ → Type 0
IsBody layout kernel reason time bytes = (given : List (List ℕ)) → Keeps kernel.log given
    → bytes ≡ body (reason_of reason) (kernel.crashes + 1) (first_room layout time) (last_lines kernel.log.capacity given)

pub told_body : (layout zones : List Zone) (kernel : Kernel) (reason : ℕ) (time : Time) (bytes : List ℕ) (why : Reason)
    (room : ℕ) → why ≡ reason_of reason → room ≡ first_room zones time → zones ≡ layout
    → ((given : List (List ℕ)) → Keeps kernel.log given
    → bytes ≡ body why (kernel.crashes + 1) room (last_lines kernel.log.capacity given))
    → IsBody layout kernel reason time bytes
told_body layout zones kernel reason time bytes why room e f g is given keeps =
    let lines = last_lines kernel.log.capacity given in
    is given keeps ∙ ap (λ (w : Reason). body w (kernel.crashes + 1) room lines) e
    ∙ ap (λ (n : ℕ). body (reason_of reason) (kernel.crashes + 1) n lines)
    (f ∙ ap (λ (l : List Zone). first_room l time) g)

body_same : (layout : List Zone) (kernel : Kernel) (k : KernelOf) (reason : ℕ) (time : Time) (bytes : List ℕ)
    → StandsForKernel kernel k → IsBody layout kernel reason time bytes
    → bytes ≡ body (reason_of reason) (k.crashes + 1) (first_room layout time) (last_lines log_limit k.printed)
body_same layout kernel k reason time bytes has is =
    is k.printed has.log
    ∙ ap (λ (n : ℕ). body (reason_of reason) (n + 1) (first_room layout time)
    (last_lines kernel.log.capacity k.printed)) has.crashes
    ∙ ap (λ (n : ℕ). body (reason_of reason) (k.crashes + 1) (first_room layout time) (last_lines n k.printed)) has.limit

dumped : (layout : List Zone) (s : LiveState) (kernel : Kernel) (k : KernelOf) (reason : ℕ) (time : Time)
    (bytes : List ℕ) → DumpsAlike layout → StandsForKernel kernel k → IsBody layout kernel reason time bytes
    → line_done layout (LiveOf s) k (Crash reason time)
    ≡ beside (crashed k) (store_line layout (LiveOf s) (Dump time false bytes))
dumped layout s kernel k reason time bytes alike has is =
    let dumps : ℕ → List ℕ = λ room. body (reason_of reason) (k.crashes + 1) room (last_lines log_limit k.printed) in
    crash_is layout s k reason time
    ∙ ap (beside (crashed k)) (same_dump layout s time dumps (dump_target layout s) alike refl
    ∙ ap (λ (b : List ℕ). store_line layout (LiveOf s) (Dump time false b))
    (sym (body_same layout kernel k reason time bytes has is)))

pub crash_done : (old new : LiveSeen) (logs : SavedLogs) (kernel kernel' : Kernel) (reason : ℕ) (time : Time)
    (bytes : List ℕ) → IsBody old.layout kernel reason time bytes → kernel'.log ≡ kernel.log
    → kernel'.crashes ≡ kernel.crashes + 1
    → LineDone (LiveStore old logs) (Dump time false bytes) (LiveStore new logs) []
    → MachineDone (Live old logs kernel) (Crash reason time) (Live new logs kernel') []
crash_done old new logs kernel kernel' reason time bytes is same count done layout mem (OffOf s) k lies alike stands
    has state = absurd stands
crash_done old new logs kernel kernel' reason time bytes is same count done layout mem (LiveOf s) k lies alike stands
    has state =
    let d = done layout mem (LiveOf s) lies stands state in
    let here : IsBody layout kernel reason time bytes = rw stands.0.same_layout at is in
    record {
      next = d.next;
      kernel = crashed k;
      done = dumped layout s kernel k reason time bytes alike has here ∙ ap (beside (crashed k)) d.done;
      stands = d.stands;
      has = record {
        log = rw same has.log;
        limit = rw same has.limit;
        crashes = count ∙ ap (λ (n : ℕ). n + 1) has.crashes;
      };
    }

crash_refused : (old : LiveSeen) (logs : SavedLogs) (kernel : Kernel) (reason : ℕ) (time : Time) (bytes : List ℕ)
    (cause : Cause) → IsBody old.layout kernel reason time bytes
    → LineRefused (LiveStore old logs) (Dump time false bytes) cause
    → MachineRefused (Live old logs kernel) (Crash reason time) cause
crash_refused old logs kernel reason time bytes cause is fails layout mem (OffOf s) k lies alike stands has state =
    absurd stands
crash_refused old logs kernel reason time bytes cause is fails layout mem (LiveOf s) k lies alike stands has state =
    let here : IsBody layout kernel reason time bytes = rw stands.0.same_layout at is in
    dumped layout s kernel k reason time bytes alike has here
    ∙ ap (beside (crashed k)) (fails layout mem (LiveOf s) lies stands state)

pub crash_fails : (old : LiveSeen) (logs : SavedLogs) (kernel : Kernel) (reason : ℕ) (time : Time) (bytes : List ℕ)
    (e : LineError) → IsBody old.layout kernel reason time bytes
    → LineFails (LiveStore old logs) (Dump time false bytes) e
    → MachineFails (Live old logs kernel) (Crash reason time) e
crash_fails old logs kernel reason time bytes Memory is fails = absurd fails.takes
crash_fails old logs kernel reason time bytes (Refused cause) is fails =
    crash_refused old logs kernel reason time bytes cause is fails

-- ---- a crash whose body finds no memory

alike : {T E : Type 0} (b : Bool) (e : E) (x y : T) → result_err (cond b (Err e) (Ok x))
    ≡ result_err (cond b (Err e) (Ok y))
alike true e x y = refl
alike false e x y = refl

-- whether a call is refused does not stand on its bytes
begins_alike : (layout : List Zone) (s : LiveState) (c d : Call) (barred : Bool) (o : Option Target)
    → result_err (begins layout s c barred o) ≡ result_err (begins layout s d barred o)
begins_alike layout s c d barred None = refl
begins_alike layout s c d barred (Some t) = alike (barred || is_some t.live.flight) BusyThere
    (changed layout s t (λ z zone. begun z c zone)) (changed layout s t (λ z zone. begun z d zone))

made_as : (layout : List Zone) (s : LiveState) (name : ZoneName) (r : Result LiveState Refusal)
    → result_err (done_or_refused (LiveOf s) [] (answered (and_finish layout name r)))
    ≡ option_map refusal_cause (result_err r)
made_as layout s name (Ok next) = refl
made_as layout s name (Err why) = refl

begun_as : (s : LiveState) (r : Result LiveState Refusal)
    → result_err (done_or_refused (LiveOf s) [] (answered r)) ≡ option_map refusal_cause (result_err r)
begun_as s (Ok next) = refl
begun_as s (Err why) = refl

dump_alike : (layout : List Zone) (s : LiveState) (time : Time) (bytes other : List ℕ)
    → result_err (store_line layout (LiveOf s) (Dump time false bytes))
    ≡ result_err (store_line layout (LiveOf s) (BeginDump time false other))
unfolding store_line
dump_alike layout s time bytes other =
    let barred = is_barred layout s (DumpAsk time false bytes) in
    let zone = asked_zone layout s (DumpAsk time false bytes) in
    made_as layout s (asked_name s (DumpAsk time false bytes)) (begin layout s (DumpAsk time false bytes))
    ∙ ap (option_map refusal_cause) (begins_alike layout s (call_of (DumpAsk time false bytes))
    (call_of (DumpAsk time false other)) barred zone)
    ∙ sym (begun_as s (begin layout s (DumpAsk time false other)))

wants_unless : {T : Type 0} (r : Result T Cause) → result_err r ≡ None → IsWanted r
wants_unless (Ok x) e = record { wants = x; is = refl }
wants_unless (Err c) e = absurd (cc)

refuses_as : {T : Type 0} (r : Result T Cause) (cause : Cause) → result_err r ≡ Some cause → r ≡ Err cause
refuses_as (Ok x) cause e = absurd (cc)
refuses_as (Err c) cause e = let same : c ≡ cause = cc in ap Err same

-- a dump that begins without a body tells that the crash is not refused
pub crash_takes : (old new : LiveSeen) (logs : SavedLogs) (kernel : Kernel) (reason : ℕ) (time : Time)
    (none : List ℕ) → LineDone (LiveStore old logs) (BeginDump time false none) (LiveStore new logs) []
    → MachineTakes (Live old logs kernel) (Crash reason time)
crash_takes old new logs kernel reason time none made = record { takes = tt; wanted = by }
  where
    by : (layout : List Zone) (mem : ℕ) (s : Session) (k : KernelOf) → IsLayout layout mem → DumpsAlike layout
        → Stands layout mem (LiveStore old logs) s → HasKernel (Live old logs kernel) k → IsState layout mem s
        → IsWanted (line_done layout s k (Crash reason time))
    by layout mem (OffOf s) k lies alike stands has state = absurd stands
    by layout mem (LiveOf s) k lies alike stands has state =
        let body = crash_body layout s k reason time in
        wanted_beside (crashed k) (line_done layout (LiveOf s) k (Crash reason time))
        (store_line layout (LiveOf s) (Dump time false body)) (crash_is layout s k reason time)
        (wants_unless (store_line layout (LiveOf s) (Dump time false body))
        (dump_alike layout s time body none ∙ ap result_err (made layout mem (LiveOf s) lies stands state).done))

unbegun_refused : (old : LiveSeen) (logs : SavedLogs) (kernel : Kernel) (reason : ℕ) (time : Time) (none : List ℕ)
    (cause : Cause) → LineRefused (LiveStore old logs) (BeginDump time false none) cause
    → MachineRefused (Live old logs kernel) (Crash reason time) cause
unbegun_refused old logs kernel reason time none cause fails layout mem (OffOf s) k lies alike stands has state =
    absurd stands
unbegun_refused old logs kernel reason time none cause fails layout mem (LiveOf s) k lies alike stands has state =
    let body = crash_body layout s k reason time in
    crash_is layout s k reason time
    ∙ ap (beside (crashed k)) (refuses_as (store_line layout (LiveOf s) (Dump time false body)) cause
    (dump_alike layout s time body none ∙ ap result_err (fails layout mem (LiveOf s) lies stands state)))

-- and one that is refused tells why the crash is
pub crash_unbegun : (old : LiveSeen) (logs : SavedLogs) (kernel : Kernel) (reason : ℕ) (time : Time) (none : List ℕ)
    (e : LineError) → LineFails (LiveStore old logs) (BeginDump time false none) e
    → MachineFails (Live old logs kernel) (Crash reason time) e
crash_unbegun old logs kernel reason time none Memory fails = absurd fails.takes
crash_unbegun old logs kernel reason time none (Refused cause) fails =
    unbegun_refused old logs kernel reason time none cause fails

-- ---- the fields of such lines

line_at : (text : List ℕ) → is_message text ≡ true → IsLine text
line_at text h k below e =
    let passes = All-get_or (λ b. not (b == 0x0a) ≡ true) text k 0 below (AllPass-from_list_all _ text h) in
    grind (arith, passes, e)

pub kmsg_line : (text : List ℕ) → HasFields (KMsg text) → IsLine text
unfolding HasFields
kmsg_line text h = line_at text h.1

pub crash_time : (reason : ℕ) (time : Time) → HasFields (Crash reason time) → IsTime time
unfolding HasFields
crash_time reason time h = h.2
