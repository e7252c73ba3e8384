-- A crash in a script, and what a later boot lists of it
use Rattle.std.proofs.Common.{◌≡◌, ℕ, zero, suc, true, false, List, [], ◌∷◌, ◌++◌, length, take, drop, slice_get}
use Rattle.std.proofs.Common.{is_some, Contains, Option, Some, None, Result, Ok, Err, refl, sym, ap, ◌∙◌, subst, arith}
use Rattle.std.specs.List.{fold}
use Rattle.std.proofs.lemmas.Bool.{and_parts}
use Rattle.std.proofs.lemmas.List.Sums.{fold-append}
use Rattle.std.proofs.lemmas.List.Elements.{All-nil}
use Rattle.zone_spec.specs.declared.Zone.{Zone}
use Rattle.zone_spec.specs.declared.ZoneName.{ZoneName}
use Rattle.zone_spec.specs.declared.Time.{Time}
use Rattle.zone_spec.specs.declared.TimeLine.{TimeLine}
use Rattle.zone_spec.specs.declared.Kind.TheVariants.{Dump as DumpKind}
use Rattle.zone_spec.specs.declared.Name.TheVariants.{Dump as DumpName}
use Rattle.zone_spec.specs.Parts.{AreBytes}
use Rattle.zone_spec.specs.Layouts.{IsLayout}
use Rattle.zone_spec.specs.TimeLines.{line_text, read_line, has_line}
use Rattle.zone_spec.specs.Records.{is_of, listed_of}
use Rattle.machine_spec.specs.States.{LiveState, OffState, Session, Off, Live}
use Rattle.machine_spec.specs.Erasures.{saved_logs}
use Rattle.machine_spec.specs.Stop.{stopped}
use Rattle.machine_spec.specs.Boot.{booted}
use Rattle.machine_spec.specs.LiveZones.{Target}
use Rattle.machine_spec.specs.Sound.{IsState, IsTime}
use Rattle.machine_spec.specs.Operations.{operated, Boot as BootStore}
use Rattle.machine_laws.proofs.Operations.{fresh_is_sound}
use Rattle.machine_laws.proofs.Targets.{target-some}
use Rattle.dump_records.proofs.Lines.{read_back}
use Rattle.grammar_spec.specs.declared.line.Line.{Line}
use Rattle.grammar_spec.specs.declared.line.Line.TheVariants.{Boot, Crash, Stop}
use Rattle.grammar_spec.specs.Printed.{HasFields, AllHaveFields, IsPayload}
use Rattle.script_spec.specs.Scripts.{StoreDone, Kernel, new_kernel, Done, Ran, ran, ran_on, next_line, started, put_by}
use Rattle.script_spec.specs.Scripts.{store_line, line_done, crash_body, dump_target}
use Rattle.script_spec.specs.declared.Cause.{Cause}
use Rattle.script_laws.specs.Crashes.{CrashesAreToldWhole}
use Rattle.script_laws.proofs.SoundStates.{IsSound, fold_sound}
use Rattle.crash_laws.specs.Standing.{IsToldOff, IsTold}
use Rattle.crash_laws.specs.Lines.{spares, AllSpare}
use Rattle.crash_laws.specs.Listings.{crash_dump, crash_record, Lists, LaterBootListsCrash, NextBootListsCrash}
use Rattle.crash_laws.proofs.Items.{behind_of}
use Rattle.crash_laws.proofs.Calls.{named}
use Rattle.crash_laws.proofs.Entries.{IsFirst, dump_first}
use Rattle.crash_laws.proofs.Stops.{boot_lists, boot_names}
use Rattle.crash_laws.proofs.DumpOfCrash.{beside_done, operation_done, Crashed, crash_leaves}
use Rattle.crash_laws.proofs.DumpZoneStays.{line_keeps}

-- ---- fields of lines

pub left_fields : (xs ys : List Line) → AllHaveFields (xs ++ ys) → AllHaveFields xs
left_fields [] ys h = tt
left_fields (x ∷ xs) ys h = (h.0, left_fields xs ys h.1)

right_fields : (xs ys : List Line) → AllHaveFields (xs ++ ys) → AllHaveFields ys
right_fields [] ys h = h
right_fields (x ∷ xs) ys h = right_fields xs ys h.1

crash_time : (reason : ℕ) (time : Time) → HasFields (Crash reason time) → IsTime time
unfolding HasFields
crash_time reason time h = h.2

-- ---- lines that are not refused

never_from : (layout : List Zone) (lines : List Line) (r : Ran) → (fold (next_line layout) r lines).refused ≡ None
    → r.refused ≡ None
never_from layout [] r h = h
never_from layout (line ∷ lines) r h =
    by r.refused refl (never_from layout lines (next_line layout r line) h)
  where
    by : (c : Option Cause) → r.refused ≡ c
        → (ran_on r c (line_done layout r.session r.kernel line)).refused ≡ None → r.refused ≡ None
    by None e k = e
    by (Some cause) e k = k

pub record WasDone (layout : List Zone) (r : Ran) (line : Line) : Type 0 where
  pub done : Done
  pub is_done : line_done layout r.session r.kernel line ≡ Ok done
  pub session : (next_line layout r line).session ≡ done.session
  pub refused : r.refused ≡ None

was_done : (layout : List Zone) (r : Ran) (line : Line) → (next_line layout r line).refused ≡ None
    → WasDone layout r line
was_done layout r line h = by r.refused (line_done layout r.session r.kernel line) refl refl h
  where
    by : (c : Option Cause) (result : Result Done Cause) → r.refused ≡ c
        → line_done layout r.session r.kernel line ≡ result → (ran_on r c result).refused ≡ None
        → WasDone layout r line
    by (Some cause) result e f k = (let clash : Some cause ≡ None = sym e ∙ k in absurd (cc))
    by None (Ok done) e f k = record {
      done = done;
      is_done = f;
      session = rw (e, f) refl;
      refused = e;
    }
    by None (Err cause) e f k = absurd (cc)

-- ---- lines that leave a dump zone alone

abbrev SpareFrom : List Zone → Zone → Ran → List Line → Type 0
SpareFrom layout z r lines = (k : ℕ) (line : Line) → slice_get lines k ≡ Some line
    → spares z (fold (next_line layout) r (take k lines)).session line ≡ true

module _ (layout : List Zone) (mem : ℕ) (lies : IsLayout layout mem) (z : Zone) (place : ℕ)
    (hz : slice_get layout place ≡ Some z) (told : List ℕ) (kind : is_of DumpKind z.name.kind ≡ true)
    (line : has_line told ≡ true) where
  run_keeps : (lines : List Line) (r : Ran) → IsSound layout mem r.session r.kernel → AllHaveFields lines
      → SpareFrom layout z r lines → (fold (next_line layout) r lines).refused ≡ None
      → IsTold z place told r.session → IsTold z place told (fold (next_line layout) r lines).session
  run_keeps [] r sound fit spare none k = k
  run_keeps (first ∷ lines) r sound fit spare none k =
      let after = next_line layout r first in
      let d = was_done layout r first (never_from layout lines after none) in
      let here : IsTold z place told after.session = subst (IsTold z place told) (sym d.session)
      (line_keeps layout mem lies z place hz told kind line r.session r.kernel first d.done sound.state
      (spare 0 first refl) k d.is_done) in
      run_keeps lines after (fold_sound layout mem (first ∷ []) r lies sound (fit.0, tt)) fit.1
      (λ i next e. spare (suc i) next e) none here

-- ---- a boot

boot_done : (layout : List Zone) (session : Session) (kernel : Kernel) (done : Done)
    → line_done layout session kernel Boot ≡ Ok done
    → (off : OffState) × (session ≡ Off off) × (done.session ≡ Live (booted layout off))
unfolding line_done store_line
boot_done layout session kernel done h = by session b.1 (b.2)
  where
    b : (e : StoreDone) × (store_line layout session Boot ≡ Ok e) × (done.session ≡ e.session)
    b = beside_done new_kernel (store_line layout session Boot) done h

    by : (s : Session) → store_line layout s Boot ≡ Ok b.0 → done.session ≡ b.0.session
        → (off : OffState) × (s ≡ Off off) × (done.session ≡ Live (booted layout off))
    by (Live live) f g = absurd (cc)
    by (Off off) f g =
        let a = operation_done (Off off) (put_by layout (Off off) BootStore) (operated layout (Off off) BootStore) b.0
        f in
        let same : Live (booted layout off) ≡ a.0 = cc in
        (off, refl, g ∙ a.2 ∙ sym same)

lists_record : (layout : List Zone) (mem : ℕ) (lies : IsLayout layout mem) (z : Zone) (place : ℕ)
    → slice_get layout place ≡ Some z → is_of DumpKind z.name.kind ≡ true → IsFirst layout place z.name.index
    → (time : Time) → IsTime time → (body : List ℕ) (session : Session) (kernel : Kernel) (done : Done)
    → IsState layout mem session
    → IsTold z place (line_text time false ++ body) session → line_done layout session kernel Boot ≡ Ok done
    → Lists layout done.session (crash_record z time body)
lists_record layout mem lies z place hz kind first time fit body session kernel done state k h =
    let text = line_text time false in
    let b = boot_done layout session kernel done h in
    let off = b.0 in
    let line : TimeLine = record { time = time; packed = false; len = length text } in
    let is : read_line (text ++ body) ≡ Some line = read_back time false body fit.0 fit.1 in
    let state_off : IsState layout mem (Off off) = subst (IsState layout mem) b.1 state in
    let told_off : IsToldOff z place (text ++ body) off = subst (IsTold z place (text ++ body)) b.1 k in
    let listed = boot_lists layout mem lies z place hz (text ++ body) off line state_off kind is told_off in
    let found = boot_names layout mem lies z place hz (text ++ body) off time (length text) state_off kind is first
    told_off in
    let rest : drop (length text) (text ++ body) ≡ body = behind_of text body (length text) 0 (omega arith) in
    record {
      live = booted layout off;
      is_live = b.2;
      listed = subst (λ (xs : List ℕ). Contains (listed_of (saved_logs layout (booted layout off)))
          (record { name = DumpName z.name.index false; content = xs; time = Some time })) rest listed;
      named = found ∙ ap (λ (xs : List ℕ). Some (record
          { name = DumpName z.name.index false; content = xs; time = Some time })) rest;
    }

-- ---- a crash, lines, and a boot

start_sound : (layout : List Zone) (mem : ℕ) (image : List ℕ) → IsLayout layout mem → length image ≡ mem
    → AreBytes image → IsSound layout mem (started layout image).session (started layout image).kernel
start_sound layout mem image lies size bytes = record {
  state = fresh_is_sound layout mem image lies size bytes;
  printed = All-nil IsPayload;
}

crash_behind : (layout : List Zone) (image : List ℕ) (before : List Line) (crash : Line)
    → ran layout image (before ++ crash ∷ []) ≡ next_line layout (ran layout image before) crash
crash_behind layout image before crash =
    fold-append (next_line layout) (started layout image) before (crash ∷ [])

lines_behind : (layout : List Zone) (image : List ℕ) (before : List Line) (crash : Line) (lines : List Line)
    → ran layout image (before ++ crash ∷ [] ++ lines)
    ≡ fold (next_line layout) (next_line layout (ran layout image before) crash) lines
lines_behind layout image before crash lines =
    fold-append (next_line layout) (started layout image) (before ++ crash ∷ []) lines
    ∙ ap (λ (r : Ran). fold (next_line layout) r lines) (crash_behind layout image before crash)

boot_behind : (layout : List Zone) (image : List ℕ) (before : List Line) (crash : Line) (lines : List Line)
    → ran layout image (before ++ crash ∷ [] ++ lines ++ Boot ∷ [])
    ≡ next_line layout (fold (next_line layout) (next_line layout (ran layout image before) crash) lines) Boot
boot_behind layout image before crash lines =
    fold-append (next_line layout) (started layout image) (before ++ crash ∷ [] ++ lines) (Boot ∷ [])
    ∙ ap (λ (r : Ran). next_line layout r Boot) (lines_behind layout image before crash lines)

dump_zone : (layout : List Zone) (live : LiveState) (t : Target) → dump_target layout live ≡ Some t
    → is_of DumpKind t.zone.name.kind ≡ true
dump_zone layout live t e =
    let name : ZoneName = record { kind = DumpKind; index = live.cursor } in
    (and_parts (is_of DumpKind t.zone.name.kind) _ (named layout live name t e)).0

-- a crash that was done in a script
crash_done : CrashesAreToldWhole → (layout : List Zone) (r : Ran) (reason : ℕ) (time : Time) (live : LiveState)
    (t : Target) → r.session ≡ Live live → dump_target layout live ≡ Some t
    → (next_line layout r (Crash reason time)).refused ≡ None
    → Crashed layout live r.kernel reason time t (next_line layout r (Crash reason time)).session
crash_done whole layout r reason time live t is e none =
    let d = was_done layout r (Crash reason time) none in
    let at : line_done layout (Live live) r.kernel (Crash reason time) ≡ Ok d.done =
    ap (λ (s : Session). line_done layout s r.kernel (Crash reason time)) (sym is) ∙ d.is_done in
    subst (Crashed layout live r.kernel reason time t) (sym d.session)
    (crash_leaves whole layout live r.kernel reason time d.done t e at)

pub later_boot : CrashesAreToldWhole → LaterBootListsCrash
later_boot whole layout mem image before between reason time live t lies size bytes fit is e spare none =
    let crash = Crash reason time in
    let r = ran layout image before in
    let after = next_line layout r crash in
    let last = fold (next_line layout) after between in
    let all = boot_behind layout image before crash between in
    let end : (next_line layout last Boot).refused ≡ None = ap (λ (s : Ran). s.refused) (sym all) ∙ none in
    let d = was_done layout last Boot end in
    let first = never_from layout between after d.refused in
    let hz = (target-some layout live (record { kind = DumpKind; index = live.cursor }) t e).0 in
    let kind = dump_zone layout live t e in
    let own = left_fields (before ++ crash ∷ []) between fit in
    let clock = crash_time reason time (right_fields before (crash ∷ []) own).0 in
    let body = crash_body layout live r.kernel reason time in
    let dump = crash_dump layout live r.kernel reason time in
    let line : has_line dump ≡ true = ap (λ (o : Option TimeLine). is_some o)
    (read_back time false body clock.0 clock.1) in
    let sound = fold_sound layout mem before (started layout image) lies
    (start_sound layout mem image lies size bytes) (left_fields before (crash ∷ []) own) in
    let sound_after = fold_sound layout mem (crash ∷ []) r lies sound (right_fields before (crash ∷ []) own) in
    let fit_between = right_fields (before ++ crash ∷ []) between fit in
    let c = crash_done whole layout r reason time live t is e first in
    let told : IsTold t.zone t.place dump after.session =
    subst (IsTold t.zone t.place dump) (sym c.is_live) c.told in
    let kept = run_keeps layout mem lies t.zone t.place hz dump kind line between after sound_after fit_between
    (λ k next at. ap (λ (s : Ran). spares t.zone s.session next)
    (sym (lines_behind layout image before crash (take k between))) ∙ spare k next at) d.refused told in
    let sound_last = fold_sound layout mem between after lies sound_after fit_between in
    let lists = lists_record layout mem lies t.zone t.place hz kind
    (dump_first layout live t e) time clock body last.session last.kernel d.done
    sound_last.state kept d.is_done in
    subst (λ (s : Session). Lists layout s (crash_record t.zone time body))
    (sym (ap (λ (s : Ran). s.session) all ∙ d.session)) lists

-- ---- a crash, a stop, and a boot

stop_done : (layout : List Zone) (r : Ran) (live : LiveState) → r.refused ≡ None → r.session ≡ Live live
    → next_line layout r Stop ≡ record {
      session = Off (stopped layout live);
      kernel = new_kernel;
      texts = r.texts ++ [] ∷ [];
      refused = None;
    }
unfolding line_done store_line
stop_done layout r live none is = rw (none, is) refl

boot_after : (layout : List Zone) (r : Ran) (off : OffState) → r.refused ≡ None → r.session ≡ Off off
    → (next_line layout r Boot).refused ≡ None
unfolding line_done store_line
boot_after layout r off none is = rw (none, is) refl

and_stop : (lines : List Line) → AllHaveFields lines → AllHaveFields (lines ++ Stop ∷ [])
unfolding HasFields
and_stop [] h = (tt, tt)
and_stop (line ∷ lines) h = (h.0, and_stop lines h.1)

pub next_boot : CrashesAreToldWhole → NextBootListsCrash
next_boot whole layout mem image before reason time live t lies size bytes fit is e none =
    let crash = Crash reason time in
    let r = ran layout image before in
    let after = next_line layout r crash in
    let first : after.refused ≡ None =
    ap (λ (s : Ran). s.refused) (sym (crash_behind layout image before crash)) ∙ none in
    let c = crash_done whole layout r reason time live t is e first in
    let stop = stop_done layout after c.next first c.is_live in
    let end : (next_line layout (next_line layout after Stop) Boot).refused ≡ None =
    boot_after layout (next_line layout after Stop) (stopped layout c.next) (ap (λ (s : Ran). s.refused) stop)
    (ap (λ (s : Ran). s.session) stop) in
    later_boot whole layout mem image before (Stop ∷ []) reason time live t lies size bytes
    (and_stop (before ++ crash ∷ []) fit) is e spare
    (ap (λ (s : Ran). s.refused) (boot_behind layout image before crash (Stop ∷ [])) ∙ end)
  where
    spare : AllSpare layout image t.zone (before ++ Crash reason time ∷ []) (Stop ∷ [])
    spare zero line e = (let same : Stop ≡ line = cc in
        ap (λ (l : Line). spares t.zone
        (ran layout image (before ++ Crash reason time ∷ [] ++ take 0 (Stop ∷ []))).session l) (sym same))
    spare (suc k) line e = absurd (cc)
