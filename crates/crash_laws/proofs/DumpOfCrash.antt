-- What a crash tells its zone
use Rattle.std.proofs.Common.{◌≡◌, ℕ, Bool, false, List, Option, Some, Result, Ok, Err, refl, sym, ap, ◌∙◌, subst}
use Rattle.zone_spec.specs.declared.Zone.{Zone}
use Rattle.zone_spec.specs.declared.Time.{Time}
use Rattle.zone_spec.specs.declared.Refusal.{Refusal}
use Rattle.zone_spec.specs.declared.Kind.TheVariants.{Dump as DumpKind}
use Rattle.zone_spec.specs.TimeLines.{line_text}
use Rattle.zone_spec.specs.Told.{Dump as DumpCall, told_after}
use Rattle.zone_spec.specs.Records.{is_of}
use Rattle.machine_spec.specs.States.{LiveState, Session, Live}
use Rattle.machine_spec.specs.LiveZones.{Target, flies}
use Rattle.machine_spec.specs.LiveCalls.{Dump as AskDump, asked_name, begins, make, and_finish}
use Rattle.machine_spec.specs.Operations.{operated, answered, Make, Cause as SessionCause}
use Rattle.grammar_spec.specs.Fields.{Text}
use Rattle.grammar_spec.specs.declared.line.Line.TheVariants.{Dump, Crash}
use Rattle.script_spec.specs.Scripts.{StoreDone, Kernel, Done, beside, done_or_refused, put_by, store_line, line_done}
use Rattle.script_spec.specs.Scripts.{crash_body, crashed, dump_target}
use Rattle.script_spec.specs.declared.Cause.{Cause}
use Rattle.script_laws.specs.Crashes.{CrashesAreToldWhole}
use Rattle.crash_laws.specs.Standing.{IsToldLive, IsTold}
use Rattle.crash_laws.specs.Listings.{crash_dump, CrashTellsZone}
use Rattle.crash_laws.proofs.Calls.{made_whole, dump_stores}

-- ---- what was done

pub beside_done : (kernel : Kernel) (r : Result StoreDone Cause) (done : Done) → beside kernel r ≡ Ok done
    → (e : StoreDone) × (r ≡ Ok e) × (done.session ≡ e.session)
beside_done kernel (Ok e) done h =
    let same : record { session = e.session; kernel = kernel; text = e.text } ≡ done = cc in
    (e, refl, ap (λ (x : Done). x.session) (sym same))
beside_done kernel (Err cause) done h = absurd (cc)

pub operation_done : (session : Session) (text : Text) (r : Result Session SessionCause) (e : StoreDone)
    → done_or_refused session text r ≡ Ok e → (next : Session) × (r ≡ Ok next) × (e.session ≡ next)
operation_done session text (Ok next) e h =
    let same : record { session = next; text = text } ≡ e = cc in
    (next, refl, ap (λ (x : StoreDone). x.session) (sym same))
operation_done session text (Err cause) e h = absurd (cc)

pub answer_done : (r : Result LiveState Refusal) (session : Session) → answered r ≡ Ok session
    → (live : LiveState) × (r ≡ Ok live) × (session ≡ Live live)
answer_done (Ok live) session h = let same : Live live ≡ session = cc in (live, refl, sym same)
answer_done (Err why) session h = absurd (cc)

-- ---- a dump

dump_made : (layout : List Zone) (live next : LiveState) (time : Time) (packed : Bool) (body : List ℕ) (t : Target)
    → dump_target layout live ≡ Some t → make layout live (AskDump time packed body) ≡ Ok next
    → IsToldLive t.place (told_after t.zone.cap (DumpCall (line_text time packed) body) t.live.told) next
dump_made layout live next time packed body t e h =
    let ask = AskDump time packed body in
    made_whole layout live next (asked_name live ask) (DumpCall (line_text time packed) body)
    (flies layout live (λ z. is_of DumpKind z.name.kind)) t e
    (dump_stores t.zone (line_text time packed) body t.live.image)
    (ap (λ (o : Option Target). and_finish layout (asked_name live ask) (begins layout live
    (DumpCall (line_text time packed) body) (flies layout live (λ z. is_of DumpKind z.name.kind)) o)) (sym e) ∙ h)

-- a crash that is done leaves the machine live
pub record Crashed (layout : List Zone) (live : LiveState) (kernel : Kernel) (reason : ℕ) (time : Time) (t : Target)
    (session : Session) : Type 0 where
  pub next : LiveState
  pub is_live : session ≡ Live next
  pub told : IsToldLive t.place (crash_dump layout live kernel reason time) next

store_dump : (layout : List Zone) (live : LiveState) (time : Time) (body : List ℕ) (e : StoreDone)
    → store_line layout (Live live) (Dump time false body) ≡ Ok e
    → (next : LiveState) × (make layout live (AskDump time false body) ≡ Ok next) × (e.session ≡ Live next)
unfolding store_line
store_dump layout live time body e h =
    let o = Make (AskDump time false body) in
    let a = operation_done (Live live) (put_by layout (Live live) o) (operated layout (Live live) o) e h in
    let b = answer_done (make layout live (AskDump time false body)) a.0 a.1 in
    (b.0, b.1, a.2 ∙ b.2)

pub crash_leaves : CrashesAreToldWhole → (layout : List Zone) (live : LiveState) (kernel : Kernel) (reason : ℕ)
    (time : Time) (done : Done) (t : Target) → dump_target layout live ≡ Some t
    → line_done layout (Live live) kernel (Crash reason time) ≡ Ok done
    → Crashed layout live kernel reason time t done.session
unfolding line_done
crash_leaves whole layout live kernel reason time done t e h =
    let body = crash_body layout live kernel reason time in
    let a = beside_done (crashed kernel) (store_line layout (Live live) (Dump time false body)) done h in
    let b = store_dump layout live time body a.0 a.1 in
    record {
      next = b.0;
      is_live = a.2 ∙ b.2;
      told = subst (λ (xs : List ℕ). IsToldLive t.place xs b.0)
          (whole layout live kernel reason time t t.live.told e) (dump_made layout live b.0 time false body t e b.1);
    }

pub crash_tells : CrashesAreToldWhole → CrashTellsZone
crash_tells whole layout live kernel reason time done t e h =
    let left = crash_leaves whole layout live kernel reason time done t e h in
    subst (λ (s : Session). IsTold t.zone t.place (crash_dump layout live kernel reason time) s) (sym left.is_live)
    left.told
