-- Lines that leave a dump zone alone
use Rattle.std.proofs.Common.{◌≡◌, ℕ, ◌+◌, ◌==◌, Bool, true, false, cond, not, ◌||◌, nat_lt, List, [], ◌∷◌, ◌++◌}
use Rattle.std.proofs.Common.{length, filter, slice_get, bytes_eq, Option, Some, None, Result, Ok, Err, refl, sym, ap}
use Rattle.std.proofs.Common.{◌∙◌, subst, true≢false, eqb-true}
use Rattle.zone_spec.specs.declared.Zone.{Zone}
use Rattle.zone_spec.specs.declared.Kind.{Kind}
use Rattle.zone_spec.specs.declared.Kind.TheVariants.{Dump as DumpKind, Console, Ftrace, Pmsg}
use Rattle.zone_spec.specs.declared.Name.{Name}
use Rattle.zone_spec.specs.declared.ZoneName.{ZoneName}
use Rattle.zone_spec.specs.declared.Time.{Time}
use Rattle.zone_spec.specs.declared.Name.TheVariants.{Dump as DumpName, Console as ConsoleName, Pmsg as PmsgName}
use Rattle.zone_spec.specs.declared.Name.TheVariants.{Ftrace as FtraceName}
use Rattle.zone_spec.specs.Records.{Saved, Listed, is_of, listed_of, first_listed}
use Rattle.zone_spec.specs.Names.{name_text}
use Rattle.zone_spec.specs.Listing.{is_listed}
use Rattle.zone_spec.specs.Notices.{is_in}
use Rattle.zone_spec.specs.TimeLines.{has_line}
use Rattle.zone_spec.specs.Layouts.{IsLayout, is_zone}
use Rattle.zone_spec.specs.declared.Refusal.TheVariants.{Busy, OutOfImage}
use Rattle.machine_spec.specs.States.{LiveState, Session, Off, Live}
use Rattle.machine_spec.specs.Erasures.{saved_logs, erased}
use Rattle.machine_spec.specs.Off.{flipped}
use Rattle.machine_spec.specs.BootPart.{boot_parted}
use Rattle.machine_spec.specs.Stop.{stopped}
use Rattle.machine_spec.specs.Boot.{booted}
use Rattle.machine_spec.specs.ZoneCalls.{stepped, finished}
use Rattle.machine_spec.specs.LiveZones.{target, flies}
use Rattle.machine_spec.specs.LiveCalls.{Ask, Append as AskAppend, Erase as AskErase, Dump as AskDump, asked_name}
use Rattle.machine_spec.specs.LiveCalls.{begin, make, step, finish}
use Rattle.machine_spec.specs.Operations.{Operation, operated, Begin, Make, Step as StepFlight, Finish as FinishFlight}
use Rattle.machine_spec.specs.Operations.{EraseRecord, Stop as StopStore, Boot as BootStore, BootPart as BootInPart}
use Rattle.machine_spec.specs.Operations.{Flip as FlipByte, Refused, NoRecord}
use Rattle.machine_spec.specs.Sound.{IsState}
use Rattle.machine_laws.proofs.Targets.{target-some}
use Rattle.grammar_spec.specs.Fields.{Text}
use Rattle.grammar_spec.specs.declared.line.Line.{Line}
use Rattle.grammar_spec.specs.declared.line.Line.TheVariants.{Blank, Write, Dump, BeginWrite, BeginErase, BeginDump}
use Rattle.grammar_spec.specs.declared.line.Line.TheVariants.{Step, Finish, Stop, Flip, Boot, BootPart}
use Rattle.grammar_spec.specs.declared.line.Line.TheVariants.{List as ListLine, Extract, Erase, KDump, CutAfter, KMsg}
use Rattle.grammar_spec.specs.declared.line.Line.TheVariants.{Crash, Reserve, StoreNext}
use Rattle.script_spec.specs.Scripts.{StoreDone, Kernel, new_kernel, Done, beside, prints, does, put_by, named, lists}
use Rattle.script_spec.specs.Scripts.{extracts, extracts_of, erases, erases_of, store_line, line_done, crash_body}
use Rattle.script_spec.specs.Scripts.{crashed, crashes, log_limit}
use Rattle.script_spec.specs.declared.Cause.{Cause}
use Rattle.script_spec.specs.declared.Cause.TheVariants.{TooLong}
use Rattle.crash_laws.specs.Standing.{IsToldLive, IsTold}
use Rattle.crash_laws.specs.Lines.{dumps_elsewhere, names_dump, is_outside, spares}
use Rattle.crash_laws.specs.Listings.{LinesKeepTold}
use Rattle.crash_laws.proofs.Calls.{goes_on_keeps, begin_keeps, make_keeps}
use Rattle.crash_laws.proofs.Stops.{dump_kind, erased_keeps, stop_keeps, boot_keeps, flip_keeps}
use Rattle.crash_laws.proofs.CutBoots.{part_keeps}
use Rattle.crash_laws.proofs.DumpOfCrash.{beside_done, operation_done, answer_done}

-- ---- tests

pub not_true : (b : Bool) → not b ≡ true → b ≡ false
not_true true e = absurd (true≢false (sym e))
not_true false e = refl

or_parts : (a b : Bool) → (a || b) ≡ false → (a ≡ false) × (b ≡ false)
or_parts true b e = absurd (true≢false e)
or_parts false b e = (refl, e)

-- what is asked goes to another zone; nothing is while the machine is off
abbrev Elsewhere : Zone → Session → Ask → Type 0
Elsewhere z (Live live) ask = is_zone (asked_name live ask) z ≡ false
Elsewhere z (Off off) ask = Unit {0}

append_elsewhere : (z : Zone) (session : Session) (name : ZoneName) (bytes : List ℕ) → is_zone name z ≡ false
    → Elsewhere z session (AskAppend name bytes)
append_elsewhere z (Live live) name bytes e = e
append_elsewhere z (Off off) name bytes e = tt

erase_elsewhere : (z : Zone) (session : Session) (name : ZoneName) → is_zone name z ≡ false
    → Elsewhere z session (AskErase name)
erase_elsewhere z (Live live) name e = e
erase_elsewhere z (Off off) name e = tt

dump_elsewhere : (z : Zone) (session : Session) (time : Time) (packed : Bool) (body : List ℕ)
    → dumps_elsewhere z session ≡ true → Elsewhere z session (AskDump time packed body)
dump_elsewhere z (Live live) time packed body e = not_true _ e
dump_elsewhere z (Off off) time packed body e = tt

-- ---- the record that a text names

first_passes : (p : Listed → Bool) (rs : List Listed) (r : Listed) → first_listed (filter p rs) ≡ Some r → p r ≡ true
first_passes p [] r e = absurd (cc)
first_passes p (s ∷ ss) r e = by (p s) refl (first_passes p ss r) e
  where
    by : (b : Bool) → p s ≡ b → (first_listed (filter p ss) ≡ Some r → p r ≡ true)
        → first_listed (cond b (s ∷ filter p ss) (filter p ss)) ≡ Some r → p r ≡ true
    by true h rest e = let same : s ≡ r = cc in ap p (sym same) ∙ h
    by false h rest e = rest e

named_text : (zones : List Saved) (text : Text) (r : Listed) → named zones text ≡ Some r
    → bytes_eq (name_text r.name) text ≡ true
named_text zones text r e =
    first_passes (λ (s : Listed). bytes_eq (name_text s.name) text) (listed_of zones) r e

-- a record of another name than the dump zone's has not the zone
in_other : (text : Text) (z : Zone) (name : Name) → is_of DumpKind z.name.kind ≡ true → names_dump text z ≡ false
    → bytes_eq (name_text name) text ≡ true → is_in name z ≡ false
in_other text z (DumpName index packed) kind other same = by (z.name.index == index) refl
  where
    parts : (bytes_eq (name_text (DumpName z.name.index false)) text ≡ false)
        × (bytes_eq (name_text (DumpName z.name.index true)) text ≡ false)
    parts = or_parts _ _ other

    clash : (flag : Bool) → packed ≡ flag → z.name.index ≡ index → ⊥
    clash true p i = true≢false (sym same ∙ ap (λ (b : Bool). bytes_eq (name_text (DumpName index b)) text) p
        ∙ ap (λ (n : ℕ). bytes_eq (name_text (DumpName n true)) text) (sym i) ∙ parts.1)
    clash false p i = true≢false (sym same ∙ ap (λ (b : Bool). bytes_eq (name_text (DumpName index b)) text) p
        ∙ ap (λ (n : ℕ). bytes_eq (name_text (DumpName n false)) text) (sym i) ∙ parts.0)

    by : (b : Bool) → (z.name.index == index) ≡ b → is_in (DumpName index packed) z ≡ false
    by true e = absurd (clash packed refl (eqb-true z.name.index index e))
    by false e = rw (kind, e) refl
in_other text z ConsoleName kind other same = ap (λ (k : Kind). is_of Console k) (dump_kind z.name.kind kind)
in_other text z PmsgName kind other same = ap (λ (k : Kind). is_of Pmsg k) (dump_kind z.name.kind kind)
in_other text z FtraceName kind other same = ap (λ (k : Kind). is_of Ftrace k) (dump_kind z.name.kind kind)

module _ (layout : List Zone) (mem : ℕ) (lies : IsLayout layout mem) (z : Zone) (place : ℕ)
    (hz : slice_get layout place ≡ Some z) (told : List ℕ) (kind : is_of DumpKind z.name.kind ≡ true)
    (line : has_line told ≡ true) where
  -- ---- operations

  make_op : (session next : Session) (ask : Ask) → Elsewhere z session ask → IsTold z place told session
      → operated layout session (Make ask) ≡ Ok next → IsTold z place told next
  make_op (Off off) next ask other k h = absurd (cc)
  make_op (Live live) next ask other k h =
      let a = answer_done (make layout live ask) next h in
      subst (IsTold z place told) (sym a.2) (make_keeps layout z place told hz live a.0 ask k other a.1)

  begin_op : (session next : Session) (ask : Ask) → Elsewhere z session ask → IsTold z place told session
      → operated layout session (Begin ask) ≡ Ok next → IsTold z place told next
  begin_op (Off off) next ask other k h = absurd (cc)
  begin_op (Live live) next ask other k h =
      let a = answer_done (begin layout live ask) next h in
      subst (IsTold z place told) (sym a.2) (begin_keeps layout z place told hz live a.0 ask k other a.1)

  step_op : (session next : Session) (name : ZoneName) (count : ℕ) → IsTold z place told session
      → operated layout session (StepFlight name count) ≡ Ok next → IsTold z place told next
  step_op (Off off) next name count k h = absurd (cc)
  step_op (Live live) next name count k h =
      let a = answer_done (step layout live name count) next h in
      subst (IsTold z place told) (sym a.2) (goes_on_keeps layout z place told hz live a.0
      (λ y v. stepped y count v) (target layout live name) k (λ t e. target-some layout live name t e) a.1)

  finish_op : (session next : Session) (name : ZoneName) → IsTold z place told session
      → operated layout session (FinishFlight name) ≡ Ok next → IsTold z place told next
  finish_op (Off off) next name k h = absurd (cc)
  finish_op (Live live) next name k h =
      let a = answer_done (finish layout live name) next h in
      subst (IsTold z place told) (sym a.2) (goes_on_keeps layout z place told hz live a.0
      (λ y v. finished y v) (target layout live name) k (λ t e. target-some layout live name t e) a.1)

  erase_op : (live : LiveState) (next : Session) (name : Name) → is_in name z ≡ false → IsToldLive place told live
      → operated layout (Live live) (EraseRecord name) ≡ Ok next → IsTold z place told next
  erase_op live next name other k h =
      by (is_listed (saved_logs layout live) name) (flies layout live (λ y. is_in name y)) h
    where
      by : (a b : Bool) → cond a (cond b (Err (Refused Busy)) (Ok (Live (erased layout live name)))) (Err NoRecord)
          ≡ Ok next → IsTold z place told next
      by true true h = absurd (cc)
      by true false h =
          let same : Live (erased layout live name) ≡ next = cc in
          subst (IsTold z place told) same (erased_keeps layout mem lies z place hz told live name other k)
      by false b h = absurd (cc)

  stop_op : (session next : Session) → IsState layout mem session → IsTold z place told session
      → operated layout session StopStore ≡ Ok next → IsTold z place told next
  stop_op (Off off) next state k h = absurd (cc)
  stop_op (Live live) next state k h =
      let same : Off (stopped layout live) ≡ next = cc in
      subst (IsTold z place told) same (stop_keeps layout mem lies z place hz told live state k)

  boot_op : (session next : Session) → IsState layout mem session → IsTold z place told session
      → operated layout session BootStore ≡ Ok next → IsTold z place told next
  boot_op (Live live) next state k h = absurd (cc)
  boot_op (Off off) next state k h =
      let same : Live (booted layout off) ≡ next = cc in
      subst (IsTold z place told) same (boot_keeps layout mem lies z place hz told off state kind line k)

  flip_op : (session next : Session) (i mask : ℕ) → is_outside i z ≡ true → IsTold z place told session
      → operated layout session (FlipByte i mask) ≡ Ok next → IsTold z place told next
  flip_op (Live live) next i mask outside k h = absurd (cc)
  flip_op (Off off) next i mask outside k h = by (nat_lt i (length off.image)) h
    where
      by : (b : Bool) → cond b (Ok (Off (flipped off i mask))) (Err (Refused OutOfImage)) ≡ Ok next
          → IsTold z place told next
      by true h =
          let same : Off (flipped off i mask) ≡ next = cc in
          subst (IsTold z place told) same (flip_keeps layout mem lies z place hz told off i mask outside k)
      by false h = absurd (cc)

  part_op : (session next : Session) (limit : ℕ) → IsState layout mem session → IsTold z place told session
      → operated layout session (BootInPart limit) ≡ Ok next → IsTold z place told next
  part_op (Live live) next limit state k h = absurd (cc)
  part_op (Off off) next limit state k h =
      let same : Off (boot_parted layout limit off) ≡ next = cc in
      subst (IsTold z place told) same (part_keeps layout mem lies z place hz told off limit state kind line k)

  -- ---- lines of the store

  does_keeps : (session : Session) (o : Operation) (e : StoreDone)
      → ((next : Session) → operated layout session o ≡ Ok next → IsTold z place told next)
      → does layout session o ≡ Ok e → IsTold z place told e.session
  does_keeps session o e k h =
      let a = operation_done session (put_by layout session o) (operated layout session o) e h in
      subst (IsTold z place told) (sym a.2) (k a.0 a.1)

  stays : (session : Session) (text : Text) (e : StoreDone) → IsTold z place told session
      → (let r : Result StoreDone Cause = Ok (record { session = session; text = text }) in r) ≡ Ok e
      → IsTold z place told e.session
  stays session text e k h =
      let same : record { session = session; text = text } ≡ e = cc in
      subst (λ (x : StoreDone). IsTold z place told x.session) same k

  list_line : (session : Session) (e : StoreDone) → IsTold z place told session → lists layout session ≡ Ok e
      → IsTold z place told e.session
  list_line (Off off) e k h = absurd (cc)
  list_line (Live live) e k h = stays (Live live) _ e k h

  extract_by : (live : LiveState) (o : Option Listed) (e : StoreDone) → IsToldLive place told live
      → extracts_of layout live o ≡ Ok e → IsTold z place told e.session
  extract_by live None e k h = absurd (cc)
  extract_by live (Some r) e k h = stays (Live live) _ e k h

  extract_line : (session : Session) (text : Text) (e : StoreDone) → IsTold z place told session
      → extracts layout session text ≡ Ok e → IsTold z place told e.session
  extract_line (Off off) text e k h = absurd (cc)
  extract_line (Live live) text e k h = extract_by live (named (saved_logs layout live) text) e k h

  erase_named : (live : LiveState) (o : Option Listed) (e : StoreDone) → IsToldLive place told live
      → ((r : Listed) → o ≡ Some r → is_in r.name z ≡ false) → erases_of layout live o ≡ Ok e
      → IsTold z place told e.session
  erase_named live None e k other h = absurd (cc)
  erase_named live (Some r) e k other h =
      does_keeps (Live live) (EraseRecord r.name) e (λ next d. erase_op live next r.name (other r refl) k d) h

  erase_line : (session : Session) (text : Text) (e : StoreDone) → IsTold z place told session
      → names_dump text z ≡ false → erases layout session text ≡ Ok e → IsTold z place told e.session
  erase_line (Off off) text e k other h = absurd (cc)
  erase_line (Live live) text e k other h =
      let zones = saved_logs layout live in
      erase_named live (named zones text) e k
      (λ r n. in_other text z r.name kind other (named_text zones text r n)) h

  store_keeps : (session : Session) (line : Line) (e : StoreDone) → IsState layout mem session
      → spares z session line ≡ true → IsTold z place told session → store_line layout session line ≡ Ok e
      → IsTold z place told e.session
  unfolding store_line
  store_keeps session Blank e state s k h = stays session [] e k h
  store_keeps session (Write name bytes) e state s k h = does_keeps session _ e
      (λ next d. make_op session next (AskAppend name bytes)
      (append_elsewhere z session name bytes (not_true _ s)) k d) h
  store_keeps session (Dump time packed bytes) e state s k h = does_keeps session _ e
      (λ next d. make_op session next (AskDump time packed bytes) (dump_elsewhere z session time packed bytes s) k d) h
  store_keeps session (BeginWrite name bytes) e state s k h = does_keeps session _ e
      (λ next d. begin_op session next (AskAppend name bytes) (append_elsewhere z session name bytes (not_true _ s)) k
      d) h
  store_keeps session (BeginErase name) e state s k h = does_keeps session _ e
      (λ next d. begin_op session next (AskErase name) (erase_elsewhere z session name (not_true _ s)) k d) h
  store_keeps session (BeginDump time packed bytes) e state s k h = does_keeps session _ e
      (λ next d. begin_op session next (AskDump time packed bytes) (dump_elsewhere z session time packed bytes s) k d) h
  store_keeps session (Step name count) e state s k h = does_keeps session _ e
      (λ next d. step_op session next name count k d) h
  store_keeps session (Finish name) e state s k h = does_keeps session _ e
      (λ next d. finish_op session next name k d) h
  store_keeps session Stop e state s k h = does_keeps session _ e (λ next d. stop_op session next state k d) h
  store_keeps session (Flip p mask) e state s k h = does_keeps session _ e
      (λ next d. flip_op session next p mask s k d) h
  store_keeps session Boot e state s k h = does_keeps session _ e (λ next d. boot_op session next state k d) h
  store_keeps session (BootPart limit) e state s k h = does_keeps session _ e
      (λ next d. part_op session next limit state k d) h
  store_keeps session ListLine e state s k h = list_line session e k h
  store_keeps session (Extract text) e state s k h = extract_line session text e k h
  store_keeps session (Erase text) e state s k h = erase_line session text e k (not_true _ s) h
  store_keeps session (KDump secs nanos packed reason bytes) e state s k h = absurd (cc)
  store_keeps session (CutAfter limit) e state s k h = absurd (cc)
  store_keeps session (KMsg bytes) e state s k h = absurd (cc)
  store_keeps session (Crash reason time) e state s k h = absurd (cc)
  store_keeps session (Reserve bytes) e state s k h = absurd (cc)
  store_keeps session (StoreNext ticket limit) e state s k h = absurd (cc)

  -- ---- all lines

  beside_keeps : (session : Session) (kernel : Kernel) (line : Line) (d : Done) → IsState layout mem session
      → spares z session line ≡ true → IsTold z place told session
      → beside kernel (store_line layout session line) ≡ Ok d → IsTold z place told d.session
  beside_keeps session kernel line d state s k h =
      let b = beside_done kernel (store_line layout session line) d h in
      subst (IsTold z place told) (sym b.2) (store_keeps session line b.0 state s k b.1)

  prints_keep : (session : Session) (kernel : Kernel) (text : List ℕ) (d : Done) → IsTold z place told session
      → prints session kernel text ≡ Ok d → IsTold z place told d.session
  prints_keep (Off off) kernel text d k h = absurd (cc)
  prints_keep (Live live) kernel text d k h = by (nat_lt log_limit (length text + 1)) h
    where
      after : Done
      after = record {
        session = Live live;
        kernel = record kernel { printed = kernel.printed ++ text ∷ [] };
        text = [];
      }

      by : (b : Bool) → cond b (Err TooLong) (Ok after) ≡ Ok d → IsTold z place told d.session
      by true h = absurd (cc)
      by false h =
          let same : after ≡ d = cc in subst (λ (x : Done). IsTold z place told x.session) same k

  crash_keeps : (session : Session) (kernel : Kernel) (reason : ℕ) (time : Time) (d : Done)
      → IsState layout mem session → dumps_elsewhere z session ≡ true → IsTold z place told session
      → crashes layout session kernel reason time ≡ Ok d → IsTold z place told d.session
  crash_keeps (Off off) kernel reason time d state s k h = absurd (cc)
  crash_keeps (Live live) kernel reason time d state s k h =
      beside_keeps (Live live) (crashed kernel) (Dump time false (crash_body layout live kernel reason time)) d state s
      k h

  pub line_keeps : (session : Session) (kernel : Kernel) (line : Line) (d : Done) → IsState layout mem session
      → spares z session line ≡ true → IsTold z place told session → line_done layout session kernel line ≡ Ok d
      → IsTold z place told d.session
  unfolding line_done
  line_keeps session kernel Stop d state s k h =
      beside_keeps session new_kernel Stop d state s k h
  line_keeps session kernel Boot d state s k h =
      beside_keeps session new_kernel Boot d state s k h
  line_keeps session kernel (KMsg text) d state s k h = prints_keep session kernel text d k h
  line_keeps session kernel (Crash reason time) d state s k h = crash_keeps session kernel reason time d state s k h
  line_keeps session kernel line d state s k h =
      beside_keeps session kernel line d state s k h

pub lines_keep : LinesKeepTold
lines_keep layout mem session kernel line done z place told lies state hz kind text s h k =
    line_keeps layout mem lies z place hz told kind text session kernel line done state s k h
