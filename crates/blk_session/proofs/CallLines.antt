-- Lines of calls on a loaded store
use Rattle.std.proofs.Common.{◌≡◌, ◌⊎◌, ℕ, Bool, List, [], length, Option, Some, None, IfSome, Ok, Err, refl, sym, ap}
use Rattle.std.proofs.Common.{◌∙◌, arith, inl, inr}
use Rattle.outside.specs.Outside.{Rose}
use Rattle.zone_spec.specs.declared.ZoneName.{ZoneName}
use Rattle.blk_spec.specs.declared.BlkLayout.{BlkLayout}
use Rattle.blk_spec.specs.declared.BlkRing.{BlkRing}
use Rattle.blk_spec.specs.declared.BlkName.{BlkName}
use Rattle.blk_spec.specs.declared.BlkTime.{BlkTime}
use Rattle.kmsg_spec.specs.declared.Reason.{Reason}
use Rattle.kmsg_spec.specs.Reasons.{reason_of}
use Rattle.blk_spec.specs.declared.BlkFault.{BlkFault}
use Rattle.blk_spec.specs.declared.BlkFault.TheVariants.{NoZone as NoZoneThere, NoRecord as NoRecordThere}
use Rattle.blk_spec.specs.declared.BlkFault.TheVariants.{StoreFault as StoreFaultThere, Memory as MemoryThere}
use Rattle.blk_spec.specs.Writes.{after_writes, store_after, bytes_in}
use Rattle.blk_spec.specs.States.{BlkState, loaded, load_writes, cut_after}
use Rattle.blk_spec.specs.Session.{Append, AppendElsewhere, Dump as DumpNow, Erase as EraseRecord, cause_of}
use Rattle.blk_spec.specs.Session.{session_after, load_session}
use Rattle.blk_spec.specs.Answers.{Device, further, HasFront, IsUnwritten, Loads}
use Rattle.grammar_spec.specs.declared.line.Line.TheVariants.{Write, Boot, Erase, KDump, CutAfter}
use Rattle.script_spec.specs.BlkScripts.{blk_line_done, operation_of, append_to, ring_for, blk_named, line_writes}
use Rattle.script_spec.specs.declared.Cause.TheVariants.{NoZone, NoRecord}
use Rattle.blk_session.specs.declared.errors.LineError.TheVariants.{Refused}
use Rattle.blk_session.specs.Asked.{line_asks, LoadingFails, FailsAtLine}
use Rattle.blk_session.specs.Lines.{LineDone, IsWantedLine, LineFails, error_of}
use Rattle.blk_session.proofs.Operations.{line_fails}
use Rattle.zone_blk.proofs.Sequences.{none-told, tried-within}

-- ---- which operation a line is

pub write_is : (old : Option BlkState) (zone : ZoneName) (ring : BlkRing) (bytes payload : List ℕ)
    → Some ring ≡ ring_for zone.kind → payload ≡ bytes → operation_of old (Write zone bytes)
    ≡ Some (Append ring payload)
unfolding operation_of
write_is old zone ring bytes payload e same = ap (λ (r : Option BlkRing). Some (append_to r bytes)) (sym e)
    ∙ ap (λ (bs : List ℕ). Some (Append ring bs)) (sym same)

pub write_elsewhere_is : (old : Option BlkState) (zone : ZoneName) (bytes : List ℕ) → None ≡ ring_for zone.kind
    → operation_of old (Write zone bytes) ≡ Some AppendElsewhere
unfolding operation_of
write_elsewhere_is old zone bytes e = ap (λ (r : Option BlkRing). Some (append_to r bytes)) (sym e)

pub kdump_is : (old : Option BlkState) (time : BlkTime) (packed : Bool) (number : ℕ) (reason : Reason)
    (bytes body : List ℕ) → reason ≡ reason_of number → body ≡ bytes
    → operation_of old (KDump time.secs time.nanos packed number bytes) ≡ Some (DumpNow time packed reason body)
unfolding operation_of
kdump_is old time packed number reason bytes body e same =
    ap (λ (r : Reason). Some (DumpNow time packed r bytes)) (sym e)
    ∙ ap (λ (bs : List ℕ). Some (DumpNow time packed reason bs)) (sym same)

pub erase_is : (old : Option BlkState) (text : List ℕ) (name : Option BlkName) → name ≡ blk_named old text
    → operation_of old (Erase text) ≡ Some (EraseRecord name)
unfolding operation_of
erase_is old text name e = ap (λ (n : Option BlkName). Some (EraseRecord n)) (sym e)

-- ---- lines

pub write_refused : (b : BlkState) (zone : ZoneName) (bytes : List ℕ) (store : Device) (faults : ℕ)
    → None ≡ ring_for zone.kind
    → LineFails (Refused NoZone) b.layout (Some b) (Write zone bytes) store store faults faults
unfolding cause_of session_after
write_refused b zone bytes store faults e =
    line_fails b.layout (Some b) (Write zone bytes) AppendElsewhere (write_elsewhere_is (Some b) zone bytes e)
    (Refused NoZone) store store faults faults (refl, λ store. refl)

pub erase_refused : (b : BlkState) (text : List ℕ) (store : Device) (faults : ℕ)
    → None ≡ blk_named (Some b) text
    → LineFails (Refused NoRecord) b.layout (Some b) (Erase text) store store faults faults
unfolding cause_of session_after
erase_refused b text store faults e =
    line_fails b.layout (Some b) (Erase text) (EraseRecord None) (erase_is (Some b) text None e) (Refused NoRecord)
    store store faults faults (refl, λ store. refl)

pub cut_done : (b new : BlkState) (limit : ℕ) (store : Device) → new ≡ cut_after b limit
    → LineDone b.layout (Some b) (CutAfter limit) (Some new) [] store store
unfolding blk_line_done operation_of cause_of session_after
cut_done b new limit store e = record {
  told = λ bytes told. record { after = bytes; holds = told; done = rw e refl };
  asked = refl;
  unread = refl;
}

-- ---- a loading

loads : (layout : BlkLayout) (old : Option BlkState) (bytes : List ℕ) → IfSome old (λ b. b.layout ≡ layout)
    → blk_line_done layout (record { store = bytes; blk = old }) Boot
    ≡ Ok (record { session = load_session layout bytes; text = [] })
unfolding blk_line_done operation_of cause_of session_after
loads layout None bytes h = refl
loads layout (Some b) bytes h = rw h refl

load_line : (layout : BlkLayout) (old : Option BlkState) → IfSome old (λ b. b.layout ≡ layout)
    → line_writes layout old Boot ≡ load_writes layout
unfolding operation_of
load_line layout None h = refl
load_line layout (Some b) h = rw h refl

load_asks : (layout : BlkLayout) (old : Option BlkState) → IfSome old (λ b. b.layout ≡ layout)
    → line_asks layout old Boot ≡ length (load_writes layout)
unfolding operation_of
load_asks layout None h = refl
load_asks layout (Some b) h = rw h refl

load_wanted : (layout : BlkLayout) (old : Option BlkState) → IfSome old (λ b. b.layout ≡ layout)
    → IsWantedLine layout old Boot
load_wanted layout old h = λ bytes. record {
  wants = record { session = load_session layout bytes; text = [] };
  is = loads layout old bytes h;
}

pub load_done : (layout : BlkLayout) (b : BlkState) (before now : Device) → Loads (Ok b) layout before now
    → now.read_faults ≡ before.read_faults → (old : Option BlkState) → IfSome old (λ b. b.layout ≡ layout)
    → LineDone layout old Boot (Some b) [] before now
load_done layout b before now l unread old h = record {
  told = λ bytes told.
      let same : b ≡ loaded layout bytes = rw told at l.1 in
      record {
        after = after_writes (load_writes layout) bytes;
        holds = l.2 ∙ ap (store_after (load_writes layout)) told;
        done = loads layout old bytes h ∙ rw same refl;
      };
  asked = l.3 ∙ ap (λ (n : ℕ). further n before.writes) (sym (load_asks layout old h));
  unread = unread;
}

-- the store failed within a loading
module _ (layout : BlkLayout) (before now : Device) where
  load_front : LoadingFails layout before now → HasFront (load_writes layout) before.holds now.holds
  load_front (inl quiet) =
      record { kept = 0; within = omega arith; store = quiet.0 ∙ none-told (load_writes layout) before.holds }
  load_front (inr f) =
      let tried = tried-within f.made f.others (load_writes layout) f.failed f.tried f.parts f.within in
      record { kept = f.kept; within = omega (arith, f.most, tried); store = f.store }

  load_unwritten : LoadingFails layout before now → bytes_in (load_writes layout) ≡ 0 → now.writes ≡ before.writes
  load_unwritten (inl quiet) e = quiet.1
  load_unwritten (inr f) e =
      let tried = tried-within f.made f.others (load_writes layout) f.failed f.tried f.parts f.within in
      absurd (omega (arith, e, f.some, tried))

  load_unread : LoadingFails layout before now
      → ((Boot ≡ Boot) × IsUnwritten before now) ⊎ (now.read_faults ≡ before.read_faults)
  load_unread (inl quiet) = inl (refl, quiet)
  load_unread (inr f) = inr f.unread

  load_failed : LoadingFails layout before now → (old : Option BlkState) → IfSome old (λ b. b.layout ≡ layout)
      → FailsAtLine layout old Boot before now
  unfolding operation_of
  load_failed f None h = f
  load_failed f (Some b) h = rw h f

pub load_fails : (layout : BlkLayout) (fault : BlkFault) (before now : Device) (faults later : ℕ)
    → Loads (Err fault) layout before now → (fault ≡ StoreFaultThere → Rose faults later)
    → (old : Option BlkState) → IfSome old (λ b. b.layout ≡ layout)
    → LineFails (error_of fault) layout old Boot before now faults later
load_fails layout NoZoneThere before now faults later l rose old h = absurd l
load_fails layout NoRecordThere before now faults later l rose old h = absurd l
load_fails layout MemoryThere before now faults later l rose old h = (l, tt, load_wanted layout old h, inl refl)
load_fails layout StoreFaultThere before now faults later l rose old h = (
  rose refl,
  record {
    front = rw (load_line layout old h) (load_front layout before now l);
    wanted = load_wanted layout old h;
    needs = inl refl;
    failed = load_failed layout before now l old h;
    unwritten = λ e. load_unwritten layout before now l (ap bytes_in (sym (load_line layout old h)) ∙ e);
    unread = load_unread layout before now l;
  },
)
