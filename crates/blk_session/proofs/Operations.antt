-- Calls on a loaded store as operations of the session, and these as lines
use Rattle.std.proofs.Common.{◌≡◌, ◌≢◌, ℕ, ◌<◌, ◌==◌, Bool, true, false, if◌then◌else◌, List, [], Option, Some, None}
use Rattle.std.proofs.Common.{Result, Ok, Err, refl, sym, ap, ◌∙◌, subst, arith, inr}
use Rattle.std.specs.Prelude.{MatchResult}
use Rattle.outside.specs.Outside.{Rose}
use Rattle.blk_spec.specs.declared.BlkLayout.{BlkLayout}
use Rattle.blk_spec.specs.declared.BlkRing.{BlkRing}
use Rattle.blk_spec.specs.declared.BlkTime.{BlkTime}
use Rattle.blk_spec.specs.declared.BlkName.{BlkName}
use Rattle.blk_spec.specs.declared.BlkCut.{BlkCut}
use Rattle.kmsg_spec.specs.declared.Reason.{Reason}
use Rattle.blk_spec.specs.declared.BlkFault.{BlkFault}
use Rattle.blk_spec.specs.declared.BlkFault.TheVariants.{NoZone as NoZoneThere, NoRecord as NoRecordThere}
use Rattle.blk_spec.specs.declared.BlkFault.TheVariants.{StoreFault as StoreFaultThere, Memory as MemoryThere}
use Rattle.blk_spec.specs.Writes.{Write as StoreWrite, after_writes, store_after, bytes_in, reaching, spent, asks_of}
use Rattle.blk_spec.specs.Answers.{Device, further, FailsWithin, Answers}
use Rattle.blk_spec.specs.Layout.{ring_zone, dump_zone}
use Rattle.blk_spec.specs.Dumps.{counter_for}
use Rattle.blk_spec.specs.States.{BlkState, append_refusal, append_of, appended, dump_refusal, dump_of, dump_pieces_of}
use Rattle.blk_spec.specs.States.{dumped, is_listed, erase_refusal, erase_of, erased}
use Rattle.blk_spec.specs.Session.{Session, Operation, Append, Dump as DumpNow, Erase as EraseRecord}
use Rattle.blk_spec.specs.Session.{NoRecord as NoRecordSession, cause_for, cause_loaded, cause_of, called, done_loaded}
use Rattle.blk_spec.specs.Session.{unless_refused, session_after}
use Rattle.grammar_spec.specs.Fields.{Text}
use Rattle.grammar_spec.specs.declared.line.Line.{Line}
use Rattle.grammar_spec.specs.declared.line.Line.TheVariants.{Write, Boot, List as ListLine, Extract, Erase, KDump}
use Rattle.grammar_spec.specs.declared.line.Line.TheVariants.{CutAfter}
use Rattle.script_spec.specs.BlkScripts.{blk_line_done, operation_of, performs, performs_if, done_unless, put_loaded}
use Rattle.script_spec.specs.BlkScripts.{writes_loaded, writes_by}
use Rattle.blk_session.specs.declared.errors.LineError.{LineError}
use Rattle.blk_session.specs.declared.errors.LineError.TheVariants.{Memory, StoreFault, Refused}
use Rattle.blk_session.specs.Asked.{asks_loaded, FailsIn, FailsLoaded}
use Rattle.blk_session.specs.Lines.{LineDone, LineFails, OperationDone, OperationFaults, OperationFails, error_of}
use Rattle.blk_session.proofs.Writes.{front-reached, some-reached}
use Rattle.blk_laws.proofs.Pieces.{dump-pieces}

-- ---- calls

-- an operation is a call with these writes, refused for this cause or done, that puts nothing
pub record IsCallOf (b : BlkState) (operation : Operation) (refusal : Option BlkFault) (ws pieces : List StoreWrite)
    (next : BlkState) : Type 0 where
  pub cause : cause_loaded b operation ≡ cause_for refusal
  pub done : (store : List ℕ) → done_loaded store b operation ≡ called store b ws next
  pub writes : writes_loaded b operation ≡ reaching b.cut ws
  pub asks : asks_loaded b operation ≡ asks_of b.cut pieces
  pub fails : (before now : Device) → FailsIn ws pieces b.cut before now → FailsLoaded b operation before now
  pub silent : put_loaded b operation ≡ []
  pub same : bytes_in pieces ≡ bytes_in ws
  pub takes_none : refusal ≢ Some MemoryThere

no-zone : (none : Bool) → (if none then Some NoZoneThere else None) ≢ Some MemoryThere
no-zone true = λ e. cc
no-zone false = λ e. cc

pub append_call : (b : BlkState) (ring : BlkRing) (payload : List ℕ)
    → IsCallOf b (Append ring payload) (append_refusal b ring) (append_of b ring payload) (append_of b ring payload)
    (appended b ring payload)
append_call b ring payload = record {
  cause = refl;
  done = λ store. refl;
  writes = refl;
  asks = refl;
  fails = λ before now f. f;
  silent = refl;
  same = refl;
  takes_none = no-zone ((ring_zone b.layout ring).size == 0);
}

pub dump_call : (b : BlkState) (time : BlkTime) (packed : Bool) (reason : Reason) (body : List ℕ)
    → IsCallOf b (DumpNow time packed reason body) (dump_refusal b) (dump_of b time packed reason body)
    (dump_pieces_of b time packed reason body) (dumped b reason)
dump_call b time packed reason body = record {
  cause = refl;
  done = λ store. refl;
  writes = refl;
  asks = refl;
  fails = λ before now f. f;
  silent = refl;
  same = (dump-pieces (dump_zone b.layout b.cursor) time packed (counter_for reason b.counters) reason body).0;
  takes_none = no-zone (b.layout.dumps == 0);
}

no-record : (listed : Bool) → (if listed then None else Some NoRecordThere) ≢ Some MemoryThere
no-record true = λ e. cc
no-record false = λ e. cc

unlisted : (listed : Bool) → (if listed then None else Some NoRecordSession)
    ≡ cause_for (if listed then None else Some NoRecordThere)
unlisted true = refl
unlisted false = refl

pub erase_call : (b : BlkState) (name : BlkName) → IsCallOf b (EraseRecord (Some name)) (erase_refusal b name)
    (erase_of b name) (erase_of b name) (erased b name)
erase_call b name = record {
  cause = unlisted (is_listed b name);
  done = λ store. refl;
  writes = refl;
  asks = refl;
  fails = λ before now f. f;
  silent = refl;
  same = refl;
  takes_none = no-record (is_listed b name);
}

module _ (b : BlkState) (operation : Operation) (refusal : Option BlkFault) (ws pieces : List StoreWrite)
    (next : BlkState) (is : IsCallOf b operation refusal ws pieces next) where
  performed : (store : List ℕ) → performs b.layout (record { store = store; blk = Some b }) operation
      ≡ done_unless (cause_for refusal) (record {
        session = unless_refused (cause_for refusal)
            (called store b ws next) (record { store = store; blk = Some b });
        text = [];
      })
  unfolding cause_of session_after
  performed store = rw (is.cause, is.done store, is.silent) refl

  pub call_done : (new : BlkState) (before now : Device) → Answers (Ok tt) refusal ws pieces next b new before now
      → OperationDone b.layout (Some b) operation (Some new) [] before now
  call_done new before now a = record {
    told = λ bytes told.
        let after = after_writes (reaching b.cut ws) bytes in
        let same : new ≡ record next { cut = spent (bytes_in ws) b.cut } =
        a.2 ∙ ap (λ (c : BlkCut). record next { cut = c }) a.1.cut in
        record {
          after = after;
          holds = a.1.store ∙ ap (store_after (reaching b.cut ws)) told;
          done = performed bytes ∙ rw a.0 (ap (λ (n : BlkState). Ok
              (record { session = record { store = after; blk = Some n }; text = [] })) (sym same));
        };
    asked = a.1.asked ∙ ap (λ (n : ℕ). further n before.writes) (sym is.asks);
    unread = a.1.unread;
  }

  faults_within : (new : BlkState) (before now : Device) → refusal ≡ None
      → (f : FailsWithin ws pieces b.cut new.cut before now) → OperationFaults b.layout (Some b) operation before now
  faults_within new before now none f =
      let some : 0 < bytes_in (writes_loaded b operation) =
      rw is.writes (some-reached b.cut new.cut ws pieces is.same before now f) in
      record {
        front = rw is.writes (front-reached b.cut new.cut ws pieces is.same before now f);
        wanted = λ bytes. record {
          wants = record { session = called bytes b ws next; text = [] };
          is = performed bytes ∙ rw none refl;
        };
        some = some;
        failed = is.fails before now (record { after = new.cut; within = f });
        unread = f.unread;
      }

  fails : (fault : BlkFault) (new : BlkState) (before now : Device) (faults later : ℕ)
      → Answers (Err fault) refusal ws pieces next b new before now → (fault ≡ StoreFaultThere → Rose faults later)
      → OperationFails (error_of fault) b.layout (Some b) operation before now faults later
  fails NoZoneThere new before now faults later a rose = (a.2, λ bytes. performed bytes ∙ rw a.0 refl)
  fails NoRecordThere new before now faults later a rose = (a.2, λ bytes. performed bytes ∙ rw a.0 refl)
  fails MemoryThere new before now faults later a rose = is.takes_none a.0
  fails StoreFaultThere new before now faults later a rose = (rose refl, faults_within new before now a.0 a.1)

  pub call_fails : (fault : BlkFault) (error : LineError) → error ≡ error_of fault → (new : BlkState)
      (before now : Device) (faults later : ℕ) → Answers (Err fault) refusal ws pieces next b new before now
      → (fault ≡ StoreFaultThere → Rose faults later)
      → OperationFails error b.layout (Some b) operation before now faults later
  call_fails fault error same new before now faults later a rose =
      subst (λ (e : LineError). OperationFails e b.layout (Some b) operation before now faults later) (sym same)
      (fails fault new before now faults later a rose)

-- a call that was not done for another cause than a fault of the store, as a line tells it
pub kept_call : (fault : BlkFault) (error : LineError) (faults later : ℕ) → error ≡ error_of fault
    → (fault ≢ StoreFaultThere → later ≡ faults) → error ≢ StoreFault → later ≡ faults
kept_call fault error faults later same kept other =
    kept (λ e. other (same ∙ ap error_of e))

-- ---- lines

-- a line does what its operation does
pub as_operation : (layout : BlkLayout) (session : Session) (line : Line) (operation : Operation)
    → operation_of session.blk line ≡ Some operation → blk_line_done layout session line
    ≡ performs layout session operation
unfolding blk_line_done operation_of
as_operation layout session (Write zone bytes) operation e = ap (performs_if layout session) e
as_operation layout session Boot operation e = ap (performs_if layout session) e
as_operation layout session ListLine operation e = ap (performs_if layout session) e
as_operation layout session (Extract name) operation e = ap (performs_if layout session) e
as_operation layout session (Erase name) operation e = ap (performs_if layout session) e
as_operation layout session (KDump secs nanos packed reason bytes) operation e = ap (performs_if layout session) e
as_operation layout session (CutAfter k) operation e = ap (performs_if layout session) e
as_operation layout session line operation e = cc

module _ (layout : BlkLayout) (old : Option BlkState) (line : Line) (operation : Operation)
    (is : operation_of old line ≡ Some operation) where
  line_is : (bytes : List ℕ) → blk_line_done layout (record { store = bytes; blk = old }) line
      ≡ performs layout (record { store = bytes; blk = old }) operation
  line_is bytes = as_operation layout (record { store = bytes; blk = old }) line operation is

  pub line_done : (new : Option BlkState) (text : Text) (before now : Device)
      → OperationDone layout old operation new text before now → LineDone layout old line new text before now
  line_done new text before now h = record {
    told = λ bytes told. let d = h.told bytes told in
        record { after = d.after; holds = d.holds; done = line_is bytes ∙ d.done };
    asked = rw is h.asked;
    unread = h.unread;
  }

  pub line_fails : (error : LineError) (before now : Device) (faults later : ℕ)
      → OperationFails error layout old operation before now faults later
      → LineFails error layout old line before now faults later
  line_fails Memory before now faults later h = absurd h
  line_fails StoreFault before now faults later h = (
    h.0,
    record {
      front = rw is h.1.front;
      wanted = λ bytes. let w = h.1.wanted bytes in
          record { wants = w.wants; is = line_is bytes ∙ w.is };
      needs = inr (rw is h.1.some);
      failed = rw is h.1.failed;
      unwritten = λ e. let none : bytes_in (writes_by layout old operation) ≡ 0 = rw is at e in
          absurd (omega (arith, none, h.1.some));
      unread = inr h.1.unread;
    },
  )
  line_fails (Refused cause) before now faults later h = (h.0, λ bytes. line_is bytes ∙ h.1 bytes)

  pub line_ends : (result : Result Unit LineError) (new : Option BlkState) (before now : Device)
      (faults later : ℕ)
      → MatchResult result (λ _. OperationDone layout old operation new [] before now)
      (λ e. OperationFails e layout old operation before now faults later)
      → MatchResult result (λ _. LineDone layout old line new [] before now)
      (λ e. LineFails e layout old line before now faults later)
  line_ends (Ok done) new before now faults later h = line_done new [] before now h
  line_ends (Err error) new before now faults later h = line_fails error before now faults later h
