-- Calls with any outcome keep a session's layout and the length of its store
use Rattle.std.proofs.Common.{◌≡◌, ℕ, ◌+◌, ◌≤◌, List, [], ◌∷◌, ◌++◌, map, length, take, drop, Option, Some, None}
use Rattle.std.proofs.Common.{IfSome, refl, ◌∙◌, arith, length-append, length-take, length-drop}
use Rattle.blk_spec.specs.declared.BlkLayout.{BlkLayout}
use Rattle.blk_spec.specs.declared.BlkRing.{BlkRing}
use Rattle.blk_spec.specs.declared.BlkRing.TheVariants.{Console as ConsoleRing, Pmsg as PmsgRing}
use Rattle.blk_spec.specs.declared.BlkName.{BlkName}
use Rattle.blk_spec.specs.declared.BlkName.TheVariants.{Dump as DumpName, Console, Pmsg}
use Rattle.blk_spec.specs.Writes.{Write, after_write, after_writes, first_bytes, through, reaching}
use Rattle.blk_spec.specs.States.{BlkState, appended, erased, loaded, load_writes, append_of, dump_of, erase_of}
use Rattle.blk_spec.specs.Session.{Operation, Load, Append, AppendElsewhere, Dump, CutAfter, ListAll, Extract, Erase}
use Rattle.blk_spec.specs.Session.{Cause, Session, cause_loaded, cause_of, done_loaded, done_in, unless_refused}
use Rattle.blk_spec.specs.Session.{session_after, session_run, begun, Outcome, Done, Fails, NoMemory, Call, done_call}
use Rattle.blk_spec.specs.Session.{call_writes, failed_in, ended, call_after, calls_run}
use Rattle.blk_laws.proofs.RingLists.{loading}

-- ---- the layout of a session

abbrev pub HasLayout : BlkLayout → Session → Type 0
HasLayout l s = IfSome s.blk (λ (b : BlkState). b.layout ≡ l)

unless-layout : (l : BlkLayout) (cause : Option Cause) (next s : Session) → HasLayout l next → HasLayout l s
    → HasLayout l (unless_refused cause next s)
unless-layout l None next s a b = a
unless-layout l (Some cause) next s a b = b

append-layout : (b : BlkState) (ring : BlkRing) (payload : List ℕ) → (appended b ring payload).layout ≡ b.layout
append-layout b ConsoleRing payload = refl
append-layout b PmsgRing payload = refl

erase-layout : (b : BlkState) (name : BlkName) → (erased b name).layout ≡ b.layout
erase-layout b (DumpName index packed) = refl
erase-layout b Console = refl
erase-layout b Pmsg = refl

done-layout : (store : List ℕ) (b : BlkState) (operation : Operation)
    → HasLayout b.layout (done_loaded store b operation)
done-layout store b Load = refl
done-layout store b (Append ring payload) = append-layout b ring payload
done-layout store b AppendElsewhere = refl
done-layout store b (Dump time packed reason body) = refl
done-layout store b (CutAfter limit) = refl
done-layout store b ListAll = refl
done-layout store b (Extract name) = refl
done-layout store b (Erase None) = refl
done-layout store b (Erase (Some name)) = erase-layout b name

then-layout : (l m : BlkLayout) (s : Session) → m ≡ l → HasLayout m s → HasLayout l s
then-layout l m s e h = by-blk s.blk h
  where
    by-blk : (blk : Option BlkState) → IfSome blk (λ (b : BlkState). b.layout ≡ m)
        → IfSome blk (λ (b : BlkState). b.layout ≡ l)
    by-blk None k = tt
    by-blk (Some b) k = k ∙ e

line-layout : (l : BlkLayout) (store : List ℕ) (blk : Option BlkState) (operation : Operation)
    → HasLayout l (record { store = store; blk = blk })
    → HasLayout l (session_after l (record { store = store; blk = blk }) operation)
unfolding session_after cause_of
line-layout l store None Load h = refl
line-layout l store None (Append ring payload) h = tt
line-layout l store None AppendElsewhere h = tt
line-layout l store None (Dump time packed reason body) h = tt
line-layout l store None (CutAfter limit) h = tt
line-layout l store None ListAll h = tt
line-layout l store None (Extract name) h = tt
line-layout l store None (Erase name) h = tt
line-layout l store (Some b) operation h =
    unless-layout l (cause_loaded b operation) (done_loaded store b operation) (record { store = store; blk = Some b })
    (then-layout l b.layout (done_loaded store b operation) h (done-layout store b operation)) h

-- ---- calls, with any outcome

failed-layout : (l : BlkLayout) (store : List ℕ) (blk : Option BlkState) (operation : Operation) (kept tried : ℕ)
    → HasLayout l (record { store = store; blk = blk }) → HasLayout l (failed_in l store blk operation kept tried)
failed-layout l store None Load kept tried h = tt
failed-layout l store None other kept tried h = tt
failed-layout l store (Some b) Load kept tried h = h
failed-layout l store (Some b) other kept tried h = h

ended-layout : (l : BlkLayout) (s : Session) (operation : Operation) (outcome : Outcome) → HasLayout l s
    → HasLayout l (ended l s operation outcome)
ended-layout l s operation Done h = line-layout l s.store s.blk operation h
ended-layout l s operation (Fails kept tried) h =
    unless-layout l (cause_of s.blk operation) (failed_in l s.store s.blk operation kept tried) s
    (failed-layout l s.store s.blk operation kept tried h) h
ended-layout l s operation NoMemory h = h

pub calls-layout : (l : BlkLayout) (s : Session) (calls : List Call) → HasLayout l s
    → HasLayout l (calls_run l s calls)
unfolding calls_run call_after
calls-layout l s [] h = h
calls-layout l s (call ∷ calls) h = calls-layout l (ended l s call.operation call.outcome) calls
    (ended-layout l s call.operation call.outcome h)

pub every-loading : (l : BlkLayout) (store : List ℕ) (calls : List Call)
    → (call_after l (calls_run l (begun store) calls) (done_call Load)).blk
    ≡ Some (loaded l (calls_run l (begun store) calls).store)
unfolding call_after
every-loading l store calls =
    let s = calls_run l (begun store) calls in
    loading l s.store s.blk (calls-layout l (begun store) calls tt)

pub session-is-calls : (l : BlkLayout) (s : Session) (operations : List Operation)
    → session_run l s operations ≡ calls_run l s (map done_call operations)
unfolding session_run calls_run call_after
session-is-calls l s [] = refl
session-is-calls l s (operation ∷ operations) = session-is-calls l (session_after l s operation) operations

-- ---- a store is never made shorter

longer : (store : List ℕ) (w : Write) → length store ≤ length (after_write store w)
longer store w =
    omega (
      arith,
      length-append (take w.at store ++ w.bytes) (drop (w.at + length w.bytes) store),
      length-append (take w.at store) w.bytes,
      length-take w.at store,
      length-drop (w.at + length w.bytes) store,
    )

pub writes-longer : (ws : List Write) (store : List ℕ) → length store ≤ length (after_writes ws store)
unfolding after_writes
writes-longer [] store = omega arith
writes-longer (w ∷ ws) store = omega (arith, longer store w, writes-longer ws (after_write store w))

done-longer : (l : BlkLayout) (store : List ℕ) (blk : Option BlkState) (operation : Operation)
    → length store ≤ length (done_in l store blk operation).store
done-longer l store None Load = writes-longer (load_writes l) store
done-longer l store None other = omega arith
done-longer l store (Some b) Load = writes-longer (load_writes b.layout) store
done-longer l store (Some b) (Append ring payload) = writes-longer (reaching b.cut (append_of b ring payload)) store
done-longer l store (Some b) (Dump time packed reason body) =
    writes-longer (reaching b.cut (dump_of b time packed reason body)) store
done-longer l store (Some b) (Erase (Some name)) = writes-longer (reaching b.cut (erase_of b name)) store
done-longer l store (Some b) other = omega arith

failed-longer : (l : BlkLayout) (store : List ℕ) (blk : Option BlkState) (operation : Operation) (kept tried : ℕ)
    → length store ≤ length (failed_in l store blk operation kept tried).store
failed-longer l store None Load kept tried = writes-longer (first_bytes kept (load_writes l)) store
failed-longer l store None other kept tried = omega arith
failed-longer l store (Some b) Load kept tried = writes-longer (first_bytes kept (load_writes l)) store
failed-longer l store (Some b) other kept tried =
    writes-longer (first_bytes (through b.cut kept) (call_writes b other)) store

unless-longer : (n : ℕ) (cause : Option Cause) (next s : Session) → n ≤ length next.store → n ≤ length s.store
    → n ≤ length (unless_refused cause next s).store
unless-longer n None next s a b = a
unless-longer n (Some cause) next s a b = b

ended-longer : (l : BlkLayout) (s : Session) (operation : Operation) (outcome : Outcome)
    → length s.store ≤ length (ended l s operation outcome).store
unfolding session_after
ended-longer l s operation Done = unless-longer (length s.store) (cause_of s.blk operation)
    (done_in l s.store s.blk operation) s (done-longer l s.store s.blk operation) (omega arith)
ended-longer l s operation (Fails kept tried) = unless-longer (length s.store) (cause_of s.blk operation)
    (failed_in l s.store s.blk operation kept tried) s (failed-longer l s.store s.blk operation kept tried)
    (omega arith)
ended-longer l s operation NoMemory = omega arith

pub calls-longer : (l : BlkLayout) (s : Session) (calls : List Call)
    → length s.store ≤ length (calls_run l s calls).store
unfolding calls_run call_after
calls-longer l s [] = omega arith
calls-longer l s (call ∷ calls) =
    omega (
      arith,
      ended-longer l s call.operation call.outcome,
      calls-longer l (ended l s call.operation call.outcome) calls,
    )
