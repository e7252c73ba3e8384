-- What a session lists of a ring whose append was cut
use Rattle.std.proofs.Common.{◌≡◌, ℕ, ◌<◌, ◌≤◌, ◌==◌, true, false, if◌then◌else◌, List, [], ◌∷◌, ◌++◌, length, Option}
use Rattle.std.proofs.Common.{Some, None, IfSome, refl, sym, ap, ◌∙◌, arith, subst}
use Rattle.std.proofs.lemmas.Bool.{and_parts}
use Rattle.std.proofs.lemmas.Bool.Decides.{nat_tests}
use Rattle.zone_spec.specs.Told.{last_items}
use Rattle.blk_spec.specs.declared.BlkLayout.{BlkLayout}
use Rattle.blk_spec.specs.declared.BlkRing.{BlkRing}
use Rattle.blk_spec.specs.declared.BlkRing.TheVariants.{Console as ConsoleRing, Pmsg as PmsgRing}
use Rattle.blk_spec.specs.declared.BlkZone.{BlkZone}
use Rattle.blk_spec.specs.declared.BlkCut.{BlkCut}
use Rattle.blk_spec.specs.declared.BlkCut.TheVariants.{Uncut, After, Dropped}
use Rattle.blk_spec.specs.declared.BlkFault.TheVariants.{NoZone as NoZoneFault}
use Rattle.blk_spec.specs.Layout.{IsLayout, ring_zone, capacity}
use Rattle.blk_spec.specs.Writes.{Write, after_writes, first_bytes, bytes_in, through, reaching, spent, limited}
use Rattle.blk_spec.specs.Reading.{ring_saved}
use Rattle.blk_spec.specs.States.{BlkState, ring_of, loaded, append_of, appended, dump_of, dumped, erase_of, erased}
use Rattle.blk_spec.specs.Session.{Operation, Load, Append, AppendElsewhere, Dump, CutAfter, ListAll, Extract, Erase}
use Rattle.blk_spec.specs.Session.{Cause, Session, cause_for, cause_loaded, cause_of, called, done_loaded}
use Rattle.blk_spec.specs.Session.{unless_refused, session_after, Outcome, Done, Fails, NoMemory, Call, call_writes}
use Rattle.blk_spec.specs.Session.{failed_call, failed_in, ended, call_after, calls_run}
use Rattle.blk_laws.specs.Standing.{StandsFor, listed}
use Rattle.blk_laws.specs.Sessions.{ToldRings, told_of, untold, told_run, none_dropped, is_whole, is_no_load, no_faults}
use Rattle.blk_laws.specs.Sessions.{no_loads, based, ring_read, ring_told, append_call, IsEarly}
use Rattle.blk_laws.proofs.Zones.{after-none}
use Rattle.blk_laws.proofs.RingLists.{standing-listed, cut-append}
use Rattle.blk_laws.proofs.Listings.{ring-lies}
use Rattle.blk_laws.proofs.Lines.{writes-longer}
use Rattle.blk_laws.proofs.Sessions.{Keeps, Follows, Goes, calls-goes, based-goes}

-- ---- behind a dropped byte nothing reaches the store before the next loading

pub record IsLost (store : List ℕ) (s : Session) : Type 0 where
  pub same : s.store ≡ store
  pub state : IfSome s.blk (λ (b : BlkState). none_dropped b.cut ≡ false)

none-reached : (c : BlkCut) (ws : List Write) (store : List ℕ) → none_dropped c ≡ false
    → after_writes (reaching c ws) store ≡ store
none-reached Uncut ws store e = cc
none-reached (After limit) ws store e = cc
none-reached Dropped ws store e = after-none ws store

none-kept : (c : BlkCut) (ws : List Write) (kept : ℕ) (store : List ℕ) → none_dropped c ≡ false
    → after_writes (first_bytes (through c kept) ws) store ≡ store
none-kept Uncut ws kept store e = cc
none-kept (After limit) ws kept store e = cc
none-kept Dropped ws kept store e = after-none ws store

lost-spent : (c : BlkCut) (n : ℕ) → none_dropped c ≡ false → none_dropped (spent n c) ≡ false
lost-spent Uncut n e = cc
lost-spent (After limit) n e = cc
lost-spent Dropped n e = refl

lost-limited : (c : BlkCut) (n : ℕ) → none_dropped c ≡ false → none_dropped (limited n c) ≡ false
lost-limited Uncut n e = cc
lost-limited (After limit) n e = cc
lost-limited Dropped n e = refl

lost-called : (store : List ℕ) (b next : BlkState) (ws : List Write) → none_dropped b.cut ≡ false
    → IsLost store (called store b ws next)
lost-called store b next ws e = record {
  same = none-reached b.cut ws store e;
  state = lost-spent b.cut (bytes_in ws) e;
}

lost-still : (store : List ℕ) (b : BlkState) → none_dropped b.cut ≡ false
    → IsLost store (record { store = store; blk = Some b })
lost-still store b e = record { same = refl; state = e }

lost-done : (store : List ℕ) (b : BlkState) (operation : Operation) → is_no_load operation Done ≡ true
    → none_dropped b.cut ≡ false → IsLost store (done_loaded store b operation)
lost-done store b Load h e = cc
lost-done store b (Append ring payload) h e = lost-called store b (appended b ring payload) (append_of b ring payload) e
lost-done store b AppendElsewhere h e = lost-still store b e
lost-done store b (Dump time packed reason body) h e =
    lost-called store b (dumped b reason) (dump_of b time packed reason body) e
lost-done store b (CutAfter limit) h e = record { same = refl; state = lost-limited b.cut limit e }
lost-done store b ListAll h e = lost-still store b e
lost-done store b (Extract name) h e = lost-still store b e
lost-done store b (Erase None) h e = lost-still store b e
lost-done store b (Erase (Some name)) h e = lost-called store b (erased b name) (erase_of b name) e

lost-unless : (store : List ℕ) (cause : Option Cause) (next s : Session) → IsLost store next → IsLost store s
    → IsLost store (unless_refused cause next s)
lost-unless store None next s a b = a
lost-unless store (Some cause) next s a b = b

lost-line : (l : BlkLayout) (store : List ℕ) (blk : Option BlkState) (operation : Operation)
    → is_no_load operation Done ≡ true → IfSome blk (λ (b : BlkState). none_dropped b.cut ≡ false)
    → IsLost store (session_after l (record { store = store; blk = blk }) operation)
unfolding session_after cause_of
lost-line l store None Load h e = cc
lost-line l store None (Append ring payload) h e = record { same = refl; state = tt }
lost-line l store None AppendElsewhere h e = record { same = refl; state = tt }
lost-line l store None (Dump time packed reason body) h e = record { same = refl; state = tt }
lost-line l store None (CutAfter limit) h e = record { same = refl; state = tt }
lost-line l store None ListAll h e = record { same = refl; state = tt }
lost-line l store None (Extract name) h e = record { same = refl; state = tt }
lost-line l store None (Erase name) h e = record { same = refl; state = tt }
lost-line l store (Some b) operation h e =
    lost-unless store (cause_loaded b operation) (done_loaded store b operation)
    (record { store = store; blk = Some b }) (lost-done store b operation h e) (lost-still store b e)

lost-failed : (l : BlkLayout) (store : List ℕ) (b : BlkState) (operation : Operation) (kept tried : ℕ)
    → is_no_load operation (Fails kept tried) ≡ true → none_dropped b.cut ≡ false
    → IsLost store (failed_in l store (Some b) operation kept tried)
lost-failed l store b Load kept tried h e = cc
lost-failed l store b other kept tried h e = record {
  same = none-kept b.cut (call_writes b other) kept store e;
  state = lost-spent b.cut tried e;
}

lost-failing : (l : BlkLayout) (store : List ℕ) (blk : Option BlkState) (operation : Operation) (kept tried : ℕ)
    → is_no_load operation (Fails kept tried) ≡ true → IfSome blk (λ (b : BlkState). none_dropped b.cut ≡ false)
    → IsLost store (failed_in l store blk operation kept tried)
lost-failing l store None Load kept tried h e = cc
lost-failing l store None other kept tried h e = record { same = refl; state = tt }
lost-failing l store (Some b) operation kept tried h e = lost-failed l store b operation kept tried h e

lost-ended : (l : BlkLayout) (s : Session) (operation : Operation) (outcome : Outcome)
    → is_no_load operation outcome ≡ true → IfSome s.blk (λ (b : BlkState). none_dropped b.cut ≡ false)
    → IsLost s.store (ended l s operation outcome)
lost-ended l s operation Done h e = lost-line l s.store s.blk operation h e
lost-ended l s operation (Fails kept tried) h e =
    lost-unless s.store (cause_of s.blk operation) (failed_in l s.store s.blk operation kept tried) s
    (lost-failing l s.store s.blk operation kept tried h e) (record { same = refl; state = e })
lost-ended l s operation NoMemory h e = record { same = refl; state = e }

lost-run : (l : BlkLayout) (s : Session) (calls : List Call) (store : List ℕ) → IsLost store s
    → no_loads calls ≡ true → IsLost store (calls_run l s calls)
unfolding calls_run call_after
lost-run l s [] store lost h = lost
lost-run l s (call ∷ calls) store lost h =
    let parts = and_parts (is_no_load call.operation call.outcome) (no_loads calls) h in
    let line : IsLost s.store (ended l s call.operation call.outcome) =
    lost-ended l s call.operation call.outcome parts.0 lost.state in
    lost-run l (ended l s call.operation call.outcome) calls store
    (record { same = line.same ∙ lost.same; state = line.state }) parts.1

-- ---- the append that is cut

calls-append : (l : BlkLayout) (s : Session) (xs ys : List Call)
    → calls_run l s (xs ++ ys) ≡ calls_run l (calls_run l s xs) ys
unfolding calls_run
calls-append l s [] ys = refl
calls-append l s (x ∷ xs) ys = calls-append l (call_after l s x) xs ys

append-unrefused : (b : BlkState) (ring : BlkRing) (payload : List ℕ) → 0 < (ring_zone b.layout ring).size
    → cause_of (Some b) (Append ring payload) ≡ None
unfolding cause_of
append-unrefused b ring payload h =
    let some : ((ring_zone b.layout ring).size == 0) ≡ false = grind (arith, nat_tests) in
    ap (λ q. cause_for (if q then Some NoZoneFault else None)) some

append-done : (l : BlkLayout) (store : List ℕ) (b : BlkState) (ring : BlkRing) (payload : List ℕ)
    → 0 < (ring_zone b.layout ring).size
    → session_after l (record { store = store; blk = Some b }) (Append ring payload)
    ≡ called store b (append_of b ring payload) (appended b ring payload)
unfolding session_after
append-done l store b ring payload h =
    ap (λ (cause : Option Cause). unless_refused cause (called store b (append_of b ring payload)
    (appended b ring payload)) (record { store = store; blk = Some b })) (append-unrefused b ring payload h)

pub append-failed : (l : BlkLayout) (store : List ℕ) (b : BlkState) (ring : BlkRing) (payload : List ℕ)
    (kept tried : ℕ) → 0 < (ring_zone b.layout ring).size
    → ended l (record { store = store; blk = Some b }) (Append ring payload) (Fails kept tried)
    ≡ failed_call store b (append_of b ring payload) kept tried
append-failed l store b ring payload kept tried h =
    ap (λ (cause : Option Cause). unless_refused cause (failed_call store b (append_of b ring payload) kept tried)
    (record { store = store; blk = Some b })) (append-unrefused b ring payload h)

pub follows-ring : (l : BlkLayout) (b : BlkState) (store : List ℕ) (t : ToldRings) (ring : BlkRing)
    → Follows l b store t
    → Keeps (ring_zone l ring) (ring_of b ring) store (told_of t ring)
follows-ring l b store t ConsoleRing f = f.console
follows-ring l b store t PmsgRing f = f.pmsg

saved-ring : (l : BlkLayout) (store : List ℕ) (ring : BlkRing)
    → (ring_of (loaded l store) ring).saved ≡ ring_saved l ring store
saved-ring l store ConsoleRing = refl
saved-ring l store PmsgRing = refl

-- the first bytes of an append that are data before its first header
pub early-stands : (store : List ℕ) (b : BlkState) (t : ToldRings) (ring : BlkRing) (payload : List ℕ) (k n : ℕ)
    → IsLayout b.layout → b.layout.total ≤ length store → Follows b.layout b store t → IsEarly b ring payload n → k ≤ n
    → StandsFor (ring_zone b.layout ring) (ring_of b ring).words
    (after_writes (first_bytes k (append_of b ring payload)) store)
    (last_items (capacity (ring_zone b.layout ring)) (told_of t ring))
early-stands store b t ring payload k n valid room f early few =
    let z : BlkZone = ring_zone b.layout ring in
    let some : 0 < z.size = omega (arith, early.not_full) in
    cut-append z (ring_of b ring).words store (last_items (capacity z) (told_of t ring)) payload k
    (ring-lies b.layout ring store valid room some) ((follows-ring b.layout b store t ring f).standing some)
    early.not_full (omega (arith, few, early.data_alone))

early-listed : (store : List ℕ) (b : BlkState) (t : ToldRings) (ring : BlkRing) (payload : List ℕ) (k n : ℕ)
    → IsLayout b.layout → b.layout.total ≤ length store → Follows b.layout b store t → IsEarly b ring payload n → k ≤ n
    → ring_saved b.layout ring (after_writes (first_bytes k (append_of b ring payload)) store)
    ≡ listed (last_items (capacity (ring_zone b.layout ring)) (told_of t ring))
early-listed store b t ring payload k n valid room f early few =
    let z : BlkZone = ring_zone b.layout ring in
    let after : List ℕ = after_writes (first_bytes k (append_of b ring payload)) store in
    let long : length store ≤ length after = writes-longer (first_bytes k (append_of b ring payload)) store in
    standing-listed z (ring_of b ring).words after (last_items (capacity z) (told_of t ring))
    (ring-lies b.layout ring after valid (omega arith) (omega (arith, early.not_full)))
    (early-stands store b t ring payload k n valid room f early few)

-- what reaches the store of an append that was cut: so many first bytes
pub record IsCut (l : BlkLayout) (store : List ℕ) (b : BlkState) (ring : BlkRing) (payload : List ℕ) (limit : ℕ)
    (s : Session) : Type 0 where
  pub count : ℕ
  pub few : count ≤ limit
  pub lost : IsLost (after_writes (first_bytes count (append_of b ring payload)) store) s

dropped-state : (blk : Option BlkState) → is_whole blk ≡ false
    → IfSome blk (λ (b : BlkState). none_dropped b.cut ≡ false)
dropped-state None e = tt
dropped-state (Some b) e = e

through-limit : (c : BlkCut) (limit n : ℕ) → c ≡ After limit → through c n ≤ limit
through-limit Uncut limit n e = cc
through-limit (After m) limit n e = let same : m ≡ limit = cc in omega arith
through-limit Dropped limit n e = cc

cut-ended : (l : BlkLayout) (store : List ℕ) (b : BlkState) (ring : BlkRing) (payload : List ℕ) (outcome : Outcome)
    (limit : ℕ) → 0 < (ring_zone b.layout ring).size → b.cut ≡ After limit
    → is_whole (ended l (record { store = store; blk = Some b }) (Append ring payload) outcome).blk ≡ false
    → IsCut l store b ring payload limit
    (ended l (record { store = store; blk = Some b }) (Append ring payload) outcome)
cut-ended l store b ring payload Done limit some at e = record {
  count = through b.cut (bytes_in (append_of b ring payload));
  few = through-limit b.cut limit (bytes_in (append_of b ring payload)) at;
  lost = record {
    same = ap (λ (s : Session). s.store) (append-done l store b ring payload some);
    state = dropped-state (session_after l (record { store = store; blk = Some b }) (Append ring payload)).blk e;
  };
}
cut-ended l store b ring payload (Fails kept tried) limit some at e = record {
  count = through b.cut kept;
  few = through-limit b.cut limit kept at;
  lost = record {
    same = ap (λ (s : Session). s.store) (append-failed l store b ring payload kept tried some);
    state = dropped-state (ended l (record { store = store; blk = Some b }) (Append ring payload)
        (Fails kept tried)).blk e;
  };
}
cut-ended l store b ring payload NoMemory limit some at e =
    let whole : none_dropped b.cut ≡ true = ap none_dropped at in cc

-- a session that goes on as it was told, up to an append that is cut early
pub cut-run : (l : BlkLayout) (store : List ℕ) (blk : Option BlkState) (t : ToldRings) (b : BlkState) (ring : BlkRing)
    (payload : List ℕ) (outcome : Outcome) (limit : ℕ) (behind : List Call) → IsLayout l
    → Goes l (record { store = store; blk = blk }) t → blk ≡ Some b → b.cut ≡ After limit
    → IsEarly b ring payload limit
    → is_whole (call_after l (record { store = store; blk = blk }) (append_call ring payload outcome)).blk ≡ false
    → no_loads behind ≡ true
    → ring_read l (calls_run l (call_after l (record { store = store; blk = blk }) (append_call ring payload outcome))
    behind) ring ≡ ring_told l t ring
unfolding call_after
cut-run l store None t b ring payload outcome limit behind valid g is at early cut none = cc
cut-run l store (Some c) t b ring payload outcome limit behind valid g is at early cut none =
    let s : Session = record { store = store; blk = Some c } in
    let same-cut : c.cut ≡ After limit = ap (λ (blk : Option BlkState). cut_or b blk) is ∙ at in
    let here : IsEarly c ring payload limit = subst (λ (x : BlkState). IsEarly x ring payload limit)
    (sym (some-same c b is)) early in
    let same : c.layout ≡ l = g.state.0 in
    let ended-cut : IsCut l store c ring payload limit (ended l s (Append ring payload) outcome) =
    cut-ended l store c ring payload outcome limit (omega (arith, here.not_full)) same-cut cut in
    let follows : Follows l c store t = g.state.1 (ap none_dropped same-cut) in
    let end = (lost-run l (ended l s (Append ring payload) outcome) behind
    (after_writes (first_bytes ended-cut.count (append_of c ring payload)) store) ended-cut.lost none).same in
    ap (λ (xs : List ℕ). (ring_of (loaded l xs) ring).saved) end
    ∙ saved-ring l (after_writes (first_bytes ended-cut.count (append_of c ring payload)) store) ring
    ∙ subst (λ (m : BlkLayout). ring_saved m ring (after_writes (first_bytes ended-cut.count (append_of c ring payload))
    store) ≡ listed (last_items (capacity (ring_zone m ring)) (told_of t ring))) same
    (early-listed store c t ring payload ended-cut.count limit (subst IsLayout (sym same) valid)
    (subst (λ (m : BlkLayout). m.total ≤ length store) (sym same) g.room)
    (subst (λ (m : BlkLayout). Follows m c store t) (sym same) follows) here ended-cut.few)
  where
    cut_or : BlkState → Option BlkState → BlkCut
    cut_or d None = d.cut
    cut_or d (Some x) = x.cut

    some-same : (x y : BlkState) → Some x ≡ Some y → x ≡ y
    some-same x y e = cc

pub early-cut : (l : BlkLayout) (store : List ℕ) (before since behind : List Call) (b : BlkState) (ring : BlkRing)
    (payload : List ℕ) (outcome : Outcome) (limit : ℕ) → IsLayout l → l.total ≤ length store → no_faults since ≡ true
    → (calls_run l (based l store before) since).blk ≡ Some b → b.cut ≡ After limit → IsEarly b ring payload limit
    → is_whole (calls_run l (based l store before) (since ++ append_call ring payload outcome ∷ [])).blk ≡ false
    → no_loads behind ≡ true
    → ring_read l (calls_run l (based l store before) (since ++ append_call ring payload outcome ∷ behind)) ring
    ≡ ring_told l (told_run l (based l store before) untold since) ring
unfolding calls_run
early-cut l store before since behind b ring payload outcome limit valid room none is at early cut unloaded =
    let s : Session = calls_run l (based l store before) since in
    let t : ToldRings = told_run l (based l store before) untold since in
    let g : Goes l s t = calls-goes l (based l store before) untold since valid none
    (based-goes l store before valid room) in
    ap (λ (x : Session). ring_read l x ring) (calls-append l (based l store before) since
    (append_call ring payload outcome ∷ behind))
    ∙ cut-run l s.store s.blk t b ring payload outcome limit behind valid g is at early
    (ap (λ (x : Session). is_whole x.blk) (sym (calls-append l (based l store before) since
    (append_call ring payload outcome ∷ []))) ∙ cut) unloaded
