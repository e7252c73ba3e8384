-- What a session lists of its rings where the store failed without harm to them
use Rattle.std.proofs.Common.{◌≡◌, ℕ, ◌+◌, ◌<◌, ◌≤◌, ◌==◌, Bool, true, false, if◌then◌else◌, List, [], ◌∷◌, length}
use Rattle.std.proofs.Common.{Option, Some, None, refl, sym, arith, subst}
use Rattle.std.proofs.lemmas.Bool.Decides.{nat_tests}
use Rattle.blk_spec.specs.declared.BlkLayout.{BlkLayout}
use Rattle.blk_spec.specs.declared.BlkRing.{BlkRing}
use Rattle.blk_spec.specs.declared.BlkRing.TheVariants.{Console as ConsoleRing, Pmsg as PmsgRing}
use Rattle.blk_spec.specs.declared.BlkZone.{BlkZone}
use Rattle.blk_spec.specs.declared.BlkTime.{BlkTime}
use Rattle.blk_spec.specs.declared.BlkName.TheVariants.{Dump as DumpName}
use Rattle.kmsg_spec.specs.declared.Reason.{Reason}
use Rattle.blk_spec.specs.declared.BlkFault.TheVariants.{NoZone as NoZoneFault}
use Rattle.blk_spec.specs.declared.BlkCut.{BlkCut}
use Rattle.blk_spec.specs.declared.BlkCut.TheVariants.{Uncut, After, Dropped}
use Rattle.blk_spec.specs.Layout.{IsLayout, ring_zone, dump_zone}
use Rattle.blk_spec.specs.Writes.{Write, after_writes, first_bytes, through, spent}
use Rattle.blk_spec.specs.Rings.{empty_words}
use Rattle.blk_spec.specs.Dumps.{counter_for}
use Rattle.blk_spec.specs.States.{BlkState, ring_of, append_of, dump_refusal, dump_of, is_listed, erase_of}
use Rattle.blk_spec.specs.Session.{Operation, Append, Dump, Erase, NoRecord, Session, cause_for, cause_of}
use Rattle.blk_spec.specs.Session.{unless_listed, unless_refused, Outcome, Done, Fails, NoMemory, Call, failed_call}
use Rattle.blk_spec.specs.Session.{ended, call_after, calls_run}
use Rattle.blk_laws.specs.Standing.{LiesIn}
use Rattle.blk_laws.specs.Apart.{AreWithin}
use Rattle.blk_laws.specs.Sessions.{ToldRings, untold, told_by, unless_told, told_ending, told_call, told_run}
use Rattle.blk_laws.specs.Sessions.{none_dropped, is_whole, based, ring_read, ring_told, IsEarly, IsHarmless}
use Rattle.blk_laws.specs.Sessions.{AreHarmless}
use Rattle.blk_laws.proofs.OwnZones.{append-within, dump-within, header-within, stays-cut}
use Rattle.blk_laws.proofs.Cuts.{whole-before}
use Rattle.blk_laws.proofs.Listings.{ring-lies, dump-size, dump-room, listed-below}
use Rattle.blk_laws.proofs.Lines.{writes-longer}
use Rattle.blk_laws.proofs.Sessions.{Follows, Goes, keeps-same, follows-cut, console-apart, pmsg-apart, dump-apart}
use Rattle.blk_laws.proofs.Sessions.{ended-goes, based-goes, lists-told}
use Rattle.blk_laws.proofs.CutSessions.{append-failed, follows-ring, early-stands}

pub through-most : (c : BlkCut) (n : ℕ) → through c n ≤ n
through-most Uncut n = omega arith
through-most (After limit) n = omega arith
through-most Dropped n = omega arith

module _ (store : List ℕ) (b : BlkState) (t : ToldRings) (payload : List ℕ) (k n : ℕ) (valid : IsLayout b.layout)
    (room : b.layout.total ≤ length store) (f : Follows b.layout b store t) (few : k ≤ n) where
  within : (ring : BlkRing) → IsEarly b ring payload n
      → AreWithin (ring_zone b.layout ring) (append_of b ring payload)
  within ring early =
      let z : BlkZone = ring_zone b.layout ring in
      let some : 0 < z.size = omega (arith, early.not_full) in
      let lies : LiesIn z store = ring-lies b.layout ring store valid room some in
      append-within z (ring_of b ring).words payload (omega (arith, lies.sized))
      (omega (arith, ((follows-ring b.layout b store t ring f).standing some).start))

  inside : (ring : BlkRing) → IsEarly b ring payload n
      → (ring_zone b.layout ring).at + (ring_zone b.layout ring).size ≤ length store
  inside ring early = (ring-lies b.layout ring store valid room (omega (arith, early.not_full))).inside

  -- the ring stands as before, and so does the other
  pub early-follows : (ring : BlkRing) → IsEarly b ring payload n
      → Follows b.layout b (after_writes (first_bytes k (append_of b ring payload)) store) t
  early-follows ConsoleRing early = record {
    console = record {
      standing = λ h. early-stands store b t ConsoleRing payload k n valid room f early few;
      absent = f.console.absent;
    };
    pmsg = keeps-same (ring_zone b.layout PmsgRing) b.pmsg store
        (after_writes (first_bytes k (append_of b ConsoleRing payload)) store) t.pmsg
        (stays-cut (ring_zone b.layout ConsoleRing) (ring_zone b.layout PmsgRing) (append_of b ConsoleRing payload)
        store k (inside ConsoleRing early) (console-apart b.layout) (within ConsoleRing early)) f.pmsg;
    cursor = f.cursor;
    dumps = f.dumps;
  }
  early-follows PmsgRing early = record {
    console = keeps-same (ring_zone b.layout ConsoleRing) b.console store
        (after_writes (first_bytes k (append_of b PmsgRing payload)) store) t.console
        (stays-cut (ring_zone b.layout PmsgRing) (ring_zone b.layout ConsoleRing) (append_of b PmsgRing payload)
        store k (inside PmsgRing early) (pmsg-apart b.layout) (within PmsgRing early)) f.console;
    pmsg = record {
      standing = λ h. early-stands store b t PmsgRing payload k n valid room f early few;
      absent = f.pmsg.absent;
    };
    cursor = f.cursor;
    dumps = f.dumps;
  }

failed-goes : (store : List ℕ) (b : BlkState) (t : ToldRings) (ring : BlkRing) (payload : List ℕ) (kept tried : ℕ)
    → IsLayout b.layout → b.layout.total ≤ length store
    → (none_dropped b.cut ≡ true → Follows b.layout b store t) → IsEarly b ring payload kept
    → Goes b.layout (failed_call store b (append_of b ring payload) kept tried) t
failed-goes store b t ring payload kept tried valid room f early =
    let k = through b.cut kept in
    let after = after_writes (first_bytes k (append_of b ring payload)) store in
    record {
      room = omega (arith, room, writes-longer (first_bytes k (append_of b ring payload)) store);
      state = (
        refl,
        λ e. follows-cut b.layout b after t (spent tried b.cut)
            (early-follows store b t payload k kept valid room (f (whole-before b.cut tried e))
            (through-most b.cut kept) ring early),
      );
    }

-- a call that writes within a dump zone, wherever it failed
zone-failed : (store : List ℕ) (b : BlkState) (t : ToldRings) (index : ℕ) (ws : List Write) (kept tried : ℕ)
    → b.layout.total ≤ length store → (none_dropped b.cut ≡ true → Follows b.layout b store t)
    → (none_dropped b.cut ≡ true → (dump_zone b.layout index).at + (dump_zone b.layout index).size ≤ length store)
    → (none_dropped b.cut ≡ true → AreWithin (dump_zone b.layout index) ws)
    → Goes b.layout (failed_call store b ws kept tried) t
zone-failed store b t index ws kept tried room f inside within =
    let z : BlkZone = dump_zone b.layout index in
    let k = through b.cut kept in
    let after = after_writes (first_bytes k ws) store in
    let rings : none_dropped b.cut ≡ true → Follows b.layout b after t = λ e. record {
      console = keeps-same (ring_zone b.layout ConsoleRing) b.console store after t.console
          (stays-cut z (ring_zone b.layout ConsoleRing) ws store k (inside e)
          (dump-apart b.layout index ConsoleRing) (within e)) (f e).console;
      pmsg = keeps-same (ring_zone b.layout PmsgRing) b.pmsg store after t.pmsg
          (stays-cut z (ring_zone b.layout PmsgRing) ws store k (inside e)
          (dump-apart b.layout index PmsgRing) (within e)) (f e).pmsg;
      cursor = (f e).cursor;
      dumps = (f e).dumps;
    } in
    record {
      room = omega (arith, room, writes-longer (first_bytes k ws) store);
      state = (
        refl,
        λ e. follows-cut b.layout b after t (spent tried b.cut) (rings (whole-before b.cut tried e)),
      );
    }

dump-goes : (store : List ℕ) (b : BlkState) (t : ToldRings) (time : BlkTime) (packed : Bool) (reason : Reason)
    (body : List ℕ) (kept tried : ℕ) → IsLayout b.layout → b.layout.total ≤ length store
    → (none_dropped b.cut ≡ true → Follows b.layout b store t)
    → Goes b.layout (unless_refused (cause_for (dump_refusal b))
    (failed_call store b (dump_of b time packed reason body) kept tried) (record { store = store; blk = Some b })) t
dump-goes store b t time packed reason body kept tried valid room f = by-count (b.layout.dumps == 0) refl
  where
    by-count : (q : Bool) → (b.layout.dumps == 0) ≡ q → Goes b.layout
        (unless_refused (cause_for (if q then Some NoZoneFault else None))
        (failed_call store b (dump_of b time packed reason body) kept tried)
        (record { store = store; blk = Some b })) t
    by-count true e = record { room = room; state = (refl, f) }
    by-count false e =
        let some : 0 < b.layout.dumps = grind (arith, nat_tests) in
        zone-failed store b t b.cursor (dump_of b time packed reason body) kept tried room f
        (λ h. omega (arith, dump-room b.layout b.cursor valid ((f h).cursor some)))
        (λ h. dump-within (dump_zone b.layout b.cursor) time packed (counter_for reason b.counters) reason body
        (dump-size b.layout valid some))

erase-goes : (store : List ℕ) (b : BlkState) (t : ToldRings) (index : ℕ) (packed : Bool) (kept tried : ℕ)
    → IsLayout b.layout → b.layout.total ≤ length store
    → (none_dropped b.cut ≡ true → Follows b.layout b store t)
    → Goes b.layout (unless_refused (unless_listed b (Some (DumpName index packed)))
    (failed_call store b (erase_of b (DumpName index packed)) kept tried) (record { store = store; blk = Some b })) t
erase-goes store b t index packed kept tried valid room f = by-listed (is_listed b (DumpName index packed)) refl
  where
    by-listed : (q : Bool) → is_listed b (DumpName index packed) ≡ q → Goes b.layout
        (unless_refused (if q then None else Some NoRecord)
        (failed_call store b (erase_of b (DumpName index packed)) kept tried)
        (record { store = store; blk = Some b })) t
    by-listed false e = record { room = room; state = (refl, f) }
    by-listed true e =
        let below : none_dropped b.cut ≡ true → index < b.layout.dumps =
        λ h. listed-below b b.layout.dumps index packed (f h).dumps e in
        zone-failed store b t index (erase_of b (DumpName index packed)) kept tried room f
        (λ h. omega (arith, dump-room b.layout index valid (below h)))
        (λ h. header-within (dump_zone b.layout index) empty_words
        (let some : 52 ≤ b.layout.kmsg = dump-size b.layout valid (omega (arith, below h)) in omega arith))

append-goes : (store : List ℕ) (b : BlkState) (t : ToldRings) (ring : BlkRing) (payload : List ℕ) (kept tried : ℕ)
    → IsLayout b.layout → b.layout.total ≤ length store
    → (none_dropped b.cut ≡ true → Follows b.layout b store t) → IsEarly b ring payload kept
    → Goes b.layout (ended b.layout (record { store = store; blk = Some b }) (Append ring payload) (Fails kept tried)) t
append-goes store b t ring payload kept tried valid room f early =
    subst (λ (s : Session). Goes b.layout s t)
    (sym (append-failed b.layout store b ring payload kept tried (omega (arith, early.not_full))))
    (failed-goes store b t ring payload kept tried valid room f early)

-- a call within which the store failed without harm
failing-goes : (store : List ℕ) (b : BlkState) (t : ToldRings) (operation : Operation) (kept tried : ℕ)
    → IsLayout b.layout → b.layout.total ≤ length store
    → (none_dropped b.cut ≡ true → Follows b.layout b store t) → IsHarmless (Fails kept tried) (Some b) operation
    → Goes b.layout (ended b.layout (record { store = store; blk = Some b }) operation (Fails kept tried)) t
unfolding cause_of
failing-goes store b t (Append ring payload) kept tried valid room f h =
    append-goes store b t ring payload kept tried valid room f h
failing-goes store b t (Dump time packed reason body) kept tried valid room f h =
    dump-goes store b t time packed reason body kept tried valid room f
failing-goes store b t (Erase (Some (DumpName index packed))) kept tried valid room f h =
    erase-goes store b t index packed kept tried valid room f
failing-goes store b t other kept tried valid room f h = absurd h

unloaded-goes : (l : BlkLayout) (store : List ℕ) (t : ToldRings) (operation : Operation) (kept tried : ℕ)
    → IsHarmless (Fails kept tried) None operation → Goes l (record { store = store; blk = None }) t
    → Goes l (ended l (record { store = store; blk = None }) operation (Fails kept tried)) t
unfolding cause_of
unloaded-goes l store t (Dump time packed reason body) kept tried h g = g
unloaded-goes l store t (Erase (Some (DumpName index packed))) kept tried h g = g
unloaded-goes l store t other kept tried h g = absurd h

harmless-goes : (l : BlkLayout) (store : List ℕ) (blk : Option BlkState) (t : ToldRings) (operation : Operation)
    (outcome : Outcome) → IsLayout l → IsHarmless outcome blk operation
    → Goes l (record { store = store; blk = blk }) t
    → Goes l (ended l (record { store = store; blk = blk }) operation outcome)
    (told_ending outcome (unless_told (cause_of blk operation) (told_by operation t) t) t)
harmless-goes l store blk t operation Done valid h g =
    ended-goes l (record { store = store; blk = blk }) t operation Done valid refl g
harmless-goes l store blk t operation NoMemory valid h g = g
harmless-goes l store None t operation (Fails kept tried) valid h g =
    unloaded-goes l store t operation kept tried h g
harmless-goes l store (Some b) t operation (Fails kept tried) valid h g =
    let same : b.layout ≡ l = g.state.0 in
    subst (λ (m : BlkLayout). Goes m (ended m (record { store = store; blk = Some b }) operation (Fails kept tried)) t)
    same (failing-goes store b t operation kept tried (subst IsLayout (sym same) valid)
    (subst (λ (m : BlkLayout). m.total ≤ length store) (sym same) g.room)
    (λ e. subst (λ (m : BlkLayout). Follows m b store t) (sym same) (g.state.1 e)) h)

harmless-run : (l : BlkLayout) (s : Session) (t : ToldRings) (calls : List Call) → IsLayout l → AreHarmless l s calls
    → Goes l s t → Goes l (calls_run l s calls) (told_run l s t calls)
unfolding calls_run told_run call_after AreHarmless
harmless-run l s t [] valid h g = g
harmless-run l s t (call ∷ calls) valid h g =
    harmless-run l (ended l s call.operation call.outcome) (told_call s.blk call t) calls valid h.1
    (harmless-goes l s.store s.blk t call.operation call.outcome valid h.0 g)

pub harmless-faults : (l : BlkLayout) (store : List ℕ) (before since : List Call) (ring : BlkRing) → IsLayout l
    → l.total ≤ length store → AreHarmless l (based l store before) since
    → is_whole (calls_run l (based l store before) since).blk ≡ true
    → ring_read l (calls_run l (based l store before) since) ring
    ≡ ring_told l (told_run l (based l store before) untold since) ring
harmless-faults l store before since ring valid room harmless e =
    lists-told l (calls_run l (based l store before) since) (told_run l (based l store before) untold since) ring valid
    (harmless-run l (based l store before) untold since valid harmless (based-goes l store before valid room)) e
