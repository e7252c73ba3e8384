-- What the rings of a session stand for
use Rattle.std.proofs.Common.{◌≡◌, ℕ, ◌+◌, ◌-◌, ◌<◌, ◌≤◌, ◌==◌, inl, inr, Bool, true, false, if◌then◌else◌, List, []}
use Rattle.std.proofs.Common.{◌∷◌, ◌++◌, length, drop, Option, Some, None, IfSome, refl, sym, ap, ap₂, ◌∙◌, arith}
use Rattle.std.proofs.Common.{subst, mod-lt, length-append, length-drop}
use Rattle.std.proofs.lemmas.Bool.{cases_lt, eqb-true, and_parts}
use Rattle.std.proofs.lemmas.Bool.Decides.{nat_tests}
use Rattle.std.proofs.lemmas.List.{drop-drop, drop-append-le}
use Rattle.zone_spec.specs.Told.{last_items}
use Rattle.ring_laws.proofs.RingLaw.{last_items-short}
use Rattle.blk_spec.specs.declared.BlkLayout.{BlkLayout}
use Rattle.blk_spec.specs.declared.BlkRing.{BlkRing}
use Rattle.blk_spec.specs.declared.BlkRing.TheVariants.{Console as ConsoleRing, Pmsg as PmsgRing}
use Rattle.blk_spec.specs.declared.BlkZone.{BlkZone}
use Rattle.blk_spec.specs.declared.BlkWords.{BlkWords}
use Rattle.blk_spec.specs.declared.BlkName.{BlkName}
use Rattle.blk_spec.specs.declared.BlkName.TheVariants.{Dump as DumpName, Console, Pmsg}
use Rattle.blk_spec.specs.declared.BlkTime.{BlkTime}
use Rattle.blk_spec.specs.declared.BlkCut.{BlkCut}
use Rattle.blk_spec.specs.declared.BlkFault.TheVariants.{NoZone as NoZoneFault}
use Rattle.kmsg_spec.specs.declared.Reason.{Reason}
use Rattle.blk_spec.specs.Layout.{IsLayout, ring_zone, dump_zone, capacity}
use Rattle.blk_spec.specs.Writes.{Write, after_writes, bytes_in, reaching, spent}
use Rattle.blk_spec.specs.Rings.{header_write, empty_words, append_writes, words_after}
use Rattle.blk_spec.specs.Dumps.{counter_for}
use Rattle.blk_spec.specs.Reading.{zone_bytes, header_words, ring_log, ring_saved}
use Rattle.blk_spec.specs.States.{BlkState, RingState, clearing, load_writes, loaded, append_of, appended, dump_of}
use Rattle.blk_spec.specs.States.{dumped, is_listed, erase_of, erased, empty_ring}
use Rattle.blk_spec.specs.Session.{Operation, Load, Append, AppendElsewhere, Dump, CutAfter, ListAll, Extract, Erase}
use Rattle.blk_spec.specs.Session.{Cause, NoRecord, Session, cause_for, cause_loaded, cause_of, unless_listed, called}
use Rattle.blk_spec.specs.Session.{load_session, done_loaded, unless_refused, session_after, begun, Outcome, Done}
use Rattle.blk_spec.specs.Session.{Fails, NoMemory, Call, ended, call_after, calls_run}
use Rattle.blk_laws.specs.Standing.{LiesIn, StandsFor, header_with, listed}
use Rattle.blk_laws.specs.Apart.{AreWithin, AreApart}
use Rattle.blk_laws.specs.Sessions.{ToldRings, untold, telling, forgetting, told_by, unless_told, told_ending}
use Rattle.blk_laws.specs.Sessions.{told_call, told_run, none_dropped, is_whole, is_no_fault, no_faults, based}
use Rattle.blk_laws.specs.Sessions.{ring_read, ring_told}
use Rattle.blk_laws.proofs.RingLists.{standing-listed, erased as erased-stands}
use Rattle.blk_laws.proofs.Appends.{after-append, append-stands}
use Rattle.blk_laws.proofs.OwnZones.{stays, length-after, append-within, dump-within, header-within}
use Rattle.blk_laws.proofs.Lines.{HasLayout, calls-layout, calls-longer}
use Rattle.blk_laws.proofs.Cuts.{whole-before, whole-limited, all-reached, length-reached}
use Rattle.blk_laws.proofs.Listings.{ring-inside, ring-lies, dump-size, dump-room, no-ring, AllBelow, console-saved}
use Rattle.blk_laws.proofs.Listings.{pmsg-saved, listed-below, below-filter, dumps-below}

-- ---- rings

-- a ring that has a zone stands for the last bytes that it was told; another was told none and has no log
pub record Keeps (z : BlkZone) (ring : RingState) (store told : List ℕ) : Type 0 where
  pub standing : 0 < z.size → StandsFor z ring.words store (last_items (capacity z) told)
  pub absent : z.size ≡ 0 → (told ≡ []) × (ring.saved ≡ None)

last-append : (cap : ℕ) (xs ys : List ℕ) → last_items cap (last_items cap xs ++ ys) ≡ last_items cap (xs ++ ys)
last-append cap xs ys = elim (cases_lt cap (length xs)) [
  | inl a ↦
      (let d : ℕ = length xs - cap in
      let front : drop d xs ++ ys ≡ drop d (xs ++ ys) = sym (drop-append-le d xs ys (omega arith)) in
      let n : length (drop d xs ++ ys) - cap ≡ length ys =
      omega (arith, length-append (drop d xs) ys, length-drop d xs) in
      let m : length (xs ++ ys) - cap ≡ d + length ys = omega (arith, length-append xs ys) in
      ap₂ drop n front ∙ drop-drop (length ys) d (xs ++ ys) ∙ ap (λ k. drop k (xs ++ ys)) (sym m))
  | inr g ↦ (let e : length xs - cap ≡ 0 = omega arith in ap (λ k. last_items cap (drop k xs ++ ys)) e)
]

none-last : (cap : ℕ) → last_items cap [] ≡ []
none-last cap = last_items-short cap [] (omega arith)

stands-same : (z : BlkZone) (words : BlkWords) (store after told : List ℕ) → zone_bytes after z ≡ zone_bytes store z
    → StandsFor z words store told → StandsFor z words after told
stands-same z words store after told e s = record {
  start = s.start;
  size = s.size;
  plain = s.plain;
  header = ap header_words e ∙ s.header;
  log = ap (λ (xs : List ℕ). ring_log (header_with z words) (drop 12 xs)) e ∙ s.log;
}

pub keeps-same : (z : BlkZone) (ring : RingState) (store after told : List ℕ) → zone_bytes after z ≡ zone_bytes store z
    → Keeps z ring store told → Keeps z ring after told
keeps-same z ring store after told e k = record {
  standing = λ h. stands-same z ring.words store after (last_items (capacity z) told) e (k.standing h);
  absent = k.absent;
}

keeps-append : (z : BlkZone) (ring : RingState) (store told payload : List ℕ) → LiesIn z store → Keeps z ring store told
    → Keeps z (record { words = words_after z ring.words payload; saved = ring.saved })
    (after_writes (append_writes z ring.words payload) store) (told ++ payload)
keeps-append z ring store told payload l k =
    let some : 0 < z.size = omega (arith, l.sized) in
    record {
      standing = λ h. subst (StandsFor z (words_after z ring.words payload)
          (after_writes (append_writes z ring.words payload) store)) (last-append (capacity z) told payload)
          (append-stands z ring.words store (last_items (capacity z) told) payload l (k.standing some));
      absent = λ h. absurd (omega (arith, l.sized));
    }

keeps-none : (z : BlkZone) (ring : RingState) (store : List ℕ) → (0 < z.size → StandsFor z ring.words store [])
    → (z.size ≡ 0 → ring.saved ≡ None) → Keeps z ring store []
keeps-none z ring store a b = record {
  standing = λ h. subst (StandsFor z ring.words store) (sym (none-last (capacity z))) (a h);
  absent = λ h. (refl, b h);
}

-- ---- loaded stores

-- what a state has where no byte was dropped since the loading
pub record Follows (l : BlkLayout) (b : BlkState) (store : List ℕ) (t : ToldRings) : Type 0 where
  pub console : Keeps (ring_zone l ConsoleRing) b.console store t.console
  pub pmsg : Keeps (ring_zone l PmsgRing) b.pmsg store t.pmsg
  pub cursor : 0 < l.dumps → b.cursor < l.dumps
  pub dumps : AllBelow l.dumps b.dumps

pub record Goes (l : BlkLayout) (s : Session) (t : ToldRings) : Type 0 where
  pub room : l.total ≤ length s.store
  pub state : IfSome s.blk (λ (b : BlkState). (b.layout ≡ l) × (none_dropped b.cut ≡ true → Follows l b s.store t))

pub follows-cut : (l : BlkLayout) (b : BlkState) (store : List ℕ) (t : ToldRings) (c : BlkCut) → Follows l b store t
    → Follows l (record b { cut = c }) store t
follows-cut l b store t c f = record { console = f.console; pmsg = f.pmsg; cursor = f.cursor; dumps = f.dumps }

-- a call that writes within one zone
called-goes : (l : BlkLayout) (store : List ℕ) (b next : BlkState) (ws : List Write) (z : BlkZone) (t : ToldRings)
    → l.total ≤ length store → next.layout ≡ l
    → (none_dropped b.cut ≡ true → (z.at + z.size ≤ length store) × AreWithin z ws)
    → (none_dropped b.cut ≡ true → Follows l next (after_writes ws store) t)
    → Goes l (called store b ws next) t
called-goes l store b next ws z t room same inside f = record {
  room = omega (arith, length-reached b.cut z ws store inside);
  state = (
    same,
    λ e. follows-cut l next (after_writes (reaching b.cut ws) store) t (spent (bytes_in ws) b.cut)
        (subst (λ (after : List ℕ). Follows l next after t) (sym (all-reached b.cut ws store e))
        (f (whole-before b.cut (bytes_in ws) e))),
  );
}

pub console-apart : (l : BlkLayout) → AreApart (ring_zone l ConsoleRing) (ring_zone l PmsgRing)
console-apart l = inr (omega arith)

pub pmsg-apart : (l : BlkLayout) → AreApart (ring_zone l PmsgRing) (ring_zone l ConsoleRing)
pmsg-apart l = inl (omega arith)

pub dump-apart : (l : BlkLayout) (index : ℕ) (ring : BlkRing) → AreApart (dump_zone l index) (ring_zone l ring)
dump-apart l index ConsoleRing = inr (omega arith)
dump-apart l index PmsgRing = inr (omega arith)

-- ---- a loading

clear-within : (z : BlkZone) → (0 < z.size → 12 ≤ z.size) → AreWithin z (clearing z)
unfolding AreWithin
clear-within z h = by-size (z.size == 0) refl
  where
    by-size : (b : Bool) → (z.size == 0) ≡ b → AreWithin z (if b then [] else header_write z empty_words ∷ [])
    by-size true e = tt
    by-size false e = let some : 0 < z.size = grind (arith, nat_tests) in header-within z empty_words (h some)

clear-stands : (z : BlkZone) (store : List ℕ) → LiesIn z store
    → StandsFor z empty_words (after_writes (clearing z) store) []
clear-stands z store l = by-size (z.size == 0) refl
  where
    by-size : (b : Bool) → (z.size == 0) ≡ b → StandsFor z empty_words
        (after_writes (if b then [] else header_write z empty_words ∷ []) store) []
    by-size true e = let none : z.size ≡ 0 = eqb-true z.size 0 e in absurd (omega (arith, l.sized))
    by-size false e = erased-stands z store l

sized : (l : BlkLayout) (ring : BlkRing) (store : List ℕ) → IsLayout l → l.total ≤ length store
    → 0 < (ring_zone l ring).size → 12 ≤ (ring_zone l ring).size
sized l ring store valid room h = omega (arith, (ring-lies l ring store valid room h).sized)

pub load-goes : (l : BlkLayout) (store : List ℕ) → IsLayout l → l.total ≤ length store
    → Goes l (load_session l store) untold
unfolding load_writes
load-goes l store valid room =
    let p : BlkZone = ring_zone l PmsgRing in
    let c : BlkZone = ring_zone l ConsoleRing in
    let first : List ℕ = after_writes (clearing p) store in
    let p-within : AreWithin p (clearing p) = clear-within p (sized l PmsgRing store valid room) in
    let c-within : AreWithin c (clearing c) = clear-within c (sized l ConsoleRing store valid room) in
    let p-inside : p.at + p.size ≤ length store = omega (arith, ring-inside l PmsgRing valid) in
    let first-long : length first ≡ length store = length-after p (clearing p) store p-within p-inside in
    let c-inside : c.at + c.size ≤ length first = omega (arith, ring-inside l ConsoleRing valid) in
    let whole : after_writes (load_writes l) store ≡ after_writes (clearing c) first =
    after-append (clearing p) (clearing c) store in
    let last-long : length (after_writes (clearing c) first) ≡ length first =
    length-after c (clearing c) first c-within c-inside in
    let first-room : l.total ≤ length first = omega arith in
    let follows : Follows l (loaded l store) (after_writes (clearing c) first) untold = record {
      console = keeps-none c (loaded l store).console (after_writes (clearing c) first)
          (λ h. clear-stands c first (ring-lies l ConsoleRing first valid first-room h)) (no-ring l ConsoleRing store);
      pmsg = keeps-same p (loaded l store).pmsg first (after_writes (clearing c) first) []
          (stays c p (clearing c) first (console-apart l) c-within c-inside)
          (keeps-none p (loaded l store).pmsg first (λ h. clear-stands p store
          (ring-lies l PmsgRing store valid room h)) (no-ring l PmsgRing store));
      cursor = λ h. h;
      dumps = dumps-below l store;
    } in
    record {
      room = omega (arith, ap (length {A = ℕ}) whole);
      state = (refl, λ e. subst (λ (after : List ℕ). Follows l (loaded l store) after untold) (sym whole) follows);
    }

-- ---- the calls on a loaded store

module _ (store : List ℕ) (b : BlkState) (t : ToldRings) (valid : IsLayout b.layout)
    (room : b.layout.total ≤ length store)
    (f : none_dropped b.cut ≡ true → Follows b.layout b store t) where
  still : Goes b.layout (record { store = store; blk = Some b }) t
  still = record { room = room; state = (refl, f) }

  either : (cause : Option Cause) → Goes b.layout (unless_refused cause (record { store = store; blk = Some b })
      (record { store = store; blk = Some b })) (unless_told cause t t)
  either None = still
  either (Some cause) = still

  append-console : (payload : List ℕ) → 0 < (ring_zone b.layout ConsoleRing).size
      → Goes b.layout (called store b (append_of b ConsoleRing payload) (appended b ConsoleRing payload))
      (telling t ConsoleRing payload)
  append-console payload some =
      let z : BlkZone = ring_zone b.layout ConsoleRing in
      let lies : LiesIn z store = ring-lies b.layout ConsoleRing store valid room some in
      let within : none_dropped b.cut ≡ true → AreWithin z (append_of b ConsoleRing payload) =
      λ e. append-within z b.console.words payload (omega (arith, lies.sized))
      (omega (arith, ((f e).console.standing some).start)) in
      called-goes b.layout store b (appended b ConsoleRing payload) (append_of b ConsoleRing payload) z
      (telling t ConsoleRing payload) room refl (λ e. (lies.inside, within e)) (λ e. record {
        console = keeps-append z b.console store t.console payload lies (f e).console;
        pmsg = keeps-same (ring_zone b.layout PmsgRing) b.pmsg store
            (after_writes (append_of b ConsoleRing payload) store) t.pmsg
            (stays z (ring_zone b.layout PmsgRing) (append_of b ConsoleRing payload) store (console-apart b.layout)
            (within e) lies.inside) (f e).pmsg;
        cursor = (f e).cursor;
        dumps = (f e).dumps;
      })

  append-pmsg : (payload : List ℕ) → 0 < (ring_zone b.layout PmsgRing).size
      → Goes b.layout (called store b (append_of b PmsgRing payload) (appended b PmsgRing payload))
      (telling t PmsgRing payload)
  append-pmsg payload some =
      let z : BlkZone = ring_zone b.layout PmsgRing in
      let lies : LiesIn z store = ring-lies b.layout PmsgRing store valid room some in
      let within : none_dropped b.cut ≡ true → AreWithin z (append_of b PmsgRing payload) =
      λ e. append-within z b.pmsg.words payload (omega (arith, lies.sized))
      (omega (arith, ((f e).pmsg.standing some).start)) in
      called-goes b.layout store b (appended b PmsgRing payload) (append_of b PmsgRing payload) z
      (telling t PmsgRing payload) room refl (λ e. (lies.inside, within e)) (λ e. record {
        console = keeps-same (ring_zone b.layout ConsoleRing) b.console store
            (after_writes (append_of b PmsgRing payload) store) t.console
            (stays z (ring_zone b.layout ConsoleRing) (append_of b PmsgRing payload) store (pmsg-apart b.layout)
            (within e) lies.inside) (f e).console;
        pmsg = keeps-append z b.pmsg store t.pmsg payload lies (f e).pmsg;
        cursor = (f e).cursor;
        dumps = (f e).dumps;
      })

  append-some : (ring : BlkRing) (payload : List ℕ) → 0 < (ring_zone b.layout ring).size
      → Goes b.layout (called store b (append_of b ring payload) (appended b ring payload)) (telling t ring payload)
  append-some ConsoleRing payload some = append-console payload some
  append-some PmsgRing payload some = append-pmsg payload some

  append-goes : (ring : BlkRing) (payload : List ℕ) → Goes b.layout
      (unless_refused (cause_loaded b (Append ring payload)) (done_loaded store b (Append ring payload))
      (record { store = store; blk = Some b }))
      (unless_told (cause_loaded b (Append ring payload)) (telling t ring payload) t)
  append-goes ring payload = by-size ((ring_zone b.layout ring).size == 0) refl
    where
      by-size : (q : Bool) → ((ring_zone b.layout ring).size == 0) ≡ q → Goes b.layout
          (unless_refused (cause_for (if q then Some NoZoneFault else None))
          (called store b (append_of b ring payload) (appended b ring payload))
          (record { store = store; blk = Some b }))
          (unless_told (cause_for (if q then Some NoZoneFault else None)) (telling t ring payload) t)
      by-size true e = still
      by-size false e = let some : 0 < (ring_zone b.layout ring).size = grind (arith, nat_tests) in
          append-some ring payload some

  dump-some : (time : BlkTime) (packed : Bool) (reason : Reason) (body : List ℕ) → 0 < b.layout.dumps
      → Goes b.layout (called store b (dump_of b time packed reason body) (dumped b reason)) t
  dump-some time packed reason body some =
      let z : BlkZone = dump_zone b.layout b.cursor in
      let ws : List Write = dump_of b time packed reason body in
      let within : AreWithin z ws = dump-within z time packed (counter_for reason b.counters) reason body
      (dump-size b.layout valid some) in
      let inside : none_dropped b.cut ≡ true → z.at + z.size ≤ length store =
      λ e. omega (arith, dump-room b.layout b.cursor valid ((f e).cursor some)) in
      called-goes b.layout store b (dumped b reason) ws z t room refl (λ e. (inside e, within)) (λ e. record {
        console = keeps-same (ring_zone b.layout ConsoleRing) b.console store (after_writes ws store) t.console
            (stays z (ring_zone b.layout ConsoleRing) ws store (dump-apart b.layout b.cursor ConsoleRing) within
            (inside e)) (f e).console;
        pmsg = keeps-same (ring_zone b.layout PmsgRing) b.pmsg store (after_writes ws store) t.pmsg
            (stays z (ring_zone b.layout PmsgRing) ws store (dump-apart b.layout b.cursor PmsgRing) within (inside e))
            (f e).pmsg;
        cursor = λ h. mod-lt (b.cursor + 1) some;
        dumps = (f e).dumps;
      })

  dump-goes : (time : BlkTime) (packed : Bool) (reason : Reason) (body : List ℕ) → Goes b.layout
      (unless_refused (cause_loaded b (Dump time packed reason body))
      (done_loaded store b (Dump time packed reason body)) (record { store = store; blk = Some b }))
      (unless_told (cause_loaded b (Dump time packed reason body)) t t)
  dump-goes time packed reason body = by-count (b.layout.dumps == 0) refl
    where
      by-count : (q : Bool) → (b.layout.dumps == 0) ≡ q → Goes b.layout
          (unless_refused (cause_for (if q then Some NoZoneFault else None))
          (called store b (dump_of b time packed reason body) (dumped b reason))
          (record { store = store; blk = Some b }))
          (unless_told (cause_for (if q then Some NoZoneFault else None)) t t)
      by-count true e = still
      by-count false e = let some : 0 < b.layout.dumps = grind (arith, nat_tests) in
          dump-some time packed reason body some

  cut-goes : (limit : ℕ) → Goes b.layout (done_loaded store b (CutAfter limit)) t
  cut-goes limit = record {
    room = room;
    state = (
      refl,
      λ e. follows-cut b.layout b store t _ (f (whole-limited b.cut limit e)),
    );
  }

  -- an erasure of a listed record
  ring-erased : (z : BlkZone) → (0 < z.size → LiesIn z store)
      → Keeps z empty_ring (after_writes (header_write z empty_words ∷ []) store) []
  ring-erased z lies = keeps-none z empty_ring (after_writes (header_write z empty_words ∷ []) store)
      (λ h. erased-stands z store (lies h)) (λ h. refl)

  erase-console : is_listed b Console ≡ true → Goes b.layout (called store b (erase_of b Console) (erased b Console))
      (forgetting t Console)
  erase-console named =
      let z : BlkZone = ring_zone b.layout ConsoleRing in
      let ws : List Write = erase_of b Console in
      let some : none_dropped b.cut ≡ true → 0 < z.size =
      λ e. elim (cases_lt 0 z.size) [
        | inl a ↦ a
        | inr c ↦
            absurd (console-saved b named ((f e).console.absent (omega arith)).1)
      ] in
      let within : none_dropped b.cut ≡ true → AreWithin z ws =
      λ e. header-within z empty_words (sized b.layout ConsoleRing store valid room (some e)) in
      let inside : z.at + z.size ≤ length store = omega (arith, ring-inside b.layout ConsoleRing valid) in
      called-goes b.layout store b (erased b Console) ws z (forgetting t Console) room refl (λ e. (inside, within e))
      (λ e. record {
        console = ring-erased z (ring-lies b.layout ConsoleRing store valid room);
        pmsg = keeps-same (ring_zone b.layout PmsgRing) b.pmsg store (after_writes ws store) t.pmsg
            (stays z (ring_zone b.layout PmsgRing) ws store (console-apart b.layout) (within e) inside) (f e).pmsg;
        cursor = (f e).cursor;
        dumps = (f e).dumps;
      })

  erase-pmsg : is_listed b Pmsg ≡ true → Goes b.layout (called store b (erase_of b Pmsg) (erased b Pmsg))
      (forgetting t Pmsg)
  erase-pmsg named =
      let z : BlkZone = ring_zone b.layout PmsgRing in
      let ws : List Write = erase_of b Pmsg in
      let some : none_dropped b.cut ≡ true → 0 < z.size =
      λ e. elim (cases_lt 0 z.size) [
        | inl a ↦ a
        | inr c ↦
            absurd (pmsg-saved b named ((f e).pmsg.absent (omega arith)).1)
      ] in
      let within : none_dropped b.cut ≡ true → AreWithin z ws =
      λ e. header-within z empty_words (sized b.layout PmsgRing store valid room (some e)) in
      let inside : z.at + z.size ≤ length store = omega (arith, ring-inside b.layout PmsgRing valid) in
      called-goes b.layout store b (erased b Pmsg) ws z (forgetting t Pmsg) room refl (λ e. (inside, within e))
      (λ e. record {
        console = keeps-same (ring_zone b.layout ConsoleRing) b.console store (after_writes ws store) t.console
            (stays z (ring_zone b.layout ConsoleRing) ws store (pmsg-apart b.layout) (within e) inside) (f e).console;
        pmsg = ring-erased z (ring-lies b.layout PmsgRing store valid room);
        cursor = (f e).cursor;
        dumps = (f e).dumps;
      })

  erase-dump : (index : ℕ) (packed : Bool) → is_listed b (DumpName index packed) ≡ true
      → Goes b.layout (called store b (erase_of b (DumpName index packed)) (erased b (DumpName index packed))) t
  erase-dump index packed named =
      let z : BlkZone = dump_zone b.layout index in
      let ws : List Write = erase_of b (DumpName index packed) in
      let below : none_dropped b.cut ≡ true → index < b.layout.dumps =
      λ e. listed-below b b.layout.dumps index packed (f e).dumps named in
      let within : none_dropped b.cut ≡ true → AreWithin z ws =
      λ e. header-within z empty_words (let some : 52 ≤ b.layout.kmsg = dump-size b.layout valid
      (omega (arith, below e)) in omega arith) in
      let inside : none_dropped b.cut ≡ true → z.at + z.size ≤ length store =
      λ e. omega (arith, dump-room b.layout index valid (below e)) in
      called-goes b.layout store b (erased b (DumpName index packed)) ws z t room refl (λ e. (inside e, within e))
      (λ e. record {
        console = keeps-same (ring_zone b.layout ConsoleRing) b.console store (after_writes ws store) t.console
            (stays z (ring_zone b.layout ConsoleRing) ws store (dump-apart b.layout index ConsoleRing) (within e)
            (inside e)) (f e).console;
        pmsg = keeps-same (ring_zone b.layout PmsgRing) b.pmsg store (after_writes ws store) t.pmsg
            (stays z (ring_zone b.layout PmsgRing) ws store (dump-apart b.layout index PmsgRing) (within e)
            (inside e)) (f e).pmsg;
        cursor = (f e).cursor;
        dumps = below-filter b.layout.dumps _ b.dumps (f e).dumps;
      })

  erase-listed : (name : BlkName) → is_listed b name ≡ true
      → Goes b.layout (called store b (erase_of b name) (erased b name)) (forgetting t name)
  erase-listed (DumpName index packed) named = erase-dump index packed named
  erase-listed Console named = erase-console named
  erase-listed Pmsg named = erase-pmsg named

  erase-goes : (name : Option BlkName) → Goes b.layout
      (unless_refused (cause_loaded b (Erase name)) (done_loaded store b (Erase name))
      (record { store = store; blk = Some b }))
      (unless_told (cause_loaded b (Erase name)) (told_by (Erase name) t) t)
  erase-goes None = still
  erase-goes (Some name) = by-listed (is_listed b name) refl
    where
      by-listed : (q : Bool) → is_listed b name ≡ q → Goes b.layout
          (unless_refused (if q then None else Some NoRecord) (called store b (erase_of b name) (erased b name))
          (record { store = store; blk = Some b }))
          (unless_told (if q then None else Some NoRecord) (forgetting t name) t)
      by-listed true e = erase-listed name e
      by-listed false e = still

  loaded-goes : (operation : Operation) → Goes b.layout
      (unless_refused (cause_loaded b operation) (done_loaded store b operation)
      (record { store = store; blk = Some b })) (unless_told (cause_loaded b operation) (told_by operation t) t)
  loaded-goes Load = load-goes b.layout store valid room
  loaded-goes (Append ring payload) = append-goes ring payload
  loaded-goes AppendElsewhere = still
  loaded-goes (Dump time packed reason body) = dump-goes time packed reason body
  loaded-goes (CutAfter limit) = cut-goes limit
  loaded-goes ListAll = still
  loaded-goes (Extract name) = either (unless_listed b name)
  loaded-goes (Erase name) = erase-goes name

-- ---- the lines of a session

line-goes : (l : BlkLayout) (store : List ℕ) (blk : Option BlkState) (t : ToldRings) (operation : Operation)
    → IsLayout l
    → Goes l (record { store = store; blk = blk }) t
    → Goes l (session_after l (record { store = store; blk = blk }) operation)
    (unless_told (cause_of blk operation) (told_by operation t) t)
unfolding session_after cause_of
line-goes l store None t Load valid g = load-goes l store valid g.room
line-goes l store None t (Append ring payload) valid g = g
line-goes l store None t AppendElsewhere valid g = g
line-goes l store None t (Dump time packed reason body) valid g = g
line-goes l store None t (CutAfter limit) valid g = g
line-goes l store None t ListAll valid g = g
line-goes l store None t (Extract name) valid g = g
line-goes l store None t (Erase name) valid g = g
line-goes l store (Some b) t operation valid g =
    let same : b.layout ≡ l = g.state.0 in
    subst (λ (m : BlkLayout). Goes m (unless_refused (cause_loaded b operation) (done_loaded store b operation)
    (record { store = store; blk = Some b })) (unless_told (cause_loaded b operation) (told_by operation t) t)) same
    (loaded-goes store b t (subst IsLayout (sym same) valid)
    (subst (λ (m : BlkLayout). m.total ≤ length store) (sym same) g.room)
    (λ e. subst (λ (m : BlkLayout). Follows m b store t) (sym same) (g.state.1 e)) operation)

pub ended-goes : (l : BlkLayout) (s : Session) (t : ToldRings) (operation : Operation) (outcome : Outcome) → IsLayout l
    → is_no_fault outcome ≡ true → Goes l s t
    → Goes l (ended l s operation outcome)
    (told_ending outcome (unless_told (cause_of s.blk operation) (told_by operation t) t) t)
ended-goes l s t operation Done valid h g = line-goes l s.store s.blk t operation valid g
ended-goes l s t operation (Fails kept tried) valid h g = cc
ended-goes l s t operation NoMemory valid h g = g

-- calls within which the store did not fail
pub calls-goes : (l : BlkLayout) (s : Session) (t : ToldRings) (calls : List Call) → IsLayout l → no_faults calls ≡ true
    → Goes l s t → Goes l (calls_run l s calls) (told_run l s t calls)
unfolding calls_run told_run call_after
calls-goes l s t [] valid h g = g
calls-goes l s t (call ∷ calls) valid h g =
    let parts = and_parts (is_no_fault call.outcome) (no_faults calls) h in
    calls-goes l (ended l s call.operation call.outcome) (told_call s.blk call t) calls valid parts.1
    (ended-goes l s t call.operation call.outcome valid parts.0 g)

keeps-listed : (l : BlkLayout) (r : BlkRing) (ring : RingState) (store told : List ℕ) → IsLayout l
    → l.total ≤ length store → Keeps (ring_zone l r) ring store told
    → ring_saved l r store ≡ listed (last_items (capacity (ring_zone l r)) told)
keeps-listed l r ring store told valid room k = elim (cases_lt 0 (ring_zone l r).size) [
  | inl a ↦ standing-listed (ring_zone l r) ring.words store (last_items (capacity (ring_zone l r)) told)
      (ring-lies l r store valid room a) (k.standing a)
  | inr b ↦ (let none : (ring_zone l r).size ≡ 0 = omega arith in
      let empty : last_items (capacity (ring_zone l r)) told ≡ [] =
      ap (last_items (capacity (ring_zone l r))) (k.absent none).0 ∙ none-last (capacity (ring_zone l r)) in
      no-ring l r store none ∙ sym (ap listed empty))
]

pub lists-told : (l : BlkLayout) (s : Session) (t : ToldRings) (ring : BlkRing) → IsLayout l → Goes l s t
    → is_whole s.blk ≡ true → ring_read l s ring ≡ ring_told l t ring
lists-told l s t ring valid g e = by-blk s.blk ring g.state e
  where
    by-blk : (blk : Option BlkState) (r : BlkRing) → IfSome blk (λ (b : BlkState). (b.layout ≡ l)
        × (none_dropped b.cut ≡ true → Follows l b s.store t)) → is_whole blk ≡ true
        → ring_read l s r ≡ ring_told l t r
    by-blk None r h k = cc
    by-blk (Some b) ConsoleRing h k = keeps-listed l ConsoleRing b.console s.store t.console valid g.room
        (h.1 k).console
    by-blk (Some b) PmsgRing h k = keeps-listed l PmsgRing b.pmsg s.store t.pmsg valid g.room (h.1 k).pmsg

-- ---- a session from its first line, and from its base load

pub begun-goes : (l : BlkLayout) (store : List ℕ) → l.total ≤ length store → Goes l (begun store) untold
begun-goes l store room = record { room = room; state = tt }

loads-goes : (l : BlkLayout) (store : List ℕ) (blk : Option BlkState) → IsLayout l → l.total ≤ length store
    → HasLayout l (record { store = store; blk = blk })
    → Goes l (session_after l (record { store = store; blk = blk }) Load) untold
unfolding session_after cause_of
loads-goes l store None valid room h = load-goes l store valid room
loads-goes l store (Some b) valid room h =
    subst (λ (m : BlkLayout). Goes l (load_session m store) untold) (sym h) (load-goes l store valid room)

pub based-goes : (l : BlkLayout) (store : List ℕ) (before : List Call) → IsLayout l → l.total ≤ length store
    → Goes l (based l store before) untold
unfolding call_after
based-goes l store before valid room =
    let s = calls_run l (begun store) before in
    loads-goes l s.store s.blk valid (omega (arith, room, calls-longer l (begun store) before))
    (calls-layout l (begun store) before tt)

pub whole-session : (l : BlkLayout) (store : List ℕ) (before since : List Call) (ring : BlkRing) → IsLayout l
    → l.total ≤ length store → no_faults since ≡ true
    → is_whole (calls_run l (based l store before) since).blk ≡ true
    → ring_read l (calls_run l (based l store before) since) ring
    ≡ ring_told l (told_run l (based l store before) untold since) ring
whole-session l store before since ring valid room none e =
    lists-told l (calls_run l (based l store before) since) (told_run l (based l store before) untold since) ring valid
    (calls-goes l (based l store before) untold since valid none (based-goes l store before valid room)) e
