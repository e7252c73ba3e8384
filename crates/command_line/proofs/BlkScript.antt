-- How the stages of a script on the block store end its work
use Rattle.std.proofs.Common.{◌≡◌, ℕ, ◌<◌, ◌≤◌, List, [], length, Option, Some, Result, Ok, Err, IfSome, refl, ap}
use Rattle.std.proofs.Common.{◌∙◌, arith, inl, inr}
use Rattle.std.specs.Bool.{⊤}
use Rattle.std.specs.Io.KnownBytes.{IsAtEnd}
use Rattle.outside.specs.Outside.{Rose}
use Rattle.blk_spec.specs.declared.BlkLayout.{BlkLayout}
use Rattle.grammar_spec.specs.Lines.{script_of}
use Rattle.grammar_spec.specs.declared.line.Line.{Line}
use Rattle.command_spec.specs.Ends.{End, stop_of, end_of}
use Rattle.command_spec.specs.Commands.{script_limit, stops}
use Rattle.command_spec.specs.Answers.{Outside, NoScript}
use Rattle.command_spec.specs.BlkAnswers.{blk_lines, lines_or_bad}
use Rattle.script_spec.specs.BlkStops.{EndsAt}
use Rattle.script_spec.specs.declared.Cause.{Cause}
use Rattle.command_spec.specs.declared.Stop.{Stop}
use Rattle.command_spec.specs.declared.Stop.TheVariants.{Memory, Short, ScriptFault, ImageFault, SinkFault, TooLong}
use Rattle.command_spec.specs.declared.Stop.TheVariants.{BadLine, Refused}
use Rattle.image_file.specs.Loading.{SizeStop}
use Rattle.command_line.specs.Stages.{ReadLines, ScriptStop}
use Rattle.command_line.specs.Ended.{CausedAt, ScriptEnds, LinesEnded, LinesOrStopEnded, KeptBefore, LinesAsk, BlkEnds}
use Rattle.command_line.proofs.ReadParts.{script_read, room_of, unread_memory, unread_fault, unread_short}
use Rattle.command_line.proofs.ReadParts.{read_memory, read_fault, read_long, read_bad, read_unput, read_unsaved}
use Rattle.command_line.proofs.ReadParts.{read_refused, read_done}
use Rattle.command_line.proofs.Script.{Quiet, nat_lt-true, nat_lt-false, quiet_memory, put_nothing}
use Rattle.command_line.proofs.StageStops.{load_stops, script_stops}
use Rattle.image_file.proofs.Sizes.{size_load}
use Rattle.script_spec.specs.Playing.{LinesEnd, KeptUnless, BlkPlayCaused}
use Rattle.script_spec.specs.declared.LineStop.{LineStop}
use Rattle.script_spec.specs.declared.LineStop.TheVariants.{Memory as MemoryThere, StoreFault}
use Rattle.script_spec.specs.declared.LineStop.TheVariants.{SinkFault as SinkFaultThere, Refused as RefusedThere}

-- ---- which lines are wanted

short_lines : (layout : BlkLayout) (bytes script : List ℕ) → length bytes < layout.total
    → blk_lines layout bytes script ≡ Err (Short (length bytes) layout.total)
short_lines layout bytes script h = rw (nat_lt-true h) refl

long_lines : (layout : BlkLayout) (bytes script : List ℕ) → layout.total ≤ length bytes → script_limit < length script
    → blk_lines layout bytes script ≡ Err TooLong
long_lines layout bytes script room h = rw (nat_lt-false room, nat_lt-true h) refl

pub lines_read : (layout : BlkLayout) (bytes script : List ℕ) (r : Result (List Line) ℕ) → layout.total ≤ length bytes
    → (length script ≤ script_limit) × (script_of script ≡ r) → blk_lines layout bytes script ≡ lines_or_bad r
lines_read layout bytes script r room h = rw (nat_lt-false room, nat_lt-false h.0, h.1) refl

-- ---- stops before the first line

-- want of memory
pub memory_lines : (layout : BlkLayout) (bytes : List ℕ) (r : Result (List Line) Stop) (a b : Outside) → Quiet a b
    → a.holds ≡ Some bytes → LinesOrStopEnded layout bytes r a b (Err Memory)
memory_lines layout bytes (Ok lines) a b q t = record {
  text = [];
  stops = inl (record { texts = refl; holds = q.holds ∙ t });
  put = put_nothing a b q;
}
memory_lines layout bytes (Err s) a b q t = (quiet_memory (stops s) a b q, tt)

-- a fault of the store
image_lines : (layout : BlkLayout) (bytes : List ℕ) (r : Result (List Line) Stop) (a b : Outside) → NoScript a b
    → Quiet a b → a.holds ≡ Some bytes → LinesOrStopEnded layout bytes r a b (Err ImageFault)
image_lines layout bytes (Ok lines) a b none q t = record {
  text = [];
  stops = inl (none, record { texts = refl; holds = q.holds ∙ t });
  put = put_nothing a b q;
}
image_lines layout bytes (Err s) a b none q t = (inl (q.given, q.holds), none)

-- a fault of the script
script_lines : (layout : BlkLayout) (bytes : List ℕ) (r : Result (List Line) Stop) (a b : Outside) → Quiet a b
    → a.holds ≡ Some bytes → LinesOrStopEnded layout bytes r a b (Err ScriptFault)
script_lines layout bytes (Ok lines) a b q t = record {
  text = [];
  stops = record { texts = refl; holds = q.holds ∙ t };
  put = put_nothing a b q;
}
script_lines layout bytes (Err s) a b q t = ((q.given, q.holds), tt)

lines_as : (layout : BlkLayout) (bytes : List ℕ) (r r' : Result (List Line) Stop) (a b : Outside) (e : End) → r ≡ r'
    → LinesOrStopEnded layout bytes r' a b e → LinesOrStopEnded layout bytes r a b e
lines_as layout bytes r r' a b e same h = rw same h

stop_short : (layout : BlkLayout) (a b : Outside) (has needed : ℕ) → NoScript a b → Quiet a b
    → (needed ≡ layout.total) × (has < layout.total) × IfSome a.holds (λ bs. has ≡ length bs)
    → BlkEnds layout a b (Err (Short has needed))
stop_short layout a b has needed none q h = record {
  whole = record {
    told = λ bytes script t l.
        let size : has ≡ length bytes = rw t at h.2 in
        let few : length bytes < layout.total = rw size at h.1 in
        lines_as layout bytes (blk_lines layout bytes script) (Err (Short (length bytes) layout.total)) a b
        (Err (Short has needed)) (short_lines layout bytes script few)
        ((rw (size, h.0) refl, put_nothing a b q, q.holds), tt);
  };
  read = unread_short layout.total a b has needed none q.given h;
  kept = q.holds;
}

-- the store's size was not told, or it is too short
pub size_stopped : (layout : BlkLayout) (a b : Outside) (s : Stop) (f g : ℕ) → NoScript a b → Quiet a b
    → SizeStop s layout.total a.holds f g → BlkEnds layout a b (Err s)
size_stopped layout a b s f g none q h = load_stops (λ t. BlkEnds layout a b (Err t)) layout.total a.holds f g
    (record {
      whole = record { told = λ bytes script t l. memory_lines layout bytes (blk_lines layout bytes script) a b q t };
      read = unread_memory layout.total a b none;
      kept = tt;
    })
    (λ rose. record {
      whole = record {
        told = λ bytes script t l. image_lines layout bytes (blk_lines layout bytes script) a b none q t;
      };
      read = unread_fault layout.total a b none;
      kept = tt;
    })
    (λ has needed size. stop_short layout a b has needed none q size) s (size_load s layout.total a.holds f g h)

-- what follows was done on a store with room
module _ (layout : BlkLayout) (a b : Outside) (room : IfSome a.holds (λ bs. layout.total ≤ length bs)) where
  memory_ended : Quiet a b → BlkEnds layout a b (Err Memory)
  memory_ended q = record {
    whole = record { told = λ bytes script t l. memory_lines layout bytes (blk_lines layout bytes script) a b q t };
    read = read_memory layout.total a b room;
    kept = tt;
  }

  stop_long : Quiet a b → IfSome a.left (λ bs. script_limit < length bs) → BlkEnds layout a b (Err TooLong)
  stop_long q h = record {
    whole = record {
      told = λ bytes script t s.
          let long : script_limit < length script = rw s at h in
          lines_as layout bytes (blk_lines layout bytes script) (Err TooLong) a b (Err TooLong)
          (long_lines layout bytes script (room_of layout.total a.holds bytes room t) long)
          ((refl, put_nothing a b q, q.holds), tt);
    };
    read = read_long layout.total a b room q.given h;
    kept = q.holds;
  }

  stop_bad : (n : ℕ) → Quiet a b
      → IsAtEnd b.left × IfSome a.left (λ bs. (length bs ≤ script_limit) × (script_of bs ≡ Err n))
      → BlkEnds layout a b (Err (BadLine n))
  stop_bad n q h = record {
    whole = record {
      told = λ bytes script t s.
          let bad : (length script ≤ script_limit) × (script_of script ≡ Err n) = rw s at h.1 in
          lines_as layout bytes (blk_lines layout bytes script) (Err (BadLine n)) a b (Err (BadLine n))
          (lines_read layout bytes script (Err n) (room_of layout.total a.holds bytes room t) bad)
          ((refl, put_nothing a b q, q.holds), tt);
    };
    read = read_bad layout.total a b room n q.given h;
    kept = q.holds;
  }

  -- the script was not read, or has a bad line
  pub script_stopped : (s : Stop) (f g : ℕ) → Quiet a b → ScriptStop s a.left b.left f g → BlkEnds layout a b (Err s)
  script_stopped s f g q h = script_stops (λ t. BlkEnds layout a b (Err t)) a.left b.left f g (memory_ended q)
      (λ rose. record {
        whole = record { told = λ bytes script t l. script_lines layout bytes (blk_lines layout bytes script) a b q t };
        read = read_fault layout.total a b room q.given;
        kept = q.holds;
      })
      (stop_long q) (λ n. stop_bad n q) s h

-- ---- lines

-- a count of faults behind lines, in the words of their run
pub unless_line : (fault : LineStop) (e : LinesEnd) (before now : ℕ) → KeptUnless fault e before now
    → KeptUnless (stop_of fault) (end_of e) before now
unless_line fault (Ok u) before now h = h
unless_line fault (Err stop) before now h = λ other. h (λ same. other (ap stop_of same))

-- lines that were begun, from the moment before the first
lines_played : (e : LinesEnd) (layout : BlkLayout) (bytes : List ℕ) (lines : List Line) (a b : Outside)
    → EndsAt e layout bytes lines a.given b.given b.holds → LinesEnded layout bytes lines a b (end_of e)
lines_played (Ok u) layout bytes lines a b p = p
lines_played (Err MemoryThere) layout bytes lines a b p = record { text = p.text; stops = inr p.stops; put = p.put }
lines_played (Err StoreFault) layout bytes lines a b p = record { text = p.text; stops = inr p.stops; put = p.put }
lines_played (Err SinkFaultThere) layout bytes lines a b p = record { text = p.text; stops = p.stops; put = p.put }
lines_played (Err (RefusedThere n cause)) layout bytes lines a b p =
    record { text = p.text; stops = p.stops; put = p.put }

-- the ends of lines as ends of their run
played_ends : (P : End → Type 0) (g g' h h' : ℕ) → ((u : ⊤) → P (Ok u)) → P (Err Memory)
    → (Rose g g' → P (Err ImageFault)) → (Rose h h' → P (Err SinkFault))
    → ((n : ℕ) (cause : Cause) → P (Err (Refused n cause))) → (e : LinesEnd) → BlkPlayCaused e g g' h h' → P (end_of e)
played_ends P g g' h h' done memory image sink refused (Ok u) c = done tt
played_ends P g g' h h' done memory image sink refused (Err MemoryThere) c = memory
played_ends P g g' h h' done memory image sink refused (Err StoreFault) c = image c
played_ends P g g' h h' done memory image sink refused (Err SinkFaultThere) c = sink c
played_ends P g g' h h' done memory image sink refused (Err (RefusedThere n cause)) c = refused n cause

-- lines end no other way than after their reading
module _ (mem : ℕ) (a b : Outside) (room : IfSome a.holds (λ bs. mem ≤ length bs)) (lines : List Line)
    (read : ReadLines lines a.left b.left) where
  played_read : (e : LinesEnd) (g g' h h' : ℕ) → BlkPlayCaused e g g' h h' → ScriptEnds mem a b (end_of e)
  played_read e g g' h h' c = played_ends (λ d. ScriptEnds mem a b d) g g' h h'
      (λ u. read_done mem a b room lines read) (read_memory mem a b room)
      (λ rose. read_unsaved mem a b room lines read) (λ rose. read_unput mem a b room lines read)
      (λ n cause. read_refused mem a b room lines read n cause) e c

played_kept : (e : LinesEnd) (g g' h h' : ℕ) (before now : Option (List ℕ)) → BlkPlayCaused e g g' h h'
    → KeptBefore before now (end_of e)
played_kept e g g' h h' before now c = played_ends (λ d. KeptBefore before now d) g g' h h' (λ u. tt) tt (λ rose. tt)
    (λ rose. tt) (λ n cause. tt) e c

pub played_asks : (e : LinesEnd) (g g' h h' old new : ℕ) → BlkPlayCaused e g g' h h' → LinesAsk old new (end_of e)
played_asks e g g' h h' old new c = played_ends (λ d. LinesAsk old new d) g g' h h' (λ u. tt) tt (λ rose. tt)
    (λ rose. tt) (λ n cause. tt) e c

-- a fault is named only if its count rose since the moment before the lines, at which no count was lower
pub played_caused : (e : LinesEnd) (f f' g0 g g' h0 h h' : ℕ) → g0 ≤ g → h0 ≤ h → BlkPlayCaused e g g' h h'
    → CausedAt f f' g0 g' h0 h' (end_of e)
played_caused e f f' g0 g g' h0 h h' p q c = played_ends (λ d. CausedAt f f' g0 g' h0 h' d) g g' h h' (λ u. tt) tt
    (λ rose. omega (arith, p, rose)) (λ rose. omega (arith, q, rose)) (λ n cause. tt) e c

-- lines were played on a store that holds what it held
pub play_ended : (layout : BlkLayout) (a b : Outside) (lines : List Line) (e : LinesEnd) (holds : Option (List ℕ))
    (g g' h h' : ℕ) → IfSome a.holds (λ bs. layout.total ≤ length bs) → ReadLines lines a.left b.left
    → holds ≡ a.holds → BlkPlayCaused e g g' h h'
    → ((bytes : List ℕ) → holds ≡ Some bytes → EndsAt e layout bytes lines a.given b.given b.holds)
    → BlkEnds layout a b (end_of e)
play_ended layout a b lines e holds g g' h h' room read same c p = record {
  whole = record {
    told = λ bytes script t s. lines_as layout bytes (blk_lines layout bytes script) (Ok lines) a b (end_of e)
        (lines_read layout bytes script (Ok lines) (room_of layout.total a.holds bytes room t)
        (script_read a.left b.left lines script read s))
        (lines_played e layout bytes lines a b (p bytes (same ∙ t)));
  };
  read = played_read layout.total a b room lines read e g g' h h' c;
  kept = played_kept e g g' h h' a.holds b.holds c;
}
