-- How a script on an image ends, by what its lines leave
use Rattle.std.proofs.Common.{◌≡◌, ℕ, ◌+◌, ◌≤◌, List, [], ◌++◌, length, take, Option, Ok, Err, IfSome, refl}
use Rattle.std.proofs.Common.{sym, ap, ◌∙◌, inr, arith, append-nil, length-append}
use Rattle.std.proofs.Math.Seq.{take-append-add, take-length}
use Rattle.std.proofs.KnownBytes.{Appends-trans}
use Rattle.std.specs.Io.KnownBytes.{Appends}
use Rattle.outside.specs.Outside.{AppendsFront, Writes, WritesFront}
use Rattle.zone_spec.specs.declared.Zone.{Zone}
use Rattle.machine_spec.specs.States.{Session as MachineSession}
use Rattle.machine_spec.specs.Stop.{session_image}
use Rattle.grammar_spec.specs.Fields.{Text}
use Rattle.grammar_spec.specs.declared.line.Line.{Line}
use Rattle.script_spec.specs.Texts.{front, whole}
use Rattle.script_spec.specs.Scripts.{ran}
use Rattle.script_spec.specs.Playing.{PutSome, PutsText, Played, PlayStop}
use Rattle.script_spec.specs.declared.LineStop.{LineStop}
use Rattle.script_spec.specs.declared.LineStop.TheVariants.{Memory as MemoryThere, StoreFault}
use Rattle.script_spec.specs.declared.LineStop.TheVariants.{SinkFault as SinkFaultThere, Refused as RefusedThere}
use Rattle.command_spec.specs.Ends.{End, status_of, stop_of}
use Rattle.command_spec.specs.Commands.{Run, RamPlan, OfRam, Wanted, wanted}
use Rattle.command_spec.specs.Commands.{wanted_run, wanted_script, mem_of}
use Rattle.command_spec.specs.Answers.{Outside, Later}
use Rattle.command_spec.specs.PlanAnswers.{ram_statuses, IsAmong}
use Rattle.command_spec.specs.declared.Stop.{Stop}
use Rattle.command_spec.specs.declared.Stop.TheVariants.{Memory, ImageFault, SinkFault, Refused}
use Rattle.command_line.specs.Stages.{ReadLines}
use Rattle.command_line.specs.Ended.{Ended, Caused, CausedAt, Counted, KeptAt, RunEnds, ScriptEnds, WrittenAt, WorkDone}
use Rattle.command_line.proofs.ReadParts.{read_memory, read_unput, read_unsaved, read_refused, read_done}
use Rattle.command_line.proofs.Script.{nat_lt-true, nat_lt-false, IsScripted, Loaded, room_in, lines_ended}
use Rattle.commands.specs.Due.{PutsBefore}
use Rattle.commands.specs.Scripts.{session_plan, session_wants, AllLeft, LinesLeave, IsSilent}
use Rattle.commands.specs.declared.scripts.Session.{Session}
use Rattle.commands.specs.declared.scripts.Session.TheVariants.{Ram, Shared}
use Rattle.commands.proofs.WorkEnds.{kept_same}
use Rattle.commands.proofs.Due.{text_put, first_put}

-- ---- what is wanted

pub run_wanted : (plan : RamPlan) (bytes script : List ℕ) → plan.command ≡ Run → mem_of plan ≤ length bytes
    → wanted plan bytes script ≡ wanted_run plan.zones (take (mem_of plan) bytes) script
run_wanted plan bytes script is h = rw (is, nat_lt-false h) refl

pub scripted : (session : Session) → IsScripted (session_plan session) (session_wants session)
scripted (Ram layout) = record {
  class = refl;
  statuses = refl;
  short = λ bytes script h. rw (nat_lt-true h) refl;
  long = λ bytes script room h. rw (nat_lt-false room, nat_lt-true h) refl;
  lines = λ bytes script room h. rw (nat_lt-false room, nat_lt-false h) refl;
  bad = λ image n. refl;
}
scripted (Shared booted layout) = record {
  class = refl;
  statuses = refl;
  short = λ bytes script h. rw (nat_lt-true h) refl;
  long = λ bytes script room h. rw (nat_lt-false room, nat_lt-true h) refl;
  lines = λ bytes script room h. rw (nat_lt-false room, nat_lt-false h) refl;
  bad = λ image n. refl;
}

-- ---- the work

module _ (session : Session) (a b : Outside) where
  pub work_done : (e : End) → Later a b → Caused a b e → Counted a b e → KeptAt a.holds b.holds e
      → KeptAt a.writes b.writes e → RunEnds (session_plan session) a b e
      → WorkDone (Ok (OfRam (session_plan session))) a b e
  work_done e later caused counts kept asks ended = record {
    later = later;
    caused = caused;
    counts = counts;
    kept = λ w. kept;
    asks = rw (scripted session).class asks;
    ended = rw (scripted session).class ended;
  }

  -- the image was not written
  pub work_stopped : (s : Stop) → Later a b → Caused a b (Err s) → Counted a b (Err s) → b.holds ≡ a.holds
      → b.writes ≡ a.writes → RunEnds (session_plan session) a b (Err s)
      → WorkDone (Ok (OfRam (session_plan session))) a b (Err s)
  work_stopped s later caused counts same unwritten ended =
      work_done (Err s) later caused counts (kept_same (Err s) a.holds b.holds same)
      (kept_same (Err s) a.writes b.writes unwritten) ended

-- ---- lines

-- lines stop for a fault only where the output failed
pub lines_caused : (s : Stop) (w : Wanted) (given given' : Option (List ℕ)) (f f' g g' h h' : ℕ)
    → LinesLeave w given given' h h' (Err s) → CausedAt f f' g g' h h' (Err s)
lines_caused SinkFault w given given' f f' g g' h h' p = p.0
lines_caused Memory w given given' f f' g g' h h' p = tt
lines_caused (Refused n cause) w given given' f f' g g' h h' p = tt
lines_caused s w given given' f f' g g' h h' p = absurd p

-- what the lines on a machine leave
pub play_left : (layout : List Zone) (image : List ℕ) (lines : List Line) (session : MachineSession)
    (given given' : Option (List ℕ)) (text last : List ℕ) → Played layout image lines session given given' → text ≡ []
    → last ≡ session_image session → AllLeft (wanted_script layout image (Ok lines)) given given' text last
play_left layout image lines session given given' text last p none same = record {
  end = rw p.none refl;
  before = whole (ran layout image lines).texts;
  put = p.texts;
  texts = rw none (sym (append-nil (whole (ran layout image lines).texts)));
  writes = rw (p.state, same) refl;
}

pub play_stopped : (stop : LineStop) (layout : List Zone) (image : List ℕ) (lines : List Line)
    (given given' : Option (List ℕ)) (h h' : ℕ) → PlayStop stop layout image lines given given' h h'
    → LinesLeave (wanted_script layout image (Ok lines)) given given' h h' (Err (stop_of stop))
play_stopped MemoryThere layout image lines given given' h h' p = record { count = p.count; bytes = p.bytes }
play_stopped StoreFault layout image lines given given' h h' p = absurd p
play_stopped SinkFaultThere layout image lines given given' h h' p = p
play_stopped (RefusedThere n cause) layout image lines given given' h h' p =
    (rw (p.refused, p.number) refl, p.texts)

-- what is left of a text was put, in part
put_some : (texts : List Text) (before text : Text) (old mid new : Option (List ℕ)) → whole texts ≡ before ++ text
    → Appends old mid before → AppendsFront mid new text → PutSome texts old new
put_some texts before text old mid new e put part =
    let all : front texts (length texts) ≡ before ++ text =
    ap (λ (ts : List Text). whole ts) (take-length texts) ∙ e in
    record {
      count = length texts;
      bytes = rw all (record {
        count = length before + part.count;
        within = omega (arith, part.within, length-append before text);
        bytes = rw (take-append-add before text part.count)
            (Appends-trans old mid new before (take part.count text) put part.bytes);
      });
    }

module _ (session : Session) (a b : Outside) (image : List ℕ) (l : Loaded (session_plan session) a image)
    (lines : List Line) (r : ReadLines lines a.left b.left) where
  abbrev plan : RamPlan
  plan = session_plan session

  abbrev w : Wanted
  w = session_wants session image (Ok lines)

  room : IfSome a.holds (λ bs. mem_of plan ≤ length bs)
  room = room_in plan a image l

  ended : (e : End) → IsAmong (ram_statuses Run) (status_of e) → ScriptEnds (mem_of plan) a b e
      → Ended w a b e → WrittenAt w a b e → RunEnds plan a b e
  ended e can read h written =
      lines_ended plan (session_wants session) (scripted session) a b image l lines r e can read h written

  -- not all were done
  pub lines_stopped : (s : Stop) (h h' : ℕ) → b.holds ≡ a.holds
      → LinesLeave w a.given b.given h h' (Err s) → RunEnds plan a b (Err s)
  lines_stopped Memory h h' same put = ended (Err Memory) refl (read_memory (mem_of plan) a b room) (put, same) tt
  lines_stopped SinkFault h h' same put =
      ended (Err SinkFault) refl (read_unput (mem_of plan) a b room lines r) (put.1, same) tt
  lines_stopped (Refused n cause) h h' same put =
      ended (Err (Refused n cause)) refl (read_refused (mem_of plan) a b room lines r n cause)
      (put.0, put.1, same) tt
  lines_stopped s h h' same none = absurd none

  -- all were done
  module _ (mid : Option (List ℕ)) (text last : List ℕ)
      (left : AllLeft w a.given mid text last) where
    pub text_unput : b.holds ≡ a.holds → AppendsFront mid b.given text → RunEnds plan a b (Err SinkFault)
    text_unput same put = ended (Err SinkFault) refl (read_unput (mem_of plan) a b room lines r)
        (put_some w.texts left.before text a.given mid b.given left.texts left.put put, same) tt

    module _ (put : Appends mid b.given text) where
      shown : Appends a.given b.given (whole w.texts)
      shown = rw left.texts (Appends-trans a.given mid b.given left.before text left.put put)

      pub image_saved : Writes a.holds b.holds 0 last → RunEnds plan a b (Ok tt)
      image_saved wrote = ended (Ok tt) refl (read_done (mem_of plan) a b room lines r)
          (left.end, shown, rw left.writes wrote) tt

      pub image_unsaved : WritesFront a.holds b.holds 0 last → RunEnds plan a b (Err ImageFault)
      image_unsaved wrote = ended (Err ImageFault) refl (read_unsaved (mem_of plan) a b room lines r)
          (inr (left.end, shown, rw left.writes wrote)) (left.end, shown, rw left.writes wrote)

-- ---- texts

leaves_text : (s : Stop) (w : Wanted) (given given' : Option (List ℕ)) (h h' : ℕ)
    → LinesLeave w given given' h h' (Err s) → PutsText given given'
leaves_text Memory w given given' h h' p = text_put given given' (front w.texts p.count) p.bytes
leaves_text SinkFault w given given' h h' p =
    text_put given given' (take p.1.bytes.count (front w.texts p.1.count)) p.1.bytes.bytes
leaves_text (Refused n cause) w given given' h h' p = text_put given given' (whole w.texts) p.1
leaves_text s w given given' h h' p = absurd p

pub lines_put : (session : Session) (s : Stop) (w : Wanted) (given given' : Option (List ℕ)) (h h' : ℕ)
    → LinesLeave w given given' h h' (Err s) → IsSilent session given given'
    → PutsBefore (session_plan session).command given given' (Err s)
lines_put (Ram layout) s w given given' h h' p silent = leaves_text s w given given' h h' p
lines_put (Shared booted layout) s w given given' h h' p silent = first_put (Err s) given given' silent

-- behind the lines
pub left_put : (session : Session) (given given' : Option (List ℕ)) → PutsText given given'
    → PutsBefore (session_plan session).command given given' (Ok tt)
    × PutsBefore (session_plan session).command given given' (Err SinkFault)
    × PutsBefore (session_plan session).command given given' (Err ImageFault)
left_put (Ram layout) given given' h = (tt, h, h)
left_put (Shared booted layout) given given' h = (tt, tt, h)

-- the text that was put, with a part of what was left
pub texts_put : {w : Wanted} {text image : List ℕ} (old mid new : Option (List ℕ)) → AllLeft w old mid text image
    → (more : Text) → Appends mid new more → PutsText old new
texts_put old mid new left more put =
    text_put old new (left.before ++ more) (Appends-trans old mid new left.before more left.put put)
