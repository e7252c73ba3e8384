-- What a script on the block store answers, from how its work ended and what the last line left
use Rattle.std.proofs.Common.{◌≡◌, ◌≢◌, ◌⊎◌, ℕ, ◌+◌, List, length, take, Some, Result, Ok, Err, refl, sym, ap, ◌∙◌}
use Rattle.std.proofs.Common.{arith, inl, inr, append-nil}
use Rattle.std.proofs.KnownBytes.{Appends-trans}
use Rattle.std.specs.Io.KnownBytes.{Appends}
use Rattle.outside.specs.Outside.{AppendsFront}
use Rattle.blk_spec.specs.declared.BlkLayout.{BlkLayout}
use Rattle.grammar_spec.specs.Fields.{Text}
use Rattle.grammar_spec.specs.declared.line.Line.{Line}
use Rattle.command_spec.specs.Ends.{End, status_of, last_line}
use Rattle.command_spec.specs.Commands.{stops}
use Rattle.command_spec.specs.Answers.{Outside, NoScript, RoseFor}
use Rattle.script_spec.specs.BlkScripts.{BlkRan, blk_ran}
use Rattle.command_spec.specs.BlkAnswers.{blk_lines, blk_end, BlkStop, StoppedFor, StoppedUnput, LinesAnswers}
use Rattle.command_spec.specs.BlkAnswers.{LinesOrStopAnswers, BlkAnswers}
use Rattle.script_spec.specs.BlkStops.{AllDone}
use Rattle.command_spec.specs.declared.Stop.{Stop}
use Rattle.script_spec.specs.declared.Cause.{Cause}
use Rattle.command_spec.specs.declared.Stop.TheVariants.{Memory, Usage, Param, Layout, NoSharedZone, ScriptFault}
use Rattle.command_spec.specs.declared.Stop.TheVariants.{ImageFault, SinkFault, Refused}
use Rattle.command_line.specs.Ends.{LastPut, Finished}
use Rattle.command_line.specs.Ended.{Caused, StoppedAt, LinesEnded, LinesOrStopEnded, UnreadAt, KeptBefore, BlkEnds}
use Rattle.command_line.proofs.RunAnswers.{GoesOn, rose_on, sink_rose, answers}
use Rattle.command_line.proofs.Tool.{script_on, status_is, script_read}

-- the status of an end, or 7
abbrev IsStatus : End → Outside → Outside → ℕ → Type 0
IsStatus e a b status = (status ≡ status_of e) ⊎ ((status ≡ 7) × RoseFor SinkFault a b)

-- ---- an image that failed before the script was read

module _ (a m b : Outside) (on : GoesOn a m b) (status : ℕ) where
  not_six : (n : ℕ) → n ≢ 6 → (status ≡ n) ⊎ ((status ≡ 7) × RoseFor SinkFault a b) → status ≡ 6 → NoScript a b
  not_six n other is six = elim is [
    | inl k ↦ absurd (other (sym k ∙ six))
    | inr k ↦ absurd (omega (arith, k.0, six))
  ]

  unread_at : (e : End) → UnreadAt a m e → IsStatus e a b status → status ≡ 6 → NoScript a b
  unread_at (Err ImageFault) h is six = script_on a m b h on.script
  unread_at (Ok u) h is six = not_six 0 (λ z. absurd (omega arith)) is six
  unread_at (Err s) h is six = not_six (status_of (Err s)) (λ z. absurd (omega arith)) is six

-- ---- good lines

-- lines that a refused one ended
refused_end : (n : ℕ) (cause : Cause) (r : BlkRan) → n ≡ length r.texts + 1 → r.refused ≡ Some cause
    → blk_end r ≡ Err (Refused n cause)
refused_end n cause r number refused = rw (refused, number) refl

same_stop : (e : End) (s t : Stop) → e ≡ Err s → e ≡ Err t → t ≡ s
same_stop e s t h k = let same : Err s ≡ Err t = sym h ∙ k in cc

module _ (layout : BlkLayout) (bytes : List ℕ) (a m b : Outside) (on : GoesOn a m b) (status : ℕ) where
  module _ (lines : List Line) where
    all_done : b.given ≡ m.given → AllDone layout bytes lines a.given m.given m.holds
        → AllDone layout bytes lines a.given b.given b.holds
    all_done told d = record { none = d.none; texts = rw told d.texts; holds = on.image.holds ∙ d.holds }

    -- the last line leaves the script and the store
    stop_on : (s : Stop) (text : Text) → BlkStop s layout bytes lines text a m → BlkStop s layout bytes lines text a b
    stop_on ImageFault text h = elim h [
      | inl k ↦ inl (script_on a m b k.0 on.script, rw on.image.holds k.1)
      | inr k ↦ inr (rw on.image.holds k)
    ]
    stop_on Memory text h = rw on.image.holds h
    stop_on ScriptFault text h = rw on.image.holds h
    stop_on SinkFault text h = rw on.image.holds h
    stop_on (Refused n cause) text h = rw on.image.holds h
    stop_on s text h = absurd h

    -- a last line after lines that stopped
    put_last : (s : Stop) → StoppedAt s layout bytes lines a m → Appends m.given b.given (last_line s)
        → StoppedFor s layout bytes lines a b
    put_last s k put = record {
      text = k.text;
      stops = stop_on s k.text k.stops;
      put = Appends-trans a.given m.given b.given k.text (last_line s) k.put put;
    }

    put_part : (s : Stop) → RoseFor s a b → StoppedAt s layout bytes lines a m
        → AppendsFront m.given b.given (last_line s) → StoppedUnput layout bytes lines a b
    put_part s rose k put =
        record {
          stop = s;
          rose = rose;
          text = k.text;
          stops = stop_on s k.text k.stops;
          part = put.count;
          put = Appends-trans a.given m.given b.given k.text (take put.count (last_line s)) k.put put.bytes;
        }

    put_none : RoseFor SinkFault a b → b.given ≡ m.given → StoppedAt SinkFault layout bytes lines a m
        → StoppedUnput layout bytes lines a b
    put_none rose told k = record {
      stop = SinkFault;
      rose = rose;
      text = k.text;
      stops = stop_on SinkFault k.text k.stops;
      part = 0;
      put = rw (told, append-nil k.text) k.put;
    }

    unput : status ≡ 7 → RoseFor SinkFault a b → StoppedUnput layout bytes lines a b
        → LinesAnswers layout bytes lines a b status
    unput seven rose u = record {
      exact = inr (inr (inr (inr (seven, rose))));
      done = λ z. absurd (omega arith);
      refused = λ z s e. absurd (omega arith);
      memory = λ z. absurd (omega arith);
      script_fault = λ z. absurd (omega arith);
      image_fault = λ z. absurd (omega arith);
      sink_fault = λ z. u;
    }

    -- the last line was put, or the output failed in it
    lines_stopped : (s : Stop) → Caused a m (Err s) → StoppedAt s layout bytes lines a m
        → LastPut s m.given b.given m.sink_faults b.sink_faults status
        → (status ≡ status_of (Err s) → StoppedFor s layout bytes lines a b → LinesAnswers layout bytes lines a b
        status)
        → LinesAnswers layout bytes lines a b status
    lines_stopped s c k f shown = elim f.shown [
      | inl h ↦ shown h.0 (put_last s k h.1)
      | inr h ↦ unput h.0 (sink_rose a m b on h.1) (put_part s (rose_on a m b on s c f.later) k h.2)
    ]

    answers_ok : status ≡ 0 → AllDone layout bytes lines a.given b.given b.holds
        → LinesAnswers layout bytes lines a b status
    answers_ok zero d = record {
      exact = inl (rw (d.none, zero) refl);
      done = λ z. d;
      refused = λ z s e. absurd (omega arith);
      memory = λ z. absurd (omega arith);
      script_fault = λ z. absurd (omega arith);
      image_fault = λ z. absurd (omega arith);
      sink_fault = λ z. absurd (omega arith);
    }

    answers_memory : status ≡ 1 → StoppedFor Memory layout bytes lines a b
        → LinesAnswers layout bytes lines a b status
    answers_memory one k = record {
      exact = inr (inl one);
      done = λ z. absurd (omega arith);
      refused = λ z s e. absurd (omega arith);
      memory = λ z. k;
      script_fault = λ z. absurd (omega arith);
      image_fault = λ z. absurd (omega arith);
      sink_fault = λ z. absurd (omega arith);
    }

    answers_script_fault : RoseFor ScriptFault a b → status ≡ 5 → StoppedFor ScriptFault layout bytes lines a b
        → LinesAnswers layout bytes lines a b status
    answers_script_fault rose five k = record {
      exact = inr (inr (inl (five, rose)));
      done = λ z. absurd (omega arith);
      refused = λ z s e. absurd (omega arith);
      memory = λ z. absurd (omega arith);
      script_fault = λ z. k;
      image_fault = λ z. absurd (omega arith);
      sink_fault = λ z. absurd (omega arith);
    }

    answers_image_fault : RoseFor ImageFault a b → status ≡ 6 → StoppedFor ImageFault layout bytes lines a b
        → LinesAnswers layout bytes lines a b status
    answers_image_fault rose six k = record {
      exact = inr (inr (inr (inl (six, rose))));
      done = λ z. absurd (omega arith);
      refused = λ z s e. absurd (omega arith);
      memory = λ z. absurd (omega arith);
      script_fault = λ z. absurd (omega arith);
      image_fault = λ z. k;
      sink_fault = λ z. absurd (omega arith);
    }

    answers_refused : (n : ℕ) (cause : Cause) → blk_end (blk_ran layout bytes lines) ≡ Err (Refused n cause)
        → status ≡ 10 → StoppedFor (Refused n cause) layout bytes lines a b
        → LinesAnswers layout bytes lines a b status
    answers_refused n cause end ten k = record {
      exact = inl (ten ∙ sym (ap status_of end));
      done = λ z. absurd (omega arith);
      refused = λ z s e. let same : s ≡ Refused n cause = same_stop (blk_end (blk_ran layout bytes lines))
          (Refused n cause) s end e in rw same k;
      memory = λ z. absurd (omega arith);
      script_fault = λ z. absurd (omega arith);
      image_fault = λ z. absurd (omega arith);
      sink_fault = λ z. absurd (omega arith);
    }

    lines_answers : (e : End) → Caused a m e → LinesEnded layout bytes lines a m e
        → Finished e m.given b.given m.sink_faults b.sink_faults status → LinesAnswers layout bytes lines a b status
    lines_answers (Ok u) c h f = answers_ok f.answer (all_done f.same h)
    lines_answers (Err Memory) c h f = lines_stopped Memory c h f answers_memory
    lines_answers (Err ScriptFault) c h f = lines_stopped ScriptFault c h f
        (answers_script_fault (rose_on a m b on ScriptFault c f.later))
    lines_answers (Err ImageFault) c h f = lines_stopped ImageFault c h f
        (answers_image_fault (rose_on a m b on ImageFault c f.later))
    lines_answers (Err (Refused n cause)) c h f = lines_stopped (Refused n cause) c h f
        (answers_refused n cause (refused_end n cause (blk_ran layout bytes lines) h.stops.number h.stops.refused))
    lines_answers (Err SinkFault) c h f =
        let rose : RoseFor SinkFault a b = rose_on a m b on SinkFault c f.later in
        unput f.answer rose (put_none rose f.same h)
    lines_answers (Err s) c h f = absurd h.stops

  lines_or_stop : (r : Result (List Line) Stop) (e : End) → Caused a m e → LinesOrStopEnded layout bytes r a m e
      → Finished e m.given b.given m.sink_faults b.sink_faults status → LinesOrStopAnswers layout bytes r a b status
  lines_or_stop (Ok lines) e c h f = lines_answers lines e c h f
  lines_or_stop (Err s) e c h f =
      (answers a m b on (stops s) status e c h.0 f, unread_at a m b on status e h.1 (status_is a m b on status e c f))

-- ---- the store that no line has reached

module _ (a m b : Outside) (status : ℕ) where
  -- the store is as it was on a status that no line has
  kept_before : (e : End) → KeptBefore a.holds m.holds e → IsStatus e a b status → status ≢ 0 → status ≢ 1
      → status ≢ 6 → status ≢ 7 → status ≢ 10 → m.holds ≡ a.holds
  kept_before (Ok u) h is zero one six seven ten = elim is [ inl k ↦ absurd (zero k) | inr k ↦ absurd (seven k.0) ]
  kept_before (Err Memory) h is zero one six seven ten =
      elim is [ inl k ↦ absurd (one k) | inr k ↦ absurd (seven k.0) ]
  kept_before (Err ImageFault) h is zero one six seven ten =
      elim is [ inl k ↦ absurd (six k) | inr k ↦ absurd (seven k.0) ]
  kept_before (Err SinkFault) h is zero one six seven ten =
      elim is [ inl k ↦ absurd (seven k) | inr k ↦ absurd (seven k.0) ]
  kept_before (Err (Refused n cause)) h is zero one six seven ten =
      elim is [ inl k ↦ absurd (ten k) | inr k ↦ absurd (seven k.0) ]
  kept_before (Err Usage) h is zero one six seven ten = absurd h
  kept_before (Err (Param x y)) h is zero one six seven ten = absurd h
  kept_before (Err (Layout x)) h is zero one six seven ten = absurd h
  kept_before (Err NoSharedZone) h is zero one six seven ten = absurd h
  kept_before (Err s) h is zero one six seven ten = h

pub blk_answers : (layout : BlkLayout) (a m b : Outside) (e : End) (status : ℕ) → GoesOn a m b → Caused a m e
    → BlkEnds layout a m e → Finished e m.given b.given m.sink_faults b.sink_faults status → BlkAnswers layout a b
    status
blk_answers layout a m b e status on c h f =
    let s = status_is a m b on status e c f in
    record {
      whole = record {
        told = λ bytes script t l. lines_or_stop layout bytes a m b on status (blk_lines layout bytes script)
            e c (h.whole.told bytes script t l) f;
      };
      read = script_read a m b on status layout.total e c h.read f;
      kept = λ zero one six seven ten. on.image.holds ∙ kept_before a m b status e h.kept s zero one six seven ten;
    }
