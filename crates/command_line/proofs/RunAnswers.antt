-- What a run answers, from how its work ended and what its last line left
use Rattle.std.proofs.Common.{◌≡◌, ◌≢◌, ◌⊎◌, ℕ, ◌+◌, ◌≤◌, List, [], ◌++◌, length, take, Option, Ok, Err, sym, ◌∙◌}
use Rattle.std.proofs.Common.{arith, inl, inr, append-nil, length-append, lit≤}
use Rattle.std.proofs.KnownBytes.{Appends-nil, Appends-trans}
use Rattle.std.proofs.lemmas.Grind.{common_steps}
use Rattle.std.proofs.Math.Seq.{take-append-add}
use Rattle.std.specs.Io.KnownBytes.{Appends}
use Rattle.outside.specs.Outside.{AppendsFront}
use Rattle.grammar_spec.specs.Fields.{Text}
use Rattle.command_spec.specs.Ends.{End, status_of, last_line}
use Rattle.command_spec.specs.Commands.{Wanted}
use Rattle.command_spec.specs.Answers.{Outside, Later, NoScript, NoImage, RoseFor, WritesAll, WritesSome, IsFree}
use Rattle.command_spec.specs.Answers.{PutFront, SavedInPart, CanStop, Answers}
use Rattle.script_spec.specs.Texts.{front, whole}
use Rattle.command_line.specs.Ends.{LastPut, Finished, Silent}
use Rattle.script_spec.specs.Playing.{PutTexts, PutSome}
use Rattle.command_line.specs.Ended.{Ended, Caused}
use Rattle.command_spec.specs.declared.Stop.{Stop}
use Rattle.command_spec.specs.declared.Stop.TheVariants.{Memory, ScriptFault, ImageFault, SinkFault}

-- all texts are the first of them, so many as there are
all_texts : (texts : List Text) → front texts (length texts) ≡ whole texts
all_texts texts = grind (arith, common_steps)

-- a front of a text is a front of it and nothing more
front_alone : (a b : Option (List ℕ)) (xs : List ℕ) → AppendsFront a b xs → AppendsFront a b (xs ++ [])
front_alone a b xs h = rw (append-nil xs) h

-- ---- the last line

-- from the end of the work to the end of the run only the output changes
pub record GoesOn (a m b : Outside) : Type 0 where
  pub later : Later a m
  pub script : NoScript m b
  pub image : NoImage m b

module _ (a m b : Outside) (on : GoesOn a m b) where
  -- a fault that was met in the work is one of the whole run
  pub rose_on : (s : Stop) → Caused a m (Err s) → m.sink_faults ≤ b.sink_faults → RoseFor s a b
  rose_on ScriptFault h k = rw on.script.source h
  rose_on ImageFault h k = rw on.image.store h
  rose_on SinkFault h k = omega (arith, h, k)
  rose_on s h k = tt

  -- and so is a fault of the last line
  pub sink_rose : RoseFor SinkFault m b → RoseFor SinkFault a b
  sink_rose h = omega (arith, on.later.sink, h)

  module _ (w : Wanted) (status : ℕ) where
    -- an output that failed in the last line, before which the image was untouched
    unput_front : (s : Stop) (count : ℕ) → CanStop w.end s → RoseFor s a b
        → Appends a.given m.given (front w.texts count) → AppendsFront m.given b.given (last_line s)
        → m.holds ≡ a.holds → PutFront w a b
    unput_front s count can rose puts last kept = record {
      count = count;
      last = s;
      can = can;
      rose = rose;
      bytes = record {
        count = length (front w.texts count) + last.count;
        within = omega (arith, length-append (front w.texts count) (last_line s), last.within);
        bytes = rw (take-append-add (front w.texts count) (last_line s) last.count)
            (Appends-trans a.given m.given b.given (front w.texts count) (take last.count (last_line s)) puts
            last.bytes);
      };
      holds = on.image.holds ∙ kept;
    }

    seven : status ≡ 7 → RoseFor SinkFault a b
        → PutFront w a b ⊎ ((k : ℕ) × SavedInPart w a b (take k (last_line ImageFault)))
        → Answers w a b status
    seven is rose put =
        let free : IsFree a b status = inr (inr (inr (is, rose))) in record {
          exact = inr free;
          done = λ z. absurd (omega arith);
          refused = λ s e nf. absurd (nf free);
          memory = λ z. absurd (omega arith);
          script_fault = λ z. absurd (omega arith);
          image_fault = λ z. absurd (omega arith);
          sink_fault = λ z. put;
          kept = λ p q r. absurd (r is);
        }

    -- the last line was put, or the output failed in it
    last_front : (s : Stop) (count : ℕ) → CanStop w.end s → Caused a m (Err s)
        → Appends a.given m.given (front w.texts count) → m.holds ≡ a.holds
        → LastPut s m.given b.given m.sink_faults b.sink_faults status
        → (status ≡ status_of (Err s) → Appends m.given b.given (last_line s) → Answers w a b status)
        → Answers w a b status
    last_front s count can caused puts kept last shown = elim last.shown [
      | inl h ↦ shown h.0 h.1
      | inr h ↦ seven h.0 (sink_rose h.1)
          (inl (unput_front s count can (rose_on s caused last.later) puts h.2 kept))
    ]

    -- an end that the words, the image or the script alone decide
    answers_fixed : (s : Stop) → 2 ≤ status_of (Err s) → status_of (Err s) ≢ 5 → status_of (Err s) ≢ 6
        → status_of (Err s) ≢ 7 → CanStop w.end s → Caused a m (Err s) → w.end ≡ Err s
        → Appends a.given m.given (whole w.texts) → m.holds ≡ a.holds
        → LastPut s m.given b.given m.sink_faults b.sink_faults status → Answers w a b status
    answers_fixed s two five six sev can caused e puts kept last =
        last_front s (length w.texts) can caused (rw (all_texts w.texts) puts) kept last (λ is put. record {
          exact = inl (rw e is);
          done = λ z. absurd (omega arith);
          refused = λ s' e' nf. let same_stop : s' ≡ s = cc in
              rw same_stop (Appends-trans a.given m.given b.given (whole w.texts) (last_line s) puts put);
          memory = λ z. absurd (omega arith);
          script_fault = λ z. absurd (five (sym is ∙ z));
          image_fault = λ z. absurd (six (sym is ∙ z));
          sink_fault = λ z. absurd (sev (sym is ∙ z));
          kept = λ p q r. on.image.holds ∙ kept;
        })

    answers_ok : w.end ≡ Ok tt → Appends a.given m.given (whole w.texts) → WritesAll w.writes a.holds m.holds
        → status ≡ 0 → b.given ≡ m.given → Answers w a b status
    answers_ok e puts wrote zero told = record {
      exact = inl (rw e zero);
      done = λ z. (e, rw told puts, rw on.image.holds wrote);
      refused = λ s e' nf. let clash : Ok tt ≡ Err s = sym e ∙ e' in absurd (cc);
      memory = λ z. absurd (omega arith);
      script_fault = λ z. absurd (omega arith);
      image_fault = λ z. absurd (omega arith);
      sink_fault = λ z. absurd (omega arith);
      kept = λ p q r. absurd (p zero);
    }

    answers_memory : PutTexts w.texts a.given m.given → m.holds ≡ a.holds
        → LastPut Memory m.given b.given m.sink_faults b.sink_faults status → Answers w a b status
    answers_memory puts kept last =
        last_front Memory puts.count tt tt puts.bytes kept last (λ one put. record {
          exact = inr (inl one);
          done = λ z. absurd (omega arith);
          refused = λ s e nf. absurd (nf (inl one));
          memory = λ z. record {
            count = puts.count;
            bytes = Appends-trans a.given m.given b.given (front w.texts puts.count) (last_line Memory) puts.bytes put;
          };
          script_fault = λ z. absurd (omega arith);
          image_fault = λ z. absurd (omega arith);
          sink_fault = λ z. absurd (omega arith);
          kept = λ p q r. on.image.holds ∙ kept;
        })

    -- nothing was put before the last line
    none_put : m.given ≡ a.given → Appends a.given m.given (front w.texts 0)
    none_put quiet = rw quiet (Appends-nil a.given)

    answers_script_fault : Caused a m (Err ScriptFault) → m.given ≡ a.given → m.holds ≡ a.holds
        → LastPut ScriptFault m.given b.given m.sink_faults b.sink_faults status → Answers w a b status
    answers_script_fault caused quiet kept last =
        let free : status ≡ 5 → IsFree a b status = λ five. inr (inl (five, rose_on ScriptFault caused last.later)) in
        last_front ScriptFault 0 tt caused (none_put quiet) kept last (λ five put. record {
          exact = inr (free five);
          done = λ z. absurd (omega arith);
          refused = λ s e nf. absurd (nf (free five));
          memory = λ z. absurd (omega arith);
          script_fault = λ z. rw quiet at put;
          image_fault = λ z. absurd (omega arith);
          sink_fault = λ z. absurd (omega arith);
          kept = λ p q r. on.image.holds ∙ kept;
        })

    -- a fault in reading the image
    answers_unread : Caused a m (Err ImageFault) → m.given ≡ a.given → m.holds ≡ a.holds
        → LastPut ImageFault m.given b.given m.sink_faults b.sink_faults status → Answers w a b status
    answers_unread caused quiet kept last =
        let free : status ≡ 6 → IsFree a b status = λ six. inr (inr (inl (six, rose_on ImageFault caused last.later)))
        in
        last_front ImageFault 0 tt caused (none_put quiet) kept last (λ six put. record {
          exact = inr (free six);
          done = λ z. absurd (omega arith);
          refused = λ s e nf. absurd (nf (free six));
          memory = λ z. absurd (omega arith);
          script_fault = λ z. absurd (omega arith);
          image_fault = λ z. inl (rw quiet at put, on.image.holds ∙ kept);
          sink_fault = λ z. absurd (omega arith);
          kept = λ p q r. on.image.holds ∙ kept;
        })

    pub saved_in_part : (last : Text) → Caused a m (Err ImageFault) → m.sink_faults ≤ b.sink_faults → w.end ≡ Ok tt
        → Appends a.given m.given (whole w.texts) → WritesSome w.writes a.holds m.holds
        → Appends m.given b.given last → SavedInPart w a b last
    saved_in_part last caused later e puts wrote put = record {
      end = e;
      rose = rose_on ImageFault caused later;
      put = Appends-trans a.given m.given b.given (whole w.texts) last puts put;
      written = rw on.image.holds wrote;
    }

    -- a fault in writing the image
    answers_unwritten : Caused a m (Err ImageFault) → w.end ≡ Ok tt → Appends a.given m.given (whole w.texts)
        → WritesSome w.writes a.holds m.holds → LastPut ImageFault m.given b.given m.sink_faults b.sink_faults status
        → Answers w a b status
    answers_unwritten caused e puts wrote last =
        let free : status ≡ 6 → IsFree a b status = λ six. inr (inr (inl (six, rose_on ImageFault caused last.later)))
        in
        elim last.shown [
          | inl h ↦ record {
            exact = inr (free h.0);
            done = λ z. absurd (omega arith);
            refused = λ s e' nf. absurd (nf (free h.0));
            memory = λ z. absurd (omega arith);
            script_fault = λ z. absurd (omega arith);
            image_fault = λ z. inr (saved_in_part (last_line ImageFault) caused last.later e puts wrote h.1);
            sink_fault = λ z. absurd (omega arith);
            kept = λ p q r. absurd (q h.0);
          }
          | inr h ↦ seven h.0 (sink_rose h.1) (inr (
            h.2.count,
            saved_in_part (take h.2.count (last_line ImageFault)) caused last.later e puts wrote h.2.bytes,
          ))
        ]

    -- a fault in putting text
    answers_unput : Caused a m (Err SinkFault) → PutSome w.texts a.given m.given → m.holds ≡ a.holds
        → Silent 7 m.given b.given m.sink_faults b.sink_faults status → Answers w a b status
    answers_unput caused puts kept last =
        let rose : RoseFor SinkFault a b = rose_on SinkFault caused last.later in
        seven last.answer rose (inl (record {
          count = puts.count;
          last = SinkFault;
          can = tt;
          rose = rose;
          bytes = rw last.same (front_alone a.given m.given _ puts.bytes);
          holds = on.image.holds ∙ kept;
        }))

    -- each end of the work with its last line
    pub answers : (e : End) → Caused a m e → Ended w a m e
        → Finished e m.given b.given m.sink_faults b.sink_faults status → Answers w a b status
    answers (Ok u) c h f = answers_ok h.0 h.1 h.2 f.answer f.same
    answers (Err Memory) c h f = answers_memory h.0 h.1 f
    answers (Err ScriptFault) c h f = answers_script_fault c h.0 h.1 f
    answers (Err ImageFault) c h f = elim h [
      | inl k ↦ answers_unread c k.0 k.1 f
      | inr k ↦ answers_unwritten c k.0 k.1 k.2 f
    ]
    answers (Err SinkFault) c h f = answers_unput c h.0 h.1 f
    answers (Err s) c h f = answers_fixed s (lit≤ tt) (λ z. absurd (omega arith)) (λ z. absurd (omega arith))
        (λ z. absurd (omega arith)) h.0 tt h.0 h.1 h.2 f
