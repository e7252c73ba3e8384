-- What the tool answers for each command, from how its work ended and what the last line left
use Rattle.std.proofs.Common.{◌≡◌, ◌≢◌, ◌⊎◌, true, false, Bool, ℕ, ◌<◌, ◌≤◌, List, [], ◌++◌, length, take, Option}
use Rattle.std.proofs.Common.{Result, Ok, Err, refl, sym, ◌∙◌, arith, inl, inr, append_assoc, IsOk}
use Rattle.std.proofs.KnownBytes.{Appends-nil, Appends-trans}
use Rattle.std.specs.Io.KnownBytes.{Appends, IsAtEnd}
use Rattle.grammar_spec.specs.Lines.{script_of}
use Rattle.grammar_spec.specs.Fields.{Text}
use Rattle.command_spec.specs.Ends.{End, status_of, last_line}
use Rattle.command_spec.specs.Commands.{RamPlan, Wanted, wanted, wanted_of_image, mem_of, script_limit, Class}
use Rattle.command_spec.specs.Commands.{RunsScript, ReadsImage, ReadsDump, WritesImage, MakesImage, ShowsText, class_of}
use Rattle.command_spec.specs.Answers.{Outside, NoScript, NoImage, RoseFor, PutsAll, IsFree, SavedInPart, ShortAnswers}
use Rattle.command_spec.specs.Answers.{ScriptAnswers, ScriptUse, ScriptRead}
use Rattle.script_spec.specs.Texts.{whole}
use Rattle.command_spec.specs.PlanAnswers.{ram_statuses, ClassAnswers, class_statuses, names_one, IsAmong, Can}
use Rattle.command_spec.specs.PlanAnswers.{ImageAnswers, ReadAnswers}
use Rattle.command_line.specs.Ends.{LastPut, Finished}
use Rattle.script_spec.specs.Playing.{PutTexts}
use Rattle.command_line.specs.Ended.{Caused, ShortAt, ScriptAt, UseAt, ScriptEnds, ImageEnds, WrittenAt, ClassEnds}
use Rattle.command_line.specs.Ended.{CanEnd, RamReadEnds}
use Rattle.command_line.proofs.RunAnswers.{GoesOn, rose_on, sink_rose, saved_in_part, answers}
use Rattle.command_spec.specs.declared.Stop.{Stop}
use Rattle.command_spec.specs.declared.Stop.TheVariants.{Memory, Short, ScriptFault, ImageFault, SinkFault, TooLong}
use Rattle.command_spec.specs.declared.Stop.TheVariants.{BadLine, Refused}

pub script_on : (a m b : Outside) → NoScript a m → NoScript m b → NoScript a b
script_on a m b h k = record { left = k.left ∙ h.left; source = k.source ∙ h.source }

pub image_on : (a m b : Outside) → NoImage a m → NoImage m b → NoImage a b
image_on a m b h k = record { holds = k.holds ∙ h.holds; store = k.store ∙ h.store }

-- a good script
no_error : {A B : Type 0} (r : Result A B) (b : B) → IsOk r → r ≡ Err b → ⊥
no_error (Ok a) b h e = let clash : Ok a ≡ Err b = e in cc
no_error (Err c) b h e = let clash : false ≡ true = h in cc

-- each class of commands can fail to put its text
class_can_fail : (class : Class) (refused : Bool) → IsAmong (class_statuses class refused) 7
class_can_fail RunsScript refused = refl
class_can_fail class refused = refl

-- the status of an end, or 7
pub among : {A : Type 0} (all : List ℕ) (n status : ℕ) → IsAmong all n → IsAmong all 7 → (status ≡ n)
    ⊎ ((status ≡ 7) × A)
    → IsAmong all status
among all n status h k (inl is) = rw is h
among all n status h k (inr is) = rw is.0 k

-- ---- the status of an end

-- the status is that of the end; or 7, and the output failed
abbrev IsStatus : End → Outside → Outside → ℕ → Type 0
IsStatus e a b status = (status ≡ status_of e) ⊎ ((status ≡ 7) × RoseFor SinkFault a b)

module _ (a m b : Outside) (on : GoesOn a m b) (status : ℕ) where
  put_status : (s : Stop) → LastPut s m.given b.given m.sink_faults b.sink_faults status → IsStatus (Err s) a b status
  put_status s f = elim f.shown [ inl h ↦ inl h.0 | inr h ↦ inr (h.0, sink_rose a m b on h.1) ]

  pub status_is : (e : End) → Caused a m e → Finished e m.given b.given m.sink_faults b.sink_faults status
      → IsStatus e a b status
  status_is (Ok u) c f = inl f.answer
  status_is (Err SinkFault) c f = inr (f.answer, rose_on a m b on SinkFault c f.later)
  status_is (Err s) c f = put_status s f

  -- text that was put by the end of the work, and the last line; or the output failed
  put_after : (s : Stop) (n : ℕ) → status_of (Err s) ≡ n → n ≢ 7 → m.given ≡ a.given
      → LastPut s m.given b.given m.sink_faults b.sink_faults status → status ≡ n → Appends a.given b.given
      (last_line s)
  put_after s n is seven quiet f here = elim f.shown [
    | inl h ↦ rw quiet at h.1
    | inr h ↦ absurd (seven (sym here ∙ h.0))
  ]

  -- an end with another status
  other : (n k : ℕ) → n ≢ k → k ≢ 7 → (status ≡ n) ⊎ ((status ≡ 7) × RoseFor SinkFault a b) → status ≡ k → ⊥
  other n k ne seven (inl is) here = ne (sym is ∙ here)
  other n k ne seven (inr is) here = seven (sym here ∙ is.0)

  -- ---- an image that is too short

  module _ (mem : ℕ) (bytes : List ℕ) (unread : length bytes < mem → NoScript a b) where
    enough : (n : ℕ) → n ≢ 4 → mem ≤ length bytes → (status ≡ n) ⊎ ((status ≡ 7) × RoseFor SinkFault a b)
        → ShortAnswers mem bytes a b status
    enough n four le s = record {
      short = λ z. absurd (other n 4 four (λ z. absurd (omega arith)) s z);
      told = λ z. absurd (omega (arith, le));
      unread = unread;
    }

    early_stop : (s : Stop) → status_of (Err s) ≢ 4 → RoseFor s a b
        → (status ≡ status_of (Err s) → (status ≡ 1) ⊎ ((status ≡ 6) × RoseFor ImageFault a b))
        → IsStatus (Err s) a b status → ShortAnswers mem bytes a b status
    early_stop s four rose is (inl k) = record {
      short = λ z. absurd (four (sym k ∙ z));
      told = λ z. elim (is k) [ inl one ↦ inr (inl one) | inr six ↦ inr (inr (inl six)) ];
      unread = unread;
    }
    early_stop s four rose is (inr k) = record {
      short = λ z. absurd (omega (arith, k.0));
      told = λ z. inr (inr (inr k));
      unread = unread;
    }

    short_stop : (has needed : ℕ) → (length bytes < mem) × (has ≡ length bytes) × (needed ≡ mem) → m.given ≡ a.given
        → LastPut (Short has needed) m.given b.given m.sink_faults b.sink_faults status
        → ShortAnswers mem bytes a b status
    short_stop has needed h quiet f = elim f.shown [
      | inl k ↦ record {
        short = λ z. (h.0, rw (← h.1, ← h.2) (rw quiet at k.1));
        told = λ z. inl k.0;
        unread = unread;
      }
      | inr k ↦ record {
        short = λ z. absurd (omega (arith, k.0));
        told = λ z. inr (inr (inr (k.0, sink_rose a m b on k.1)));
        unread = unread;
      }
    ]

    pub short_at : (e : End) → Caused a m e → ShortAt mem (length bytes) e → UseAt a m e
        → Finished e m.given b.given m.sink_faults b.sink_faults status → ShortAnswers mem bytes a b status
    short_at (Ok u) c h q f = enough 0 (λ z. absurd (omega arith)) h (inl f.answer)
    short_at (Err Memory) c h q f = early_stop Memory (λ z. absurd (omega arith)) tt (λ k. inl k) (put_status Memory f)
    short_at (Err ImageFault) c h q f = early_stop ImageFault (λ z. absurd (omega arith))
        (rose_on a m b on ImageFault c f.later) (λ k. inr (k, rose_on a m b on ImageFault c f.later))
        (put_status ImageFault f)
    short_at (Err (Short x y)) c h q f = short_stop x y h q.1 f
    short_at (Err SinkFault) c h q f = enough 7 (λ z. absurd (omega arith)) h
        (inr (f.answer, rose_on a m b on SinkFault c f.later))
    short_at (Err s) c h q f = enough (status_of (Err s)) (λ z. absurd (omega arith)) h (put_status s f)

  -- ---- a script

  module _ (script : List ℕ) where
    -- a status that says nothing of the script
    early : (status ≡ 4) ⊎ IsFree a b status → status ≢ 8 → status ≢ 9 → ScriptAnswers script a b status
    early h eight nine = record {
      long = λ z. absurd (eight z);
      bad = λ z. absurd (nine z);
      told_long = λ z. inr h;
      told_bad = λ n e z. inr h;
    }

    free_early : IsFree a b status → ScriptAnswers script a b status
    free_early (inl k) = early (inr (inl k)) (λ z. absurd (omega arith)) (λ z. absurd (omega arith))
    free_early (inr (inl k)) = early (inr (inr (inl k))) (λ z. absurd (omega (arith, k.0)))
        (λ z. absurd (omega (arith, k.0)))
    free_early (inr (inr (inl k))) = early (inr (inr (inr (inl k)))) (λ z. absurd (omega (arith, k.0)))
        (λ z. absurd (omega (arith, k.0)))
    free_early (inr (inr (inr k))) = early (inr (inr (inr (inr k)))) (λ z. absurd (omega (arith, k.0)))
        (λ z. absurd (omega (arith, k.0)))

    free_by : (s : Stop) → (status ≡ status_of (Err s) → IsFree a b status) → IsStatus (Err s) a b status
        → ScriptAnswers script a b status
    free_by s free (inl k) = free_early (free k)
    free_by s free (inr k) = free_early (inr (inr (inr k)))

    -- a good script
    good : (n : ℕ) → n ≢ 8 → n ≢ 9 → (length script ≤ script_limit) × IsOk (script_of script)
        → (status ≡ n) ⊎ ((status ≡ 7) × RoseFor SinkFault a b) → ScriptAnswers script a b status
    good n eight nine ok s = record {
      long = λ z. absurd (other n 8 eight (λ z. absurd (omega arith)) s z);
      bad = λ z. absurd (other n 9 nine (λ z. absurd (omega arith)) s z);
      told_long = λ z. absurd (omega (arith, ok.0));
      told_bad = λ l e z. absurd (no_error (script_of script) l ok.1 e);
    }

    bad_line : (n : ℕ) → (length script ≤ script_limit) × (script_of script ≡ Err n) → m.given ≡ a.given
        → LastPut (BadLine n) m.given b.given m.sink_faults b.sink_faults status → ScriptAnswers script a b status
    bad_line n h quiet f = elim f.shown [
      | inl k ↦ record {
        long = λ z. absurd (omega (arith, k.0));
        bad = λ z. (n, h.1, rw quiet at k.1);
        told_long = λ z. absurd (omega (arith, h.0));
        told_bad = λ l e z. inl k.0;
      }
      | inr k ↦ free_early (inr (inr (inr (k.0, sink_rose a m b on k.1))))
    ]

    too_long : script_limit < length script → IsStatus (Err TooLong) a b status → ScriptAnswers script a b status
    too_long h (inl k) = record {
      long = λ z. h;
      bad = λ z. absurd (omega (arith, k));
      told_long = λ z. inl k;
      told_bad = λ n e z. absurd (omega (arith, h));
    }
    too_long h (inr k) = free_early (inr (inr (inr k)))

    pub script_at : (e : End) → Caused a m e → ScriptAt script e → UseAt a m e
        → Finished e m.given b.given m.sink_faults b.sink_faults status → ScriptAnswers script a b status
    script_at (Ok u) c h q f = good 0 (λ z. absurd (omega arith)) (λ z. absurd (omega arith)) h (inl f.answer)
    script_at (Err Memory) c h q f = free_by Memory (λ k. inl k) (put_status Memory f)
    script_at (Err ScriptFault) c h q f = free_by ScriptFault
        (λ k. inr (inl (k, rose_on a m b on ScriptFault c f.later))) (put_status ScriptFault f)
    script_at (Err ImageFault) c h q f = free_by ImageFault
        (λ k. inr (inr (inl (k, rose_on a m b on ImageFault c f.later)))) (put_status ImageFault f)
    script_at (Err SinkFault) c h q f = free_early (inr (inr (inr (f.answer, rose_on a m b on SinkFault c f.later))))
    script_at (Err (Short x y)) c h q f = elim (put_status (Short x y) f) [
      | inl k ↦ early (inl k) (λ z. absurd (omega (arith, k))) (λ z. absurd (omega (arith, k)))
      | inr k ↦ free_early (inr (inr (inr k)))
    ]
    script_at (Err TooLong) c h q f = too_long h (put_status TooLong f)
    script_at (Err (BadLine x)) c h q f = bad_line x h q.1 f
    script_at (Err s) c h q f = good (status_of (Err s)) (λ z. absurd (omega arith)) (λ z. absurd (omega arith)) h
        (put_status s f)

  -- ---- how much of the script was read

  -- none of the statuses that say something of it
  silent : (n : ℕ) → n ≢ 0 → n ≢ 4 → n ≢ 5 → n ≢ 6 → n ≢ 8 → n ≢ 9 → n ≢ 10 → status ≡ n → ScriptUse a b status
  silent n zero four five six eight nine ten is = record {
    unread = λ z. absurd (four (sym is ∙ z));
    whole = λ z. elim z [
      | inl y ↦ absurd (zero (sym is ∙ y))
      | inr y ↦ elim y [ inl x ↦ absurd (nine (sym is ∙ x)) | inr x ↦ absurd (ten (sym is ∙ x)) ]
    ];
    either = λ z. absurd (six (sym is ∙ z));
    fault = λ z. absurd (five (sym is ∙ z));
    long = λ z. absurd (eight (sym is ∙ z));
  }

  unput : (status ≡ 7) × RoseFor SinkFault a b → ScriptUse a b status
  unput s = silent 7 (λ z. absurd (omega arith)) (λ z. absurd (omega arith)) (λ z. absurd (omega arith))
      (λ z. absurd (omega arith)) (λ z. absurd (omega arith)) (λ z. absurd (omega arith))
      (λ z. absurd (omega arith)) s.0

  ended_at : (n : ℕ) → n ≢ 4 → n ≢ 5 → n ≢ 6 → n ≢ 8 → IsAtEnd m.left → status ≡ n → ScriptUse a b status
  ended_at n four five six eight h is = record {
    unread = λ z. absurd (four (sym is ∙ z));
    whole = λ z. rw on.script.left h;
    either = λ z. absurd (six (sym is ∙ z));
    fault = λ z. absurd (five (sym is ∙ z));
    long = λ z. absurd (eight (sym is ∙ z));
  }

  unread_at : NoScript a m → status ≡ 4 → ScriptUse a b status
  unread_at h is = record {
    unread = λ z. script_on a m b h on.script;
    whole = λ z. elim z [
      | inl y ↦ absurd (omega (arith, y))
      | inr y ↦ elim y [ inl x ↦ absurd (omega (arith, x)) | inr x ↦ absurd (omega (arith, x)) ]
    ];
    either = λ z. absurd (omega (arith, z));
    fault = λ z. absurd (omega (arith, z));
    long = λ z. absurd (omega (arith, z));
  }

  either_at : NoScript a m ⊎ IsAtEnd m.left → status ≡ 6 → ScriptUse a b status
  either_at h is = record {
    unread = λ z. absurd (omega (arith, z));
    whole = λ z. elim z [
      | inl y ↦ absurd (omega (arith, y))
      | inr y ↦ elim y [ inl x ↦ absurd (omega (arith, x)) | inr x ↦ absurd (omega (arith, x)) ]
    ];
    either = λ z. elim h [ inl k ↦ inl (script_on a m b k on.script) | inr k ↦ inr (rw on.script.left k) ];
    fault = λ z. absurd (omega (arith, z));
    long = λ z. absurd (omega (arith, z));
  }

  fault_at : Appends a.given b.given (last_line ScriptFault) → status ≡ 5 → ScriptUse a b status
  fault_at h is = record {
    unread = λ z. absurd (omega (arith, z));
    whole = λ z. elim z [
      | inl y ↦ absurd (omega (arith, y))
      | inr y ↦ elim y [ inl x ↦ absurd (omega (arith, x)) | inr x ↦ absurd (omega (arith, x)) ]
    ];
    either = λ z. absurd (omega (arith, z));
    fault = λ z. h;
    long = λ z. absurd (omega (arith, z));
  }

  long_at : Appends a.given b.given (last_line TooLong) → status ≡ 8 → ScriptUse a b status
  long_at h is = record {
    unread = λ z. absurd (omega (arith, z));
    whole = λ z. elim z [
      | inl y ↦ absurd (omega (arith, y))
      | inr y ↦ elim y [ inl x ↦ absurd (omega (arith, x)) | inr x ↦ absurd (omega (arith, x)) ]
    ];
    either = λ z. absurd (omega (arith, z));
    fault = λ z. absurd (omega (arith, z));
    long = λ z. h;
  }

  used_by : (s : Stop) → (status ≡ status_of (Err s) → ScriptUse a b status) → IsStatus (Err s) a b status
      → ScriptUse a b status
  used_by s by (inl k) = by k
  used_by s by (inr k) = unput k

  -- an end that says nothing of the script
  quiet_end : (s : Stop) (n : ℕ) → status_of (Err s) ≡ n → n ≢ 0 → n ≢ 4 → n ≢ 5 → n ≢ 6 → n ≢ 8 → n ≢ 9 → n ≢ 10
      → IsStatus (Err s) a b status → ScriptUse a b status
  quiet_end s n is zero four five six eight nine ten k = used_by s
      (λ here. silent n zero four five six eight nine ten (here ∙ is)) k

  pub use_at : (e : End) → Caused a m e → UseAt a m e → Finished e m.given b.given m.sink_faults b.sink_faults status
      → ScriptUse a b status
  use_at (Ok u) c h f = ended_at 0 (λ z. absurd (omega arith)) (λ z. absurd (omega arith)) (λ z. absurd (omega arith))
      (λ z. absurd (omega arith)) h f.answer
  use_at (Err (Short x y)) c h f = used_by (Short x y) (unread_at h.0) (put_status (Short x y) f)
  use_at (Err ScriptFault) c h f = used_by ScriptFault
      (λ k. fault_at (put_after ScriptFault 5 refl (λ z. absurd (omega arith)) h f k) k) (put_status ScriptFault f)
  use_at (Err ImageFault) c h f = used_by ImageFault (either_at h) (put_status ImageFault f)
  use_at (Err SinkFault) c h f = unput (f.answer, rose_on a m b on SinkFault c f.later)
  use_at (Err TooLong) c h f = used_by TooLong
      (λ k. long_at (put_after TooLong 8 refl (λ z. absurd (omega arith)) h f k) k) (put_status TooLong f)
  use_at (Err (BadLine x)) c h f = used_by (BadLine x)
      (ended_at 9 (λ z. absurd (omega arith)) (λ z. absurd (omega arith)) (λ z. absurd (omega arith))
      (λ z. absurd (omega arith)) h.0) (put_status (BadLine x) f)
  use_at (Err (Refused x y)) c h f = used_by (Refused x y)
      (ended_at 10 (λ z. absurd (omega arith)) (λ z. absurd (omega arith)) (λ z. absurd (omega arith))
      (λ z. absurd (omega arith)) h) (put_status (Refused x y) f)
  use_at (Err s) c h f = quiet_end s (status_of (Err s)) refl (λ z. absurd (omega arith)) (λ z. absurd (omega arith))
      (λ z. absurd (omega arith)) (λ z. absurd (omega arith)) (λ z. absurd (omega arith)) (λ z. absurd (omega arith))
      (λ z. absurd (omega arith)) (put_status s f)

  -- ---- commands

  pub script_read : (mem : ℕ) (e : End) → Caused a m e → ScriptEnds mem a m e
      → Finished e m.given b.given m.sink_faults b.sink_faults status → ScriptRead mem a b status
  script_read mem e c h f = record {
    image = record {
      told = λ bytes t. short_at mem bytes (λ few. script_on a m b (h.unread.told bytes t few) on.script) e c
          (h.image.told bytes t) h.used f;
    };
    script = record { told = λ text l. script_at text e c (h.script.told text l) h.used f };
    used = use_at e c h.used f;
  }

  -- what the last line put
  abbrev PutsMore : Type 0
  PutsMore = (more : Text) × Appends m.given b.given more

  some_put : (s : Stop) → LastPut s m.given b.given m.sink_faults b.sink_faults status → PutsMore
  some_put s f = elim f.shown [ inl h ↦ (last_line s, h.1) | inr h ↦ (take h.2.count (last_line s), h.2.bytes) ]

  none_put : b.given ≡ m.given → PutsMore
  none_put same = ([], rw same (Appends-nil m.given))

  last_put : (e : End) → Finished e m.given b.given m.sink_faults b.sink_faults status → PutsMore
  last_put (Ok u) f = none_put f.same
  last_put (Err SinkFault) f = none_put f.same
  last_put (Err s) f = some_put s f

  -- text that was put first stays so
  text_on : (w : Wanted) → NoImage a m ⊎ PutsAll w a m → PutsMore → NoImage a b ⊎ PutsAll w a b
  text_on w (inl h) put = inl (image_on a m b h on.image)
  text_on w (inr h) put =
      inr (
        h.0 ++ put.0,
        rw (← append_assoc (whole w.texts) h.0 put.0)
            (Appends-trans a.given m.given b.given (whole w.texts ++ h.0) put.0 h.1 put.1),
      )

  -- the image failed as it was written
  not_six : (w : Wanted) (n : ℕ) → n ≢ 6 → (status ≡ n) ⊎ ((status ≡ 7) × RoseFor SinkFault a b) → status ≡ 6
      → SavedInPart w a b (last_line ImageFault)
  not_six w n ne s six = absurd (other n 6 ne (λ z. absurd (omega arith)) s six)

  image_written : (w : Wanted) → Caused a m (Err ImageFault) → WrittenAt w a m (Err ImageFault)
      → LastPut ImageFault m.given b.given m.sink_faults b.sink_faults status → status ≡ 6
      → SavedInPart w a b (last_line ImageFault)
  image_written w c h f six = elim f.shown [
    | inl k ↦ saved_in_part a m b on w status (last_line ImageFault) c f.later h.0 h.1 h.2 k.1
    | inr k ↦ absurd (omega (arith, k.0, six))
  ]

  written_at : (w : Wanted) (e : End) → Caused a m e → WrittenAt w a m e
      → Finished e m.given b.given m.sink_faults b.sink_faults status → status ≡ 6
      → SavedInPart w a b (last_line ImageFault)
  written_at w (Err ImageFault) c h f = image_written w c h f
  written_at w (Ok u) c h f = not_six w 0 (λ z. absurd (omega arith)) (inl f.answer)
  written_at w (Err SinkFault) c h f = not_six w 7 (λ z. absurd (omega arith)) (inl f.answer)
  written_at w (Err s) c h f = not_six w (status_of (Err s)) (λ z. absurd (omega arith)) (put_status s f)

  -- a status among those of the command
  can_answer : (plan : RamPlan) (e : End) → Caused a m e → CanEnd plan e
      → Finished e m.given b.given m.sink_faults b.sink_faults status → Can plan status
  can_answer plan e c h f = among (ram_statuses plan.command) (status_of e) status h
      (class_can_fail (class_of plan.command) (names_one plan.command)) (status_is e c f)

  -- a command that reads the image
  pub image_answers : (all : List ℕ) → IsAmong all 7 → (want : List ℕ → Wanted) (e : End) → Caused a m e
      → ImageEnds all want a m e → Finished e m.given b.given m.sink_faults b.sink_faults status
      → ImageAnswers all want a b status
  image_answers all fail want e c h f = record {
    can = among all (status_of e) status h.can fail (status_is e c f);
    whole = record { told = λ bytes t. answers a m b on (want bytes) status e c (h.whole.told bytes t) f };
    script = script_on a m b h.script on.script;
  }

  read_answers : (plan : RamPlan) (e : End) → Caused a m e → RamReadEnds plan a m e
      → Finished e m.given b.given m.sink_faults b.sink_faults status → ReadAnswers plan a b status
  read_answers plan e c h f = record {
    can = can_answer plan e c h.can f;
    whole = record {
      told = λ bytes t. answers a m b on (wanted_of_image plan bytes) status e c (h.whole.told bytes t) f;
    };
    script = script_on a m b h.script on.script;
    image = on.image.holds ∙ h.image;
  }

  pub class_answers : (class : Class) (plan : RamPlan) (e : End) → Caused a m e → ClassEnds class plan a m e
      → Finished e m.given b.given m.sink_faults b.sink_faults status → ClassAnswers class plan a b status
  class_answers RunsScript plan e c h f = record {
    can = can_answer plan e c h.can f;
    whole = record { told = λ bytes text t l. answers a m b on _ status e c (h.whole.told bytes text t l) f };
    read = script_read (mem_of plan) e c h.read f;
    image_fault = elim h.image_fault [
      | inl k ↦ inl (script_on a m b k on.script)
      | inr k ↦ inr (record {
        told = λ bytes text t l. written_at (wanted plan bytes text) e c (k.told bytes text t l) f;
      })
    ];
  }
  class_answers ReadsImage plan e c h f = read_answers plan e c h f
  class_answers ReadsDump plan e c h f = read_answers plan e c h f
  class_answers WritesImage plan e c h f = image_answers (ram_statuses plan.command)
      (class_can_fail (class_of plan.command) (names_one plan.command)) (wanted_of_image plan) e c h f
  class_answers MakesImage plan e c h f = record {
    can = can_answer plan e c h.can f;
    whole = answers a m b on _ status e c h.whole f;
    script = script_on a m b h.script on.script;
    image_fault = written_at (wanted plan [] []) e c h.image_fault f;
    text_first = text_on (wanted plan [] []) h.text_first (last_put e f);
  }
  class_answers ShowsText plan e c h f = record {
    can = can_answer plan e c h.can f;
    whole = answers a m b on _ status e c h.whole f;
    script = script_on a m b h.script on.script;
    image = image_on a m b h.image on.image;
  }

-- ---- work that nothing has come of

pub no_texts : (w : Wanted) (given : Option (List ℕ)) → PutTexts w.texts given given
no_texts w given = record { count = 0; bytes = Appends-nil given }
