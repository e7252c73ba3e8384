-- How the stages of a command that reads an image and a script end it, whatever it wants of the lines
use Rattle.std.proofs.Common.{◌≡◌, ℕ, ◌<◌, ◌≤◌, List, [], length, take, Option, Some, None, Result, Ok, Err, IfSome}
use Rattle.std.proofs.Common.{refl, ◌∙◌, arith, inl, inr, true, false, nat_lt}
use Rattle.std.proofs.KnownBytes.{Appends-nil}
use Rattle.std.proofs.lemmas.Bool.Decides.{nat_tests}
use Rattle.std.specs.Io.KnownBytes.{Appends, IsAtEnd}
use Rattle.grammar_spec.specs.Lines.{script_of}
use Rattle.grammar_spec.specs.declared.line.Line.{Line}
use Rattle.command_spec.specs.Ends.{End, status_of}
use Rattle.command_spec.specs.Commands.{Run, RamPlan, RunsScript, class_of, Wanted, wanted, mem_of, stops, script_limit}
use Rattle.command_spec.specs.Answers.{Outside, NoScript}
use Rattle.command_spec.specs.PlanAnswers.{ram_statuses, IsAmong}
use Rattle.command_spec.specs.declared.Stop.{Stop}
use Rattle.command_spec.specs.declared.Stop.TheVariants.{Memory, Short, TooLong, BadLine}
use Rattle.image_file.specs.Loading.{LoadStop}
use Rattle.command_line.specs.Stages.{ReadLines, ScriptStop}
use Rattle.command_line.specs.Ended.{Ended, RunEnds, ScriptEnds, CausedAt, WrittenAt}
use Rattle.command_line.proofs.ReadParts.{script_read, unread_memory, unread_fault, unread_short, read_memory}
use Rattle.command_line.proofs.ReadParts.{read_fault, read_long, read_bad}
use Rattle.command_line.proofs.StageStops.{load_stops, script_stops}
use Rattle.command_line.proofs.Tool.{no_texts}

pub nat_lt-true : {a b : ℕ} → a < b → nat_lt a b ≡ true
nat_lt-true h = grind (arith, nat_tests)

pub nat_lt-false : {a b : ℕ} → b ≤ a → nat_lt a b ≡ false
nat_lt-false h = grind (arith, nat_tests)

-- nothing was put or written yet
pub record Quiet (a b : Outside) : Type 0 where
  pub given : b.given ≡ a.given
  pub holds : b.holds ≡ a.holds

pub quiet_memory : (w : Wanted) (a b : Outside) → Quiet a b → Ended w a b (Err Memory)
quiet_memory w a b q = (rw q.given (no_texts w a.given), q.holds)

pub put_nothing : (a b : Outside) → Quiet a b → Appends a.given b.given []
put_nothing a b q = rw q.given (Appends-nil a.given)

pub ended_as : (w v : Wanted) (a b : Outside) (e : End) → w ≡ v → Ended v a b e → Ended w a b e
ended_as w v a b e same h = rw same h

written_as : (w v : Wanted) (a b : Outside) (e : End) → w ≡ v → WrittenAt v a b e → WrittenAt w a b e
written_as w v a b e same h = rw same h

-- ---- what is wanted

-- a command that wants this of an image and of the lines of a script, and with the statuses of a script
pub record IsScripted (plan : RamPlan) (want : List ℕ → Result (List Line) ℕ → Wanted) : Type 0 where
  pub class : class_of plan.command ≡ RunsScript
  pub statuses : ram_statuses plan.command ≡ ram_statuses Run
  pub short : (bytes script : List ℕ) → length bytes < mem_of plan
      → wanted plan bytes script ≡ stops (Short (length bytes) (mem_of plan))
  pub long : (bytes script : List ℕ) → mem_of plan ≤ length bytes → script_limit < length script
      → wanted plan bytes script ≡ stops TooLong
  pub lines : (bytes script : List ℕ) → mem_of plan ≤ length bytes → length script ≤ script_limit
      → wanted plan bytes script ≡ want (take (mem_of plan) bytes) (script_of script)
  pub bad : (image : List ℕ) (n : ℕ) → want image (Err n) ≡ stops (BadLine n)

-- an image that was read
pub record Loaded (plan : RamPlan) (a : Outside) (image : List ℕ) : Type 0 where
  pub read : IfSome a.holds (λ bs. (mem_of plan ≤ length bs) × (image ≡ take (mem_of plan) bs))

loaded_of : (plan : RamPlan) (a : Outside) (image bytes : List ℕ) → Loaded plan a image → a.holds ≡ Some bytes
    → (mem_of plan ≤ length bytes) × (image ≡ take (mem_of plan) bytes)
loaded_of plan a image bytes l t = rw t at l.read

-- the image has room for what is read of it
pub room_in : (plan : RamPlan) (a : Outside) (image : List ℕ) → Loaded plan a image
    → IfSome a.holds (λ bs. mem_of plan ≤ length bs)
room_in plan a image l = by (mem_of plan) a.holds l.read
  where
    by : (mem : ℕ) (holds : Option (List ℕ)) → IfSome holds (λ bs. (mem ≤ length bs) × (image ≡ take mem bs))
        → IfSome holds (λ bs. mem ≤ length bs)
    by mem None h = tt
    by mem (Some bs) h = h.0

-- ---- stages

module _ (plan : RamPlan) (want : List ℕ → Result (List Line) ℕ → Wanted) (is : IsScripted plan want)
    (a b : Outside) where
  stop_short : (has needed : ℕ) → NoScript a b → Quiet a b
      → (needed ≡ mem_of plan) × (has < mem_of plan) × IfSome a.holds (λ bs. has ≡ length bs)
      → RunEnds plan a b (Err (Short has needed))
  stop_short has needed none q h = record {
    can = rw is.statuses refl;
    whole = record {
      told = λ bytes script t l.
          let size : has ≡ length bytes = rw t at h.2 in
          let few : length bytes < mem_of plan = rw size at h.1 in
          ended_as (wanted plan bytes script) (stops (Short (length bytes) (mem_of plan))) a b (Err (Short has needed))
          (is.short bytes script few) (rw (size, h.0) refl, put_nothing a b q, q.holds);
    };
    read = unread_short (mem_of plan) a b has needed none q.given h;
    image_fault = inl none;
  }

  pub load_stopped : (s : Stop) (f g : ℕ) → NoScript a b → Quiet a b → LoadStop s (mem_of plan) a.holds f g
      → RunEnds plan a b (Err s)
  load_stopped s f g none q h = load_stops (λ t. RunEnds plan a b (Err t)) (mem_of plan) a.holds f g
      (record {
        can = rw is.statuses refl;
        whole = record { told = λ bytes script t l. quiet_memory (wanted plan bytes script) a b q };
        read = unread_memory (mem_of plan) a b none;
        image_fault = inl none;
      })
      (λ rose. record {
        can = rw is.statuses refl;
        whole = record { told = λ bytes script t l. inl (q.given, q.holds) };
        read = unread_fault (mem_of plan) a b none;
        image_fault = inl none;
      })
      (λ has needed size. stop_short has needed none q size) s h

  -- what follows was done on an image that was read
  module _ (image : List ℕ) (l : Loaded plan a image) where
    room : IfSome a.holds (λ bs. mem_of plan ≤ length bs)
    room = room_in plan a image l

    pub out_of_memory : Quiet a b → RunEnds plan a b (Err Memory)
    out_of_memory q = record {
      can = rw is.statuses refl;
      whole = record { told = λ bytes script t s. quiet_memory (wanted plan bytes script) a b q };
      read = read_memory (mem_of plan) a b room;
      image_fault = inr (record { told = λ bytes script t s. tt });
    }

    stop_long : Quiet a b → IfSome a.left (λ bs. script_limit < length bs) → RunEnds plan a b (Err TooLong)
    stop_long q h = record {
      can = rw is.statuses refl;
      whole = record {
        told = λ bytes script t s.
            let i = loaded_of plan a image bytes l t in
            let long : script_limit < length script = rw s at h in
            ended_as (wanted plan bytes script) (stops TooLong) a b (Err TooLong) (is.long bytes script i.0 long)
            (refl, put_nothing a b q, q.holds);
      };
      read = read_long (mem_of plan) a b room q.given h;
      image_fault = inr (record { told = λ bytes script t s. tt });
    }

    -- what is wanted of a script that is not too long
    lines_wanted : (bytes script : List ℕ) (read : Result (List Line) ℕ) → a.holds ≡ Some bytes
        → (length script ≤ script_limit) × (script_of script ≡ read) → wanted plan bytes script ≡ want image read
    lines_wanted bytes script read t r =
        let i = loaded_of plan a image bytes l t in is.lines bytes script i.0 r.0 ∙ rw (r.1, ← i.1) refl

    stop_bad : (n : ℕ) → Quiet a b
        → IsAtEnd b.left × IfSome a.left (λ bs. (length bs ≤ script_limit) × (script_of bs ≡ Err n))
        → RunEnds plan a b (Err (BadLine n))
    stop_bad n q h = record {
      can = rw is.statuses refl;
      whole = record {
        told = λ bytes script t s.
            let bad : (length script ≤ script_limit) × (script_of script ≡ Err n) = rw s at h.1 in
            ended_as (wanted plan bytes script) (stops (BadLine n)) a b (Err (BadLine n))
            (lines_wanted bytes script (Err n) t bad ∙ is.bad image n) (refl, put_nothing a b q, q.holds);
      };
      read = read_bad (mem_of plan) a b room n q.given h;
      image_fault = inr (record { told = λ bytes script t s. tt });
    }

    pub script_stopped : (s : Stop) (f g : ℕ) → Quiet a b → ScriptStop s a.left b.left f g → RunEnds plan a b (Err s)
    script_stopped s f g q h = script_stops (λ t. RunEnds plan a b (Err t)) a.left b.left f g (out_of_memory q)
        (λ rose. record {
          can = rw is.statuses refl;
          whole = record { told = λ bytes script t s. (q.given, q.holds) };
          read = read_fault (mem_of plan) a b room q.given;
          image_fault = inr (record { told = λ bytes script t s. tt });
        })
        (stop_long q) (λ n. stop_bad n q) s h

    -- the lines ended so
    pub lines_ended : (lines : List Line) → ReadLines lines a.left b.left → (e : End)
        → IsAmong (ram_statuses Run) (status_of e) → ScriptEnds (mem_of plan) a b e
        → Ended (want image (Ok lines)) a b e → WrittenAt (want image (Ok lines)) a b e → RunEnds plan a b e
    lines_ended lines r e can read h written = record {
      can = rw is.statuses can;
      whole = record {
        told = λ bytes script t s. ended_as (wanted plan bytes script) (want image (Ok lines)) a b e
            (lines_wanted bytes script (Ok lines) t (script_read a.left b.left lines script r s)) h;
      };
      read = read;
      image_fault = inr (record {
        told = λ bytes script t s. written_as (wanted plan bytes script) (want image (Ok lines)) a b e
            (lines_wanted bytes script (Ok lines) t (script_read a.left b.left lines script r s)) written;
      });
    }

-- ---- causes

pub load_caused : (s : Stop) (mem : ℕ) (holds : Option (List ℕ)) (f f' g g' h h' : ℕ) → LoadStop s mem holds g g'
    → CausedAt f f' g g' h h' (Err s)
load_caused s mem holds f f' g g' h h' is =
    load_stops (λ t. CausedAt f f' g g' h h' (Err t)) mem holds g g' tt (λ rose. rose) (λ has needed size. tt) s is

pub script_caused : (s : Stop) (left rest : Option (List ℕ)) (f f' g g' h h' : ℕ) → ScriptStop s left rest f f'
    → CausedAt f f' g g' h h' (Err s)
script_caused s left rest f f' g g' h h' is = script_stops (λ t. CausedAt f f' g g' h h' (Err t)) left rest f f' tt
    (λ rose. rose) (λ long. tt) (λ n bad. tt) s is
