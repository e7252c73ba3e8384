-- How the move of an image ends
use Rattle.std.proofs.Common.{◌≡◌, ℕ, ◌<◌, ◌≤◌, List, [], ◌∷◌, length, take, Some, Ok, Err, IfSome, refl, sym, ap, ap₂}
use Rattle.std.proofs.Common.{◌∙◌, append-nil, inl, inr}
use Rattle.std.specs.Io.KnownBytes.{Appends}
use Rattle.outside.specs.Outside.{AppendsFront, Writes, WritesFront}
use Rattle.zone_spec.specs.Records.{Saved}
use Rattle.machine_spec.specs.Erasures.{saved_logs}
use Rattle.machine_spec.specs.Moved.{fitting, moved}
use Rattle.prz_read.specs.Saving.{SavedLogs, saved}
use Rattle.grammar_spec.specs.Fields.{Text}
use Rattle.command_spec.specs.Ends.{End}
use Rattle.script_spec.specs.Texts.{move_text}
use Rattle.command_spec.specs.Commands.{MovePlan, OfMove, laid_mem, after_boot, stops, Wanted, wanted_moved}
use Rattle.command_spec.specs.Commands.{wanted_move}
use Rattle.command_spec.specs.Answers.{Outside, IfHolds, NoScript}
use Rattle.command_spec.specs.PlanAnswers.{statuses}
use Rattle.command_spec.specs.declared.Stop.{Stop}
use Rattle.command_spec.specs.declared.Stop.TheVariants.{Memory, Short, ImageFault, SinkFault}
use Rattle.image_file.specs.Loading.{LoadStop}
use Rattle.command_line.specs.Ended.{Ended, ImageEnds}
use Rattle.command_line.proofs.Script.{Quiet, quiet_memory, put_nothing, ended_as, nat_lt-true, nat_lt-false}
use Rattle.command_line.proofs.StageStops.{load_stops}
use Rattle.commands.specs.Records.{SavedFrom}

abbrev pub MoveEnds : MovePlan → Outside → Outside → End → Type 0
MoveEnds plan a b e = ImageEnds (statuses (OfMove plan)) (wanted_move plan) a b e

-- ---- an image that was not read

short_wanted : (plan : MovePlan) (bytes : List ℕ) → length bytes < laid_mem plan.from
    → wanted_move plan bytes ≡ stops (Short (length bytes) (laid_mem plan.from))
short_wanted plan bytes h = rw (nat_lt-true h) refl

stop_short : (plan : MovePlan) (a b : Outside) (has needed : ℕ) → Quiet a b
    → (needed ≡ laid_mem plan.from) × (has < laid_mem plan.from) × IfSome a.holds (λ bs. has ≡ length bs)
    → IfHolds a (λ bytes. Ended (wanted_move plan bytes) a b (Err (Short has needed)))
stop_short plan a b has needed q h = record {
  told = λ bytes t.
      let size : has ≡ length bytes = rw t at h.2 in
      let few : length bytes < laid_mem plan.from = rw size at h.1 in
      ended_as (wanted_move plan bytes) (stops (Short (length bytes) (laid_mem plan.from))) a b (Err (Short has needed))
      (short_wanted plan bytes few) (rw (size, h.0) refl, put_nothing a b q, q.holds);
}

pub move_unread : (plan : MovePlan) (a b : Outside) (s : Stop) (f g : ℕ) → NoScript a b → Quiet a b
    → LoadStop s (laid_mem plan.from) a.holds f g → MoveEnds plan a b (Err s)
move_unread plan a b s f g none q h = load_stops (λ t. MoveEnds plan a b (Err t)) (laid_mem plan.from) a.holds f g
    (record {
      can = refl;
      whole = record { told = λ bytes t. quiet_memory (wanted_move plan bytes) a b q };
      script = none;
    })
    (λ rose. record {
      can = refl;
      whole = record { told = λ bytes t. inl (q.given, q.holds) };
      script = none;
    })
    (λ has needed size. record {
      can = refl;
      whole = stop_short plan a b has needed q size;
      script = none;
    }) s h

-- ---- an image that was read

-- a text is put, and then an image written
abbrev puts_then : Text → List ℕ → Wanted
puts_then text image = record { texts = text ∷ []; end = Ok tt; writes = Some image }

module _ (plan : MovePlan) (a b : Outside) (logs : SavedLogs) (none : NoScript a b)
    (read : SavedFrom plan.from.zones (laid_mem plan.from) a.holds logs) where
  moved_wanted : (bytes : List ℕ) → laid_mem plan.from ≤ length bytes → read.image ≡ take (laid_mem plan.from) bytes
      → wanted_move plan bytes ≡ wanted_moved plan (saved logs)
  moved_wanted bytes room image =
      let was : wanted_move plan bytes ≡ wanted_moved plan (saved_logs plan.from.zones
      (after_boot plan.from.zones (take (laid_mem plan.from) bytes))) = rw (nat_lt-false room) refl in
      was ∙ ap (λ (zs : List Saved). wanted_moved plan zs) (sym (read.logs_are
      ∙ ap (λ (bs : List ℕ). saved_logs plan.from.zones (after_boot plan.from.zones bs)) image))

  ends : (e : End) → Ended (wanted_moved plan (saved logs)) a b e
      → IfHolds a (λ bytes. Ended (wanted_move plan bytes) a b e)
  ends e h = record {
    told = λ bytes t.
        let l : (laid_mem plan.from ≤ length bytes) × (read.image ≡ take (laid_mem plan.from) bytes) =
        rw t at read.read in
        ended_as (wanted_move plan bytes) (wanted_moved plan (saved logs)) a b e (moved_wanted bytes l.0 l.1) h;
  }

  pub move_memory : Quiet a b → MoveEnds plan a b (Err Memory)
  move_memory q = record {
    can = refl;
    whole = ends (Err Memory) (quiet_memory (wanted_moved plan (saved logs)) a b q);
    script = none;
  }

  module _ (text : Text) (image : List ℕ)
      (e : text ≡ move_text (laid_mem plan.from) (laid_mem plan.to) plan.to.zones (saved logs)) where
    pub move_unput : b.holds ≡ a.holds → AppendsFront a.given b.given text → MoveEnds plan a b (Err SinkFault)
    move_unput same put = record {
      can = refl;
      whole = ends (Err SinkFault) (
        record {
          count = 1;
          bytes = rw (
            append-nil (move_text (laid_mem plan.from) (laid_mem plan.to) plan.to.zones (saved logs)),
            ← e,
          ) put;
        },
        same,
      );
      script = none;
    }

    module _ (i : image ≡ (moved plan.to.zones (laid_mem plan.to) (fitting plan.to.zones (saved logs))).image)
        (put : Appends a.given b.given text) where
      wants : wanted_moved plan (saved logs) ≡ puts_then text image
      wants = ap₂ (λ (t : Text) (bs : List ℕ). puts_then t bs) (sym e) (sym i)

      pub move_saved : Writes a.holds b.holds 0 image → MoveEnds plan a b (Ok tt)
      move_saved wrote = record {
        can = refl;
        whole = ends (Ok tt) (ended_as (wanted_moved plan (saved logs)) (puts_then text image) a b (Ok tt) wants
            (refl, rw (append-nil text) put, wrote));
        script = none;
      }

      pub move_unsaved : WritesFront a.holds b.holds 0 image → MoveEnds plan a b (Err ImageFault)
      move_unsaved wrote = record {
        can = refl;
        whole = ends (Err ImageFault) (ended_as (wanted_moved plan (saved logs)) (puts_then text image) a b
            (Err ImageFault) wants (inr (refl, rw (append-nil text) put, wrote)));
        script = none;
      }
