-- How the work of each command ends
use Rattle.std.proofs.Common.{◌≡◌, ℕ, [], ◌∷◌, Result, Ok, Err, refl, subst, inr, replicate, arith}
use Rattle.std.proofs.KnownBytes.{Appends-nil}
use Rattle.outside.specs.Outside.{WritesFront}
use Rattle.command_spec.specs.Ends.{End, status_of}
use Rattle.command_spec.specs.Texts.{layout_text}
use Rattle.command_spec.specs.Commands.{ShowLayout, Blank, RamPlan, Plan, OfRam, OfBlk, OfMove, Wanted, mem_of, shows}
use Rattle.command_spec.specs.Commands.{leaves, Class, MakesImage, class_of}
use Rattle.command_spec.specs.Answers.{Outside, NoScript, NoImage, WritesSome}
use Rattle.command_spec.specs.PlanAnswers.{ram_statuses, IsAmong}
use Rattle.command_spec.specs.declared.Stop.{Stop}
use Rattle.command_spec.specs.declared.Stop.TheVariants.{Memory, ScriptFault, ImageFault, SinkFault, Refused}
use Rattle.command_line.specs.Words.{PlanStop, IsNoFault, plan_for, ram_command_seen}
use Rattle.command_line.specs.declared.words.RamCommand.{RamCommand as ReadRamCommand}
use Rattle.ramoops_layout.specs.declared.types.Layout.{Layout as ReadLayout}
use Rattle.script_spec.specs.Playing.{KeptUnless}
use Rattle.command_line.specs.Ended.{EndedAt, Ended, CausedAt, KeptAt, WrittenAt, RamEnds, Nothing, LinesAsk, Asks}
use Rattle.command_line.specs.Ended.{WorkDone, ClassAsks}
use Rattle.command_line.proofs.AnyWords.{plan_stopped}

-- a stop that no fault of the outside makes has its cause
pub no_fault_caused : (s : Stop) (f f' g g' h h' : ℕ) → IsNoFault s → CausedAt f f' g g' h h' (Err s)
no_fault_caused ScriptFault f f' g g' h h' n = absurd n
no_fault_caused ImageFault f f' g g' h h' n = absurd n
no_fault_caused SinkFault f f' g g' h h' n = absurd n
no_fault_caused s f f' g g' h h' n = tt

-- an image that was not written
pub kept_same : {A : Type 0} (e : End) (holds holds' : A) → holds' ≡ holds → KeptAt holds holds' e
kept_same (Ok u) holds holds' h = tt
kept_same (Err ImageFault) holds holds' h = tt
kept_same (Err s) holds holds' h = h

-- a count that did not change at all
pub count_same : (fault : Stop) (e : End) (before now : ℕ) → now ≡ before → KeptUnless fault e before now
count_same fault (Ok u) before now h = h
count_same fault (Err s) before now h = λ other. h

pub count_since : (fault : Stop) (e : End) (before mid now : ℕ) → mid ≡ before → KeptUnless fault e mid now
    → KeptUnless fault e before now
count_since fault e before mid now same h = subst (λ (n : ℕ). KeptUnless fault e n now) same h

-- the lines of a script on the block store asked for nothing
pub none_asked : (e : End) (old new : ℕ) → new ≡ old → LinesAsk old new e
none_asked (Ok u) old new h = tt
none_asked (Err Memory) old new h = tt
none_asked (Err ImageFault) old new h = tt
none_asked (Err SinkFault) old new h = tt
none_asked (Err (Refused x y)) old new h = tt
none_asked (Err s) old new h = h

-- an image that was not asked to be written: words of which no plan was read
class_unasked : (class : Class) (old new : ℕ) → new ≡ old → ClassAsks class old new (Err Memory)
class_unasked MakesImage old new h = (h, tt)
class_unasked class old new h = h

plan_unasked : (plan : Plan) (old new : ℕ) → new ≡ old → Asks (Ok plan) old new (Err Memory)
plan_unasked (OfRam plan) old new h = class_unasked (class_of plan.command) old new h
plan_unasked (OfBlk layout) old new h = tt
plan_unasked (OfMove plan) old new h = h

no_plan : {A B : Type 0} {x : A} {y : B} → Ok x ≡ Err y → ⊥
no_plan e = cc

unasked : (r : Result Plan Stop) (s : Stop) (old new : ℕ) → PlanStop s r → new ≡ old → Asks r old new (Err s)
unasked (Err f) s old new is h = h
unasked (Ok plan) Memory old new is h = plan_unasked plan old new h
unasked (Ok plan) s old new is h = absurd (no_plan is)

-- the work of the command that was read
pub arm_done : (c k : ReadRamCommand) (layout : ReadLayout) (a b : Outside) (e : End) → c ≡ k
    → WorkDone (Ok (OfRam (plan_for (ram_command_seen k) layout))) a b e
    → WorkDone (Ok (OfRam (plan_for (ram_command_seen c) layout))) a b e
arm_done c k layout a b e is h = rw is h

-- the work of the plan that was read
pub plan_done : (r : Result Plan Stop) (plan : Plan) (a b : Outside) (e : End) → r ≡ Ok plan → WorkDone (Ok plan) a b e
    → WorkDone r a b e
plan_done r plan a b e is h = rw is h

-- no plan was read
pub none_done : (r : Result Plan Stop) (s : Stop) (a b : Outside) → PlanStop s r → IsNoFault s → Nothing a b
    → b.sink_faults ≡ a.sink_faults → b.writes ≡ a.writes → WorkDone r a b (Err s)
none_done r s a b h n same sink unwritten = record {
  later = record {
    source = omega (arith, same.script.source);
    store = omega (arith, same.image.store);
    sink = omega (arith, sink);
  };
  caused = no_fault_caused s a.source_faults b.source_faults a.store_faults b.store_faults a.sink_faults
      b.sink_faults n;
  counts = record {
    source = λ other. same.script.source;
    store = λ other. same.image.store;
    sink = λ other. sink;
  };
  kept = λ w. kept_same (Err s) a.holds b.holds same.image.holds;
  asks = unasked r s a.writes b.writes h unwritten;
  ended = plan_stopped r s a b h same;
}

-- the layout was shown
pub layout_shown : (plan : RamPlan) (e : End) (a b : Outside) → plan.command ≡ ShowLayout → NoScript a b → NoImage a b
    → IsAmong (ram_statuses ShowLayout) (status_of e)
    → EndedAt (shows (layout_text plan.params plan.zones ∷ [])) a.given b.given a.holds a.holds e
    → RamEnds plan.command plan a b e
layout_shown plan e a b is script image can ended = rw is (record {
  can = can;
  whole = rw image.holds ended;
  script = script;
  image = image;
})

-- a blank image was written; it has no text, so all of that was put first
blank_written : (w : Wanted) (e : End) (a b : Outside) → Ended w a b e → (w.texts ≡ []) → b.given ≡ a.given
    → (e ≡ Err ImageFault → WritesSome w.writes a.holds b.holds) → w.end ≡ Ok tt → WrittenAt w a b e
blank_written w (Err ImageFault) a b h none same wrote done =
    (done, rw (none, same) (Appends-nil a.given), wrote refl)
blank_written w e a b h none same wrote done = tt

pub blank_left : (plan : RamPlan) (mem : ℕ) (e : End) (a b : Outside) → mem ≡ mem_of plan → plan.command ≡ Blank
    → NoScript a b → b.given ≡ a.given → IsAmong (ram_statuses Blank) (status_of e)
    → EndedAt (leaves (replicate mem 0)) a.given a.given a.holds b.holds e
    → (e ≡ Err ImageFault → WritesFront a.holds b.holds 0 (replicate mem 0)) → RamEnds plan.command plan a b e
blank_left plan mem e a b same is script given can ended wrote =
    let whole : Ended (leaves (replicate (mem_of plan) 0)) a b e = rw (given, ← same) ended in
    rw is (record {
      can = can;
      whole = whole;
      script = script;
      image_fault = blank_written (leaves (replicate (mem_of plan) 0)) e a b whole refl given
          (λ f. rw (← same) (wrote f)) refl;
      text_first = inr ([], rw given (Appends-nil a.given));
    })
