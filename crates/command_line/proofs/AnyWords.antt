-- What run answers to any words, from how their work ended and what the last line left
use Rattle.std.proofs.Common.{◌≡◌, ◌≢◌, true, false, Bool, ℕ, List, [], Option, Result, Ok, Err, refl, sym, ap, ◌∙◌}
use Rattle.std.proofs.Common.{arith, inl, inr}
use Rattle.std.proofs.KnownBytes.{Appends-nil}
use Rattle.blk_spec.specs.declared.BlkLayout.{BlkLayout}
use Rattle.command_spec.specs.Ends.{End, status_of}
use Rattle.command_spec.specs.Commands.{RamCommand, RamPlan, Plan, OfRam, OfBlk, OfMove, Wanted, wanted}
use Rattle.command_spec.specs.Commands.{wanted_of_image, wanted_move, mem_of, Class, RunsScript, ReadsImage, ReadsDump}
use Rattle.command_spec.specs.Commands.{WritesImage, MakesImage, ShowsText, class_of}
use Rattle.command_spec.specs.Answers.{Outside, NoScript, NoImage, FaultAnswers}
use Rattle.command_spec.specs.BlkAnswers.{blk_lines}
use Rattle.command_spec.specs.PlanAnswers.{PlanAnswers, ToolAnswers, ram_statuses, statuses, IsAmong, class_statuses}
use Rattle.command_spec.specs.PlanAnswers.{names_one}
use Rattle.command_line.specs.Ends.{LastPut, Finished}
use Rattle.command_line.specs.Words.{PlanStop}
use Rattle.command_line.specs.Ended.{Ended, Caused, KeptBefore, ImageEnds, ReadEnds, PlanEnds, Nothing, WorkEnds}
use Rattle.command_line.specs.Ended.{WorkDone, ClassEnds}
use Rattle.command_line.proofs.ReadParts.{unread_memory}
use Rattle.command_line.proofs.RunAnswers.{GoesOn}
use Rattle.command_line.proofs.Tool.{status_is, script_on, image_on, image_answers, no_texts, class_answers, among}
use Rattle.command_line.proofs.BlkScript.{memory_lines}
use Rattle.command_line.proofs.BlkAnswers.{blk_answers}
use Rattle.command_line.proofs.Script.{Quiet}
use Rattle.command_spec.specs.declared.Stop.{Stop}
use Rattle.command_spec.specs.declared.Stop.TheVariants.{Memory, Usage, Param, Layout, NoSharedZone, SinkFault}

-- ---- the statuses of a command

-- each can want memory, and fail to put its text
can_want : (class : Class) (refused : Bool) → IsAmong (class_statuses class refused) 1
can_want RunsScript refused = refl
can_want class refused = refl

ram_can_want : (c : RamCommand) → IsAmong (ram_statuses c) 1
ram_can_want c = can_want (class_of c) (names_one c)

blk_can : (layout : BlkLayout) (e : End) (holds holds' : Option (List ℕ)) → KeptBefore holds holds' e
    → IsAmong (statuses (OfBlk layout)) (status_of e)
blk_can layout (Err Usage) holds holds' h = absurd h
blk_can layout (Err (Param x y)) holds holds' h = absurd h
blk_can layout (Err (Layout x)) holds holds' h = absurd h
blk_can layout (Err NoSharedZone) holds holds' h = absurd h
blk_can layout e holds holds' h = refl

fault_put : (s : Stop) (a m b : Outside) (status : ℕ) → NoScript a b → NoImage a b → m.given ≡ a.given
    → LastPut s m.given b.given m.sink_faults b.sink_faults status → status_of (Err s) ≢ 7 → FaultAnswers s a b status
fault_put s a m b status script image given f seven = elim f.shown [
  | inl k ↦ record {
    exact = inl k.0;
    shown = λ z. rw given at k.1;
    sink_fault = λ z. absurd (seven (sym k.0 ∙ z));
    script = script;
    image = image;
  }
  | inr k ↦ record {
    exact = inr k.0;
    shown = λ z. absurd (z k.0);
    sink_fault = λ z. rw given at k.2;
    script = script;
    image = image;
  }
]

fault_answers : (s : Stop) (a m b : Outside) (status : ℕ) → NoScript a b → NoImage a b → m.given ≡ a.given
    → Finished (Err s) m.given b.given m.sink_faults b.sink_faults status → FaultAnswers s a b status
fault_answers SinkFault a m b status script image given f =
    let same : b.given ≡ a.given = f.same ∙ given in
    record {
      exact = inr f.answer;
      shown = λ z. absurd (z f.answer);
      sink_fault = λ z. record { count = 0; within = omega arith; bytes = rw same (Appends-nil a.given) };
      script = script;
      image = image;
    }
fault_answers s a m b status script image given f =
    fault_put s a m b status script image given f (λ z. absurd (omega arith))

-- ---- any words

plan_answers : (plan : Plan) (a m b : Outside) (e : End) (status : ℕ) → GoesOn a m b → Caused a m e
    → PlanEnds plan a m e → Finished e m.given b.given m.sink_faults b.sink_faults status
    → PlanAnswers plan a b status
plan_answers (OfRam plan) a m b e status on c h f = class_answers a m b on status (class_of plan.command) plan e c h f
plan_answers (OfBlk layout) a m b e status on c h f = (
  blk_answers layout a m b e status on c h f,
  among (statuses (OfBlk layout)) (status_of e) status (blk_can layout e a.holds m.holds h.kept) refl
      (status_is a m b on status e c f),
)
plan_answers (OfMove plan) a m b e status on c h f =
    image_answers a m b on status (statuses (OfMove plan)) refl (wanted_move plan) e c h f

tool_answers : (r : Result Plan Stop) (a m b : Outside) (e : End) (status : ℕ) → GoesOn a m b → Caused a m e
    → WorkEnds r a m e → Finished e m.given b.given m.sink_faults b.sink_faults status → ToolAnswers r a b status
tool_answers (Ok plan) a m b e status on c h f = plan_answers plan a m b e status on c h f
tool_answers (Err s) a m b e status on c h f =
    fault_answers s a m b status (script_on a m b h.1.script on.script) (image_on a m b h.1.image on.image) h.1.given
    (rw h.0 at f)

-- ---- work that nothing has come of

out_of_memory : (w : Wanted) (a b : Outside) → Nothing a b → Ended w a b (Err Memory)
out_of_memory w a b h = (rw h.given (no_texts w a.given), h.image.holds)

-- out of memory before anything was touched
image_memory : (all : List ℕ) (want : List ℕ → Wanted) (a b : Outside) → IsAmong all 1 → Nothing a b
    → ImageEnds all want a b (Err Memory)
image_memory all want a b can h = record {
  can = can;
  whole = record { told = λ bytes t. out_of_memory (want bytes) a b h };
  script = h.script;
}

read_memory : (all : List ℕ) (want : List ℕ → Wanted) (a b : Outside) → IsAmong all 1 → Nothing a b
    → ReadEnds all want a b (Err Memory)
read_memory all want a b can h = record {
  can = can;
  whole = record { told = λ bytes t. out_of_memory (want bytes) a b h };
  script = h.script;
  image = h.image.holds;
}

class_memory : (class : Class) (plan : RamPlan) (a b : Outside) → Nothing a b → ClassEnds class plan a b (Err Memory)
class_memory RunsScript plan a b h = record {
  can = ram_can_want plan.command;
  whole = record { told = λ bytes script t l. out_of_memory (wanted plan bytes script) a b h };
  read = unread_memory (mem_of plan) a b h.script;
  image_fault = inl h.script;
}
class_memory ReadsImage plan a b h = read_memory _ (wanted_of_image plan) a b (ram_can_want plan.command) h
class_memory ReadsDump plan a b h = read_memory _ (wanted_of_image plan) a b (ram_can_want plan.command) h
class_memory WritesImage plan a b h = image_memory _ (wanted_of_image plan) a b (ram_can_want plan.command) h
class_memory MakesImage plan a b h = record {
  can = ram_can_want plan.command;
  whole = out_of_memory (wanted plan [] []) a b h;
  script = h.script;
  image_fault = tt;
  text_first = inl h.image;
}
class_memory ShowsText plan a b h = record {
  can = ram_can_want plan.command;
  whole = out_of_memory (wanted plan [] []) a b h;
  script = h.script;
  image = h.image;
}

memory_ends : (plan : Plan) (a b : Outside) → Nothing a b → PlanEnds plan a b (Err Memory)
memory_ends (OfRam plan) a b h = class_memory (class_of plan.command) plan a b h
memory_ends (OfBlk layout) a b h =
    let q : Quiet a b = record { given = h.given; holds = h.image.holds } in
    record {
      whole = record { told = λ bytes script t l. memory_lines layout bytes (blk_lines layout bytes script) a b q t };
      read = unread_memory layout.total a b h.script;
      kept = tt;
    }
memory_ends (OfMove plan) a b h = image_memory (statuses (OfMove plan)) (wanted_move plan) a b refl h

clash : {A B : Type 0} {x : A} {y : B} → Ok x ≡ Err y → ⊥
clash e = cc

same_stop : (f s : Stop) → (let r : Result Plan Stop = Err f in r) ≡ Err s → (let e : End = Err s in e) ≡ Err f
same_stop f s e = let same : s ≡ f = cc in ap (λ x. Err x) same

-- words of which no plan was read
pub plan_stopped : (r : Result Plan Stop) (s : Stop) (a b : Outside) → PlanStop s r → Nothing a b
    → WorkEnds r a b (Err s)
plan_stopped (Ok plan) Memory a b h n = memory_ends plan a b n
plan_stopped (Ok plan) s a b h n = absurd (clash h)
plan_stopped (Err f) Memory a b h n = let no_plan : false ≡ true = h in cc
plan_stopped (Err f) s a b h n = (same_stop f _ h, n)

-- ---- all that is said of words

pub work_answers : (r : Result Plan Stop) (a m b : Outside) (e : End) (status : ℕ) → NoScript m b → NoImage m b
    → WorkDone r a m e → Finished e m.given b.given m.sink_faults b.sink_faults status → ToolAnswers r a b status
work_answers r a m b e status script image w f =
    tool_answers r a m b e status (record { later = w.later; script = script; image = image }) w.caused w.ended f
