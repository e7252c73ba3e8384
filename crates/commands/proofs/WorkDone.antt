-- Where nothing that is asked for is refused and nothing failed, all is done, or memory is out
use Rattle.std.proofs.Common.{◌≡◌, ◌⊎◌, ℕ, List, [], Result, Ok, Err, refl, ap, ◌∙◌, inl, inr}
use Rattle.blk_spec.specs.declared.BlkLayout.{BlkLayout}
use Rattle.grammar_spec.specs.Fields.{Text}
use Rattle.grammar_spec.specs.declared.line.Line.{Line}
use Rattle.command_spec.specs.Ends.{End, status_of}
use Rattle.command_spec.specs.Commands.{RamCommand, Run, ShowLayout, Blank, Make, RamPlan, Plan, OfRam, OfBlk, OfMove}
use Rattle.command_spec.specs.Commands.{wanted, wanted_move, plan_of, SharedRun, class_of}
use Rattle.command_spec.specs.Answers.{Outside, RoseFor, IsFree}
use Rattle.command_spec.specs.BlkAnswers.{blk_lines, LinesOrStopAnswers}
use Rattle.command_spec.specs.PlanAnswers.{ToolAnswers, ClassAnswers}
use Rattle.command_spec.specs.Complete.{lines_end, plan_end, PlanTells, Completes, ClassTells}
use Rattle.command_spec.specs.declared.Stop.{Stop}
use Rattle.command_spec.specs.declared.Stop.TheVariants.{ScriptFault, ImageFault, SinkFault}

module _ (a b : Outside) (status : ℕ) (script_ok : RoseFor ScriptFault a b → ⊥) (image_ok : RoseFor ImageFault a b → ⊥)
    (sink_ok : RoseFor SinkFault a b → ⊥) where
  abbrev Done : Type 0
  Done = (status ≡ 0) ⊎ (status ≡ 1)

  free_done : IsFree a b status → Done
  free_done (inl one) = inr one
  free_done (inr (inl f)) = absurd (script_ok f.1)
  free_done (inr (inr (inl f))) = absurd (image_ok f.1)
  free_done (inr (inr (inr f))) = absurd (sink_ok f.1)

  exact_done : (e : End) → (status ≡ status_of e) ⊎ IsFree a b status → e ≡ Ok tt → Done
  exact_done e (inl is) done = inl (is ∙ ap status_of done)
  exact_done e (inr free) done = free_done free

  -- what a command wants does not stand on what it does not read
  ram_done : (c : RamCommand) (plan : RamPlan) → plan.command ≡ c → ClassAnswers (class_of c) plan a b status
      → (bytes script : List ℕ)
      → ClassTells (class_of c) a bytes script → (wanted plan bytes script).end ≡ Ok tt → Done
  ram_done Run plan is h bytes script tells done =
      exact_done (wanted plan bytes script).end (h.whole.told bytes script tells.0 tells.1).exact done
  ram_done SharedRun plan is h bytes script tells done =
      exact_done (wanted plan bytes script).end (h.whole.told bytes script tells.0 tells.1).exact done
  ram_done ShowLayout plan is h bytes script tells done =
      let same : wanted plan bytes script ≡ wanted plan [] [] = rw is refl in
      exact_done (wanted plan [] []).end h.whole.exact (rw same at done)
  ram_done Blank plan is h bytes script tells done =
      let same : wanted plan bytes script ≡ wanted plan [] [] = rw is refl in
      exact_done (wanted plan [] []).end h.whole.exact (rw same at done)
  ram_done (Make n) plan is h bytes script tells done =
      let same : wanted plan bytes script ≡ wanted plan [] [] = rw is refl in
      exact_done (wanted plan [] []).end h.whole.exact (rw same at done)
  ram_done c plan is h bytes script tells done =
      let same : wanted plan bytes script ≡ wanted plan bytes [] = rw is refl in
      exact_done (wanted plan bytes []).end (h.whole.told bytes tells).exact (rw same at done)

  no_stop : (s : Stop) → (let e : End = Err s in e) ≡ Ok tt → Done
  no_stop s e = absurd (cc)

  lines_done : (layout : BlkLayout) (bytes : List ℕ) (r : Result (List Line) Stop)
      → LinesOrStopAnswers layout bytes r a b status → lines_end layout bytes r ≡ Ok tt → Done
  lines_done layout bytes (Ok lines) h done = exact_done (lines_end layout bytes (Ok lines)) h.exact done
  lines_done layout bytes (Err s) h done = no_stop s done

  tool_done : (r : Result Plan Stop) → ToolAnswers r a b status → (bytes script : List ℕ)
      → PlanTells r a bytes script → plan_end r bytes script ≡ Ok tt → Done
  tool_done (Ok (OfRam plan)) h bytes script tells done = ram_done plan.command plan refl h bytes script tells done
  tool_done (Ok (OfBlk layout)) h bytes script tells done = lines_done layout bytes (blk_lines layout bytes script)
      (h.0.whole.told bytes script tells.0 tells.1) done
  tool_done (Ok (OfMove plan)) h bytes script tells done =
      exact_done (wanted_move plan bytes).end (h.whole.told bytes tells).exact done
  tool_done (Err s) h bytes script tells done = no_stop s done

pub completes : (words : List Text) (a b : Outside) (status : ℕ) → ToolAnswers (plan_of words) a b status
    → Completes words a b status
completes words a b status h bytes script tells done script_ok image_ok sink_ok =
    tool_done a b status script_ok image_ok sink_ok (plan_of words) h bytes script tells done
