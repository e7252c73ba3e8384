-- When the image fails, from how the work ended
use Rattle.std.proofs.Common.{◌≡◌, ◌≢◌, ℕ, Result, Ok, Err, sym, ◌∙◌, inl, inr, arith}
use Rattle.command_spec.specs.Ends.{End, status_of}
use Rattle.command_spec.specs.Commands.{Plan, OfRam, OfBlk, OfMove, Class, RunsScript, class_of}
use Rattle.command_spec.specs.Answers.{Outside, NoScript}
use Rattle.command_spec.specs.declared.Stop.{Stop}
use Rattle.command_spec.specs.declared.Stop.TheVariants.{ImageFault, SinkFault}
use Rattle.ramoops_layout.specs.declared.types.Layout.{Layout as ReadLayout}
use Rattle.command_line.specs.Ends.{LastPut, Finished}
use Rattle.command_line.specs.Ended.{CausedAt}
use Rattle.command_line.specs.Words.{plan_for, ram_command_seen}
use Rattle.command_line.specs.declared.words.RamCommand.{RamCommand as ReadRamCommand}
use Rattle.commands.specs.Asked.{BeforeAll, LineBeforeAll, FailsAt, PlanFails, FaultAt, ClassFails, ClassFault}
use Rattle.commands.specs.Asked.{ImageFails}

-- the image was all that was touched, and no write was asked for
pub fails_first : (a b : Outside) (e : End) → BeforeAll a b → FailsAt a b e
fails_first a b (Err ImageFault) h = inl h
fails_first a b e h = tt

-- an end that is caused whatever the image has counted is no fault of the image
pub fails_never : (a b : Outside) (e : End) (f f' h h' : ℕ) → CausedAt f f' 1 0 h h' e → FailsAt a b e
fails_never a b (Err ImageFault) f f' h h' c = absurd (omega (arith, c))
fails_never a b e f f' h h' c = tt

-- the command, and the plan, that was read
pub arm_fails : (c k : ReadRamCommand) (layout : ReadLayout) (a b : Outside) (e : End) → c ≡ k
    → PlanFails (Ok (OfRam (plan_for (ram_command_seen k) layout))) a b e
    → PlanFails (Ok (OfRam (plan_for (ram_command_seen c) layout))) a b e
arm_fails c k layout a b e is h = rw is h

pub plan_fails : (r : Result Plan Stop) (plan : Plan) (a b : Outside) (e : End) → r ≡ Ok plan
    → PlanFails (Ok plan) a b e → PlanFails r a b e
plan_fails r plan a b e is h = rw is h

-- nothing was touched
class_unfailed : (class : Class) (a b : Outside) (e : End) → BeforeAll a b → ClassFails class a b e
class_unfailed RunsScript a b e h = fails_first a b e h
class_unfailed class a b e h = tt

pub none_fails : (r : Result Plan Stop) (a b : Outside) (e : End) → BeforeAll a b → PlanFails r a b e
none_fails (Ok (OfRam plan)) a b e h = class_unfailed (class_of plan.command) a b e h
none_fails (Ok (OfMove plan)) a b e h = fails_first a b e h
none_fails (Ok (OfBlk layout)) a b e h = tt
none_fails (Err s) a b e h = tt

-- ---- behind the last line, which touches the output alone

module _ (a m b : Outside) (status : ℕ) (script : NoScript m b) (same : b.writes ≡ m.writes) where
  line_before_all : BeforeAll a m → (status ≡ 6) → LastPut ImageFault m.given b.given m.sink_faults b.sink_faults status
      → LineBeforeAll a b
  line_before_all h six last = elim last.shown [
    | inl k ↦ record {
      script = record { left = script.left ∙ h.script.left; source = script.source ∙ h.script.source };
      put = rw h.given at k.1;
      writes = same ∙ h.writes;
    }
    | inr k ↦ absurd (omega (arith, k.0, six))
  ]

  fault_line : FailsAt a m (Err ImageFault) → LastPut ImageFault m.given b.given m.sink_faults b.sink_faults status
      → FaultAt a b status
  fault_line h last six = elim h [
    | inl first ↦ inl (line_before_all first six last)
    | inr rose ↦ inr (rw same rose)
  ]

  -- another stop has another status
  no_fault_line : (s : Stop) → status_of (Err s) ≢ 6 → LastPut s m.given b.given m.sink_faults b.sink_faults status
      → FaultAt a b status
  no_fault_line s other last six = elim last.shown [
    | inl k ↦ absurd (other (sym k.0 ∙ six))
    | inr k ↦ absurd (omega (arith, k.0, six))
  ]

  fault_at : (e : End) → FailsAt a m e → Finished e m.given b.given m.sink_faults b.sink_faults status
      → FaultAt a b status
  fault_at (Ok u) h f six = absurd (omega (arith, f.answer, six))
  fault_at (Err SinkFault) h f six = absurd (omega (arith, f.answer, six))
  fault_at (Err ImageFault) h f six = fault_line h f six
  fault_at (Err s) h f six = no_fault_line s (λ z. absurd (omega (arith, z))) f six

  class_fault : (class : Class) (e : End) → ClassFails class a m e
      → Finished e m.given b.given m.sink_faults b.sink_faults status → ClassFault class a b status
  class_fault RunsScript e h f = fault_at e h f
  class_fault class e h f = tt

  pub image_fails : (r : Result Plan Stop) (e : End) → PlanFails r a m e
      → Finished e m.given b.given m.sink_faults b.sink_faults status → ImageFails r a b status
  image_fails (Ok (OfRam plan)) e h f = class_fault (class_of plan.command) e h f
  image_fails (Ok (OfMove plan)) e h f = fault_at e h f
  image_fails (Ok (OfBlk layout)) e h f = tt
  image_fails (Err s) e h f = tt
