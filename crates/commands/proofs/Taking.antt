-- Where a script runs out of memory, from how its work ended
use Rattle.std.proofs.Common.{◌≡◌, ◌≢◌, ℕ, ◌≤◌, List, length, take, Option, Result, Ok, Err, sym, ◌∙◌, subst, inl, inr}
use Rattle.std.proofs.Common.{arith}
use Rattle.std.specs.Prelude.{IfErr, ⊤}
use Rattle.ramoops_layout.specs.Laid.{zones_of}
use Rattle.ramoops_layout.specs.declared.types.Layout.{Layout}
use Rattle.grammar_spec.specs.declared.line.Line.{Line}
use Rattle.script_spec.specs.Playing.{PlayStop, StopsTaking}
use Rattle.script_spec.specs.declared.LineStop.{LineStop}
use Rattle.script_spec.specs.declared.LineStop.TheVariants.{Memory as MemoryThere, StoreFault}
use Rattle.script_spec.specs.declared.LineStop.TheVariants.{SinkFault as SinkFaultThere, Refused as RefusedThere}
use Rattle.command_spec.specs.Ends.{End, status_of, stop_of}
use Rattle.command_spec.specs.Commands.{RamCommand, Run, RamPlan, Plan, OfRam, OfBlk, OfMove, mem_of}
use Rattle.command_spec.specs.Answers.{Outside, IfTold}
use Rattle.command_spec.specs.declared.Stop.{Stop}
use Rattle.command_spec.specs.declared.Stop.TheVariants.{Memory, SinkFault}
use Rattle.command_line.specs.Stages.{ReadLines}
use Rattle.command_line.specs.Ends.{LastPut, Finished}
use Rattle.command_line.specs.Words.{plan_for, ram_command_seen}
use Rattle.command_line.specs.declared.words.RamCommand.{RamCommand as ReadRamCommand}
use Rattle.command_line.proofs.ReadParts.{script_read}
use Rattle.command_line.proofs.Script.{Loaded}
use Rattle.commands.specs.Scripts.{session_plan}
use Rattle.commands.specs.Taking.{SessionTakes, RunTakes, CommandTakes, PlanTakes, TookIn, CommandTook, PlanTook}
use Rattle.commands.specs.declared.scripts.Session.{Session}
use Rattle.commands.specs.declared.scripts.Session.TheVariants.{Ram, Shared}

-- ---- the lines

pub play_takes : (layout : Layout) (stop : LineStop) (image : List ℕ) (lines : List Line)
    (given given' : Option (List ℕ)) (h h' : ℕ) → PlayStop stop (zones_of layout) image lines given given' h h'
    → SessionTakes (Ram layout) image lines given given' (stop_of stop)
play_takes layout MemoryThere image lines given given' h h' p = inr p
play_takes layout StoreFault image lines given given' h h' p = tt
play_takes layout SinkFaultThere image lines given given' h h' p = tt
play_takes layout (RefusedThere n cause) image lines given given' h h' p = tt

pub nothing_said : {T : Type 0} (r : Result T Stop) → IfErr r (λ stop. ⊤)
nothing_said (Ok x) = tt
nothing_said (Err s) = tt

-- of an image and a script that were read
pub lines_take : (session : Session) (a b : Outside) (image : List ℕ) → Loaded (session_plan session) a image
    → (lines : List Line) → ReadLines lines a.left b.left → (s : Stop)
    → SessionTakes session image lines a.given b.given s
    → CommandTakes (session_plan session).command (session_plan session) a b (Err s)
lines_take (Shared booted layout) a b image l lines r s h = tt
lines_take (Ram layout) a b image l lines r Memory h = record {
  told = λ bytes script t k.
      let i : (mem_of (plan_for Run layout) ≤ length bytes) × (image ≡ take (mem_of (plan_for Run layout)) bytes) =
      rw t at l.read in
      elim h [
        | inl same ↦ inl same
        | inr stops ↦ inr (record {
          lines = lines;
          are = (script_read a.left b.left lines script r k).1;
          stops = subst (λ (x : List ℕ). StopsTaking (zones_of layout) x lines a.given b.given) i.1 stops;
        })
      ];
}
lines_take (Ram layout) a b image l lines r s h = tt

-- ---- the work

run_silent : (plan : RamPlan) (a b : Outside) (e : End) → b.given ≡ a.given → RunTakes plan a b e
run_silent plan a b (Err Memory) same = record { told = λ bytes script t k. inl same }
run_silent plan a b e same = tt

pub command_takes : (command : RamCommand) (plan : RamPlan) (a b : Outside) (e : End) → RunTakes plan a b e
    → CommandTakes command plan a b e
command_takes Run plan a b e h = h
command_takes command plan a b e h = tt

-- nothing was put
pub takes_silent : (r : Result Plan Stop) (a b : Outside) (e : End) → b.given ≡ a.given → PlanTakes r a b e
takes_silent (Ok (OfRam plan)) a b e same = command_takes plan.command plan a b e (run_silent plan a b e same)
takes_silent (Ok (OfBlk layout)) a b e same = tt
takes_silent (Ok (OfMove plan)) a b e same = tt
takes_silent (Err s) a b e same = tt

-- the command, and the plan, that was read
pub arm_takes : (c k : ReadRamCommand) (layout : Layout) (a b : Outside) (e : End) → c ≡ k
    → PlanTakes (Ok (OfRam (plan_for (ram_command_seen k) layout))) a b e
    → PlanTakes (Ok (OfRam (plan_for (ram_command_seen c) layout))) a b e
arm_takes c k layout a b e is h = rw is h

pub plan_takes : (r : Result Plan Stop) (plan : Plan) (a b : Outside) (e : End) → r ≡ Ok plan
    → PlanTakes (Ok plan) a b e → PlanTakes r a b e
plan_takes r plan a b e is h = rw is h

-- ---- after the last line

module _ (a m b : Outside) (status : ℕ) where
  memory_line : (plan : RamPlan) → RunTakes plan a m (Err Memory)
      → LastPut Memory m.given b.given m.sink_faults b.sink_faults status → CommandTook Run plan a b status
  memory_line plan h last one = elim last.shown [
    | inl k ↦ record {
      told = λ bytes script t s. record { mid = m.given; takes = h.told bytes script t s; put = k.1 };
    }
    | inr k ↦ absurd (omega (arith, k.0, one))
  ]

  -- another stop has another status
  other_line : (plan : RamPlan) (s : Stop) → status_of (Err s) ≢ 1
      → LastPut s m.given b.given m.sink_faults b.sink_faults status → CommandTook Run plan a b status
  other_line plan s other last one = elim last.shown [
    | inl k ↦ absurd (other (sym k.0 ∙ one))
    | inr k ↦ absurd (omega (arith, k.0, one))
  ]

  run_took : (plan : RamPlan) (e : End) → RunTakes plan a m e
      → Finished e m.given b.given m.sink_faults b.sink_faults status → CommandTook Run plan a b status
  run_took plan (Ok u) h f one = absurd (omega (arith, f.answer, one))
  run_took plan (Err SinkFault) h f one = absurd (omega (arith, f.answer, one))
  run_took plan (Err Memory) h f one = memory_line plan h f one
  run_took plan (Err s) h f one = other_line plan s (λ z. absurd (omega (arith, z))) f one

  command_took : (command : RamCommand) (plan : RamPlan) (e : End) → CommandTakes command plan a m e
      → Finished e m.given b.given m.sink_faults b.sink_faults status → CommandTook command plan a b status
  command_took Run plan e h f = run_took plan e h f
  command_took command plan e h f = tt

  pub plan_took : (r : Result Plan Stop) (e : End) → PlanTakes r a m e
      → Finished e m.given b.given m.sink_faults b.sink_faults status → PlanTook r a b status
  plan_took (Ok (OfRam plan)) e h f = command_took plan.command plan e h f
  plan_took (Ok (OfBlk layout)) e h f = tt
  plan_took (Ok (OfMove plan)) e h f = tt
  plan_took (Err s) e h f = tt
