-- A generated session so far, and the machines that stand for it
use Rattle.std.specs.Prelude.{◌≡◌, ℕ, ◌^◌, ◌<◌, List, length}
use Rattle.std.specs.List.{All}
use Rattle.zone_spec.specs.declared.Zone.{Zone}
use Rattle.machine_spec.specs.States.{LiveState, OffState, Live}
use Rattle.machine_spec.specs.LiveCalls.{Ask}
use Rattle.machine_spec.specs.Operations.{Operation}
use Rattle.machine_spec.specs.Boot.{booted}
use Rattle.machine_spec.specs.Report.{ZoneReport, report}
use Rattle.machine_spec.specs.Sound.{IsState}
use Rattle.ramoops.specs.LiveSeen.{LiveSeen, StandsLive}
use Rattle.zone_spec.specs.Layouts.{IsLayout}
use Rattle.script_spec.specs.Generated.{Generated, Drawn, draw_over, after, stores_of}
use Rattle.ram_generator.specs.declared.counts.Counts.{Counts}
use Rattle.ram_generator.specs.declared.rounds.RoundPlan.{RoundPlan}
use Rattle.ram_generator.specs.Counting.{counted}
use Rattle.ram_generator.specs.Damage.{IsWithin}
use Rattle.ram_generator.specs.Turns.{AreTargets}

-- an operation on a call was done, or refused, and the machine stands for what it leaves; the call has so many stores
pub record IsCalled (layout : List Zone) (mem : ℕ) (s : LiveState) (operation : Operation) (ask : Ask) (v : LiveSeen)
    (stores : ℕ) : Type 0 where
  pub next : LiveState
  pub done : after layout (Live s) operation ≡ Live next
  pub stands : StandsLive layout mem v next
  pub sound : IsState layout mem (Live next)
  pub count : stores ≡ stores_of layout (Live s) ask

-- an operation was done, or refused, and the machine stands for what it leaves
pub record IsLeft (layout : List Zone) (mem : ℕ) (s : LiveState) (operation : Operation) (v : LiveSeen) : Type 0 where
  pub next : LiveState
  pub done : after layout (Live s) operation ≡ Live next
  pub stands : StandsLive layout mem v next
  pub sound : IsState layout mem (Live next)

-- the live machine and the counts stand for the session so far
pub record Runs (layout : List Zone) (mem : ℕ) (v : LiveSeen) (c : Counts) (g : Generated) : Type 0 where
  pub now : LiveState
  pub is : g ≡ counted (Live now) c
  pub stands : StandsLive layout mem v now
  pub sound : IsState layout mem (Live now)

-- so do machine, counts and number for what was drawn
pub record RunsTo (layout : List Zone) (mem : ℕ) (v : LiveSeen) (c : Counts) (x : ℕ) (all : Generated × ℕ) : Type 0 where
  pub runs : Runs layout mem v c all.0
  pub number : x ≡ all.1

-- a part of the session was gone through, whatever session was before it
abbrev pub Goes : (List Zone → Generated → Drawn Generated) → List Zone → LiveSeen → Counts → ℕ → LiveSeen → Counts → ℕ
    → Type 0
Goes part layout v c x w d y = (mem : ℕ) (g : Generated) → IsLayout layout mem → Runs layout mem v c g
    → RunsTo layout mem w d y (part layout g x)

-- a step for each of some numbers was
abbrev pub GoesOver : (Generated → ℕ → Drawn Generated) → List ℕ → List Zone → LiveSeen → Counts → ℕ → LiveSeen → Counts
    → ℕ → Type 0
GoesOver step items layout v c x w d y = Goes (λ zones g. draw_over step g items) layout v c x w d y

-- a boot left a sound state, and reported so
pub record IsUp (layout : List Zone) (mem : ℕ) (s : OffState) (v : LiveSeen) (told : List ZoneReport) : Type 0 where
  pub stands : StandsLive layout mem v (booted layout s)
  pub sound : IsState layout mem (Live (booted layout s))
  pub reports : told ≡ report layout s

-- the zones of a plan are few and lie within 32 bits, and its calls are drawn for them
pub record IsPlan (plan : RoundPlan) : Type 0 where
  pub targets : AreTargets plan.zones.items plan.targets
  pub few : length plan.targets.rings.items < 2 ^ 31
  pub within : All IsWithin plan.zones.items
