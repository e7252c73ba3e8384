-- Steps of a flight in a row
use Rattle.std.specs.Prelude.{◌≡◌, ℕ, ◌+◌, List, None, Some, Ok, Err}
use Rattle.zone_spec.specs.declared.Zone.{Zone}
use Rattle.zone_spec.specs.declared.ZoneName.{ZoneName}
use Rattle.zone_spec.specs.declared.Refusal.{Refusal}
use Rattle.machine_spec.specs.States.{Flight, LiveState, Live}
use Rattle.machine_spec.specs.Sound.{IsState}
use Rattle.machine_spec.specs.ZoneCalls.{stores_left}
use Rattle.machine_spec.specs.LiveZones.{Target, target}
use Rattle.machine_spec.specs.LiveCalls.{Ask, asked_name, begin, make, step, finish}

-- some steps and then one more are so many and one
abbrev pub StepsAddUp : Type 0
StepsAddUp = (layout : List Zone) (live next last : LiveState) (name : ZoneName) (count : ℕ)
    → step layout live name count ≡ Ok next → step layout next name 1 ≡ Ok last
    → step layout live name (count + 1) ≡ Ok last

-- where no further step can be made, further steps change nothing
abbrev pub StepsEnd : Type 0
StepsEnd = (layout : List Zone) (live next : LiveState) (name : ZoneName) (count more : ℕ) (why : Refusal)
    → step layout live name count ≡ Ok next → step layout next name 1 ≡ Err why
    → step layout live name (count + more) ≡ Ok next

-- calls and steps leave the saved logs
abbrev pub CallsKeepLogs : Type 0
CallsKeepLogs = (layout : List Zone) (live next : LiveState)
    → ((ask : Ask) → begin layout live ask ≡ Ok next → next.logs ≡ live.logs)
    × ((name : ZoneName) (count : ℕ) → step layout live name count ≡ Ok next → next.logs ≡ live.logs)

-- no steps of a flight of a sound state leave the state
abbrev pub NoStepsLeaveState : Type 0
NoStepsLeaveState = (layout : List Zone) (mem : ℕ) (live : LiveState) (name : ZoneName) (t : Target) (f : Flight)
    → IsState layout mem (Live live) → target layout live name ≡ Some t → t.live.flight ≡ Some f
    → step layout live name 0 ≡ Ok live

-- a flight is finished by as many steps as stores are left
abbrev pub FinishIsSteps : Type 0
FinishIsSteps = (layout : List Zone) (live : LiveState) (name : ZoneName) (t : Target)
    → target layout live name ≡ Some t
    → finish layout live name ≡ step layout live name (stores_left t.live.flight t.zone)

-- and a call that was begun is made by them, or made already where no flight stands
abbrev pub MakeIsBeginAndSteps : Type 0
MakeIsBeginAndSteps = (layout : List Zone) (live begun : LiveState) (ask : Ask) → begin layout live ask ≡ Ok begun
    → ((last : LiveState) → finish layout begun (asked_name live ask) ≡ Ok last → make layout live ask ≡ Ok last)
    × (((t : Target) → target layout begun (asked_name live ask) ≡ Some t → t.live.flight ≡ None)
    → make layout live ask ≡ Ok begun)
