-- What is done, or why not, in each sound state for which the machine stands
use Rattle.std.specs.Prelude.{◌≡◌, ℕ, List, Result, Err}
use Rattle.zone_spec.specs.declared.Zone.{Zone}
use Rattle.zone_spec.specs.declared.Refusal.{Refusal}
use Rattle.zone_spec.specs.Layouts.{IsLayout}
use Rattle.machine_spec.specs.States.{LiveState, Live}
use Rattle.machine_spec.specs.Sound.{IsState}
use Rattle.zone_spec.specs.declared.ZoneName.{ZoneName}
use Rattle.machine_spec.specs.LiveCalls.{Ask, asked_name, begin}
use Rattle.ramoops.specs.LiveSeen.{LiveSeen, StandsLive, Leaves}

-- an operation was done: the machine stands for the state that it leaves
abbrev pub Done : LiveSeen → LiveSeen → (List Zone → LiveState → Result LiveState Refusal) → Type 0
Done old new operation = (layout : List Zone) (mem : ℕ) (s : LiveState) → IsLayout layout mem
    → StandsLive layout mem old s → IsState layout mem (Live s) → Leaves layout mem (operation layout s) new

-- an operation was refused
abbrev pub IsRefused : LiveSeen → Refusal → (List Zone → LiveState → Result LiveState Refusal) → Type 0
IsRefused old why operation = (layout : List Zone) (mem : ℕ) (s : LiveState) → IsLayout layout mem
    → StandsLive layout mem old s → IsState layout mem (Live s) → operation layout s ≡ Err why

-- a call was begun in the zone of this name, in every state for which the machine stands
abbrev pub Begun : LiveSeen → LiveSeen → Ask → ZoneName → Type 0
Begun old new ask name = (layout : List Zone) (mem : ℕ) (s : LiveState) → StandsLive layout mem old s
    → (name ≡ asked_name s ask) × Leaves layout mem (begin layout s ask) new

abbrev pub NotBegun : LiveSeen → Ask → Refusal → Type 0
NotBegun old ask why = (layout : List Zone) (mem : ℕ) (s : LiveState) → StandsLive layout mem old s
    → begin layout s ask ≡ Err why
