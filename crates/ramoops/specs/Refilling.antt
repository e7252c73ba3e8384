-- A blank machine that is told logs
use Rattle.std.specs.Prelude.{◌≡◌, ℕ, Bool, true, [], ◌∷◌, ◌++◌, List, length, slice_get, Some, None}
use Rattle.zone_spec.specs.declared.Zone.{Zone}
use Rattle.zone_spec.specs.Records.{Saved}
use Rattle.machine_spec.specs.States.{LiveZone, LiveState}
use Rattle.machine_spec.specs.Moved.{is_blank, refilled}
use Rattle.ramoops.specs.declared.zones.HeldZone.{HeldZone}
use Rattle.ramoops.specs.LiveSeen.{LiveSeen, StandsLive}

-- what is kept of the i-th zone: nothing told, and no flight
abbrev pub IsBlankAt : ℕ → LiveSeen → Type 0
IsBlankAt i v = (h : HeldZone) → slice_get v.zones i ≡ Some h → (h.flight ≡ None) × (h.told.items ≡ [])

-- so it is if this is true, and this says the same of each state for which the machine stands
pub record SaysBlank (i : ℕ) (v : LiveSeen) (says : Bool) : Type 0 where
  pub blank : says ≡ true → IsBlankAt i v
  pub same : (layout : List Zone) (mem : ℕ) (s : LiveState) (z : Zone) (live : LiveZone) → StandsLive layout mem v s
      → slice_get layout i ≡ Some z → slice_get s.zones i ≡ Some live → is_blank live ≡ says

-- a machine that stood for a state that was told some logs stands for it with this log too
abbrev pub RefillsNext : Saved → LiveSeen → LiveSeen → Type 0
RefillsNext zone old new = (layout : List Zone) (mem : ℕ) (s : LiveState) (zones : List Saved)
    → length s.zones ≡ length layout
    → StandsLive layout mem old (refilled layout zones s)
    → StandsLive layout mem new (refilled layout (zones ++ zone ∷ []) s)

-- a machine that stood for a state stands for it with these logs
abbrev pub RefillsAll : List Saved → LiveSeen → LiveSeen → Type 0
RefillsAll zones old new = (layout : List Zone) (mem : ℕ) (s : LiveState) → StandsLive layout mem old s
    → StandsLive layout mem new (refilled layout zones s)
