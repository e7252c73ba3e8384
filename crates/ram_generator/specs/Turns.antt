-- Calls that were drawn, as the definitions have them
use Rattle.std.specs.Prelude.{◌≡◌, ◌==◌, not, List, [], ◌∷◌, Option, Some, None}
use Rattle.zone_spec.specs.declared.Zone.{Zone}
use Rattle.machine_spec.specs.Zones.{dump_zones}
use Rattle.machine_spec.specs.LiveCalls.{Ask as Asked}
use Rattle.ramoops.specs.Asks.{ask_seen, CanBeAsked}
use Rattle.ramoops.specs.declared.ask.Ask.{Ask}
use Rattle.script_spec.specs.Generated.{CutAppend as CutDrawn, rings}
use Rattle.ram_generator.specs.declared.turns.CutAppend.{CutAppend}
use Rattle.ram_generator.specs.declared.turns.Targets.{Targets}

-- a turn's call, where it has one
abbrev pub turn_of : Option Ask → List Asked
turn_of None = []
turn_of (Some ask) = ask_seen ask ∷ []

abbrev pub TurnCanBeAsked : Option Ask → Type 0
TurnCanBeAsked None = Unit {0}
TurnCanBeAsked (Some ask) = CanBeAsked ask

abbrev pub cut_drawn : CutAppend → CutDrawn
cut_drawn c = record { ring = c.ring; bytes = c.bytes; stores = c.stores }

-- the append that is cut, where there is one
abbrev pub cut_of : Option CutAppend → List CutDrawn
cut_of None = []
cut_of (Some c) = cut_drawn c ∷ []

-- the targets that a layout has
pub record AreTargets (layout : List Zone) (t : Targets) : Type 0 where
  pub rings : t.rings.items ≡ rings layout
  pub dumps : (dump_zones layout == 0) ≡ not t.dumps
