-- What the call on a zone of parameters as numbers answers
use Rattle.std.specs.Prelude.{◌≡◌, ℕ, ◌<◌, ◌≤◌, ◌⊎◌, List, Some, None, Ok, Err}
use Rattle.zone_spec.specs.declared.Zone.{Zone}
use Rattle.zone_spec.specs.declared.ZoneName.{ZoneName}
use Rattle.zone_spec.specs.declared.params.Params.{Params}
use Rattle.zone_spec.specs.declared.params.LayoutFault.{LayoutFault}
use Rattle.zone_spec.specs.Layout.{layout_of}
use Rattle.zone_spec.specs.LayoutFaults.{fault_number}
use Rattle.grammar_spec.specs.ZoneWords.{order_at}
use Rattle.ramoops_layout.specs.declared.finding.Found.{Found as FoundZone}
use Rattle.ramoops_layout.specs.Found.{zone_named}
use Rattle.oopsbox_c.specs.Places.{name_in, byte_order_in, place_of, layout_answer, fault_answer}
use Rattle.oopsbox_c.specs.declared.ends.End.{End}
use Rattle.oopsbox_c.specs.declared.ends.End.TheVariants.{Done, Fault, Argument}
use Rattle.oopsbox_c.specs.declared.layouts.LayoutParams.{LayoutParams}
use Rattle.oopsbox_c.specs.declared.places.ZonePlace.{ZonePlace}
use Rattle.oopsbox_c.specs.declared.places.LayoutAnswer.{LayoutAnswer}

-- parameters as numbers
abbrev pub params_in : LayoutParams → Params
params_in p = record {
  mem = p.mem;
  dump = p.dump;
  console = p.console;
  ftrace = p.ftrace;
  pmsg = p.pmsg;
  ecc = p.ecc;
  cpus = p.cpus;
  ftrace_sig = p.ftrace_sig;
  block = p.block;
  ecc_dump = p.ecc_dump;
  ecc_console = p.ecc_console;
  ecc_ftrace = p.ecc_ftrace;
  ecc_pmsg = p.ecc_pmsg;
  order = order_at p.order;
  byte_order = byte_order_in p.byte_order;
}

-- the layout has a zone of this name, and both were told
pub record TellsZone (params : Params) (name : ZoneName) (new : ZonePlace) (after : LayoutAnswer) : Type 0 where
  pub zones : List Zone
  pub laid : layout_of params ≡ Ok zones
  pub zone : Zone
  pub is : zone_named zones name ≡ Some zone
  pub place : new ≡ place_of zone
  pub answer : after ≡ layout_answer params zones

-- there is a layout without a zone of this name
pub record LacksZone (params : Params) (name : ZoneName) : Type 0 where
  pub zones : List Zone
  pub laid : layout_of params ≡ Ok zones
  pub is : zone_named zones name ≡ None

-- there is no layout, and its fault was told
pub record TellsNoLayout (params : Params) (after : LayoutAnswer) : Type 0 where
  pub fault : LayoutFault
  pub is : layout_of params ≡ Err fault
  pub answer : after ≡ fault_answer (fault_number fault) 0

-- kind and orders are numbers of one
abbrev pub AreNumbered : ℕ → LayoutParams → Type 0
AreNumbered kind p = (kind ≤ 3) × (p.order ≤ 1) × (p.byte_order ≤ 1)

abbrev pub ZoneAtEnds : End → LayoutParams → ℕ → ℕ → ZonePlace → ZonePlace → LayoutAnswer → LayoutAnswer → Type 0
ZoneAtEnds Done p kind index old new before after = AreNumbered kind p
    × TellsZone (params_in p) (name_in kind index) new after
ZoneAtEnds Fault p kind index old new before after = AreNumbered kind p × TellsNoLayout (params_in p) after
    × (new ≡ old)
ZoneAtEnds Argument p kind index old new before after = ((3 < kind) ⊎ (1 < p.order) ⊎ (1 < p.byte_order)
    ⊎ LacksZone (params_in p) (name_in kind index)) × (new ≡ old) × (after ≡ before)
ZoneAtEnds other p kind index old new before after = ⊥

-- a zone that was looked for
pub record TellsFound (zone : Zone) (found : FoundZone) (new : ZonePlace) (after : LayoutAnswer) : Type 0 where
  pub place : new ≡ place_of zone
  pub answer : after ≡ record { zones = found.zones; word = 0; mem = found.mem; fault = 0 }

abbrev pub FoundEnds : End → FoundZone → ZonePlace → ZonePlace → LayoutAnswer → LayoutAnswer → Type 0
FoundEnds Done found old new before after = (zone : Zone) × (found.zone ≡ Some zone) × TellsFound zone found new after
FoundEnds Argument found old new before after = (found.zone ≡ None) × (new ≡ old) × (after ≡ before)
FoundEnds other found old new before after = ⊥
