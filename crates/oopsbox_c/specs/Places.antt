-- Zones, layouts and readings as C sees them, and back
use Rattle.std.specs.Prelude.{ℕ, ◌≤◌, if◌then◌else◌, ◌==◌, List, length}
use Rattle.zone_spec.specs.declared.Zone.{Zone}
use Rattle.zone_spec.specs.declared.ZoneName.{ZoneName}
use Rattle.zone_spec.specs.declared.Kind.{Kind}
use Rattle.zone_spec.specs.declared.Kind.TheVariants.{Dump, Console, Ftrace, Pmsg}
use Rattle.zone_spec.specs.declared.State.{State}
use Rattle.zone_spec.specs.declared.State.TheVariants.{Unsigned, Empty, Invalid, Found}
use Rattle.zone_spec.specs.declared.params.Params.{Params}
use Rattle.zone_spec.specs.declared.params.ByteOrder.{ByteOrder}
use Rattle.zone_spec.specs.declared.params.ByteOrder.TheVariants.{Little, Big}
use Rattle.zone_spec.specs.Reading.{ZoneReading}
use Rattle.zone_spec.specs.Zones.{IsValidZone}
use Rattle.oopsbox_c.specs.declared.places.ZonePlace.{ZonePlace}
use Rattle.oopsbox_c.specs.declared.places.LayoutAnswer.{LayoutAnswer}
use Rattle.oopsbox_c.specs.declared.places.ZoneAnswer.{ZoneAnswer}

-- ---- numbers

abbrev pub kind_number : Kind → ℕ
kind_number Dump = 0
kind_number Console = 1
kind_number Ftrace = 2
kind_number Pmsg = 3

-- and back; a number above 3 is none of these
abbrev pub kind_in : ℕ → Kind
kind_in n = if n == 0 then Dump else (if n == 1 then Console else (if n == 2 then Ftrace else Pmsg))

abbrev pub byte_order_number : ByteOrder → ℕ
byte_order_number Little = 0
byte_order_number Big = 1

-- and back; a number above 1 is none of these
abbrev pub byte_order_in : ℕ → ByteOrder
byte_order_in n = if n == 0 then Little else Big

abbrev pub name_in : ℕ → ℕ → ZoneName
name_in kind index = record { kind = kind_in kind; index = index }

abbrev pub state_number : State → ℕ
state_number Unsigned = 0
state_number Empty = 1
state_number Invalid = 2
state_number Found = 3

-- ---- zones

abbrev pub place_of : Zone → ZonePlace
place_of z = record {
  kind = kind_number z.name.kind;
  byte_order = byte_order_number z.byte_order;
  index = z.name.index;
  at = z.at;
  size = z.size;
  cap = z.cap;
  blocks = z.blocks;
  parity = z.parity;
  block = z.block;
  sig = z.sig;
}

abbrev pub zone_in : ZonePlace → Zone
zone_in p = record {
  name = name_in p.kind p.index;
  at = p.at;
  size = p.size;
  cap = p.cap;
  blocks = p.blocks;
  parity = p.parity;
  block = p.block;
  sig = p.sig;
  byte_order = byte_order_in p.byte_order;
}

-- the place of a zone that a layout can have
pub record IsPlace (p : ZonePlace) : Type 0 where
  pub kind : p.kind ≤ 3
  pub byte_order : p.byte_order ≤ 1
  pub valid : IsValidZone (zone_in p)

-- ---- answers

-- a layout as it is told
abbrev pub layout_answer : Params → List Zone → LayoutAnswer
layout_answer params zones = record { zones = length zones; word = 0; mem = params.mem; fault = 0 }

-- a fault by its number and its word
abbrev pub fault_answer : ℕ → ℕ → LayoutAnswer
fault_answer number word = record { zones = 0; word = word; mem = 0; fault = number }

-- a reading as it is told
abbrev pub zone_answer : ZoneReading → ZoneAnswer
zone_answer r = record {
  log = length r.log;
  state = state_number r.state;
  sig = r.words.sig;
  start = r.words.start;
  size = r.words.size;
  corrected = r.corrected;
  bad = r.bad;
}
