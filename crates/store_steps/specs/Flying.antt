-- What a contract sees of a flight
use Rattle.std.specs.Prelude.{◌≡◌, ℕ, List}
use Rattle.zone_spec.specs.declared.Zone.{Zone}
use Rattle.zone_spec.specs.declared.Words.{Words}
use Rattle.zone_spec.specs.Told.{Call}
use Rattle.zone_spec.specs.Stages.{Stage}
use Rattle.store_steps.specs.declared.place.Place.{Place}
use Rattle.store_steps.specs.declared.steps.Steps.{Steps}
use Rattle.store_steps.specs.Calls.{call_of, leg_bytes, later_stages}

-- a call on a zone whose words were these, the number of stores made, and where it is
pub record Flying : Type 0 where
  pub zone : Zone
  pub words : Words
  pub call : Call
  pub made : ℕ
  pub place : Place

-- the steps of a call with this line and payload
abbrev pub flying : Steps → List ℕ → List ℕ → Flying
flying s line payload = record {
  zone = s.zone;
  words = s.words;
  call = call_of s.kind line payload;
  made = s.made;
  place = s.place;
}

-- the same call on the same zone
pub record IsSameCall (f g : Flying) : Type 0 where
  pub zone : g.zone ≡ f.zone
  pub words : g.words ≡ f.words
  pub call : g.call ≡ f.call

-- the same flight at another place
abbrev pub at_place : Flying → Place → Flying
at_place f place = record f { place = place }

-- the bytes that the part of the call appends
abbrev pub payload : Flying → List ℕ
payload f = leg_bytes f.zone.cap f.call f.place.leg

-- the stages of the parts behind it
abbrev pub later : Flying → List Stage
later f = later_stages f.zone f.call f.place.leg
