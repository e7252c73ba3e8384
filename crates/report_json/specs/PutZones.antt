-- The zones of a line
use Rattle.std.specs.Prelude.{◌≡◌, ℕ, List, Option}
use Rattle.json.specs.Token.{Token}
use Rattle.serde_json.specs.Data.{Data}
use Rattle.zone_spec.specs.declared.Zone.{Zone}
use Rattle.zone_spec.specs.Reading.{ZoneReading}
use Rattle.zone_spec.specs.PartStates.{PartStates}
use Rattle.report_json.specs.Schema.{IsZoneAt, AreZones}
use Rattle.report_json.specs.Tokens.{onto, all_onto}

-- the value of the zone at a place is put onto the tokens
pub record PutsZone (zones : List Zone) (readings : List (Option ZoneReading)) (parts : List PartStates) (i : ℕ)
    (old new : List Token) : Type 0 where
  pub value : Data
  pub is : IsZoneAt zones readings parts i value
  pub put : new ≡ onto value old

-- the values of the first n zones are put onto the tokens
pub record PutsZones (zones : List Zone) (readings : List (Option ZoneReading)) (parts : List PartStates) (n : ℕ)
    (old new : List Token) : Type 0 where
  pub values : List Data
  pub are : AreZones zones readings parts n values
  pub put : new ≡ all_onto values old
