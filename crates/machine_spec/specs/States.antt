-- The machine's states: off, with what is known of each zone, and live
use Rattle.std.specs.Prelude.{ℕ, List, Option}
use Rattle.zone_spec.specs.Reading.{ZoneReading}
use Rattle.zone_spec.specs.Told.{Call}
use Rattle.zone_spec.specs.Cut.{Cut}

-- a call in flight: the zone's image at its begin, and how many stores were made
pub record Flight : Type 0 where
  pub image : List ℕ
  pub call : Call
  pub made : ℕ

-- a zone while the machine is off: its bytes at its stop, the list that it was told, and its cut
pub record OffZone : Type 0 where
  pub stop : List ℕ
  pub told : Option (List ℕ)
  pub cut : Option Cut

-- the image, and each zone in layout order
pub record OffState : Type 0 where
  pub image : List ℕ
  pub zones : List OffZone

-- a zone while the machine is live: its bytes, the list that it was told, which is that from before a
-- flight, and its flight
pub record LiveZone : Type 0 where
  pub image : List ℕ
  pub told : List ℕ
  pub flight : Option Flight

-- each zone in layout order, the bytes behind the last zone, the number of the dump zone that the next
-- dump goes to, and the logs that the last boot saved, None where one was forgotten
pub record LiveState : Type 0 where
  pub zones : List LiveZone
  pub rest : List ℕ
  pub cursor : ℕ
  pub logs : List (Option ZoneReading)

-- a state of the machine
pub data Session : Type 0 where
  Off : (state : OffState) → Session
  Live : (state : LiveState) → Session
