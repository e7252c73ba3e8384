-- Calls of one zone: begun, and their stores made
use Rattle.std.specs.Prelude.{ℕ, ◌+◌, ◌-◌, if◌then◌else◌, nat_lt, ◌==◌, length, Option, Some, None}
use Rattle.zone_spec.specs.declared.Zone.{Zone}
use Rattle.zone_spec.specs.Told.{Call, told_after}
use Rattle.zone_spec.specs.Calls.{call_stores, image_after}
use Rattle.machine_spec.specs.States.{Flight, LiveZone}

-- a call begun; an append of no bytes is finished at once
abbrev pub begun : Zone → Call → LiveZone → LiveZone
begun z call live =
    if length (call_stores z call live.image) == 0 then live
    else record live { flight = Some (record { image = live.image; call = call; made = 0 }) }

-- the stores of a flight's call
abbrev pub total_stores : Zone → Flight → ℕ
total_stores z f = length (call_stores z f.call f.image)

-- the next k stores of a zone's flight, or all that are left; with the last one the flight is gone and
-- the told list is the new one
abbrev pub stepped_by : Option Flight → Zone → ℕ → LiveZone → LiveZone
stepped_by None z k live = live
stepped_by (Some f) z k live =
    if nat_lt (f.made + k) (total_stores z f)
    then record live {
      image = image_after z f.call f.image (f.made + k);
      flight = Some (record f { made = f.made + k });
    }
    else record {
      image = image_after z f.call f.image (total_stores z f);
      told = told_after z.cap f.call live.told;
      flight = None;
    }

-- the same of a zone by its own flight
abbrev pub stepped : Zone → ℕ → LiveZone → LiveZone
stepped z k live = stepped_by live.flight z k live

-- how many stores are left of a flight
abbrev pub stores_left : Option Flight → Zone → ℕ
stores_left None z = 0
stores_left (Some f) z = total_stores z f - f.made

-- a zone with all stores of its flight made
abbrev pub finished : Zone → LiveZone → LiveZone
finished z live = stepped z (stores_left live.flight z) live
