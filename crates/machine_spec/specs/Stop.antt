-- A stop: the machine is off, this moment is the stop of every zone, and each flight becomes a cut
use Rattle.std.specs.Prelude.{ℕ, List, ◌++◌, map, flat_map, zip, Some}
use Rattle.std.specs.Option.{option_map}
use Rattle.zone_spec.specs.declared.Zone.{Zone}
use Rattle.zone_spec.specs.Parts.{Header, part_word}
use Rattle.zone_spec.specs.Cut.{Cut, ByCall}
use Rattle.machine_spec.specs.States.{Flight, OffZone, OffState, LiveZone, LiveState, Session, Off, Live}

-- a flight as a cut, also where no store was made
abbrev pub cut_of : Zone → Flight → Cut
cut_of z f = record { by = ByCall f.call; header = part_word z f.image Header; made = f.made }

-- a zone after the stop
abbrev pub zone_stopped : Zone × LiveZone → OffZone
zone_stopped (z, live) = record { stop = live.image; told = Some live.told; cut = option_map (cut_of z) live.flight }

-- the zones' bytes end to end, and the bytes behind them
abbrev pub live_image : LiveState → List ℕ
live_image live = flat_map (λ (zone : LiveZone). zone.image) live.zones ++ live.rest

-- the machine after the stop
abbrev pub stopped : List Zone → LiveState → OffState
stopped layout live = record { image = live_image live; zones = map zone_stopped (zip layout live.zones) }

-- the image of a state
abbrev pub session_image : Session → List ℕ
session_image (Off off) = off.image
session_image (Live live) = live_image live
