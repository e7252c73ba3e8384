-- What a stop makes of what is kept of a zone
use Rattle.std.specs.Prelude.{◌≡◌, ◌≤◌, List, [], length, Some}
use Rattle.std.specs.Global.{Vec}
use Rattle.std.specs.Vec.{vec_capacity}
use Rattle.zone_spec.specs.declared.Zone.{Zone}
use Rattle.std.specs.Option.{option_map}
use Rattle.ramoops.specs.declared.zones.HeldZone.{HeldZone}
use Rattle.ramoops.specs.declared.known.KnownZone.{KnownZone}
use Rattle.ramoops.specs.SeenCut.{cut_of_flight}

-- its told list is known, and its flight is a cut
abbrev pub stop_zone : HeldZone → KnownZone
stop_zone held = record { told = Some held.told; cut = option_map cut_of_flight held.flight }

-- nothing is told of the zones yet, and there is room for all of them
pub record HasRoom (layout : List Zone) (stopped : Vec KnownZone) : Type 0 where
  pub none : stopped.items ≡ []
  pub room : length layout ≤ vec_capacity stopped
