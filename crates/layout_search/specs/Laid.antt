-- A candidate that is laid out
use Rattle.std.specs.Prelude.{◌≡◌, ◌^◌, ◌≤◌, ◌<◌, true, List, length}
use Rattle.zone_spec.specs.declared.Zone.{Zone}
use Rattle.zone_spec.specs.Layouts.{IsLayout}
use Rattle.layout_spec.specs.declared.Candidate.{Candidate}
use Rattle.layout_spec.specs.Laid.{zones_of, has_layout}

-- its zones, which lie one behind another within its memory
pub record IsLaid (c : Candidate) (zones : List Zone) : Type 0 where
  pub has : has_layout c ≡ true
  pub zones_are : zones ≡ zones_of c
  pub whole : IsLayout zones c.mem
  pub memory : c.mem ≤ 2 ^ 24
  pub few : length zones < 2 ^ 32
