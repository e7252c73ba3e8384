-- A candidate's zones are those of its layout
use Rattle.std.proofs.Common.{◌≡◌, ◌^◌, ◌≤◌, ◌<◌, false, List, length, Option, Some, None, Ok, Err, ap}
use Rattle.std.specs.Prelude.{is_ok}
use Rattle.zone_spec.specs.declared.Zone.{Zone}
use Rattle.zone_spec.specs.declared.params.LayoutFault.{LayoutFault}
use Rattle.zone_spec.specs.Layout.{ok_unless, layout_of}
use Rattle.zone_spec.specs.Layouts.{IsLayout}
use Rattle.layout_spec.specs.declared.Candidate.{Candidate}
use Rattle.layout_spec.specs.Laid.{params_of, zones_of, has_layout}
use Rattle.layout_search.specs.Laid.{IsLaid}

of_faultless : (f : Option LayoutFault) (zones found : List Zone) → ok_unless f zones ≡ Ok found → found ≡ zones
of_faultless None zones found e = cc
of_faultless (Some fault) zones found e = cc

pub found_zones : (c : Candidate) (found : List Zone) → layout_of (params_of c) ≡ Ok found → found ≡ zones_of c
unfolding layout_of
found_zones c found e = of_faultless _ (zones_of c) found e

pub laid : (c : Candidate) (found : List Zone) → layout_of (params_of c) ≡ Ok found
    → IsLayout found c.mem → c.mem ≤ 2 ^ 24 → length found < 2 ^ 32 → IsLaid c found
unfolding layout_of
laid c found e whole memory few = record {
  has = ap is_ok e;
  zones_are = of_faultless _ (zones_of c) found e;
  whole = whole;
  memory = memory;
  few = few;
}

pub faulty : (c : Candidate) (fault : LayoutFault) → layout_of (params_of c) ≡ Err fault → has_layout c ≡ false
faulty c fault e = ap is_ok e
