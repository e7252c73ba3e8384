-- What a layout is seen as: the parameters that it was made from, and its zones
use Rattle.std.specs.Prelude.{◌≡◌, ℕ, List, slice_get, Some}
use Rattle.zone_spec.specs.declared.params.Params.{Params}
use Rattle.zone_spec.specs.declared.Zone.{Zone}
use Rattle.zone_spec.specs.Layouts.{zone_place}
use Rattle.ramoops_layout.specs.declared.types.Layout.{Layout}

abbrev pub params_of : Layout → Params
params_of l = l.params

abbrev pub zones_of : Layout → List Zone
zones_of l = l.zones.items

-- each zone is the one that its name names
abbrev pub NamesDiffer : List Zone → Type 0
NamesDiffer zones = (i : ℕ) (z : Zone) → slice_get zones i ≡ Some z → zone_place zones z.name ≡ Some i
