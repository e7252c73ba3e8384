-- A layout's zones, and why there is none
use Rattle.std.specs.Prelude.{◌≡◌, ◌^◌, ◌<◌, List, Result, Ok, Err, IsOk}
use Rattle.zone_spec.specs.declared.Zone.{Zone}
use Rattle.zone_spec.specs.declared.params.Params.{Params}
use Rattle.zone_spec.specs.declared.params.LayoutFault.{LayoutFault}
use Rattle.zone_spec.specs.Layouts.{IsLayout}
use Rattle.zone_spec.specs.Layout.{layout_of}
use Rattle.ramoops_layout.specs.declared.faults.LayoutError.{LayoutError}
use Rattle.ramoops_layout.specs.declared.faults.LayoutError.TheVariants.{Fault, Memory}

-- a fault is the first one of the parameters; memory is wanted only where there is a layout
abbrev pub IsCause : Result (List Zone) LayoutFault → LayoutError → Type 0
IsCause laid (Fault fault) = laid ≡ Err fault
IsCause laid Memory = IsOk laid

abbrev pub LayoutsAreWhole : Type 0
LayoutsAreWhole = (p : Params) (zones : List Zone) → p.ftrace_sig < 2 ^ 32 → layout_of p ≡ Ok zones
    → IsLayout zones p.mem
