-- Images that are read by a plan whose order of zones can be open: the kernel that the records name then tells it
use Rattle.std.specs.Prelude.{◌≡◌, ℕ, if◌then◌else◌, List, Option, Some, None, Ok}
use Rattle.zone_spec.specs.declared.Zone.{Zone}
use Rattle.zone_spec.specs.declared.params.Order.{Order}
use Rattle.zone_spec.specs.declared.params.Params.{Params}
use Rattle.zone_spec.specs.Layout.{layout_of}
use Rattle.region_report.specs.Reports.{ReportHeld, IsReport}
use Rattle.report_tool.specs.declared.plan.Plan.{Plan}
use Rattle.report_tool.specs.declared.reordered.Reordered.{Reordered}
use Rattle.report_tool.specs.Releases.{order_named}

-- the order that the records of a plan's report tell, if no word gives it
abbrev pub order_told : Plan → ReportHeld → Option Order
order_told plan report = if plan.is_open then order_named report.records else None

abbrev pub or_order : Option Order → Order → Order
or_order None order = order
or_order (Some told) order = told

-- parameters in this order of the zones, if there is one
abbrev pub in_order : Option Order → Params → Params
in_order told params = record params { order = or_order told params.order }

-- bytes read by a plan, in this order of its zones, if there is one
pub record IsReadIn (order : Option Order) (plan : Plan) (bytes : List ℕ) (params : Params) (zones : List Zone)
    (report : ReportHeld) : Type 0 where
  pub params_are : params ≡ in_order order plan.params
  pub zones_are : layout_of params ≡ Ok zones
  pub is_report : IsReport zones plan.symbols plan.entries bytes report

-- in the order that their report by the plan tells. Dumps and console lie in front in each order
pub record IsReadBy (plan : Plan) (bytes : List ℕ) (params : Params) (zones : List Zone) (report : ReportHeld)
    : Type 0 where
  pub first : ReportHeld
  pub is_first : IsReport plan.zones.items plan.symbols plan.entries bytes first
  pub read : IsReadIn (order_told plan first) plan bytes params zones report

-- the parameters and the zones by which an image was read: those of the plan, or those in another order
abbrev pub params_by : Plan → Option Reordered → Params
params_by plan None = plan.params
params_by plan (Some other) = other.params

abbrev pub zones_by : Plan → Option Reordered → List Zone
zones_by plan None = plan.zones.items
zones_by plan (Some other) = other.zones.items
