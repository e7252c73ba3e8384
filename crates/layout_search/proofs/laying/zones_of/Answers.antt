-- The zones of a layout are the candidate's. For `zones_of`.
use Rattle.std.proofs.Common.{◌≡◌, ◌∙◌, List, Ok, subst}
use Rattle.zone_spec.specs.declared.Zone.{Zone}
use Rattle.zone_spec.specs.declared.params.Params.{Params}
use Rattle.zone_spec.specs.Layouts.{IsLayout}
use Rattle.zone_spec.specs.Layout.{layout_of}
use Rattle.ramoops_layout.specs.Laid.{params_of as params_in}
use Rattle.ramoops_layout.proofs.WholeLayout.{layout_mem_small, layout_short}
use Rattle.layout_spec.specs.Laid.{params_of}
use Rattle.layout_search.proofs.LaidOut.{laid}
use Rattle.layout_search.proofs.laying.zones_of.Goals as goal

pub returns-in-Ok : goal.returns-in-Ok
returns-in-Ok c =
    let same : params_in c.in-Ok.layout ≡ params_of c.args.c.now = c.in-Ok.ensures.0 ∙ c.params.ensures in
    let zones : List Zone = c.into_zones.result.items in
    let e : layout_of (params_of c.args.c.now) ≡ Ok zones = subst (λ (p : Params). layout_of p ≡ Ok zones) same
    c.into_zones.ensures.layout in
    laid c.args.c.now zones e
    (subst (λ (p : Params). IsLayout zones p.mem) same c.into_zones.ensures.laid_out)
    (layout_mem_small (params_of c.args.c.now) zones e) (layout_short (params_of c.args.c.now) zones e)
