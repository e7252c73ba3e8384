-- The zones are those of the storage.
use Rattle.std.proofs.Common.{◌∙◌, List, [], ℕ, subst}
use Rattle.std.specs.Prelude.{IfOk}
use Rattle.std.specs.Global.{Vec}
use Rattle.zone_spec.specs.declared.Zone.{Zone}
use Rattle.report_spec.specs.declared.Division.TheVariants.{Storage as OfSizes}
use Rattle.report_tool.specs.Shown.{ShowsZones}
use Rattle.storage_report.proofs.showing.shown.Goals as goal

pub returns : goal.returns
returns c =
    subst (λ (zones : List Zone). IfOk c.shown_zones.result (λ (text : Vec ℕ). ShowsZones c.args.format c.args.path.now
    (OfSizes c.args.held.now.storage.sizes) zones c.args.lines [] c.args.read.now.report text.items))
    (c.deref.ensures.value ∙ c.requires.same) c.shown_zones.ensures
