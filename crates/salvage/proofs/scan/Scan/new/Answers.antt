-- The layout's zones are valid, so they have shapes, and all rings are left. For `Scan::new`.
use Rattle.std.proofs.Common.{List, ap, ◌∙◌}
use Rattle.ramoops_layout.specs.Laid.{zones_of}
use Rattle.zone_spec.specs.declared.Zone.{Zone}
use Rattle.salvage_spec.specs.declared.FoundRing.{FoundRing}
use Rattle.salvage_spec.specs.Rings.{shapes}
use Rattle.salvage.specs.Scans.{Scanned, rings_from}
use Rattle.salvage.proofs.ScanRest.{all_rings}
use Rattle.salvage.proofs.scan.Scan.new.Goals as goal

pub shapes_of-requires : goal.shapes_of-requires
shapes_of-requires c = λ i z h. (c.zones.ensures.laid_out.valid i z h).0

pub returns : goal.returns
returns c =
    ap (λ (r : List FoundRing). let v : Scanned = record {
      image = c.args.image;
      zones = zones_of c.args.layout;
      rest = r;
    } in v)
    (ap (λ (k : List Zone). rings_from c.args.image k 0 0) (c.in_ok-shapes.ensures ∙ ap shapes c.zones.ensures.value)
    ∙ all_rings c.args.image (zones_of c.args.layout))
