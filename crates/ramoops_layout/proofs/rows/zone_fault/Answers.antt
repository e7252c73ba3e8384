-- Without a fault of the parameters the zones' sizes are small, and the first fault of the rows is
-- that of all zones. For `zone_fault`.
use Rattle.std.proofs.Common.{◌∙◌, Bool, List, Some, None, if◌then◌else◌, ap, ◌&&◌, nat_lt}
use Rattle.std.specs.List.{list_any}
use Rattle.zone_spec.specs.declared.Zone.{Zone}
use Rattle.zone_spec.specs.declared.params.Row.{Row}
use Rattle.zone_spec.specs.declared.params.LayoutFault.TheVariants.{ZoneTooSmall, EccInvalid}
use Rattle.zone_spec.specs.Layout.{zone_at, zones_from, rows}
use Rattle.ramoops_layout.proofs.Faultless.{faultless, sizes_small, small_rows, tight_rows}
use Rattle.ramoops_layout.proofs.rows.zone_fault.Goals as goal

pub has_tight-requires-clause-sizes : goal.has_tight-requires-clause-sizes
has_tight-requires-clause-sizes c = rw c.requires.rows
    (sizes_small c.args.p.now (faultless c.args.p.now c.requires.faultless))

pub returns : goal.returns
returns c =
    let small = c.has_small.ensures ∙ ap (λ (rs : List Row). list_any
    (λ (row : Row). nat_lt 0 row.count && nat_lt row.size 256) rs) c.requires.rows ∙ small_rows c.args.p.now in
    let tight = c.has_tight.ensures ∙ ap (λ (rs : List Row). list_any
    (λ (row : Row). nat_lt 0 row.count && nat_lt (zone_at c.args.p.now row.kind row.size 0 0).cap 64) rs)
    c.requires.rows ∙ tight_rows c.args.p.now in
    c.first.ensures ∙ ap (λ (b : Bool). if b then Some ZoneTooSmall else
    (if c.has_tight.result then Some EccInvalid else None)) small
    ∙ ap (λ (b : Bool). if list_any (λ (z : Zone). nat_lt z.size 256) (zones_from c.args.p.now 0 (rows c.args.p.now))
    then Some ZoneTooSmall else (if b then Some EccInvalid else None)) tight
