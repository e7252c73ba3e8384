-- The layout, or its first fault
use Rattle.std.proofs.Common.{◌∙◌, List, Ok, sym, ap, subst}
use Rattle.zone_spec.specs.declared.Zone.{Zone}
use Rattle.zone_spec.specs.declared.params.Row.{Row}
use Rattle.zone_spec.specs.Layout.{zones_from}
use Rattle.ramoops_layout.specs.Rows.{AreSmall}
use Rattle.ramoops_layout.proofs.Faultless.{faultless}
use Rattle.ramoops_layout.proofs.LaidOut.{refused, refused_zones, laid_out, ok_is, rows_small}
use Rattle.ramoops_layout.proofs.laying.layout.Goals as goal

pub returns-in-Some : goal.returns-in-Some
returns-in-Some c = refused c.args.p.now c.in-Some.fault c.parameter_fault.result c.parameter_fault.ensures c.in-Some.is

pub returns-in-Some-zone_fault : goal.returns-in-Some-zone_fault
returns-in-Some-zone_fault c = refused_zones c.args.p.now c.in-Some-zone_fault.fault c.parameter_fault.result
    c.zone_fault.result c.parameter_fault.ensures c.in_default.is c.zone_fault.ensures c.in-Some-zone_fault.is

pub list_zones-requires-clause-rows : goal.list_zones-requires-clause-rows
list_zones-requires-clause-rows c = subst AreSmall (sym c.rows-rows.ensures)
    (rows_small c.args.p.now (faultless c.args.p.now (sym c.parameter_fault.ensures ∙ c.in_default.is)))

pub new-requires : goal.new-requires
new-requires c = laid_out c.args.p.now c.parameter_fault.result c.zone_fault.result c.parameter_fault.ensures
    c.in_default.is c.zone_fault.ensures c.in_default-zone_fault.is
    ∙ sym (ap (λ (zs : List Zone). Ok zs) (c.in-Ok.ensures
    ∙ ap (λ (rows : List Row). zones_from c.args.p.now 0 rows) c.rows-rows.ensures))

pub returns-in-Err : goal.returns-in-Err
returns-in-Err c = ok_is _ _ (laid_out c.args.p.now c.parameter_fault.result c.zone_fault.result
    c.parameter_fault.ensures c.in_default.is c.zone_fault.ensures c.in_default-zone_fault.is)
