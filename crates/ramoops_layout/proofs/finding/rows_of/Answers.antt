-- There is a layout, or its first fault
use Rattle.std.proofs.Common.{◌∙◌, List, sym, ap, Ok}
use Rattle.zone_spec.specs.declared.params.Row.{Row}
use Rattle.zone_spec.specs.Layout.{zones_from}
use Rattle.ramoops_layout.proofs.LaidOut.{refused, refused_zones, laid_out}
use Rattle.ramoops_layout.proofs.finding.rows_of.Goals as goal

pub returns-in-Some : goal.returns-in-Some
returns-in-Some c = refused c.args.p.now c.in-Some.fault c.parameter_fault.result c.parameter_fault.ensures c.in-Some.is

pub returns-in-Some-zone_fault : goal.returns-in-Some-zone_fault
returns-in-Some-zone_fault c = refused_zones c.args.p.now c.in-Some-zone_fault.fault c.parameter_fault.result
    c.zone_fault.result c.parameter_fault.ensures c.in_default.is c.zone_fault.ensures c.in-Some-zone_fault.is

pub returns-in-None : goal.returns-in-None
returns-in-None c = record {
  are = c.rows-rows.ensures;
  laid = laid_out c.args.p.now c.parameter_fault.result c.zone_fault.result c.parameter_fault.ensures c.in_default.is
      c.zone_fault.ensures c.in-None.is
      ∙ sym (ap (λ (rows : List Row). Ok (zones_from c.args.p.now 0 rows)) c.rows-rows.ensures);
}
