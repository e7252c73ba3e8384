-- The rows are those of a layout
use Rattle.std.proofs.Common.{◌^◌, ◌<◌, ◌∙◌, List, refl, sym, subst, arith}
use Rattle.std.specs.List.{sum_by}
use Rattle.zone_spec.specs.declared.params.Row.{Row}
use Rattle.zone_spec.specs.Layout.{zones_from}
use Rattle.ramoops_layout.specs.Rows.{AreSmall}
use Rattle.ramoops_layout.proofs.Faultless.{faultless}
use Rattle.ramoops_layout.proofs.LaidOut.{rows_small}
use Rattle.ramoops_layout.proofs.WholeLayout.{no_fault, length_zones, layout_mem_small}
use Rattle.ramoops_layout.proofs.RowPlaces.{rows_few, count_sum}
use Rattle.ramoops_layout.proofs.finding.find.Goals as goal

pub find_in-requires-clause-faultless : goal.find_in-requires-clause-faultless
find_in-requires-clause-faultless c =
    (no_fault c.args.p.now (zones_from c.args.p.now 0 c.in-Ok.rows) c.in-Ok.ensures.laid).of_parameters

pub find_in-requires-clause-rows : goal.find_in-requires-clause-rows
find_in-requires-clause-rows c = subst AreSmall (sym c.in-Ok.ensures.are) (rows_small c.args.p.now
    (faultless c.args.p.now
    (no_fault c.args.p.now (zones_from c.args.p.now 0 c.in-Ok.rows) c.in-Ok.ensures.laid).of_parameters))

pub count_in-requires : goal.count_in-requires
count_in-requires c = subst (λ (rows : List Row). sum_by (λ (row : Row). row.count) rows < 2 ^ 32)
    (sym c.in-Ok.ensures.are)
    (rows_few c.args.p.now (zones_from c.args.p.now 0 c.in-Ok.rows) c.in-Ok.ensures.laid)

pub overflow_cast-result : goal.overflow_cast-result
overflow_cast-result c = omega (
  arith,
  layout_mem_small c.args.p.now (zones_from c.args.p.now 0 c.in-Ok.rows) c.in-Ok.ensures.laid,
)

pub returns : goal.returns
returns c = record {
  all = zones_from c.args.p.now 0 c.in-Ok.rows;
  laid = c.in-Ok.ensures.laid;
  zone = c.find_in.ensures;
  zones = c.count_in.ensures
      ∙ sym (length_zones c.args.p.now 0 c.in-Ok.rows ∙ count_sum c.in-Ok.rows);
  mem = refl;
}
