-- The zones of the rows, one row after another
use Rattle.std.proofs.Common.{◌∙◌, ◌++◌, List, sym, ap, arith}
use Rattle.std.proofs.lemmas.List.{append-nil}
use Rattle.zone_spec.specs.declared.Kind.TheVariants.{Dump}
use Rattle.zone_spec.specs.declared.Zone.{Zone}
use Rattle.zone_spec.specs.Layout.{zones_from}
use Rattle.ramoops_layout.proofs.LaidOut.{rows_next, taken_step, rows_end}
use Rattle.ramoops_layout.proofs.laying.list_zones.Goals as goal

pub loop-row-init : goal.loop-row-init
loop-row-init c = record {
  zones = ap (λ (xs : List Zone). xs ++ zones_from c.args.p.now 0 c.args.rows.now) c.new-zones.ensures.items;
  within = omega (arith, c.requires.rows.total);
}

pub add_row-requires-clause-size : goal.add_row-requires-clause-size
add_row-requires-clause-size c = c.requires.rows.sizes c.loop-row.row-index _ c.loop-row-test.true

pub add_row-requires-clause-count : goal.add_row-requires-clause-count
add_row-requires-clause-count c = c.requires.rows.counts c.loop-row.row-index _ c.loop-row-test.true

pub loop-row-preserved : goal.loop-row-preserved
loop-row-preserved c = record {
  zones = rows_next c.args.p.now c.loop-row.at c.args.rows.now c.loop-row.row-index
      (record { kind = Dump; count = 0; size = 0 }) c.loop-row.zones.items c.add_row.new.zones.items
      (zones_from c.args.p.now 0 c.args.rows.now) c.loop-row-test.true c.in_ok-add_row.ensures
      c.loop-row.invariant.zones;
  within = omega (
    arith,
    taken_step c.args.rows.now c.loop-row.row-index (record { kind = Dump; count = 0; size = 0 })
        c.loop-row-test.true,
    c.loop-row.invariant.within,
  );
}

pub returns : goal.returns
returns c =
    sym (append-nil c.loop-row.zones.items) ∙ sym (ap (λ (xs : List Zone). c.loop-row.zones.items ++ xs)
    (rows_end c.args.p.now c.loop-row.at c.args.rows.now c.loop-row.row-index c.loop-row-test.false))
    ∙ c.loop-row.invariant.zones
