-- A row that has the name gives the place, and any other adds its count. For `place`.
use Rattle.std.proofs.Common.{◌≡◌, ◌+◌, ◌&&◌, true, get_or, sym, ◌∙◌, arith}
use Rattle.zone_spec.specs.declared.Kind.TheVariants.{Dump}
use Rattle.zone_spec.specs.declared.params.Row.{Row}
use Rattle.std.proofs.lemmas.Bool.{ltb-true}
use Rattle.std.proofs.lemmas.Bool.{and_parts}
use Rattle.zone_spec.specs.Records.{is_of}
use Rattle.std.specs.Prelude.{nat_lt, Some}
use Rattle.std.proofs.Common.{ap}
use Rattle.ramoops_layout.proofs.RowPlaces.{row_next, counts_next, place_found, place_nowhere}
use Rattle.ramoops_layout.proofs.rows.place.Goals as goal

pub overflow_cast-result : goal.overflow_cast-result
overflow_cast-result c =
    let d : Row = record { kind = Dump; count = 0; size = 0 } in
    let row : Row = get_or c.args.rows.now c.loop-row.row-index d in
    let holds : (is_of c.args.name.kind row.kind && nat_lt c.args.name.index row.count) ≡ true =
    sym c.holds.ensures ∙ c.if-holds.true in
    let parts = and_parts (is_of c.args.name.kind row.kind) (nat_lt c.args.name.index row.count) holds in
    omega (
      arith,
      c.from.ensures,
      c.requires,
      ltb-true _ _ parts.1,
      counts_next c.args.rows.now c.loop-row.row-index d c.loop-row-test.true,
      c.loop-row.invariant.counts,
    )

pub returns-then-holds : goal.returns-then-holds
returns-then-holds c =
    let d : Row = record { kind = Dump; count = 0; size = 0 } in
    let row : Row = get_or c.args.rows.now c.loop-row.row-index d in
    let holds : (is_of c.args.name.kind row.kind && nat_lt c.args.name.index row.count) ≡ true = sym c.holds.ensures
    ∙ c.if-holds.true in
    let parts = and_parts (is_of c.args.name.kind row.kind) (nat_lt c.args.name.index row.count) holds in
    λ p at. ap (λ n. Some (c.loop-row.first + n)) c.from.ensures
    ∙ place_found p at c.args.name c.args.rows.now c.loop-row.row-index c.loop-row.first d c.loop-row-test.true holds
    (ltb-true _ _ parts.1) c.loop-row.invariant.place c.loop-row.invariant.counts

pub loop-row-preserved : goal.loop-row-preserved
loop-row-preserved c =
    let d : Row = record { kind = Dump; count = 0; size = 0 } in
    let next = counts_next c.args.rows.now c.loop-row.row-index d c.loop-row-test.true in record {
      place = row_next c.args.name c.args.rows.now c.loop-row.row-index c.loop-row.first d c.loop-row-test.true
          (sym c.holds.ensures ∙ c.if-holds.false) c.loop-row.invariant.place;
      counts = omega (arith, next, c.loop-row.invariant.counts);
    }

pub returns : goal.returns
returns c = λ p at. place_nowhere p at c.args.name c.args.rows.now c.loop-row.row-index c.loop-row.first
    c.loop-row-test.false c.loop-row.invariant.place c.loop-row.invariant.counts
