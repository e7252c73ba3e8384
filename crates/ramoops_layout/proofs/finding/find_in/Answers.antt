-- The zone is that of the first row with its name
use Rattle.std.proofs.Common.{◌≡◌, ◌+◌, ◌*◌, true, false, ℕ, drop, get_or, sym, ap, ◌∙◌, arith, nat_lt, Some}
use Rattle.std.proofs.lemmas.Bool.{ltb-true, and_parts}
use Rattle.zone_spec.specs.declared.Kind.TheVariants.{Dump}
use Rattle.zone_spec.specs.declared.params.Row.{Row}
use Rattle.zone_spec.specs.Layout.{zone_at}
use Rattle.zone_spec.specs.Records.{is_of}
use Rattle.ramoops_layout.specs.Rows.{all_taken}
use Rattle.ramoops_layout.proofs.LaidOut.{taken_step}
use Rattle.ramoops_layout.proofs.RowPlaces.{row_holds}
use Rattle.ramoops_layout.proofs.FoundRows.{row_next, row_has, none_left, in_row}
use Rattle.ramoops_layout.proofs.finding.find_in.Goals as goal

pub zone_at-requires-clause-at : goal.zone_at-requires-clause-at
zone_at-requires-clause-at c =
    let d : Row = record { kind = Dump; count = 0; size = 0 } in
    let row : Row = get_or c.args.rows.now c.loop-row.row-index d in
    let holds : row_holds c.args.name row ≡ true = sym c.holds.ensures ∙ c.if-holds.true in
    let parts = and_parts (is_of c.args.name.kind row.kind) (nat_lt c.args.name.index row.count) holds in
    in_row c.loop-row.at c.args.name.index c.from-index.result row.count row.size
    (all_taken (drop (c.loop-row.row-index + 1) c.args.rows.now)) (all_taken (drop c.loop-row.row-index c.args.rows.now))
    c.from-index.ensures
    (ltb-true _ _ parts.1) (taken_step c.args.rows.now c.loop-row.row-index d c.loop-row-test.true)
    c.loop-row.invariant.within

pub returns-then-holds : goal.returns-then-holds
returns-then-holds c =
    let d : Row = record { kind = Dump; count = 0; size = 0 } in
    let row : Row = get_or c.args.rows.now c.loop-row.row-index d in
    let holds : row_holds c.args.name row ≡ true = sym c.holds.ensures ∙ c.if-holds.true in
    ap Some (c.zone_at.ensures
    ∙ ap (λ (i : ℕ). zone_at c.args.p.now row.kind row.size i (c.loop-row.at + i * row.size)) c.from-index.ensures)
    ∙ sym (c.loop-row.invariant.zone
    ∙ row_has c.args.p.now c.loop-row.at c.args.name c.args.rows.now c.loop-row.row-index d c.loop-row-test.true holds)

pub loop-row-preserved : goal.loop-row-preserved
loop-row-preserved c =
    let d : Row = record { kind = Dump; count = 0; size = 0 } in
    let row : Row = get_or c.args.rows.now c.loop-row.row-index d in
    let other : row_holds c.args.name row ≡ false = sym c.holds.ensures ∙ c.if-holds.false in record {
      zone = c.loop-row.invariant.zone
          ∙ row_next c.args.p.now c.loop-row.at c.args.name c.args.rows.now c.loop-row.row-index d
          c.loop-row-test.true other;
      within = omega (
        arith,
        taken_step c.args.rows.now c.loop-row.row-index d c.loop-row-test.true,
        c.loop-row.invariant.within,
      );
    }

pub returns : goal.returns
returns c = sym (c.loop-row.invariant.zone
    ∙ none_left c.args.p.now c.loop-row.at c.args.name c.args.rows.now c.loop-row.row-index c.loop-row-test.false)
