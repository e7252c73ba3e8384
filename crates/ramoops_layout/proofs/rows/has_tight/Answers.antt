-- A row whose zone is too small decides, one that has room or no zone is passed. For `has_tight`.
use Rattle.std.proofs.Common.{◌∙◌, ◌&&◌, nat_lt, sym, ap}
use Rattle.std.proofs.lemmas.Bool.{and_from, and_left, and_right, lt-ltb, le-ltb}
use Rattle.zone_spec.specs.declared.Kind.TheVariants.{Dump}
use Rattle.zone_spec.specs.declared.Zone.{Zone}
use Rattle.zone_spec.specs.declared.params.Row.{Row}
use Rattle.zone_spec.specs.Layout.{zone_at}
use Rattle.ramoops_layout.proofs.LaidOut.{any_here, any_past}
use Rattle.ramoops_layout.proofs.rows.has_tight.Goals as goal
use Rattle.ramoops_layout.proofs.rows.has_tight.Goals.{else-row-gt0-via-then-row-gt0+else-zone_at-lt-LEAST_CAPACITY}
use Rattle.ramoops_layout.proofs.rows.has_tight.Goals.{else-row-gt0-via-else-row-gt0}

pub returns-then-zone_at-lt-LEAST_CAPACITY : goal.returns-then-zone_at-lt-LEAST_CAPACITY
returns-then-zone_at-lt-LEAST_CAPACITY c =
    any_here (λ (row : Row). nat_lt 0 row.count && nat_lt (zone_at c.args.p.now row.kind row.size 0 0).cap 64)
    c.args.rows.now c.loop-row.row-index (record { kind = Dump; count = 0; size = 0 }) c.loop-row-test.true
    (and_from _ _ (lt-ltb _ _ c.if-row-gt0.true) (ap (λ (z : Zone). nat_lt z.cap 64) (sym c.zone_at.ensures)
    ∙ lt-ltb _ _ c.if-zone_at-lt-LEAST_CAPACITY.true)) c.loop-row.invariant

pub loop-row-preserved : goal.loop-row-preserved
loop-row-preserved c =
    any_past (λ (row : Row). nat_lt 0 row.count && nat_lt (zone_at c.args.p.now row.kind row.size 0 0).cap 64)
    c.args.rows.now c.loop-row.row-index (record { kind = Dump; count = 0; size = 0 }) c.loop-row-test.true
    (elim c.else-row-gt0.branch [
      | else-row-gt0-via-then-row-gt0+else-zone_at-lt-LEAST_CAPACITY w ↦
          and_right _ _ (ap (λ (z : Zone). nat_lt z.cap 64) (sym w.zone_at.ensures)
          ∙ le-ltb _ _ w.if-zone_at-lt-LEAST_CAPACITY.false)
      | else-row-gt0-via-else-row-gt0 w ↦ and_left _ _ (le-ltb _ _ w.if-row-gt0.false)
    ]) c.loop-row.invariant
