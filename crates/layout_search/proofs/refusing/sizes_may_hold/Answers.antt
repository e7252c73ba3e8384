-- A candidate whose sizes can be said another way, are larger than the file, have no room or make too many faults is
-- settled. Any other has its sizes placed. For `sizes_may_hold`.
use Rattle.std.proofs.Common.{◌∙◌, ◌<◌, ◌≤◌, ◌∷◌, List, length, sym, subst, arith}
use Rattle.std.specs.Prelude.{sum_by}
use Rattle.zone_spec.specs.declared.params.Params.{Params}
use Rattle.zone_spec.specs.declared.params.Row.{Row}
use Rattle.zone_spec.specs.Layout.{zones_from}
use Rattle.layout_spec.specs.Order.{faults}
use Rattle.layout_search.specs.Rows.{dump_row_of}
use Rattle.layout_search.proofs.BestSoFar.{not_told, not_within, without_room, bad_begin, above}
use Rattle.layout_search.proofs.refusing.sizes_may_hold.Goals as goal

pub returns-then-not-is_told-clause-refused : goal.returns-then-not-is_told-clause-refused
returns-then-not-is_told-clause-refused c = λ e s. not_told c.args.known.now c.args.image.now c.args.aim.now
    c.args.c.now s (sym c.is_told.ensures ∙ c.if-not-is_told.true)

pub returns-then-c-image-clause-refused : goal.returns-then-c-image-clause-refused
returns-then-c-image-clause-refused c = λ e s. not_within c.args.known.now c.args.image.now c.args.aim.now
    c.args.c.now s (above c.args.c.now.mem (length c.args.image.now) (omega arith))

pub returns-then-not-has_room-clause-refused : goal.returns-then-not-has_room-clause-refused
returns-then-not-has_room-clause-refused c = λ e s. without_room c.args.known.now c.args.image.now c.args.aim.now
    c.args.c.now s (c.has_room.ensures.refused c.if-not-has_room.true)

pub returns-clause-placed : goal.returns-clause-placed
returns-clause-placed c = λ e. record {
  told = sym c.is_told.ensures ∙ c.if-not-is_told.false;
  within = omega arith;
  roomy = c.has_room.ensures.roomy c.if-not-has_room.false;
}

pub returns-clause-refused : goal.returns-clause-refused
returns-clause-refused c = λ e s.
    let image = c.args.image.now in
    let limit = c.args.aim.now.limit in
    bad_begin c.args.known.now image c.args.aim.now c.args.c.now s
    (subst (λ (row : Row). (p : Params) (rest : List Row) → sum_by (λ (row : Row). row.count) rest ≤ 65
    → limit < faults image (zones_from p 0 (dump_row_of c.args.c.now ∷ row ∷ rest))) c.console_row-console.ensures.value
    (subst (λ (row : Row). (p : Params) (rest : List Row) → sum_by (λ (row : Row). row.count) rest ≤ 65
    → limit < faults image (zones_from p 0 (row ∷ c.console_row-console.result ∷ rest))) c.dump_row-dumps.ensures.value
    (c.may_begin.ensures e)))
