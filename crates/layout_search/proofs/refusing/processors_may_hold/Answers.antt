-- With no processors or more than 64, or with rows that make too many faults, each parity is
-- settled. For `processors_may_hold`.
use Rattle.std.proofs.Common.{◌∙◌, ◌<◌, [], ◌∷◌, sym, subst}
use Rattle.zone_spec.specs.declared.params.Params.{Params}
use Rattle.zone_spec.specs.declared.params.Row.{Row}
use Rattle.zone_spec.specs.Layout.{zones_from}
use Rattle.layout_spec.specs.Order.{faults}
use Rattle.layout_search.specs.Rows.{dump_row_of, console_row_of}
use Rattle.layout_search.proofs.BestSoFar.{bad_cpus, bad_rows, good_cpus}
use Rattle.layout_search.proofs.refusing.processors_may_hold.Goals as goal

pub returns-then-is_bad-clause-refused : goal.returns-then-is_bad-clause-refused
returns-then-is_bad-clause-refused c = λ e known s. bad_cpus known c.args.image.now c.args.aim.now c.args.c.now s
    (sym c.is_bad.ensures ∙ c.if-is_bad.true)

pub returns-clause-some : goal.returns-clause-some
returns-clause-some c = λ e. (good_cpus c.args.c.now.cpus (sym c.is_bad.ensures ∙ c.if-is_bad.false)).0

pub returns-clause-few : goal.returns-clause-few
returns-clause-few c = λ e. (good_cpus c.args.c.now.cpus (sym c.is_bad.ensures ∙ c.if-is_bad.false)).1

pub returns-clause-refused : goal.returns-clause-refused
returns-clause-refused c = λ e known s.
    let image = c.args.image.now in
    let limit = c.args.aim.now.limit in
    bad_rows known image c.args.aim.now c.args.c.now s
    (subst (λ rows. (p : Params) → limit < faults image (zones_from p 0 (dump_row_of c.args.c.now
    ∷ console_row_of c.args.c.now ∷ rows))) c.last_rows.ensures.value
    (subst (λ (row : Row). (p : Params) → limit < faults image (zones_from p 0 (dump_row_of c.args.c.now
    ∷ row ∷ c.last_rows.result.0 ∷ c.last_rows.result.1 ∷ []))) c.console_row-console.ensures.value
    (subst (λ (row : Row). (p : Params) → limit < faults image (zones_from p 0 (row
    ∷ c.console_row-console.result ∷ c.last_rows.result.0 ∷ c.last_rows.result.1 ∷ [])))
    c.dump_row-dumps.ensures.value (c.may_fit.ensures e))))
