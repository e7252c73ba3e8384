-- If the first dump zone does not fit, and the marks are so many more than the zones, there are
-- more faults than the limit, whatever the tag. For `first_misses`.
use Rattle.std.proofs.Common.{◌≡◌, ◌+◌, ◌*◌, ◌-◌, ◌<◌, ◌≤◌, true, false, refl, ap, subst, arith}
use Rattle.std.specs.Prelude.{ℕ, Bool, not}
use Rattle.zone_spec.specs.declared.Kind.TheVariants.{Dump}
use Rattle.zone_spec.specs.declared.params.Row.{Row}
use Rattle.zone_spec.specs.Layout.{zone_at}
use Rattle.layout_spec.specs.declared.Candidate.{Candidate}
use Rattle.layout_spec.specs.Laid.{params_of, zones_of}
use Rattle.layout_spec.specs.Marks.{fits, marks}
use Rattle.layout_spec.specs.Order.{faults}
use Rattle.layout_search.specs.Rows.{dump_row_of, console_row_of, ftrace_row_of, pmsg_row_of}
use Rattle.layout_search.proofs.Bounds.{first_ordered}
use Rattle.layout_search.proofs.refusing.first_misses.Goals as goal

not_true : (b : Bool) → not b ≡ true → b ≡ false
not_true true e = cc
not_true false e = refl

count_up : (limit m n a b c d a' b' c' d' faults : ℕ) → m ≡ n → a ≡ a' → b ≡ b' → c ≡ c' → d ≡ d'
    → limit ≤ m - (a + (b + c + d)) → 1 + (n - (a' + b' + c' + d')) ≤ faults → limit < faults
count_up limit m n a b c d a' b' c' d' faults e p q r s h k = omega (arith, e, p, q, r, s, h, k)

pub returns-clause-faults : goal.returns-clause-faults
returns-clause-faults c = λ e t.
    let image = c.args.image.now in
    let k : Candidate = c.args.c.now in
    let tagged : Candidate = record k { tag = t } in
    let dumps = ap (λ (row : Row). row.count) c.dump_row-dumps.ensures.value in
    let console = ap (λ (row : Row). row.count) c.console_row.ensures.value in
    let ftrace = ap (λ (row : Row). row.count) c.ftrace_row.ensures.value in
    let pmsg = ap (λ (row : Row). row.count) c.pmsg_row.ensures.value in
    let first : fits image (zone_at (params_of k) Dump (dump_row_of k).size 0 (0 + 0 * (dump_row_of k).size)) ≡ false =
    subst (λ (row : Row). fits image (zone_at (params_of k) Dump row.size 0 (0 + 0 * row.size)) ≡ false)
    c.dump_row-dumps.ensures.value (c.in_ok-fits.ensures.fits (not_true c.in_ok-fits.fits e)) in
    let some : 0 < (dump_row_of k).count = omega (arith, dumps, c.if-dumps-eq0.false) in
    let all : 1 + (marks image - ((dump_row_of k).count + (console_row_of k).count + (ftrace_row_of k).count
    + (pmsg_row_of k).count)) ≤ faults image (zones_of tagged) =
    first_ordered image (params_of tagged) k.order (dump_row_of k) (console_row_of k) (ftrace_row_of k) (pmsg_row_of k) some
    first in
    let enough : c.args.aim.now.limit ≤ c.args.aim.now.marks - (c.dump_row-dumps.result.count
    + (c.console_row.result.count + c.ftrace_row.result.count + c.pmsg_row.result.count)) = omega arith in
    count_up c.args.aim.now.limit c.args.aim.now.marks (marks image) c.dump_row-dumps.result.count
    c.console_row.result.count c.ftrace_row.result.count c.pmsg_row.result.count (dump_row_of k).count
    (console_row_of k).count (ftrace_row_of k).count (pmsg_row_of k).count (faults image (zones_of tagged))
    c.requires.aim.marks_are dumps console ftrace pmsg enough all
