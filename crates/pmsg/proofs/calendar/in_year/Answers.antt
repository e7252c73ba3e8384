-- Each step takes a whole month off the days, and the month at which it stops, at the latest
-- December, has the day. For `in_year`.
use Rattle.std.proofs.Common.{◌≡◌, ℕ, ◌+◌, ◌-◌, ◌≤◌, ◌<◌, ap, sym, ◌∙◌, arith}
use Rattle.pmsg_spec.specs.Calendar.{month_len, in_year}
use Rattle.pmsg.proofs.Dates.{month_more, month_last, month_found}
use Rattle.pmsg.proofs.calendar.in_year.Goals as goal
use Rattle.pmsg.proofs.calendar.in_year.Goals.{then-months-test+else-month_len-days, else-months-test}

pub months-preserved : goal.months-preserved
months-preserved c =
    let year : ℕ = c.args.year in
    let month : ℕ = c.months.month in
    let days : ℕ = c.months.days in
    let same : c.month_len-days.result ≡ month_len year month = c.month_len-days.ensures.len in
    let long : month_len year month ≤ days = omega (arith, c.month_len.ensures.len, c.if-month_len-days.true) in
    record {
      month = omega (arith, c.months-test.true);
      days = omega (arith, c.months.invariant.days);
      date = c.months.invariant.date
          ∙ month_more (12 - month) (12 - (month + 1)) year month days (omega (arith, c.months-test.true)) long
          ∙ ap (λ n. in_year (12 - (month + 1)) year (month + 1) (days - n)) (sym same);
    }

pub returns : goal.returns
returns c =
    sym (c.months.invariant.date
    ∙ elim c.months-test.branch [
      | then-months-test+else-month_len-days w ↦ month_found (12 - c.months.month) c.args.year c.months.month
          c.months.days (omega (arith, w.month_len.ensures.len, w.if-month_len-days.false))
      | else-months-test w ↦ (let n : 12 - c.months.month ≡ 0 = omega (arith, w.months-test.false) in
          ap (λ k. in_year k c.args.year c.months.month c.months.days) n
          ∙ month_last c.args.year c.months.month c.months.days)
    ])
