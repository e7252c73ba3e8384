-- Each step takes a whole year off the days, and the year at which it stops has the day. For
-- `date_of`.
use Rattle.std.proofs.Common.{◌≡◌, ℕ, ◌+◌, ◌-◌, ◌≤◌, ◌<◌, ap, sym, ◌∙◌, arith}
use Rattle.pmsg_spec.specs.Calendar.{year_len, in_years}
use Rattle.pmsg.proofs.Dates.{year_more, year_found}
use Rattle.pmsg.proofs.calendar.date_of.Goals as goal

pub years-preserved : goal.years-preserved
years-preserved c =
    let days : ℕ = c.args.days in
    let year : ℕ = c.years.year in
    let left : ℕ = c.years.left in
    let same : c.year_len-left.result ≡ year_len year = c.year_len-left.ensures.len in
    let least : 365 ≤ year_len year = omega (arith, same, c.year_len-left.ensures.least) in
    let long : year_len year ≤ left = omega (arith, c.year_len.ensures.len, c.years-test.true) in
    record {
      from = omega (arith, c.years.invariant.from);
      left = omega (arith, c.years.invariant.left, c.years.invariant.from, same, least, long);
      date = c.years.invariant.date
          ∙ year_more (days - (year - 1970)) (days - (year + 1 - 1970)) year left
          (omega (arith, c.years.invariant.left, c.years.invariant.from, least, long)) long
          ∙ ap (λ n. in_years (days - (year + 1 - 1970)) (year + 1) (left - n)) (sym same);
    }

pub returns : goal.returns
returns c =
    c.in_year.ensures
    ∙ sym (c.years.invariant.date
    ∙ year_found (c.args.days - (c.years.year - 1970)) c.years.year c.years.left
    (omega (arith, c.year_len.ensures.len, c.years-test.false)))
