-- The days left, counted from this month on, give the same date. For the loop of `in_year`.
use Rattle.std.proofs.Common.{◌≡◌, ◌<◌, ◌≤◌, ◌-◌, ◌+◌}
use Rattle.pmsg_spec.specs.Calendar.{in_year}
use Rattle.pmsg.proofs.calendar.in_year.Given as goal

abbrev pub invariant-months : goal.invariant-months
invariant-months l = record {
  month : l.month ≤ 12;
  days : l.days < 366;
  date : in_year 11 l.year 1 l.day ≡ in_year (12 - l.month) l.year l.month l.days;
}

abbrev pub decreases-months : goal.decreases-months
decreases-months l = 12 - l.month
