-- The days left, counted from this year on, give the same date. For the loop of `date_of`.
use Rattle.std.proofs.Common.{◌≡◌, ◌<◌, ◌≤◌, ◌-◌, ◌+◌}
use Rattle.pmsg_spec.specs.Calendar.{in_years}
use Rattle.pmsg.proofs.calendar.date_of.Given as goal

abbrev pub invariant-years : goal.invariant-years
invariant-years l = record {
  from : 1970 ≤ l.year;
  left : l.left + (l.year - 1970) ≤ l.days;
  date : in_years l.days 1970 l.days ≡ in_years (l.days - (l.year - 1970)) l.year l.left;
}

abbrev pub decreases-years : goal.decreases-years
decreases-years l = l.left
