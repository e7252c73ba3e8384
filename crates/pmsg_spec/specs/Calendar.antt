-- The date of a day, in the Gregorian calendar
use Rattle.std.specs.Prelude.{ℕ, zero, suc, ◌+◌, ◌-◌, ◌%◌, ◌==◌, nat_lt, Bool, not, ◌&&◌, ◌||◌, if◌then◌else◌}
use Rattle.pmsg_spec.specs.declared.Date.{Date}

abbrev pub is_leap : ℕ → Bool
is_leap year = (year % 4 == 0) && (not (year % 100 == 0) || (year % 400 == 0))

abbrev pub year_len : ℕ → ℕ
year_len year = if is_leap year then 366 else 365

abbrev pub month_len : ℕ → ℕ → ℕ
month_len year month =
    if month == 2 then (if is_leap year then 29 else 28)
    else (if (month == 4) || (month == 6) || (month == 9) || (month == 11) then 30 else 31)

-- the date so many days after the first of a month
unfoldable pub in_year : ℕ → ℕ → ℕ → ℕ → Date
in_year zero year month days = record { year = year; month = month; day = days + 1 }
in_year (suc n) year month days =
    if nat_lt days (month_len year month) then record { year = year; month = month; day = days + 1 }
    else in_year n year (month + 1) (days - month_len year month)

-- the date so many days after the first of January; at most so many years on
unfoldable pub in_years : ℕ → ℕ → ℕ → Date
in_years zero year days = in_year 11 year 1 days
in_years (suc n) year days =
    if nat_lt days (year_len year) then in_year 11 year 1 days else in_years n (year + 1) (days - year_len year)

-- the date so many days after 1 January 1970
abbrev pub date_of : ℕ → Date
date_of days = in_years days 1970 days
