-- A month or a year on
use Rattle.std.proofs.Common.{◌≡◌, ℕ, zero, suc, ◌+◌, ◌-◌, ◌<◌, ◌≤◌, false, true, cond, refl, ap, ap₂, ◌∙◌, arith}
use Rattle.std.proofs.Common.{nat_lt}
use Rattle.std.proofs.lemmas.Bool.{lt-ltb, le-ltb}
use Rattle.pmsg_spec.specs.declared.Date.{Date}
use Rattle.pmsg_spec.specs.Calendar.{month_len, year_len, in_year, in_years}

abbrev day_of : ℕ → ℕ → ℕ → Date
day_of year month days = record { year = year; month = month; day = days + 1 }

pub month_more : (n k year month days : ℕ) → n ≡ k + 1 → month_len year month ≤ days
    → in_year n year month days ≡ in_year k year (month + 1) (days - month_len year month)
unfolding in_year
month_more zero k year month days e h = absurd (omega (arith, e))
month_more (suc n) k year month days e h =
    ap (λ t. cond t (day_of year month days) (in_year n year (month + 1) (days - month_len year month)))
    (le-ltb days (month_len year month) h)
    ∙ ap (λ m. in_year m year (month + 1) (days - month_len year month)) (omega (arith, e))

pub month_last : (year month days : ℕ) → in_year 0 year month days ≡ day_of year month days
unfolding in_year
month_last year month days = refl

pub month_found : (n year month days : ℕ) → days < month_len year month
    → in_year n year month days ≡ day_of year month days
unfolding in_year
month_found zero year month days h = refl
month_found (suc n) year month days h =
    ap (λ t. cond t (day_of year month days) (in_year n year (month + 1) (days - month_len year month)))
    (lt-ltb days (month_len year month) h)

pub year_more : (n k year days : ℕ) → n ≡ k + 1 → year_len year ≤ days
    → in_years n year days ≡ in_years k (year + 1) (days - year_len year)
unfolding in_years
year_more zero k year days e h = absurd (omega (arith, e))
year_more (suc n) k year days e h =
    ap (λ t. cond t (in_year 11 year 1 days) (in_years n (year + 1) (days - year_len year)))
    (le-ltb days (year_len year) h)
    ∙ ap (λ m. in_years m (year + 1) (days - year_len year)) (omega (arith, e))

pub year_found : (n year days : ℕ) → days < year_len year → in_years n year days ≡ in_year 11 year 1 days
unfolding in_years
year_found zero year days h = refl
year_found (suc n) year days h =
    ap (λ t. cond t (in_year 11 year 1 days) (in_years n (year + 1) (days - year_len year)))
    (lt-ltb days (year_len year) h)
