-- The Gregorian calendar from 1970 on (ISO 8601).
use Rattle.std.specs.Prelude.{ℕ, zero, suc, ◌+◌, ◌-◌, ◌/◌, ◌%◌, Bool, not, ◌&&◌, ◌||◌, ◌==◌, nat_le}
use Rattle.std.specs.Prelude.{if◌then◌else◌}
use Rattle.std.specs.Int.{is_in_range}

-- every fourth year is a leap year, but of the centuries only every fourth
abbrev pub is_leap : ℕ → Bool
is_leap year = (year % 4 == 0) && (not (year % 100 == 0) || (year % 400 == 0))

-- the days of a year
abbrev pub days_of_year : ℕ → ℕ
days_of_year year = if is_leap year then 366 else 365

-- the days of a month: thirty days have April, June, September and November
abbrev pub days_of_month : ℕ → ℕ → ℕ
days_of_month year month =
    if month == 2 then (if is_leap year then 29 else 28)
    else (if (month == 4) || (month == 6) || (month == 9) || (month == 11) then 30 else 31)

-- the days of the first n years from 1970 on
unfoldable pub days_of_years : ℕ → ℕ
days_of_years zero = 0
days_of_years (suc n) = days_of_years n + days_of_year (1970 + n)

-- the days of the first n months of a year
unfoldable pub days_of_months : ℕ → ℕ → ℕ
days_of_months year zero = 0
days_of_months year (suc n) = days_of_months year n + days_of_month year (suc n)

-- whether the calendar has this day, from 1970 to 9999
abbrev pub is_date : ℕ → ℕ → ℕ → Bool
is_date year month day =
    is_in_range 1970 9999 year && is_in_range 1 12 month
    && is_in_range 1 (days_of_month year month) day

-- how many days lie between 1 January 1970 and the day
abbrev pub day_number : ℕ → ℕ → ℕ → ℕ
day_number year month day =
    days_of_years (year - 1970) + days_of_months year (month - 1) + (day - 1)

-- how many of the first n periods are over, where the first k of them end at `ends k`
unfoldable pub passed : (ℕ → ℕ) → ℕ → ℕ → ℕ
passed ends zero at = 0
passed ends (suc n) at = if nat_le (ends (suc n)) at then suc n else passed ends n at

-- a day of the calendar
pub record Day : Type 0 where
  pub year : ℕ
  pub month : ℕ
  pub day : ℕ

-- the day that is so many days after 1 January 1970: the years that are over by then, the months
-- of the next year that are over, and the days of the next month (a year has 365 days at least)
abbrev pub day_of : ℕ → Day
day_of n =
    let years = passed days_of_years (n / 365) n in
    let rest = n - days_of_years years in
    let months = passed (days_of_months (1970 + years)) 11 rest in
    let days = rest - days_of_months (1970 + years) months in
    record { year = 1970 + years; month = 1 + months; day = 1 + days }
