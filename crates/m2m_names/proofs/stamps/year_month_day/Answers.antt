use Rattle.std.proofs.Common.{◌≡◌, ℕ, ◌≤◌, ℤ, pos, ◌∙◌, ap, arith, w8, w16, to_z, of_z, unsigned_abs}
use Rattle.std.proofs.lemmas.Int.{ints}
use Rattle.m2m_names.specs.Calendar.{day_of}
use Rattle.m2m_names.proofs.CalendarLemmas.{date_ranges, days_of_month_bounds}
use Rattle.m2m_names.proofs.DayLemmas.{day_of-number, jiff-day_of, same_days}
use Rattle.m2m_names.proofs.stamps.year_month_day.Goals as goal

-- the year as a number of 16 bits
year_is : (r : ℤ) (n : ℕ) → n ≤ 2_932_896 → r ≡ pos (day_of n).year → (to_z w16 (of_z w16 r) ≡ pos (day_of n).year) × ((day_of n).year ≤ 9999)
year_is r n last year =
    let bound : (day_of n).year ≤ 9999 = (date_ranges (day_of n).year (day_of n).month (day_of n).day (day_of-number n last).date).0.1 in
    (omega (arith, ints, year, bound), bound)

pub overflow_cast-result : goal.overflow_cast-result
overflow_cast-result c =
    let parts = jiff-day_of c.date_of_day-date.result c.args.day c.requires c.date_of_day-date.ensures in
    let year = year_is c.year.result c.args.day c.requires (c.year.ensures ∙ parts.0) in
    rw year.0 (tt, omega (arith, year.1))

pub returns : goal.returns
returns c =
    let n = c.args.day in
    let last : n ≤ 2_932_896 = c.requires in
    let date = c.date_of_day-date.result in
    let parts = jiff-day_of date n last c.date_of_day-date.ensures in
    let ranges = date_ranges (day_of n).year (day_of n).month (day_of n).day (day_of-number n last).date in
    let month_bound : (day_of n).month ≤ 12 = ranges.1.1 in
    let day_bound : (day_of n).day ≤ 31 = omega (arith, ranges.2.1, (days_of_month_bounds (day_of n).year (day_of n).month).0) in
    let month : to_z w8 (of_z w8 c.month.result) ≡ pos (day_of n).month = omega (arith, ints, c.month.ensures, parts.1, month_bound) in
    let day : to_z w8 (of_z w8 c.day.result) ≡ pos (day_of n).day = omega (arith, ints, c.day.ensures, parts.2, day_bound) in
    let year = year_is c.year.result n last (c.year.ensures ∙ parts.0) in
    same_days _ (day_of n) (ap unsigned_abs year.0) (ap unsigned_abs month) (ap unsigned_abs day)
