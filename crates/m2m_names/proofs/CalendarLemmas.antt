-- The calendar of specs/Calendar.antt is the calendar of `jiff`.
use Rattle.std.proofs.Common.{◌≡◌, Bool, true, false, ◌&&◌, ℕ, zero, suc, ◌+◌, ◌-◌, ◌≤◌, ◌∙◌, ap, refl, arith, ℤ, pos, negsuc, neg_ℤ, unsigned_abs, ◌+ℤ◌, ◌≤ℤ◌}
use Rattle.std.specs.Int.{is_in_range, IsInRange}
use Rattle.std.proofs.lemmas.Bool.Decides.{nat_tests}
use Rattle.jiff.specs.Words.{days_in_month, epoch_day, IsYmd, IsDate, IsBetween}
use Rattle.jiff.specs.Types.{Date}
use Rattle.jiff.proofs.Family.{days_from_civil-day, days_from_civil-next_month, days_from_civil-next_year, days_from_civil-max}
use Rattle.jiff.proofs.SpanFacts.{signed_arith}
use Rattle.m2m_names.specs.Calendar.{days_of_year, days_of_month, days_of_years, days_of_months, day_number, is_date}

pub days_of_month_bounds : (year month : ℕ) → (days_of_month year month ≤ 31) × (28 ≤ days_of_month year month)
days_of_month_bounds year month = grind arith

-- the months of a year have its days
pub days_of_months_all : (year : ℕ) → days_of_months year 12 ≡ days_of_year year
unfolding days_of_months
days_of_months_all year = grind arith

years_to_9999 : days_of_years 8029 ≡ 2_932_532
unfolding days_of_years
years_to_9999 = refl

months_to_december : days_of_months 9999 11 ≡ 334
unfolding days_of_months
months_to_december = refl

-- A numbering of days that goes on from day to day, month to month and year to year, as that of
-- `jiff` does, and has the same number for the last day, is the numbering of specs/Calendar.antt.
module _ (day : ℤ → ℕ → ℕ → ℤ)
    (in_month : (y : ℤ) (m d e : ℕ) → 1 ≤ d → 1 ≤ e → day y m d +ℤ pos e ≡ day y m e +ℤ pos d)
    (next_month : (y : ℤ) (m d : ℕ) → 1 ≤ m → d ≡ days_in_month y m → day y (m + 1) 1 ≡ day y m d +ℤ pos 1)
    (next_year : (y next : ℤ) → neg_ℤ (pos 10000) ≤ℤ y → next ≡ y +ℤ pos 1 → day next 1 1 ≡ day y 12 31 +ℤ pos 1)
    (end : day (pos 9999) 12 31 ≡ pos 2_932_896) where
  month_starts : (year k : ℕ) → day (pos year) (k + 1) 1 ≡ day (pos year) 1 1 +ℤ pos (days_of_months year k)
  unfolding days_of_months
  month_starts year zero = omega (arith, signed_arith)
  month_starts year (suc k) =
      let length = days_of_month year (suc k) in
      let one : k + 1 ≡ suc k = omega arith in
      let start = rw one at (month_starts year k) in
      let next = next_month (pos year) (suc k) length (omega arith) refl in
      let last = in_month (pos year) (suc k) length 1 (omega (arith, (days_of_month_bounds year (suc k)).1)) (omega arith) in
      omega (arith, signed_arith, start, next, last)

  year_starts : (k : ℕ) → day (pos (1970 + k)) 1 1 ≡ day (pos 1970) 1 1 +ℤ pos (days_of_years k)
  unfolding days_of_years
  year_starts zero = omega (arith, signed_arith)
  year_starts (suc k) =
      let year = 1970 + k in
      let next = next_year (pos year) (pos (1970 + suc k)) (omega (arith, signed_arith)) (omega (arith, signed_arith)) in
      let last = next_month (pos year) 12 31 (omega arith) refl in
      omega (arith, signed_arith, year_starts k, next, last, month_starts year 12, days_of_months_all year)

  start_is : day (pos 1970) 1 1 ≡ pos 0
  start_is =
      omega (arith, signed_arith, end, in_month (pos 9999) 12 31 1 (omega arith) (omega arith), month_starts 9999 11, year_starts 8029, months_to_december, years_to_9999)

  pub day_is : (year m d : ℕ) → 1970 ≤ year → 1 ≤ m → 1 ≤ d → day (pos year) m d ≡ pos (day_number year m d)
  day_is year m d late first one =
      let year_is : 1970 + (year - 1970) ≡ year = omega arith in
      let month_is : (m - 1) + 1 ≡ m = omega arith in
      let year_start = rw year_is at (year_starts (year - 1970)) in
      let month_start = rw month_is at (month_starts year (m - 1)) in
      omega (arith, signed_arith, start_is, year_start, month_start, in_month (pos year) m d 1 one (omega arith))

-- the number that `jiff` gives to a day
pub jiff_day : (d : Date) (year : ℕ) → d.year ≡ pos year → 1970 ≤ year → epoch_day d ≡ pos (day_number year d.month d.day)
jiff_day d year is late =
    let here = day_is _ days_from_civil-day days_from_civil-next_month days_from_civil-next_year days_from_civil-max year d.month d.day late d.month_in.0 d.day_in.0 in
    rw is here

-- a year from 1970 on is a natural number
pub late_year : (y : ℤ) → pos 1970 ≤ℤ y → y ≡ pos (unsigned_abs y)
late_year (pos n) late = refl
late_year (negsuc n) late = absurd (omega (arith, signed_arith))

day_zero : day_number 1970 1 1 ≡ 0
unfolding days_of_years days_of_months
day_zero = refl

-- 1 January 1970 is day 0
pub jiff_start : (d : Date) → IsYmd (pos 1970) (pos 1) (pos 1) d → epoch_day d ≡ pos 0
jiff_start d ymd =
    let month : d.month ≡ 1 = omega (arith, signed_arith, ymd.1) in
    let day : d.day ≡ 1 = omega (arith, signed_arith, ymd.2) in
    let number : day_number 1970 d.month d.day ≡ 0 = rw (month, day) day_zero in
    jiff_day d 1970 ymd.0 (omega arith) ∙ ap pos number

in_ranges : (y m d last : ℕ) → 1970 ≤ y → y ≤ 9999 → 1 ≤ m → m ≤ 12 → 1 ≤ d → d ≤ last → (is_in_range 1970 9999 y && is_in_range 1 12 m && is_in_range 1 last d) ≡ true
in_ranges y m d last a b c e f g = grind (arith, nat_tests)

ranges_of : (y m d last : ℕ) → (is_in_range 1970 9999 y && is_in_range 1 12 m && is_in_range 1 last d) ≡ true → IsInRange 1970 9999 y × IsInRange 1 12 m × IsInRange 1 last d
ranges_of y m d last e = grind (arith, nat_tests)

-- the parts of a date
pub date_ranges : (year month day : ℕ) → is_date year month day ≡ true → IsInRange 1970 9999 year × IsInRange 1 12 month × IsInRange 1 (days_of_month year month) day
date_ranges year month day is = ranges_of year month day (days_of_month year month) is

pub is_date-ranges : (year month day : ℕ) → IsInRange 1970 9999 year → IsInRange 1 12 month → IsInRange 1 (days_of_month year month) day → is_date year month day ≡ true
is_date-ranges year month day y m d = in_ranges year month day (days_of_month year month) y.0 y.1 m.0 m.1 d.0 d.1

-- a date is one that `jiff` takes
pub jiff-is_date : (year month day : ℕ) → is_date year month day ≡ true → IsDate (pos year) (pos month) (pos day)
jiff-is_date year month day is =
    let r = date_ranges year month day is in
    let y : IsBetween (neg_ℤ (pos 9999)) (pos 9999) (pos year) = (omega (arith, signed_arith), omega (arith, signed_arith, r.0.1)) in
    let m : IsBetween (pos 1) (pos 12) (pos month) = (omega (arith, signed_arith, r.1.0), omega (arith, signed_arith, r.1.1)) in
    let d : IsBetween (pos 1) (pos (days_of_month year month)) (pos day) = (omega (arith, signed_arith, r.2.0), omega (arith, signed_arith, r.2.1)) in
    (y, m, d)
