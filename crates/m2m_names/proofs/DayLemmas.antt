-- The day of a number, and the number of a day.
use Rattle.std.proofs.Common.{◌≡◌, Bool, true, false, ℕ, zero, suc, ◌+◌, ◌-◌, ◌*◌, ◌/◌, ◌<◌, ◌≤◌, ◌∙◌, sym, ap, refl, cond, nat_le, arith, pos, unsigned_abs, inl, inr}
use Rattle.std.specs.Int.{IsInRange}
use Rattle.std.proofs.lemmas.Bool.{leb-true, cases_lt}
use Rattle.std.proofs.lemmas.Bool.Decides.{nat_tests}
use Rattle.jiff.specs.Words.{epoch_day}
use Rattle.jiff.specs.Types.{Date}
use Rattle.jiff.proofs.Family.{epoch_day_injective, epoch_day_range}
use Rattle.jiff.proofs.SpanFacts.{signed_arith}
use Rattle.m2m_names.specs.Calendar.{days_of_year, days_of_month, days_of_years, days_of_months, day_number, is_date, passed, Day, day_of}
use Rattle.m2m_names.proofs.CalendarLemmas.{days_of_months_all, date_ranges, is_date-ranges, jiff-is_date, jiff_day}

-- k of the first n periods are over
record IsPassed (ends : ℕ → ℕ) (n at k : ℕ) : Type 0 where
  most : k ≤ n
  begun : ends k ≤ at
  going : at < ends (suc k)

passed_step : (ends : ℕ → ℕ) (n at before : ℕ) (b : Bool) → nat_le (ends (suc n)) at ≡ b → at < ends (suc (suc n)) → (at < ends (suc n) → IsPassed ends n at before) → IsPassed ends (suc n) at (cond b (suc n) before)
passed_step ends n at before true is end earlier = record { most = omega arith; begun = leb-true _ _ is; going = end }
passed_step ends n at before false is end earlier =
    let h = earlier (grind (arith, nat_tests)) in
    record { most = omega (arith, h.most); begun = h.begun; going = h.going }

passed_is : (ends : ℕ → ℕ) (n at : ℕ) → ends 0 ≡ 0 → at < ends (suc n) → IsPassed ends n at (passed ends n at)
unfolding passed
passed_is ends zero at start end = record { most = omega arith; begun = omega (arith, start); going = end }
passed_is ends (suc n) at start end = passed_step ends n at (passed ends n at) _ refl end (passed_is ends n at start)

days_of_year_bounds : (year : ℕ) → (365 ≤ days_of_year year) × (days_of_year year ≤ 366)
days_of_year_bounds year = grind arith

years_at_least : (n : ℕ) → 365 * n ≤ days_of_years n
unfolding days_of_years
years_at_least zero = omega arith
years_at_least (suc n) = omega (arith, years_at_least n, (days_of_year_bounds (1970 + n)).0)

years_more : (n k : ℕ) → days_of_years n ≤ days_of_years (k + n)
unfolding days_of_years
years_more n zero = let e : 0 + n ≡ n = omega arith in rw e (omega arith)
years_more n (suc k) =
    let e : suc k + n ≡ suc (k + n) = omega arith in
    rw e (omega (arith, years_more n k))

years_to_10000 : days_of_years 8030 ≡ 2_932_897
unfolding days_of_years
years_to_10000 = refl

-- a year that has begun by the last day of 9999 is 9999 or earlier
year_before_10000 : (k day : ℕ) → days_of_years k ≤ day → day ≤ 2_932_896 → k ≤ 8029
year_before_10000 k day begun last =
    elim (cases_lt k 8030) [
      | inl early ↦ omega arith
      | inr late ↦
          let e : (k - 8030) + 8030 ≡ k = omega arith in
          let more = rw e at (years_more 8030 (k - 8030)) in
          absurd (omega (arith, years_to_10000, more))
    ]

no_years : days_of_years 0 ≡ 0
unfolding days_of_years
no_years = refl

no_months : (year : ℕ) → days_of_months year 0 ≡ 0
unfolding days_of_months
no_months year = refl

next_year : (k : ℕ) → days_of_years (suc k) ≡ days_of_years k + days_of_year (1970 + k)
unfolding days_of_years
next_year k = refl

next_month : (year k : ℕ) → days_of_months year (suc k) ≡ days_of_months year k + days_of_month year (suc k)
unfolding days_of_months
next_month year k = refl

-- the day of a number is one, and has that number
pub record HasNumber (n : ℕ) (d : Day) : Type 0 where
  pub date : is_date d.year d.month d.day ≡ true
  pub number : day_number d.year d.month d.day ≡ n

pub day_of-number : (n : ℕ) → n ≤ 2_932_896 → HasNumber n (day_of n)
day_of-number n last =
    let k = passed days_of_years (n / 365) n in
    let y = passed_is days_of_years (n / 365) n no_years (omega (arith, years_at_least (suc (n / 365)))) in
    let rest = n - days_of_years k in
    let in_year : rest < days_of_months (1970 + k) 12 = omega (arith, y.begun, y.going, next_year k, days_of_months_all (1970 + k)) in
    let m = passed (days_of_months (1970 + k)) 11 rest in
    let h = passed_is (days_of_months (1970 + k)) 11 rest (no_months (1970 + k)) in_year in
    let d = rest - days_of_months (1970 + k) m in
    let month : 1 + m ≡ suc m = omega arith in
    let year_in : IsInRange 1970 9999 (1970 + k) = (omega arith, omega (arith, year_before_10000 k n y.begun last)) in
    let month_in : IsInRange 1 12 (1 + m) = (omega arith, omega (arith, h.most)) in
    let day_in : IsInRange 1 (days_of_month (1970 + k) (1 + m)) (1 + d) = (omega arith, rw month (omega (arith, h.begun, h.going, next_month (1970 + k) m))) in
    let years : 1970 + k - 1970 ≡ k = omega arith in
    let months : 1 + m - 1 ≡ m = omega arith in
    record {
      date = is_date-ranges (1970 + k) (1 + m) (1 + d) year_in month_in day_in;
      number = rw (years, months) (omega (arith, y.begun, h.begun));
    }

-- a date of the calendar as one of `jiff`
jiff_date : (year month day : ℕ) → is_date year month day ≡ true → Date
jiff_date year month day is =
    let r = date_ranges year month day is in
    record {
      year = pos year;
      month = month;
      day = day;
      year_in = (jiff-is_date year month day is).0;
      month_in = r.1;
      day_in = r.2;
    }

-- no two dates have one number: what `jiff` has at that number is the day of the number
pub jiff-day_of : (d : Date) (n : ℕ) → n ≤ 2_932_896 → epoch_day d ≡ pos n → (d.year ≡ pos (day_of n).year) × (d.month ≡ (day_of n).month) × (d.day ≡ (day_of n).day)
unfolding jiff_date
jiff-day_of d n last is =
    let h = day_of-number n last in
    let y = (day_of n).year in
    let same = jiff_date y (day_of n).month (day_of n).day h.date in
    let late : 1970 ≤ y = (date_ranges y (day_of n).month (day_of n).day h.date).0.0 in
    let number : epoch_day same ≡ pos n = jiff_day same y refl late ∙ ap pos h.number in
    epoch_day_injective d same (is ∙ sym number)

-- each date is the day of its number
pub record IsDayOf (n year month day : ℕ) : Type 0 where
  pub last : n ≤ 2_932_896
  pub year_is : (day_of n).year ≡ year
  pub month_is : (day_of n).month ≡ month
  pub day_is : (day_of n).day ≡ day

pub day_of-date : (year month day : ℕ) → is_date year month day ≡ true → IsDayOf (day_number year month day) year month day
unfolding jiff_date
day_of-date year month day is =
    let n = day_number year month day in
    let same = jiff_date year month day is in
    let number : epoch_day same ≡ pos n = jiff_day same year refl (date_ranges year month day is).0.0 in
    let last : n ≤ 2_932_896 = omega (arith, signed_arith, number, (epoch_day_range same).1) in
    let parts = jiff-day_of same n last number in
    record { last = last; year_is = sym (ap unsigned_abs parts.0); month_is = sym parts.1; day_is = sym parts.2 }

-- days with the same parts are the same
pub same_days : (a b : Day) → a.year ≡ b.year → a.month ≡ b.month → a.day ≡ b.day → a ≡ b
same_days a b y m d = λ i. record { year = y i; month = m i; day = d i }
