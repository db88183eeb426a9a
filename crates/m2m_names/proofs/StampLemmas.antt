-- Moments and stamps.
use Rattle.std.proofs.Common.{◌≡◌, Bool, true, false, ◌&&◌, ℕ, ◌+◌, ◌*◌, ◌/◌, ◌%◌, ◌<◌, ◌≤◌, ◌∙◌, ap, refl, nat_lt, arith}
use Rattle.std.proofs.lemmas.Bool.Decides.{nat_tests}
use Rattle.m2m_names.specs.Calendar.{is_date, day_number, day_of}
use Rattle.m2m_names.specs.Stamps.{Stamp, is_stamp, moment, stamp_of, last_moment}
use Rattle.m2m_names.proofs.DayLemmas.{day_of-number, day_of-date, IsDayOf}

in_day : (date : Bool) (h m s : ℕ) → date ≡ true → h < 24 → m < 60 → s < 60 → (date && nat_lt h 24 && nat_lt m 60 && nat_lt s 60) ≡ true
in_day date h m s d a b c = rw d (grind (arith, nat_tests))

-- what a stamp's test says
pub record IsStamp (s : Stamp) : Type 0 where
  pub date : is_date s.year s.month s.day ≡ true
  pub hour : s.hour < 24
  pub minute : s.minute < 60
  pub second : s.second < 60

parts_of : (date : Bool) (h m s : ℕ) → (date && nat_lt h 24 && nat_lt m 60 && nat_lt s 60) ≡ true → (date ≡ true) × (h < 24) × (m < 60) × (s < 60)
parts_of true h m s e = let t : (nat_lt h 24 && nat_lt m 60 && nat_lt s 60) ≡ true = e in (refl, grind (arith, nat_tests), grind (arith, nat_tests), grind (arith, nat_tests))
parts_of false h m s e = let t : false ≡ true = e in cc

pub stamp_parts : (s : Stamp) → is_stamp s ≡ true → IsStamp s
stamp_parts s is =
    let p = parts_of (is_date s.year s.month s.day) s.hour s.minute s.second is in
    record { date = p.0; hour = p.1; minute = p.2; second = p.3 }

-- seconds since midnight
clock : (at : ℕ) → ((at % 86_400 / 3600 * 60 + at % 86_400 % 3600 / 60) * 60 + at % 86_400 % 60 ≡ at % 86_400)
clock at = omega arith

-- the stamp of a moment is one, and has that moment
pub record HasMoment (at : ℕ) (s : Stamp) : Type 0 where
  pub is : is_stamp s ≡ true
  pub moment_is : moment s ≡ at

pub stamp_of-moment : (at : ℕ) → at ≤ last_moment → HasMoment at (stamp_of at)
stamp_of-moment at last =
    let n = at / 86_400 in
    let d = day_of-number n (omega arith) in
    let s = stamp_of at in
    record {
      is = in_day _ s.hour s.minute s.second d.date (omega arith) (omega arith) (omega arith);
      moment_is = rw d.number (omega (arith, clock at));
    }

clock_back : (n h m s at : ℕ) → h < 24 → m < 60 → s < 60 → at ≡ ((n * 24 + h) * 60 + m) * 60 + s → (at / 86_400 ≡ n) × (at % 86_400 / 3600 ≡ h) × (at % 86_400 % 3600 / 60 ≡ m) × (at % 86_400 % 60 ≡ s)
clock_back n h m s at a b c e =
    let day : at / 86_400 ≡ n = omega arith in
    let rest : at % 86_400 ≡ (h * 60 + m) * 60 + s = omega arith in
    (day, omega (arith, rest), omega (arith, rest), omega (arith, rest))

same_stamp : (a b : Stamp) → a.year ≡ b.year → a.month ≡ b.month → a.day ≡ b.day → a.hour ≡ b.hour → a.minute ≡ b.minute → a.second ≡ b.second → a ≡ b
same_stamp a b y m d h n s = λ i. record { year = y i; month = m i; day = d i; hour = h i; minute = n i; second = s i }

-- each stamp is the stamp of its moment
pub record IsStampOf (at : ℕ) (s : Stamp) : Type 0 where
  pub last : at ≤ last_moment
  pub stamp_is : stamp_of at ≡ s

pub moment-stamp_of : (s : Stamp) → is_stamp s ≡ true → IsStampOf (moment s) s
moment-stamp_of s is =
    let p = stamp_parts s is in
    let n = day_number s.year s.month s.day in
    let d : IsDayOf n s.year s.month s.day = day_of-date s.year s.month s.day p.date in
    let clock = clock_back n s.hour s.minute s.second (moment s) p.hour p.minute p.second refl in
    record {
      last = omega (arith, d.last, p.hour, p.minute, p.second);
      stamp_is = same_stamp (stamp_of (moment s)) s (ap (λ k. (day_of k).year) clock.0 ∙ d.year_is) (ap (λ k. (day_of k).month) clock.0 ∙ d.month_is) (ap (λ k. (day_of k).day) clock.0 ∙ d.day_is) clock.1 clock.2 clock.3;
    }
