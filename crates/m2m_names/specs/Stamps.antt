-- Timestamps in UTC: `YYYYMMDDTHHMMSS` (TS-0004, 6.3.3; ISO 8601, basic format).
use Rattle.std.specs.Prelude.{◌≡◌, ℕ, ◌+◌, ◌*◌, ◌/◌, ◌%◌, Bool, true, ◌&&◌, ◌==◌, nat_lt, List, []}
use Rattle.std.specs.Prelude.{◌∷◌, ◌++◌, length, IsTrue}
use Rattle.std.specs.Char.{is_ascii_digit}
use Rattle.std.specs.Int.{is_in_range}
use Rattle.std.specs.List.{list_all}
use Rattle.m2m_names.specs.Calendar.{is_date, day_number, day_of}

-- a date and a time of day
pub record Stamp : Type 0 where
  pub year : ℕ
  pub month : ℕ
  pub day : ℕ
  pub hour : ℕ
  pub minute : ℕ
  pub second : ℕ

-- whether it is a date from 1970 to 9999, and a time of day without leap seconds
abbrev pub is_stamp : Stamp → Bool
is_stamp s =
    is_date s.year s.month s.day
    && nat_lt s.hour 24 && nat_lt s.minute 60 && nat_lt s.second 60

-- The moment of a date and time, in seconds since 1970.
abbrev pub moment : Stamp → ℕ
moment s =
    ((day_number s.year s.month s.day * 24 + s.hour) * 60 + s.minute) * 60 + s.second

-- the last moment: the end of 9999
abbrev pub last_moment : ℕ
last_moment = 253_402_300_799

-- two and four decimal digits
abbrev pub two : ℕ → List ℕ
two n = (48 + n / 10) ∷ (48 + n % 10) ∷ []

abbrev pub four : ℕ → List ℕ
four n = two (n / 100) ++ two (n % 100)

-- The fifteen bytes of a timestamp, with `T` between date and time.
abbrev pub stamp_bytes : Stamp → List ℕ
stamp_bytes s =
    four s.year ++ two s.month ++ two s.day ++ 84 ∷ two s.hour ++ two s.minute ++ two s.second

-- what may follow on input, and is dropped: nothing, or a comma and one to six digits
abbrev pub is_fraction : List ℕ → Bool
is_fraction [] = true
is_fraction (b ∷ digits) =
    (b == 44) && is_in_range 1 6 (length digits) && list_all is_ascii_digit digits

-- the text is a timestamp of that moment
pub record IsTimestamp (text : List ℕ) (at : ℕ) : Type 0 where
  pub stamp : Stamp
  pub fraction : List ℕ
  pub is : IsTrue (is_stamp stamp)
  pub tail : IsTrue (is_fraction fraction)
  pub bytes : text ≡ stamp_bytes stamp ++ fraction
  pub moment_is : at ≡ moment stamp

-- the date and the time of day at a moment
abbrev pub stamp_of : ℕ → Stamp
stamp_of at =
    let date = day_of (at / 86_400) in
    let seconds = at % 86_400 in
    record {
      year = date.year;
      month = date.month;
      day = date.day;
      hour = seconds / 3600;
      minute = seconds % 3600 / 60;
      second = seconds % 60;
    }

-- the fifteen bytes that stand for a moment
abbrev pub timestamp : ℕ → List ℕ
timestamp at = stamp_bytes (stamp_of at)
