-- Reading a timestamp from left to right.
use Rattle.std.specs.Prelude.{ℕ, ◌+◌, ◌-◌, ◌*◌, ◌&&◌, ◌==◌, List, [], ◌∷◌, Option, Some, None}
use Rattle.std.specs.Prelude.{if◌then◌else◌}
use Rattle.std.specs.Char.{is_ascii_digit}
use Rattle.m2m_names.specs.Calendar.{is_date, day_number}
use Rattle.m2m_names.specs.Steps.{◌>>=◌}
use Rattle.m2m_names.specs.Stamps.{Stamp, is_stamp, is_fraction, moment}
use Rattle.m2m_names.specs.declared.stamps.Fields.{Fields}

-- the fields as a stamp
abbrev pub stamp_of_fields : Fields → Stamp
stamp_of_fields f = record {
  year = f.year;
  month = f.month;
  day = f.day;
  hour = f.hour;
  minute = f.minute;
  second = f.second;
}

-- a number of two digits, and the bytes after it
abbrev pub two_at : List ℕ → Option (ℕ × List ℕ)
two_at [] = None
two_at (a ∷ []) = None
two_at (a ∷ b ∷ rest) =
    if is_ascii_digit a && is_ascii_digit b then Some ((a - 48) * 10 + (b - 48), rest) else None

-- a number of four digits
unfoldable pub four_at : List ℕ → Option (ℕ × List ℕ)
four_at bytes = do
  high ← two_at bytes
  low ← two_at high.1
  Some (high.0 * 100 + low.0, low.1)

-- the bytes after the letter T
abbrev pub past_t : List ℕ → Option (List ℕ)
past_t [] = None
past_t (b ∷ rest) = if b == 84 then Some rest else None

-- the fields of a timestamp, whatever their values
unfoldable pub stamp_at : List ℕ → Option (Stamp × List ℕ)
stamp_at bytes = do
  year ← four_at bytes
  month ← two_at year.1
  day ← two_at month.1
  time ← past_t day.1
  hour ← two_at time
  minute ← two_at hour.1
  second ← two_at minute.1
  let s : Stamp = record {
    year = year.0;
    month = month.0;
    day = day.0;
    hour = hour.0;
    minute = minute.0;
    second = second.0;
  }
  Some (s, second.1)

-- the day number of a date that the calendar has
abbrev pub checked_day : ℕ → ℕ → ℕ → Option ℕ
checked_day year month day =
    if is_date year month day then Some (day_number year month day) else None

-- the moment of a stamp that there is
abbrev pub checked_moment : Stamp → Option ℕ
checked_moment s = if is_stamp s then Some (moment s) else None

-- the moment of a timestamp
unfoldable pub moment_at : List ℕ → Option ℕ
moment_at bytes = do
  s ← stamp_at bytes
  if is_fraction s.1 then checked_moment s.0 else None
