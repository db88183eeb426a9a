-- What each byte of a timestamp is: a digit, `T` or a comma; so timestamps are ASCII and UTF-8.
use Rattle.std.proofs.Common.{◌≡◌, ℕ, zero, suc, ◌+◌, ◌/◌, ◌%◌, ◌<◌, ◌≤◌, ◌&&◌, ◌==◌, List, [], ◌∷◌, ◌++◌, length, true, sym, subst, arith}
use Rattle.std.proofs.lemmas.Bool.{and_parts, eqb-true}
use Rattle.std.proofs.lemmas.Str.{IsUtf8-from_ascii}
use Rattle.std.specs.Char.{is_ascii_digit}
use Rattle.std.specs.Int.{is_in_range}
use Rattle.std.specs.List.{list_all, AllByRecursion}
use Rattle.std.specs.Str.{IsUtf8, IsAscii}
use Rattle.m2m_names.proofs.CalendarLemmas.{date_ranges, days_of_month_bounds}
use Rattle.m2m_names.proofs.NameLemmas.{digit_range}
use Rattle.m2m_names.proofs.StampLemmas.{stamp_parts}
use Rattle.m2m_names.specs.Calendar.{days_of_month}
use Rattle.m2m_names.specs.Stamps.{Stamp, is_stamp, is_fraction, stamp_bytes, two, four, IsTimestamp}

-- what holds of each digit, of `T` and of a comma holds of each byte
module _ (P : ℕ → Type 0) (digit : (b : ℕ) → 48 ≤ b → b ≤ 57 → P b) (letter : P 84) (comma : P 44) where
  joined : (xs ys : List ℕ) → AllByRecursion P xs → AllByRecursion P ys → AllByRecursion P (xs ++ ys)
  joined [] ys hx hy = hy
  joined (x ∷ xs) ys hx hy = (hx.0, joined xs ys hx.1 hy)

  each_of_two : (n : ℕ) → n < 100 → AllByRecursion P (two n)
  each_of_two n small = (digit (48 + n / 10) (omega arith) (omega arith), (digit (48 + n % 10) (omega arith) (omega arith), tt))

  each_of_four : (n : ℕ) → n < 10000 → AllByRecursion P (four n)
  each_of_four n small = joined (two (n / 100)) (two (n % 100)) (each_of_two (n / 100) (omega arith)) (each_of_two (n % 100) (omega arith))

  each_digit : (digits : List ℕ) → list_all is_ascii_digit digits ≡ true → AllByRecursion P digits
  each_digit [] all = tt
  each_digit (b ∷ digits) all =
      let parts = and_parts (is_ascii_digit b) (list_all is_ascii_digit digits) all in
      let range = digit_range b parts.0 in
      (digit b range.0 range.1, each_digit digits parts.1)

  each_of_fraction : (bytes : List ℕ) → is_fraction bytes ≡ true → AllByRecursion P bytes
  each_of_fraction [] is = tt
  each_of_fraction (b ∷ digits) is =
      let parts = and_parts ((b == 44) && is_in_range 1 6 (length digits)) (list_all is_ascii_digit digits) is in
      let sign : b ≡ 44 = eqb-true b 44 (and_parts (b == 44) (is_in_range 1 6 (length digits)) parts.0).0 in
      (subst P (sym sign) comma, each_digit digits parts.1)

  each_of_stamp : (s : Stamp) → is_stamp s ≡ true → AllByRecursion P (stamp_bytes s)
  each_of_stamp s h =
      let parts = stamp_parts s h in
      let in_date = date_ranges s.year s.month s.day parts.date in
      let second : s.second < 60 = parts.second in
      let minute : s.minute < 60 = parts.minute in
      let hour : s.hour < 24 = parts.hour in
      let year : s.year ≤ 9999 = in_date.0.1 in
      let month : s.month ≤ 12 = in_date.1.1 in
      let day : s.day ≤ days_of_month s.year s.month = in_date.2.1 in
      let days : days_of_month s.year s.month ≤ 31 = (days_of_month_bounds s.year s.month).0 in
      let date : AllByRecursion P (four s.year ++ two s.month ++ two s.day) =
      joined (four s.year ++ two s.month) (two s.day) (joined (four s.year) (two s.month) (each_of_four s.year (omega arith)) (each_of_two s.month (omega arith))) (each_of_two s.day (omega (arith, day, days))) in
      let with_hour : AllByRecursion P (four s.year ++ two s.month ++ two s.day ++ 84 ∷ two s.hour) =
      joined (four s.year ++ two s.month ++ two s.day) (84 ∷ two s.hour) date (letter, each_of_two s.hour (omega arith)) in
      joined (four s.year ++ two s.month ++ two s.day ++ 84 ∷ two s.hour ++ two s.minute) (two s.second)
      (joined (four s.year ++ two s.month ++ two s.day ++ 84 ∷ two s.hour) (two s.minute) with_hour (each_of_two s.minute (omega arith)))
      (each_of_two s.second (omega arith))

  pub each_of_timestamp : (bytes : List ℕ) (moment : ℕ) → IsTimestamp bytes moment → AllByRecursion P bytes
  each_of_timestamp bytes moment h =
      subst (AllByRecursion P) (sym h.bytes) (joined (stamp_bytes h.stamp) h.fraction (each_of_stamp h.stamp h.is) (each_of_fraction h.fraction h.tail))

small_ascii : (bytes : List ℕ) → AllByRecursion (λ b. b < 128) bytes → IsAscii bytes
small_ascii [] small i = omega arith
small_ascii (b ∷ bytes) small zero = small.0
small_ascii (b ∷ bytes) small (suc i) = small_ascii bytes small.1 i

pub stamp_utf8 : (bytes : List ℕ) (moment : ℕ) → IsTimestamp bytes moment → IsUtf8 bytes
stamp_utf8 bytes moment h =
    IsUtf8-from_ascii bytes (small_ascii bytes (each_of_timestamp (λ b. b < 128) (λ b low high. omega arith) (omega arith) (omega arith) bytes moment h))
