use Rattle.std.proofs.Common.{◌≡◌, refl, ◌≤◌, pos, ◌∙◌, ap, arith, w32, to_z, of_z, unsigned_abs}
use Rattle.std.proofs.lemmas.Int.{ints}
use Rattle.jiff.specs.Words.{epoch_day}
use Rattle.jiff.proofs.Family.{epoch_day_range}
use Rattle.jiff.proofs.SpanFacts.{signed_arith}
use Rattle.m2m_names.specs.Calendar.{day_number}
use Rattle.m2m_names.proofs.CalendarLemmas.{jiff_day, late_year}
use Rattle.m2m_names.proofs.stamps.days_before.Goals as goal

-- the day as `jiff` gives it is the day's number
abbrev IsDay : goal.After-to_unix_epoch_day → Type 0
IsDay c =
    let n = day_number (unsigned_abs c.args.date.year) c.args.date.month c.args.date.day in
    (to_z w32 (of_z w32 c.to_unix_epoch_day.result) ≡ pos n) × (n ≤ 2_932_896)

is_day : (c : goal.After-to_unix_epoch_day) → IsDay c
is_day c =
    let y = unsigned_abs c.args.date.year in
    let n = day_number y c.args.date.month c.args.date.day in
    let year : c.args.date.year ≡ pos y = late_year c.args.date.year c.requires in
    let late : 1970 ≤ y = omega (arith, signed_arith, year, c.requires) in
    let number = jiff_day c.args.date y year late in
    let day : c.to_unix_epoch_day.result ≡ pos n = c.to_unix_epoch_day.ensures.value ∙ ap epoch_day c.to_plain.ensures ∙ number in
    let last : n ≤ 2_932_896 = omega (arith, signed_arith, number, (epoch_day_range c.args.date).1) in
    (omega (arith, ints, day, last), last)

pub overflow_cast-result : goal.overflow_cast-result
overflow_cast-result c =
    let day = is_day c in
    rw day.0 (tt, omega (arith, day.1))

pub returns-clause-value : goal.returns-clause-value
returns-clause-value c = rw (is_day c).0 refl

pub returns-clause-bound : goal.returns-clause-bound
returns-clause-bound c = rw (is_day c).0 (is_day c).1
