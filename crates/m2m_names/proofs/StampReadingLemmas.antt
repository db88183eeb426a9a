-- What is read is spelled so, and what is spelled so is read.
use Rattle.std.proofs.Common.{◌≡◌, true, ◌&&◌, ℕ, ◌+◌, ◌-◌, ◌*◌, ◌/◌, ◌%◌, ◌<◌, ◌≤◌, ◌∙◌, sym, ap, refl, cond, List, [], ◌∷◌, ◌++◌, Option, Some, None, arith, IfSome, IfNone, eqb, take}
use Rattle.std.specs.Char.{is_ascii_digit}
use Rattle.std.proofs.lemmas.Bool.Decides.{nat_tests}
use Rattle.std.proofs.lemmas.Bool.{eqb-true}
use Rattle.std.proofs.lemmas.Option.{cond_some, same_Some, none-some}
use Rattle.m2m_names.specs.Stamps.{Stamp, is_stamp, moment, two, four, stamp_bytes, is_fraction, IsTimestamp, stamp_of, timestamp, last_moment}
use Rattle.m2m_names.proofs.CalendarLemmas.{date_ranges, days_of_month_bounds}
use Rattle.m2m_names.proofs.StampLemmas.{stamp_parts, stamp_of-moment, moment-stamp_of}
use Rattle.m2m_names.proofs.StepLemmas.{bind_some, bind_again, chosen}
use Rattle.m2m_names.specs.StampReading.{two_at, four_at, past_t, stamp_at, checked_moment, moment_at}

-- ---- two digits

digits_value : (a b : ℕ) → (is_ascii_digit a && is_ascii_digit b) ≡ true → (48 ≤ a) × (a ≤ 57) × (48 ≤ b) × (b ≤ 57)
digits_value a b e = grind (arith, nat_tests)

two_is : (a b n : ℕ) → (is_ascii_digit a && is_ascii_digit b) ≡ true → (a - 48) * 10 + (b - 48) ≡ n → (n < 100) × (48 + n / 10 ≡ a) × (48 + n % 10 ≡ b)
two_is a b n digits e =
    let d = digits_value a b digits in
    (omega (arith, e), omega (arith, e), omega (arith, e))

-- a number was read from its two digits
pub record Takes (spell : ℕ → List ℕ) (limit : ℕ) (bytes : List ℕ) (x : ℕ × List ℕ) : Type 0 where
  pub bound : x.0 < limit
  pub spelled : bytes ≡ spell x.0 ++ x.1

pub two_takes : (bytes : List ℕ) (x : ℕ × List ℕ) → two_at bytes ≡ Some x → Takes two 100 bytes x
two_takes [] x e = let h : None ≡ Some x = e in cc
two_takes (a ∷ []) x e = let h : None ≡ Some x = e in cc
two_takes (a ∷ b ∷ rest) x e =
    let h = cond_some (is_ascii_digit a && is_ascii_digit b) ((a - 48) * 10 + (b - 48), rest) x e in
    let v = two_is a b x.0 h.0 (ap (λ (y : ℕ × List ℕ). y.0) h.1) in
    let tail : rest ≡ x.1 = ap (λ (y : ℕ × List ℕ). y.1) h.1 in
    record { bound = v.0; spelled = rw (v.1, v.2, tail) refl }

digits_again : (n : ℕ) → n < 100 → (is_ascii_digit (48 + n / 10) && is_ascii_digit (48 + n % 10)) ≡ true
digits_again n h = grind (arith, nat_tests)

value_again : (n : ℕ) → n < 100 → (48 + n / 10 - 48) * 10 + (48 + n % 10 - 48) ≡ n
value_again n h = omega arith

-- and two digits are read as their number, whatever follows
pub two_again : (n : ℕ) (rest : List ℕ) → n < 100 → two_at (two n ++ rest) ≡ Some (n, rest)
two_again n rest h = rw (digits_again n h, value_again n h) refl

-- ---- four digits

four_of : (high low n : ℕ) → high * 100 + low ≡ n → low < 100 → four n ≡ two high ++ two low
four_of high low n value small =
    let hundreds : n / 100 ≡ high = omega (arith, value) in
    let units : n % 100 ≡ low = omega (arith, value) in
    rw (hundreds, units) refl

pub four_takes : (bytes : List ℕ) (x : ℕ × List ℕ) → four_at bytes ≡ Some x → Takes four 10_000 bytes x
unfolding four_at
four_takes bytes x e =
    let high = bind_some (two_at bytes) _ x e in
    let first = two_takes bytes high.0 high.1 in
    let low = bind_some (two_at high.0.1) _ x high.2 in
    let second = two_takes high.0.1 low.0 low.1 in
    let same = same_Some _ x low.2 in
    let value : high.0.0 * 100 + low.0.0 ≡ x.0 = ap (λ (y : ℕ × List ℕ). y.0) same in
    let digits = first.spelled ∙ ap (λ t. two high.0.0 ++ t) second.spelled in
    let joined = ap (λ f. f ++ low.0.1) (sym (four_of high.0.0 low.0.0 _ refl second.bound)) in
    record {
      bound = omega (arith, value, first.bound, second.bound);
      spelled = digits ∙ joined ∙ ap (λ (y : ℕ × List ℕ). four y.0 ++ y.1) same;
    }

pub four_again : (n : ℕ) (rest : List ℕ) → n < 10_000 → four_at (four n ++ rest) ≡ Some (n, rest)
unfolding four_at
four_again n rest h =
    let value : n / 100 * 100 + n % 100 ≡ n = omega arith in
    bind_again (two_at (four n ++ rest)) _ (n / 100, two (n % 100) ++ rest) _ (two_again (n / 100) (two (n % 100) ++ rest) (omega arith))
    (bind_again (two_at (two (n % 100) ++ rest)) _ (n % 100, rest) _ (two_again (n % 100) rest (omega arith))
    (ap (λ k. Some (k, rest)) value))

-- ---- the whole

t_takes : (bytes rest : List ℕ) → past_t bytes ≡ Some rest → bytes ≡ 84 ∷ rest
t_takes [] rest e = let h : None ≡ Some rest = e in cc
t_takes (b ∷ bytes) rest e =
    let h = cond_some (eqb b 84) bytes rest e in
    let t : b ≡ 84 = eqb-true b 84 h.0 in
    rw (t, h.1) refl

-- the numbers of a stamp have two digits each, and that of its year four
pub record HasDigits (s : Stamp) : Type 0 where
  pub year : s.year < 10_000
  pub month : s.month < 100
  pub day : s.day < 100
  pub hour : s.hour < 100
  pub minute : s.minute < 100
  pub second : s.second < 100

stamp_takes : (bytes : List ℕ) (x : Stamp × List ℕ) → stamp_at bytes ≡ Some x → bytes ≡ stamp_bytes x.0 ++ x.1
unfolding stamp_at
stamp_takes bytes x e =
    let y = bind_some (four_at bytes) _ x e in
    let m = bind_some (two_at y.0.1) _ x y.2 in
    let d = bind_some (two_at m.0.1) _ x m.2 in
    let t = bind_some (past_t d.0.1) _ x d.2 in
    let h = bind_some (two_at t.0) _ x t.2 in
    let n = bind_some (two_at h.0.1) _ x h.2 in
    let s = bind_some (two_at n.0.1) _ x n.2 in
    let seconds = (two_takes n.0.1 s.0 s.1).spelled in
    let minutes = (two_takes h.0.1 n.0 n.1).spelled ∙ ap (λ r. two n.0.0 ++ r) seconds in
    let hours = (two_takes t.0 h.0 h.1).spelled ∙ ap (λ r. two h.0.0 ++ r) minutes in
    let time = t_takes d.0.1 t.0 t.1 ∙ ap (λ r. 84 ∷ r) hours in
    let days = (two_takes m.0.1 d.0 d.1).spelled ∙ ap (λ r. two d.0.0 ++ r) time in
    let months = (two_takes y.0.1 m.0 m.1).spelled ∙ ap (λ r. two m.0.0 ++ r) days in
    let years = (four_takes bytes y.0 y.1).spelled ∙ ap (λ r. four y.0.0 ++ r) months in
    years ∙ ap (λ (z : Stamp × List ℕ). stamp_bytes z.0 ++ z.1) (same_Some _ x s.2)

stamp_again : (s : Stamp) (rest : List ℕ) → HasDigits s → stamp_at (stamp_bytes s ++ rest) ≡ Some (s, rest)
unfolding stamp_at
stamp_again s rest fits =
    let seconds = two s.second ++ rest in
    let minutes = two s.minute ++ seconds in
    let hours = two s.hour ++ minutes in
    let days = two s.day ++ 84 ∷ hours in
    let months = two s.month ++ days in
    bind_again (four_at (four s.year ++ months)) _ (s.year, months) _ (four_again s.year months fits.year)
    (bind_again (two_at months) _ (s.month, days) _ (two_again s.month days fits.month)
    (bind_again (two_at days) _ (s.day, 84 ∷ hours) _ (two_again s.day (84 ∷ hours) fits.day)
    (bind_again (two_at hours) _ (s.hour, minutes) _ (two_again s.hour minutes fits.hour)
    (bind_again (two_at minutes) _ (s.minute, seconds) _ (two_again s.minute seconds fits.minute)
    (bind_again (two_at seconds) _ (s.second, rest) _ (two_again s.second rest fits.second)
    refl)))))

-- what is read is a timestamp of that moment
pub moment_at-found : (text : List ℕ) (at : ℕ) → moment_at text ≡ Some at → IsTimestamp text at
unfolding moment_at
moment_at-found text at e =
    let s = bind_some (stamp_at text) _ at e in
    let f = chosen (is_fraction s.0.1) (checked_moment s.0.0) at s.2 in
    let m = cond_some (is_stamp s.0.0) (moment s.0.0) at f.1 in
    record {
      stamp = s.0.0;
      fraction = s.0.1;
      is = m.0;
      tail = f.0;
      bytes = stamp_takes text s.0 s.1;
      moment_is = sym m.1;
    }

digits_of : (s : Stamp) → is_stamp s ≡ true → HasDigits s
digits_of s is =
    let p = stamp_parts s is in
    let d = date_ranges s.year s.month s.day p.date in
    record {
      year = omega (arith, d.0.1);
      month = omega (arith, d.1.1);
      day = omega (arith, d.2.1, (days_of_month_bounds s.year s.month).0);
      hour = omega (arith, p.hour);
      minute = omega (arith, p.minute);
      second = omega (arith, p.second);
    }

-- and a timestamp is read as its moment
pub moment_at-only : (text : List ℕ) (at : ℕ) → IsTimestamp text at → moment_at text ≡ Some at
unfolding moment_at
moment_at-only text at h =
    let read : stamp_at text ≡ Some (h.stamp, h.fraction) = ap stamp_at h.bytes ∙ stamp_again h.stamp h.fraction (digits_of h.stamp h.is) in
    let value : Some (moment h.stamp) ≡ Some at = ap (λ k. Some k) (sym h.moment_is) in
    let checked : checked_moment h.stamp ≡ Some at = ap (λ b. cond b (Some (moment h.stamp)) None) h.is ∙ value in
    bind_again (stamp_at text) _ (h.stamp, h.fraction) _ read (ap (λ b. cond b (checked_moment h.stamp) None) h.tail ∙ checked)

-- what stands for a moment is a timestamp of it
pub timestamp_is : (at : ℕ) → at ≤ last_moment → IsTimestamp (timestamp at) at
timestamp_is at last =
    let h = stamp_of-moment at last in
    record {
      stamp = stamp_of at;
      fraction = [];
      is = h.is;
      tail = refl;
      bytes = refl;
      moment_is = sym h.moment_is;
    }

take_front : (s : Stamp) (rest : List ℕ) → take 15 (stamp_bytes s ++ rest) ≡ stamp_bytes s
take_front s rest = refl

-- a timestamp begins with what stands for its moment, which is in range
pub timestamp_front : (text : List ℕ) (at : ℕ) → IsTimestamp text at → (at ≤ last_moment) × (take 15 text ≡ timestamp at)
timestamp_front text at h =
    let s = moment-stamp_of h.stamp h.is in
    let front : take 15 text ≡ stamp_bytes h.stamp = ap (take 15) h.bytes ∙ take_front h.stamp h.fraction in
    (rw h.moment_is s.last, rw h.moment_is (front ∙ sym (ap stamp_bytes s.stamp_is)))

-- what stands for a moment is read as that moment
pub moment_at-timestamp : (text : List ℕ) (at : ℕ) → at ≤ last_moment → text ≡ timestamp at → moment_at text ≡ Some at
moment_at-timestamp text at last same = ap moment_at same ∙ moment_at-only (timestamp at) at (timestamp_is at last)

-- ---- the answer of a call

pub read_found : (text : List ℕ) (r : Option ℕ) → r ≡ moment_at text → IfSome r (IsTimestamp text)
read_found text None is = tt
read_found text (Some at) is = moment_at-found text at (sym is)

pub read_none : (text : List ℕ) (r : Option ℕ) → r ≡ moment_at text → IfNone r ((at : ℕ) → IsTimestamp text at → ⊥)
read_none text None is = λ at h. none-some at (is ∙ moment_at-only text at h)
read_none text (Some at) is = tt

pub read_last : (text : List ℕ) (r : Option ℕ) → r ≡ moment_at text → IfSome r (λ at. at ≤ last_moment)
read_last text None is = tt
read_last text (Some at) is = (timestamp_front text at (moment_at-found text at (sym is))).0

pub read_front : (text : List ℕ) (r : Option ℕ) → r ≡ moment_at text → IfSome r (λ at. take 15 text ≡ timestamp at)
read_front text None is = tt
read_front text (Some at) is = (timestamp_front text at (moment_at-found text at (sym is))).1
