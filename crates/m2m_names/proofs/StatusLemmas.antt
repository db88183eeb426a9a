-- The table of status codes, and the numbers outside it.
use Rattle.std.proofs.Common.{◌≡◌, ℕ, ◌∙◌, sym, ap, subst, Bool, true, false, ◌||◌, cond, List, [], ◌∷◌, Option, Some, None, refl, IsTrue, IfSome, ◌<◌, eqb, inl, inr, lit≤, arith}
use Rattle.std.specs.Prelude.{◌==◌}
use Rattle.std.specs.List.{list_any, find}
use Rattle.std.specs.Int.{IsInRange, is_in_range}
use Rattle.std.proofs.lemmas.Bool.{and_parts, cases_Bool, eqb-true, not-true}
use Rattle.std.proofs.lemmas.Option.{same_Some}
use Rattle.std.specs.Option.{option_or}
use Rattle.std.proofs.Props.{props}
use mathlib.Core.HLevel.{is_prop→PathP}
use Rattle.m2m_names.proofs.LookupLemmas.{find_passes}
use Rattle.m2m_names.proofs.NameLemmas.{range_parts}
use Rattle.m2m_names.specs.StatusNumbers.{least_code, greatest_code, named_numbers, is_other}
use Rattle.m2m_names.specs.declared.codes.OtherNumber.{OtherNumber}
use Rattle.m2m_names.specs.declared.codes.Rsc.{Rsc}
use Rattle.m2m_names.specs.declared.codes.Rsc.TheVariants.{Accepted, Ok as Fine, Created, Deleted, Updated, BadRequest, NotFound, NotAllowed, RequestTimeout, NoPrivilege, Conflict, BadChild, Internal, NotImplemented, NotReachable, NotSubscribable, NonBlocking, NotAcceptable, TooManyMembers, WrongMember, Other}
use Rattle.m2m_names.specs.StatusCodes.{rsc_row, http_status_of_other, named_codes, named_code, other_code, rsc_of_number}

none_step : {X : Type 0} (x : X) (here rest : Bool) (found : Option X) → (rest ≡ false → found ≡ None) → (here || rest) ≡ false → cond here (Some x) found ≡ None
none_step x true rest found later e = let h : true ≡ false = e in cc
none_step x false rest found later e = later e

-- where no element passes, none is found
pub find_none : {X : Type 0} (p : X → Bool) (xs : List X) → list_any p xs ≡ false → find p xs ≡ None
find_none p [] e = refl
find_none p (x ∷ xs) e = none_step x (p x) (list_any p xs) (find p xs) (find_none p xs) e

any_step : {X : Type 0} (x : X) (here rest : Bool) (found : Option X) → (found ≡ None → rest ≡ false) → cond here (Some x) found ≡ None → (here || rest) ≡ false
any_step x true rest found later e = let h : Some x ≡ None = e in cc
any_step x false rest found later e = later e

-- and the other way round
any_none : {X : Type 0} (p : X → Bool) (xs : List X) → find p xs ≡ None → list_any p xs ≡ false
any_none p [] e = refl
any_none p (x ∷ xs) e = any_step x (p x) (list_any p xs) (find p xs) (any_none p xs) e

-- what is said of a number that no named code has
pub record IsOther (n : ℕ) : Type 0 where
  pub range : IsInRange least_code greatest_code n
  pub unnamed : list_any (λ m. m == n) named_numbers ≡ false

pub other_parts : (n : ℕ) → is_other n ≡ true → IsOther n
other_parts n other =
    let parts = and_parts (is_in_range least_code greatest_code n) _ other in
    record { range = range_parts least_code greatest_code n parts.0; unnamed = not-true _ parts.1 }

-- and such a number has no code with a name
pub unnamed_where : (n : ℕ) → IsTrue (is_other n) → named_code n ≡ None
unnamed_where n other = find_none (λ r. eqb (rsc_row r).number n) named_codes (other_parts n other).unnamed

-- there is one value for each other number
pub same_other : (a b : OtherNumber) → a.number ≡ b.number → a ≡ b
same_other a b p =
    λ i. record {
      number = p i;
      outside = is_prop→PathP (λ j. IsTrue (is_other (p j))) (λ j. hlevel props) a.outside b.outside i;
    }

pub other_code-true : (n : ℕ) (b : Bool) (known : IsTrue b → IsTrue (is_other n)) (o : OtherNumber) → o.number ≡ n → b ≡ true → other_code n b known ≡ Some (Other o)
other_code-true n true known o same e = ap (λ x. Some (Other x)) (same_other _ o (sym same))
other_code-true n false known o same e = let h : false ≡ true = e in cc

-- an other number is found as such
pub other_again : (o : OtherNumber) (n : ℕ) → o.number ≡ n → named_code n ≡ None → rsc_of_number n ≡ Some (Other o)
other_again o n same none =
    let P : Option Rsc → Type 0 = λ found. option_or found (other_code n (is_other n) (λ h. h)) ≡ Some (Other o) in
    subst P (sym none) (other_code-true n (is_other n) (λ h. h) o same (ap is_other (sym same) ∙ o.outside))

-- each status code is found at its number
pub rsc_again : (r : Rsc) → rsc_of_number (rsc_row r).number ≡ Some r
rsc_again Accepted = refl
rsc_again Fine = refl
rsc_again Created = refl
rsc_again Deleted = refl
rsc_again Updated = refl
rsc_again BadRequest = refl
rsc_again NotFound = refl
rsc_again NotAllowed = refl
rsc_again RequestTimeout = refl
rsc_again NoPrivilege = refl
rsc_again Conflict = refl
rsc_again BadChild = refl
rsc_again Internal = refl
rsc_again NotImplemented = refl
rsc_again NotReachable = refl
rsc_again NotSubscribable = refl
rsc_again NonBlocking = refl
rsc_again NotAcceptable = refl
rsc_again TooManyMembers = refl
rsc_again WrongMember = refl
rsc_again (Other o) = other_again o o.number refl (unnamed_where o.number o.outside)

-- ---- how many digits the numbers have

other_three : (n : ℕ) → IsInRange 100 999 (http_status_of_other n)
other_three n = elim (cases_Bool (is_in_range 2000 2999 n)) [
  | inl fine ↦ rw fine (lit≤ tt, lit≤ tt)
  | inr other ↦ elim (cases_Bool (is_in_range 4000 4999 n)) [
    | inl bad ↦ rw (other, bad) (lit≤ tt, lit≤ tt)
    | inr neither ↦ rw (other, neither) (lit≤ tt, lit≤ tt)
  ]
]

-- a status number has four digits
pub number_in_range : (r : Rsc) → IsInRange 1000 9999 (rsc_row r).number
number_in_range Accepted = (lit≤ tt, lit≤ tt)
number_in_range Fine = (lit≤ tt, lit≤ tt)
number_in_range Created = (lit≤ tt, lit≤ tt)
number_in_range Deleted = (lit≤ tt, lit≤ tt)
number_in_range Updated = (lit≤ tt, lit≤ tt)
number_in_range BadRequest = (lit≤ tt, lit≤ tt)
number_in_range NotFound = (lit≤ tt, lit≤ tt)
number_in_range NotAllowed = (lit≤ tt, lit≤ tt)
number_in_range RequestTimeout = (lit≤ tt, lit≤ tt)
number_in_range NoPrivilege = (lit≤ tt, lit≤ tt)
number_in_range Conflict = (lit≤ tt, lit≤ tt)
number_in_range BadChild = (lit≤ tt, lit≤ tt)
number_in_range Internal = (lit≤ tt, lit≤ tt)
number_in_range NotImplemented = (lit≤ tt, lit≤ tt)
number_in_range NotReachable = (lit≤ tt, lit≤ tt)
number_in_range NotSubscribable = (lit≤ tt, lit≤ tt)
number_in_range NonBlocking = (lit≤ tt, lit≤ tt)
number_in_range NotAcceptable = (lit≤ tt, lit≤ tt)
number_in_range TooManyMembers = (lit≤ tt, lit≤ tt)
number_in_range WrongMember = (lit≤ tt, lit≤ tt)
number_in_range (Other o) = (other_parts o.number o.outside).range

-- a status code that is found at a number has it
other_at : (n : ℕ) (b : Bool) (known : IsTrue b → IsTrue (is_other n)) (r : Rsc) → other_code n b known ≡ Some r → (rsc_row r).number ≡ n
other_at n true known r e = ap (λ (q : Rsc). (rsc_row q).number) (sym (same_Some _ r e))
other_at n false known r e = let h : None ≡ Some r = e in cc

named_at : (n : ℕ) (r : Rsc) → named_code n ≡ Some r → (rsc_row r).number ≡ n
named_at n r is =
    let p : Rsc → Bool = λ q. eqb (rsc_row q).number n in
    let P : Option Rsc → Type 0 = λ o. IfSome o (λ q. p q ≡ true) in
    eqb-true (rsc_row r).number n (subst P is (find_passes p named_codes))

code_at : (n : ℕ) (o : Option Rsc) → named_code n ≡ o → (r : Rsc) → option_or o (other_code n (is_other n) (λ h. h)) ≡ Some r → (rsc_row r).number ≡ n
code_at n None is r e = other_at n (is_other n) (λ h. h) r e
code_at n (Some q) is r e = named_at n r (is ∙ e)

-- so none is found at a greater number
pub none_beyond : (n : ℕ) → greatest_code < n → rsc_of_number n ≡ None
none_beyond n big = by_found (rsc_of_number n) refl
  where
    by_found : (o : Option Rsc) → rsc_of_number n ≡ o → rsc_of_number n ≡ None
    by_found None is = is
    by_found (Some r) is =
        let range = number_in_range r in
        let same : (rsc_row r).number ≡ n = code_at n (named_code n) refl r is in
        absurd (omega (arith, range.1, same, big))

-- and an HTTP status three
pub http_in_range : (r : Rsc) → IsInRange 100 999 (rsc_row r).http
http_in_range Accepted = (lit≤ tt, lit≤ tt)
http_in_range Fine = (lit≤ tt, lit≤ tt)
http_in_range Created = (lit≤ tt, lit≤ tt)
http_in_range Deleted = (lit≤ tt, lit≤ tt)
http_in_range Updated = (lit≤ tt, lit≤ tt)
http_in_range BadRequest = (lit≤ tt, lit≤ tt)
http_in_range NotFound = (lit≤ tt, lit≤ tt)
http_in_range NotAllowed = (lit≤ tt, lit≤ tt)
http_in_range RequestTimeout = (lit≤ tt, lit≤ tt)
http_in_range NoPrivilege = (lit≤ tt, lit≤ tt)
http_in_range Conflict = (lit≤ tt, lit≤ tt)
http_in_range BadChild = (lit≤ tt, lit≤ tt)
http_in_range Internal = (lit≤ tt, lit≤ tt)
http_in_range NotImplemented = (lit≤ tt, lit≤ tt)
http_in_range NotReachable = (lit≤ tt, lit≤ tt)
http_in_range NotSubscribable = (lit≤ tt, lit≤ tt)
http_in_range NonBlocking = (lit≤ tt, lit≤ tt)
http_in_range NotAcceptable = (lit≤ tt, lit≤ tt)
http_in_range TooManyMembers = (lit≤ tt, lit≤ tt)
http_in_range WrongMember = (lit≤ tt, lit≤ tt)
http_in_range (Other o) = other_three o.number
