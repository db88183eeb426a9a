-- What the tests of a home say.
use Rattle.std.proofs.Common.{◌≡◌, ℕ, List, Bool, true, false, not, ◌||◌, Option, Some, None, if◌then◌else◌, refl}
use Rattle.std.proofs.lemmas.Bool.{and_parts, or_parts, not-true}
use Rattle.m2m_names.specs.Name.{is_free_name, is_originator, is_resource_id, is_request_id}
use Rattle.resource_model.specs.Home.{HomeData, IsHome, is_base_name, is_cse_type}

-- a name of the CSEBase
pub record IsBaseName (text : List ℕ) : Type 0 where
  pub free : is_free_name text ≡ true
  pub no_id : is_resource_id text ≡ false
  pub no_request : is_request_id text ≡ false

pub base_name_parts : (text : List ℕ) → is_base_name text ≡ true → IsBaseName text
base_name_parts text is =
    let parts = and_parts (is_free_name text) (not (is_resource_id text || is_request_id text)) is in
    let none = or_parts (is_resource_id text) (is_request_id text) (not-true _ parts.1) in
    record { free = parts.0; no_id = none.0; no_request = none.1 }

-- each part of a home is admitted
pub record IsAdmittedHome (home : HomeData) : Type 0 where
  pub sp : is_free_name home.sp ≡ true
  pub csi : is_free_name home.csi ≡ true
  pub base : is_base_name home.base ≡ true
  pub cst : is_cse_type home.cst ≡ true
  pub admin : is_originator home.admin ≡ true

none_bad : (n : ℕ) → Some n ≡ None → ⊥
none_bad n e = cc

-- the place of the first that doesn't hold
abbrev first_false : Bool → Bool → Bool → Bool → Bool → Option ℕ
first_false a b c d e = if not a then Some 0 else if not b then Some 1 else if not c then Some 2 else if not d then Some 3 else if not e then Some 4 else None

record AllHold (a b c d e : Bool) : Type 0 where
  one : a ≡ true
  two : b ≡ true
  three : c ≡ true
  four : d ≡ true
  five : e ≡ true

all_hold : (a b c d e : Bool) → first_false a b c d e ≡ None → AllHold a b c d e
all_hold true true true true true none = record { one = refl; two = refl; three = refl; four = refl; five = refl }
all_hold true true true true false none = absurd (none_bad 4 none)
all_hold true true true false e none = absurd (none_bad 3 none)
all_hold true true false d e none = absurd (none_bad 2 none)
all_hold true false c d e none = absurd (none_bad 1 none)
all_hold false b c d e none = absurd (none_bad 0 none)

pub home_parts : (home : HomeData) → IsHome home → IsAdmittedHome home
home_parts home is =
    let all = all_hold (is_free_name home.sp) (is_free_name home.csi) (is_base_name home.base) (is_cse_type home.cst) (is_originator home.admin) is.admitted in
    record { sp = all.one; csi = all.two; base = all.three; cst = all.four; admin = all.five }
