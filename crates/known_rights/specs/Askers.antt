-- An originator at a home, by its full form.
use Rattle.std.specs.Prelude.{◌≡◌, ℕ, nat_eq, Bool, List, ◌++◌, length, drop, codes}
use Rattle.std.specs.List.{starts_with}
use Rattle.resource_model.specs.Home.{HomeData}
use Rattle.policy_eval.specs.Originators.{full_form, own_lead}

-- who asks, and where
pub record AskerData : Type 0 where
  pub home : HomeData
  pub originator : List ℕ

-- The originator at the home.
abbrev pub asker_of : HomeData → List ℕ → AskerData
asker_of home originator = record { home = home; originator = originator }

-- what the full forms of this CSE's own begin with: a slash, its CSE-ID and a slash
abbrev pub own_start : HomeData → List ℕ
own_start home = codes "/" ++ own_lead home

-- this is the full form of who asks; it is one of this CSE's own or not, and this stands in it
-- behind as many bytes as those begin with
pub record IsFormOf (asker : AskerData) (form : List ℕ) (is_own : Bool) (own : List ℕ) : Type 0
  where
    pub full : form ≡ full_form asker.home asker.originator
    pub starts : is_own ≡ starts_with nat_eq form (own_start asker.home)
    pub rest : own ≡ drop (length (own_start asker.home)) form
