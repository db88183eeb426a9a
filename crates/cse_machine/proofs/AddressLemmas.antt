-- The segments of an address that was read are names.
use Rattle.std.specs.Prelude.{bytes_eq, nat_eq, nat_lt, drop}
use Rattle.std.proofs.Common.{◌≡◌, ℕ, zero, suc, true, List, [], ◌∷◌, codes, length, Option, Some, None, Result, Ok, inl, inr, refl, ap}
use Rattle.std.specs.List.{starts_with}
use Rattle.std.specs.Option.{option_and_then}
use Rattle.std.proofs.lemmas.Bool.{cases_Bool}
use Rattle.m2m_names.specs.Name.{is_name}
use Rattle.m2m_names.specs.Urls.{point_limit}
use Rattle.resource_model.specs.Home.{HomeData}
use Rattle.addressing.specs.Addresses.{address_of, are_names, between_slashes, by_names, cut_at, of_provider, shaped, under, unless_shapeless}
use Rattle.addressing.specs.Names.{segments_of}
use Rattle.addressing.specs.declared.addr.Addr.{Addr}
use Rattle.addressing.specs.declared.addr.AddrFault.{AddrFault}
use Rattle.addressing.proofs.PartLemmas.{names_parts}
use Rattle.group_fanout.specs.Fan.{rest_of, segments_in}

-- ---- of an address

abbrev HasNames : Option Addr → Type 0
HasNames None = Unit {0}
HasNames (Some addr) = are_names (segments_of addr) ≡ true

under_names : (home : HomeData) (rest : List ℕ) (parts : List (List ℕ)) → HasNames (under home rest parts)
under_names home rest [] = tt
under_names home rest (csi ∷ segments) = elim (cases_Bool (are_names (csi ∷ segments))) [
  | inr f ↦ rw f tt
  | inl t ↦ elim (cases_Bool (bytes_eq csi home.csi)) [
    | inl own ↦ rw (t, own) ((names_parts csi segments t).rest)
    | inr other ↦ rw (t, other) refl
  ]
]

provider_names : (home : HomeData) (sp behind : List ℕ) → HasNames (of_provider home sp behind)
provider_names home sp behind = elim (cases_Bool (is_name sp)) [
  | inr f ↦ rw f tt
  | inl t ↦ elim (cases_Bool (bytes_eq sp home.sp)) [
    | inl own ↦ rw (t, own) (under_names home behind (between_slashes behind))
    | inr other ↦ elim (cases_Bool (are_names (between_slashes behind))) [
      | inr f ↦ rw (t, other, f) tt
      | inl names ↦ rw (t, other, names) refl
    ]
  ]
]

cut_names : (home : HomeData) (cut : Option (List ℕ × List ℕ)) → HasNames (option_and_then (λ (c : List ℕ × List ℕ). of_provider home c.0 c.1) cut)
cut_names home None = tt
cut_names home (Some c) = provider_names home c.0 c.1

plain_names : (text : List ℕ) → HasNames (by_names text)
plain_names text = elim (cases_Bool (are_names (between_slashes text))) [
  | inr f ↦ rw f tt
  | inl t ↦ rw t t
]

shaped_names : (home : HomeData) (text : List ℕ) → HasNames (shaped home text)
shaped_names home text = elim (cases_Bool (starts_with nat_eq text (codes "//"))) [
  | inl t ↦ rw t (cut_names home (cut_at (drop 2 text)))
  | inr f ↦ elim (cases_Bool (starts_with nat_eq text (codes "/"))) [
    | inl t ↦ rw (f, t) (under_names home (drop 1 text) (between_slashes (drop 1 text)))
    | inr g ↦ rw (f, g) (plain_names text)
  ]
]

-- of a text
abbrev AreNamesIn : Result Addr AddrFault → Type 0
AreNamesIn a = are_names (segments_in a) ≡ true

shape_names : (shape : Option Addr) → HasNames shape → AreNamesIn (unless_shapeless shape)
shape_names None names = refl
shape_names (Some addr) names = names

address_names : (home : HomeData) (text : List ℕ) → AreNamesIn (address_of home text)
address_names home text = elim (cases_Bool (nat_lt point_limit (length text))) [
  | inl t ↦ rw t refl
  | inr f ↦ rw f (shape_names (shaped home text) (shaped_names home text))
]

-- ---- from a place on

names_from : (segments : List (List ℕ)) (place : ℕ) → are_names segments ≡ true → are_names (drop place segments) ≡ true
names_from [] zero names = refl
names_from [] (suc place) names = refl
names_from (s ∷ segments) zero names = names
names_from (s ∷ segments) (suc place) names = names_from segments place (names_parts s segments names).rest

pub rest_names : (home : HomeData) (text : List ℕ) (place : ℕ) → are_names (rest_of home text place) ≡ true
rest_names home text place = names_from (segments_in (address_of home text)) place (address_names home text)

-- the rest is what an address has from there on
pub rest_is : (home : HomeData) (text : List ℕ) (place : ℕ) (addr : Addr) → address_of home text ≡ Ok addr → rest_of home text place ≡ drop place (segments_of addr)
rest_is home text place addr is = ap (λ (a : Result Addr AddrFault). drop place (segments_in a)) is
