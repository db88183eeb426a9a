-- The segments of an address, by the parts of its text.
use Rattle.std.specs.Prelude.{bytes_eq, nat_eq, nat_lt, drop, is_ok}
use Rattle.std.proofs.Common.{◌≡◌, ℕ, true, false, List, [], ◌∷◌, codes, length, Option, Some, None, Result, Ok, Err, inl, inr, refl, sym, ap, ◌∙◌}
use Rattle.std.specs.List.{starts_with}
use Rattle.std.specs.Option.{option_and_then}
use Rattle.std.proofs.lemmas.Bool.{cases_Bool, false≢true}
use Rattle.std.proofs.lemmas.Option.{same_Some}
use Rattle.m2m_names.specs.Name.{is_name}
use Rattle.m2m_names.specs.Urls.{point_limit}
use Rattle.resource_model.specs.Home.{HomeData}
use Rattle.addressing.specs.Addresses.{address_of, are_names, between_slashes, by_names, cut_at, of_provider, shaped, under, unless_shapeless}
use Rattle.addressing.proofs.ReadLemmas.{parts_alone, parts_cut}
use Rattle.addressing.specs.declared.addr.Addr.{Addr}
use Rattle.addressing.specs.declared.addr.Addr.TheVariants.{Local, Foreign, OtherProvider}
use Rattle.addressing.specs.declared.addr.AddrFault.{AddrFault}
use Rattle.accepted_requests.specs.Here.{own_parts, parts_here, provided_parts}
use Rattle.accepted_requests.specs.Names.{is_here, number_in, number_named}

-- the segments of an address of this CSE
abbrev pub local_parts : Addr → Option (List (List ℕ))
local_parts (Local segments) = Some segments
local_parts (Foreign text) = None
local_parts OtherProvider = None

-- where a shape is an address, these are its segments
abbrev AreParts : Option (List (List ℕ)) → Option Addr → Type 0
AreParts parts None = Unit {0}
AreParts parts (Some addr) = parts ≡ local_parts addr

under_parts : (home : HomeData) (rest : List ℕ) (parts : List (List ℕ)) → AreParts (own_parts home parts) (under home rest parts)
under_parts home rest [] = tt
under_parts home rest (csi ∷ segments) = elim (cases_Bool (are_names (csi ∷ segments))) [
  | inr f ↦ rw f tt
  | inl t ↦ elim (cases_Bool (bytes_eq csi home.csi)) [
    | inl own ↦ rw (t, own) refl
    | inr other ↦ rw (t, other) refl
  ]
]

provider_parts : (home : HomeData) (sp behind : List ℕ) → AreParts (provided_parts home (sp, behind)) (of_provider home sp behind)
provider_parts home sp behind = elim (cases_Bool (is_name sp)) [
  | inr f ↦ rw f tt
  | inl t ↦ elim (cases_Bool (bytes_eq sp home.sp)) [
    | inl own ↦ rw (t, own) (under_parts home behind (between_slashes behind))
    | inr other ↦ elim (cases_Bool (are_names (between_slashes behind))) [
      | inr f ↦ rw (t, other, f) tt
      | inl names ↦ rw (t, other, names) refl
    ]
  ]
]

cut_parts : (home : HomeData) (cut : Option (List ℕ × List ℕ)) → AreParts (option_and_then (provided_parts home) cut) (option_and_then (λ (c : List ℕ × List ℕ). of_provider home c.0 c.1) cut)
cut_parts home None = tt
cut_parts home (Some c) = provider_parts home c.0 c.1

plain_parts : (text : List ℕ) → AreParts (Some (between_slashes text)) (by_names text)
plain_parts text = elim (cases_Bool (are_names (between_slashes text))) [
  | inr f ↦ rw f tt
  | inl t ↦ rw t refl
]

shaped_parts : (home : HomeData) (text : List ℕ) → AreParts (parts_here home text) (shaped home text)
shaped_parts home text = elim (cases_Bool (starts_with nat_eq text (codes "//"))) [
  | inl t ↦ rw t (cut_parts home (cut_at (drop 2 text)))
  | inr f ↦ elim (cases_Bool (starts_with nat_eq text (codes "/"))) [
    | inl t ↦ rw (f, t) (under_parts home (drop 1 text) (between_slashes (drop 1 text)))
    | inr g ↦ rw (f, g) (plain_parts text)
  ]
]

-- ---- of an address that was read

abbrev HasParts : Option (List (List ℕ)) → Result Addr AddrFault → Type 0
HasParts parts (Ok addr) = parts ≡ local_parts addr
HasParts parts (Err fault) = Unit {0}

shape_parts : (parts : Option (List (List ℕ))) (shape : Option Addr) → AreParts parts shape → HasParts parts (unless_shapeless shape)
shape_parts parts None are = tt
shape_parts parts (Some addr) are = are

address_parts : (home : HomeData) (text : List ℕ) → HasParts (parts_here home text) (address_of home text)
address_parts home text = elim (cases_Bool (nat_lt point_limit (length text))) [
  | inl t ↦ rw t tt
  | inr f ↦ rw f (shape_parts (parts_here home text) (shaped home text) (shaped_parts home text))
]

-- whether there are parts tells whether it is of this CSE, and they tell the number
abbrev here_by : Option (List (List ℕ)) → Option ℕ
here_by None = None
here_by (Some parts) = number_named parts

pub here_none : (a : Result Addr AddrFault) → is_ok a ≡ true → HasParts None a → is_here a ≡ false
here_none (Ok (Local segments)) ok has = let none : None ≡ Some segments = has in cc
here_none (Ok (Foreign text)) ok has = refl
here_none (Ok OtherProvider) ok has = refl
here_none (Err fault) ok has = absurd (false≢true ok)

pub here_some : (parts : List (List ℕ)) (a : Result Addr AddrFault) → is_ok a ≡ true → HasParts (Some parts) a → is_here a ≡ true
here_some parts (Ok (Local segments)) ok has = refl
here_some parts (Ok (Foreign text)) ok has = let none : Some parts ≡ None = has in cc
here_some parts (Ok OtherProvider) ok has = let none : Some parts ≡ None = has in cc
here_some parts (Err fault) ok has = absurd (false≢true ok)

number_none : (a : Result Addr AddrFault) → is_ok a ≡ true → HasParts None a → number_in a ≡ None
number_none (Ok (Local segments)) ok has = let none : None ≡ Some segments = has in cc
number_none (Ok (Foreign text)) ok has = refl
number_none (Ok OtherProvider) ok has = refl
number_none (Err fault) ok has = absurd (false≢true ok)

number_some : (parts : List (List ℕ)) (a : Result Addr AddrFault) → is_ok a ≡ true → HasParts (Some parts) a → number_in a ≡ number_named parts
number_some parts (Ok (Local segments)) ok has = ap number_named (sym (same_Some parts segments has))
number_some parts (Ok (Foreign text)) ok has = let none : Some parts ≡ None = has in cc
number_some parts (Ok OtherProvider) ok has = let none : Some parts ≡ None = has in cc
number_some parts (Err fault) ok has = absurd (false≢true ok)

-- ---- of a text

has_parts : (home : HomeData) (text : List ℕ) (parts : Option (List (List ℕ))) → parts ≡ parts_here home text → HasParts parts (address_of home text)
has_parts home text parts is = rw is (address_parts home text)

pub is_elsewhere : (home : HomeData) (text : List ℕ) → None ≡ parts_here home text → is_ok (address_of home text) ≡ true → false ≡ is_here (address_of home text)
is_elsewhere home text is ok = sym (here_none (address_of home text) ok (has_parts home text None is))

pub is_of_this : (home : HomeData) (text : List ℕ) (parts : List (List ℕ)) → Some parts ≡ parts_here home text → is_ok (address_of home text) ≡ true → true ≡ is_here (address_of home text)
is_of_this home text parts is ok = sym (here_some parts (address_of home text) ok (has_parts home text (Some parts) is))

pub names_none : (home : HomeData) (text : List ℕ) → None ≡ parts_here home text → is_ok (address_of home text) ≡ true → None ≡ number_in (address_of home text)
names_none home text is ok = sym (number_none (address_of home text) ok (has_parts home text None is))

pub names_number : (home : HomeData) (text : List ℕ) (parts : List (List ℕ)) (n : Option ℕ) → Some parts ≡ parts_here home text → n ≡ number_named parts → is_ok (address_of home text) ≡ true → n ≡ number_in (address_of home text)
names_number home text parts n is named ok = named ∙ sym (number_some parts (address_of home text) ok (has_parts home text (Some parts) is))

-- two segments and more name no accepted request
more_parts : (segment text : List ℕ) (cut : Option (List ℕ × List ℕ)) → cut ≡ cut_at text → None ≡ number_named (segment ∷ between_slashes text)
more_parts segment text None is = sym (ap (λ (parts : List (List ℕ)). number_named (segment ∷ parts)) (parts_alone text is))
more_parts segment text (Some cut) is = sym (ap (λ (parts : List (List ℕ)). number_named (segment ∷ parts)) (parts_cut text cut is))

pub names_more : (segment text : List ℕ) → None ≡ number_named (segment ∷ between_slashes text)
names_more segment text = more_parts segment text (cut_at text) refl
