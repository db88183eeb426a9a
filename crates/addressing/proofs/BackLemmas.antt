-- What an address that was read prints as is read as the same address.
use Rattle.std.specs.Prelude.{bytes_eq, drop, nat_eq, nat_lt}
use Rattle.std.proofs.Common.{◌≡◌, ℕ, ◌+◌, ◌≤◌, Bool, true, false, cond, List, [], ◌∷◌, codes, length, Option, Some, None, Result, Ok, Err, inl, inr, refl, sym, ap, subst, ◌∙◌, arith}
use Rattle.std.specs.List.{after_first, before_first, list_all, position_or_len, starts_with}
use Rattle.std.specs.Option.{option_and_then}
use Rattle.std.proofs.lemmas.Bool.{and_from, and_parts, both_ways, cases_Bool, ltb-false, ltb-true, eqb-false, false_from_ne_true, ne_eqb}
use Rattle.std.proofs.lemmas.List.{length-append, length-drop}
use Rattle.std.proofs.lemmas.Option.{same_Some}
use Rattle.std.proofs.lemmas.Slice.Eq.{bytes_eq-Decides}
use Rattle.m2m_names.specs.Name.{is_name, is_unreserved}
use Rattle.resource_model.specs.Home.{HomeData, IsHome}
use Rattle.addressing.specs.declared.addr.Addr.{Addr}
use Rattle.addressing.specs.declared.addr.Addr.TheVariants.{Local, Foreign, OtherProvider}
use Rattle.addressing.specs.declared.addr.AddrFault.{AddrFault}
use Rattle.addressing.specs.declared.addr.AddrFault.TheVariants.{TooLong, Shape}
use Rattle.m2m_names.specs.Urls.{point_limit}
use Rattle.addressing.specs.Addresses.{KeepsText, address_of, are_names, by_cse, by_names, by_provider, cut_at, is_slash, joined, of_provider, between_slashes, printed, shaped, under, unless_shapeless}
use Rattle.addressing.proofs.PartLemmas.{joined-between_slashes, no_slash, between_slashes-joined, names_parts}
use Rattle.m2m_names.proofs.NameLemmas.{free_name_parts, name_parts, starts_rest}
use Rattle.resource_model.proofs.HomeLemmas.{home_parts}

-- ---- a name is no empty text, and doesn't begin with a slash

abbrev pub BeginsPlain : List ℕ → Type 0
BeginsPlain [] = ⊥
BeginsPlain (b ∷ text) = is_slash b ≡ false

name_begins : (name : List ℕ) → is_name name ≡ true → BeginsPlain name
name_begins [] is = both_ways (is_name []) refl is
name_begins (b ∷ name) is =
    no_slash b (and_parts (is_unreserved b) (list_all is_unreserved name) (name_parts (b ∷ name) is).unreserved).0

joined_begins : (name : List ℕ) (names : List (List ℕ)) → is_name name ≡ true → BeginsPlain (joined (name ∷ names))
joined_begins [] names is = absurd (name_begins [] is)
joined_begins (b ∷ name) [] is = name_begins (b ∷ name) is
joined_begins (b ∷ name) (next ∷ names) is = name_begins (b ∷ name) is

no_lead : (text more : List ℕ) → BeginsPlain text → starts_with nat_eq text (47 ∷ more) ≡ false
no_lead [] more begins = absurd begins
no_lead (b ∷ text) more begins = rw (ne_eqb 47 b (λ e. eqb-false b 47 begins (sym e))) refl

shaped-plain : (home : HomeData) (text : List ℕ) → BeginsPlain text → shaped home text ≡ by_names text
shaped-plain home text begins = rw (no_lead text (47 ∷ []) begins, no_lead text [] begins) refl

shaped-slash : (home : HomeData) (rest : List ℕ) → BeginsPlain rest → shaped home (47 ∷ rest) ≡ by_cse home rest
shaped-slash home [] begins = absurd begins
shaped-slash home (b ∷ rest) begins = rw (ne_eqb 47 b (λ e. eqb-false b 47 begins (sym e))) refl

-- ---- a text of an address is no longer than one

shown : (home : HomeData) (text : List ℕ) (a : Addr) → length text ≤ point_limit → shaped home text ≡ Some a → address_of home text ≡ Ok a
shown home text a short is =
    ap (λ b. cond b (Err TooLong) (unless_shapeless (shaped home text))) (false_from_ne_true _ (λ long. omega (arith, short, ltb-true point_limit (length text) long)))
    ∙ ap unless_shapeless is

-- segments with slashes between them are read as these segments
pub joined_back : (home : HomeData) (name : List ℕ) (names : List (List ℕ)) → are_names (name ∷ names) ≡ true → length (joined (name ∷ names)) ≤ point_limit → address_of home (joined (name ∷ names)) ≡ Ok (Local (name ∷ names))
joined_back home name names are short =
    let parts : between_slashes (joined (name ∷ names)) ≡ name ∷ names = between_slashes-joined name names are in
    shown home (joined (name ∷ names)) (Local (name ∷ names)) short
    (shaped-plain home (joined (name ∷ names)) (joined_begins name names (names_parts name names are).first)
    ∙ ap (λ ps. cond (are_names ps) (Some (Local ps)) None) parts ∙ ap (λ b. cond b (Some (Local (name ∷ names))) None) are)

-- own CSE-ID alone is read as no segment
alone_back : (home : HomeData) → is_name home.csi ≡ true → address_of home (47 ∷ home.csi) ≡ Ok (Local [])
alone_back home name =
    let size : length home.csi ≤ 64 = (name_parts home.csi name).filled.most in
    let parts : between_slashes home.csi ≡ home.csi ∷ [] = between_slashes-joined home.csi [] (and_from _ _ name refl) in
    shown home (47 ∷ home.csi) (Local []) (omega (arith, size))
    (shaped-slash home home.csi (name_begins home.csi name)
    ∙ ap (under home home.csi) parts
    ∙ ap (λ b. cond b (Some (cond (bytes_eq home.csi home.csi) (Local []) (Foreign (47 ∷ home.csi)))) None) (and_from (is_name home.csi) true name refl)
    ∙ ap (λ b. Some (cond b (Local []) (Foreign (47 ∷ home.csi)))) ((bytes_eq-Decides home.csi home.csi).1 refl))

-- ---- what was read

-- what an address keeps that was read from a text of at most so many bytes
abbrev pub Made : HomeData → ℕ → Addr → Type 0
Made home n (Local segments) = (are_names segments ≡ true) × (length (joined segments) ≤ n)
Made home n (Foreign text) = (rest : List ℕ) × (text ≡ 47 ∷ rest) × (by_cse home rest ≡ Some (Foreign text)) × (length text ≤ n)
Made home n OtherProvider = Unit {0}

wider : (home : HomeData) (m n : ℕ) (a : Addr) → m ≤ n → Made home m a → Made home n a
wider home m n (Local segments) le made = (made.0, omega (arith, le, made.1))
wider home m n (Foreign text) le made = (made.0, made.1, made.2, omega (arith, le, made.3))
wider home m n OtherProvider le made = tt

length-joined : (name : List ℕ) (names : List (List ℕ)) → length (joined names) ≤ length (joined (name ∷ names))
length-joined name [] = omega arith
length-joined name (next ∷ names) = omega (arith, length-append name (47 ∷ joined (next ∷ names)))

under_made : (home : HomeData) (rest : List ℕ) (parts : List (List ℕ)) (a : Addr) → between_slashes rest ≡ parts → under home rest parts ≡ Some a → Made home (1 + length rest) a
under_made home rest [] a are is = let none : None ≡ Some a = is in cc
under_made home rest (csi ∷ segments) a are is = elim (cases_Bool (are_names (csi ∷ segments))) [
  | inr f ↦ (let none : None ≡ Some a = rw f at is in cc)
  | inl t ↦
      let chosen : Some (cond (bytes_eq csi home.csi) (Local segments) (Foreign (47 ∷ rest))) ≡ Some a = rw t at is in
      subst (Made home (1 + length rest)) (same_Some _ a chosen) (by_own (bytes_eq csi home.csi) refl t)
]
  where
    by_own : (b : Bool) → bytes_eq csi home.csi ≡ b → are_names (csi ∷ segments) ≡ true → Made home (1 + length rest) (cond b (Local segments) (Foreign (47 ∷ rest)))
    by_own true own names = (
      (names_parts csi segments names).rest,
      omega (arith, length-joined csi segments, ap length (ap joined (sym are) ∙ joined-between_slashes rest)),
    )
    by_own false own names =
        (rest, refl, ap (under home rest) are ∙ rw (names, own) refl, omega arith)

by_cse_made : (home : HomeData) (rest : List ℕ) (a : Addr) → by_cse home rest ≡ Some a → Made home (1 + length rest) a
by_cse_made home rest a is = under_made home rest (between_slashes rest) a refl is

of_provider_made : (home : HomeData) (sp behind : List ℕ) (a : Addr) → of_provider home sp behind ≡ Some a → Made home (1 + length behind) a
of_provider_made home sp behind a is = elim (cases_Bool (is_name sp)) [
  | inr f ↦ (let none : None ≡ Some a = rw f at is in cc)
  | inl t ↦ elim (cases_Bool (bytes_eq sp home.sp)) [
    | inl own ↦ by_cse_made home behind a (rw (t, own) at is)
    | inr other ↦ elim (cases_Bool (are_names (between_slashes behind))) [
      | inr f ↦ (let none : None ≡ Some a = rw (t, other, f) at is in cc)
      | inl names ↦
          let chosen : Some OtherProvider ≡ Some a = rw (t, other, names) at is in
          subst (Made home (1 + length behind)) (same_Some OtherProvider a chosen) tt
    ]
  ]
]

by_provider_made : (home : HomeData) (rest : List ℕ) (a : Addr) → by_provider home rest ≡ Some a → Made home (1 + length rest) a
by_provider_made home rest a is = by_cut (cut_at rest) refl is
  where
    by_cut : (cut : Option (List ℕ × List ℕ)) → cut_at rest ≡ cut → option_and_then (λ (c : List ℕ × List ℕ). of_provider home c.0 c.1) cut ≡ Some a → Made home (1 + length rest) a
    by_cut None at e = let none : None ≡ Some a = e in cc
    by_cut (Some c) at e =
        wider home (1 + length c.1) (1 + length rest) a (omega (arith, shorter c at)) (of_provider_made home c.0 c.1 a e)
      where
        shorter : (c : List ℕ × List ℕ) → cut_at rest ≡ Some c → length c.1 ≤ length rest
        shorter c at = elim (cases_Bool (nat_lt (position_or_len is_slash rest) (length rest))) [
          | inr f ↦ (let none : None ≡ Some c = rw f at at in cc)
          | inl t ↦
              let cut : List ℕ × List ℕ = (before_first is_slash rest, after_first is_slash rest) in
              let chosen : Some cut ≡ Some c = rw t at at in
              omega (arith, ap (λ (d : List ℕ × List ℕ). length d.1) (same_Some cut c chosen), length-drop (position_or_len is_slash rest + 1) rest)
        ]

by_names_made : (home : HomeData) (text : List ℕ) (a : Addr) → by_names text ≡ Some a → Made home (length text) a
by_names_made home text a is = elim (cases_Bool (are_names (between_slashes text))) [
  | inr f ↦ (let none : None ≡ Some a = rw f at is in cc)
  | inl t ↦
      let chosen : Some (Local (between_slashes text)) ≡ Some a = rw t at is in
      subst (Made home (length text)) (same_Some (Local (between_slashes text)) a chosen)
      (t, omega (arith, ap length (joined-between_slashes text)))
]

led : (text lead : List ℕ) → starts_with nat_eq text lead ≡ true → length lead + length (drop (length lead) text) ≡ length text
led text lead is = omega (arith, ap length (starts_rest text lead is), length-append lead (drop (length lead) text))

shaped_made : (home : HomeData) (text : List ℕ) (a : Addr) → shaped home text ≡ Some a → Made home (length text) a
shaped_made home text a is = elim (cases_Bool (starts_with nat_eq text (codes "//"))) [
  | inl t ↦
      wider home (1 + length (drop 2 text)) (length text) a (omega (arith, led text (codes "//") t))
      (by_provider_made home (drop 2 text) a (rw t at is))
  | inr f ↦ elim (cases_Bool (starts_with nat_eq text (codes "/"))) [
    | inl t ↦
        wider home (1 + length (drop 1 text)) (length text) a (omega (arith, led text (codes "/") t))
        (by_cse_made home (drop 1 text) a (rw (f, t) at is))
    | inr g ↦ by_names_made home text a (rw (f, g) at is)
  ]
]

-- ---- and back

csi_name : (home : HomeData) → IsHome home → is_name home.csi ≡ true
csi_name home is = (free_name_parts home.csi (home_parts home is).csi).name

by_cse_begins : (home : HomeData) (rest : List ℕ) (a : Addr) → by_cse home rest ≡ Some a → BeginsPlain rest
by_cse_begins home [] a is = let none : None ≡ Some a = is in cc
by_cse_begins home (b ∷ rest) a is = elim (cases_Bool (is_slash b)) [
  | inr f ↦ f
  | inl t ↦
      let parts : between_slashes (b ∷ rest) ≡ [] ∷ between_slashes rest = rw t refl in
      let none : None ≡ Some a = sym (ap (under home (b ∷ rest)) parts) ∙ is in cc
]

made_back : (home : HomeData) (n : ℕ) (a : Addr) → IsHome home → n ≤ point_limit → Made home n a → KeepsText a → address_of home (printed home a) ≡ Ok a
made_back home n (Local []) is short made keeps = alone_back home (csi_name home is)
made_back home n (Local (s ∷ segments)) is short made keeps = joined_back home s segments made.0 (omega (arith, short, made.1))
made_back home n (Foreign text) is short made keeps =
    shown home text (Foreign text) (omega (arith, short, made.3))
    (ap (shaped home) made.1 ∙ shaped-slash home made.0 (by_cse_begins home made.0 (Foreign text) made.2) ∙ made.2)
made_back home n OtherProvider is short made keeps = absurd keeps

-- the address that an answer has
abbrev answer_or : Addr → Result Addr AddrFault → Option Addr
answer_or b (Ok a) = Some a
answer_or b (Err fault) = Some b

pub printed_back : (home : HomeData) (text : List ℕ) (a : Addr) → IsHome home → address_of home text ≡ Ok a → KeepsText a → address_of home (printed home a) ≡ Ok a
printed_back home text a is read keeps = elim (cases_Bool (nat_lt point_limit (length text))) [
  | inl t ↦ (let no : Err TooLong ≡ Ok a = rw t at read in cc)
  | inr f ↦ made_back home (length text) a is (ltb-false point_limit (length text) f) (shaped_made home text a (told (shaped home text) (rw f at read))) keeps
]
  where
    told : (o : Option Addr) → unless_shapeless o ≡ Ok a → o ≡ Some a
    told None e = let no : Err Shape ≡ Ok a = e in cc
    told (Some b) e = ap (answer_or b) e
