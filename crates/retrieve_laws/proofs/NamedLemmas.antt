-- An address is that of one resource.
use Rattle.retrieve_laws.proofs.Words.{bytes_eq, is_none, nat_lt, ◌≡◌, ℕ, zero, suc, ◌<◌, ◌≤◌, ◌^◌, List, [], ◌∷◌, length, map, reverse, Bool, true, false, cond, Option, Some, None, inl, inr, refl, sym, ap, ◌∙◌, arith, list_all, list_any}
use Rattle.retrieve_laws.proofs.Terms.{is_free_name, is_name, HomeData, ResourceData, has_number, id_of, at, child_of, has, is_tree, line_of, grants, are_names, between_slashes, joined, have_free_names, spot_named, structured_of, Resource, Fan, Poll}
use Rattle.retrieve_laws.proofs.Facts.{and_from, and_parts, cases_Bool, ltb-false, ltb-true, or_cases, or_left, or_right, length-reverse, reverse-reverse, same_Some, bytes_eq-Decides, stands, zero_lacks, has_at, line_all, number_passes}
use Rattle.m2m_names.specs.Urls.{point_limit}
use Rattle.addressing.specs.declared.spot.Spot.{Spot}
use Rattle.addressing.proofs.NameLemmas.{child_of_its_name, line_of_none, named_by_id, spot_named_structured}
use Rattle.addressing.proofs.PartLemmas.{between_slashes-joined}
use Rattle.retrieve_laws.specs.Guard.{HasOwnAddresses, IsNamedByRight, is_address_of, is_no_name}
use Rattle.retrieve_laws.proofs.FoundLemmas.{IsFound}
use Rattle.m2m_names.proofs.ListLemmas.{all_reversed}
use Rattle.m2m_names.proofs.NameLemmas.{free_name_parts}

-- ---- what holds of all resources holds of one that is found

any_found_at : (p : ResourceData → Bool) (nodes : List ResourceData) (n : ℕ) (r : ResourceData) → at n nodes ≡ Some r → p r ≡ true → list_any p nodes ≡ true
any_found_at p [] n r found holds = (let none : None ≡ Some r = found in cc)
any_found_at p (s ∷ nodes) n r found holds = elim (cases_Bool (has_number n s)) [
  | inl t ↦ or_left (p s) (list_any p nodes) (ap p (same_Some s r (rw t at found)) ∙ holds)
  | inr f ↦ or_right (p s) (list_any p nodes) (any_found_at p nodes n r (rw f at found) holds)
]

-- ---- the names on a line

abbrev name_of : ResourceData → List ℕ
name_of r = r.name

names_all : (rs : List ResourceData) → list_all (λ (r : ResourceData). is_free_name r.name) rs ≡ true → are_names (map name_of rs) ≡ true
names_all [] free = refl
names_all (r ∷ rs) free =
    let parts = and_parts (is_free_name r.name) (list_all (λ (s : ResourceData). is_free_name s.name) rs) free in
    and_from (is_name r.name) (are_names (map name_of rs)) (free_name_parts r.name parts.0).name (names_all rs parts.1)

parts_back : (names : List (List ℕ)) → 0 < length names → are_names names ≡ true → between_slashes (joined names) ≡ names
parts_back [] some all = absurd (omega (arith, some))
parts_back (name ∷ names) some all = between_slashes-joined name names all

abbrev behind_first : List (List ℕ) → List (List ℕ)
behind_first [] = []
behind_first (name ∷ names) = names

abbrev first_of_all : List (List ℕ) → List ℕ
first_of_all [] = []
first_of_all (name ∷ names) = name

module _ (nodes : List ResourceData) (tree : is_tree nodes ≡ true) where
  -- the names from a resource up to the CSEBase
  abbrev names_up : ℕ → List (List ℕ)
  names_up n = map name_of (line_of n nodes)

  up_from : (r : ResourceData) → IsFound nodes r → names_up r.number ≡ r.name ∷ names_up r.parent
  up_from r there = ap (map name_of) (stands nodes tree r.number r there).line

  none_up : (n : ℕ) → n ≡ 0 → names_up n ≡ []
  none_up n is = ap names_up is ∙ ap (map name_of) (line_of_none nodes tree 0 (zero_lacks nodes tree))

  some_up : (n : ℕ) → has n nodes ≡ true → names_up n ≡ [] → ⊥
  some_up n there none =
      let r = has_at n nodes there in
      let up : names_up n ≡ (r.0).name ∷ names_up (r.0).parent = ap (map name_of) (stands nodes tree n r.0 r.1).line in
      let no : [] ≡ (r.0).name ∷ names_up (r.0).parent = sym none ∙ up in
      cc

  same_child : (r s : ResourceData) → IsFound nodes r → IsFound nodes s → r.parent ≡ s.parent → r.name ≡ s.name → r.number ≡ s.number
  same_child r s one two parent name =
      same_Some r.number s.number (sym (child_of_its_name nodes tree r.number r one).child ∙ ap (λ p. child_of p r.name nodes) parent ∙ ap (λ t. child_of s.parent t nodes) name ∙ (child_of_its_name nodes tree s.number s two).child)

  by_names : (k : ℕ) (r s : ResourceData) → r.number < k → IsFound nodes r → IsFound nodes s → names_up r.number ≡ names_up s.number → r.number ≡ s.number
  by_names zero r s less one two same = absurd (omega (arith, less))
  by_names (suc k) r s less one two same =
      let both : r.name ∷ names_up r.parent ≡ s.name ∷ names_up s.parent = sym (up_from r one) ∙ same ∙ up_from s two in
      let name : r.name ≡ s.name = ap first_of_all both in
      let up : names_up r.parent ≡ names_up s.parent = ap behind_first both in
      elim (child_of_its_name nodes tree r.number r one).placed [
        | inl root ↦ elim (child_of_its_name nodes tree s.number s two).placed [
          | inl base ↦ same_child r s one two (root ∙ sym base) name
          | inr there ↦ absurd (some_up s.parent there (sym up ∙ none_up r.parent root))
        ]
        | inr here ↦ elim (child_of_its_name nodes tree s.number s two).placed [
          | inl base ↦ absurd (some_up r.parent here (up ∙ none_up s.parent base))
          | inr there ↦
              let p = has_at r.parent nodes here in
              let q = has_at s.parent nodes there in
              let above : r.parent < r.number = (stands nodes tree r.number r one).above in
              let higher : (p.0).number ≡ (q.0).number =
              by_names k p.0 q.0 (omega (arith, less, above, p.2)) (ap (λ n. at n nodes) p.2 ∙ p.1) (ap (λ n. at n nodes) q.2 ∙ q.1)
              (ap names_up p.2 ∙ up ∙ ap names_up (sym q.2)) in
              same_child r s one two (sym p.2 ∙ higher ∙ q.2) name
        ]
      ]

  module _ (free : have_free_names nodes ≡ true) where
    parts_of : (r : ResourceData) → IsFound nodes r → between_slashes (structured_of r.number nodes) ≡ reverse (names_up r.number)
    parts_of r there =
        let all : are_names (reverse (names_up r.number)) ≡ true =
        all_reversed is_name (names_up r.number)
        (names_all (line_of r.number nodes) (line_all (λ (s : ResourceData). is_free_name s.name) r.number (reverse nodes) (all_reversed (λ (s : ResourceData). is_free_name s.name) nodes free))) in
        let long : length (reverse (names_up r.number)) ≡ length (names_up r.number) = length-reverse (names_up r.number) in
        let some : length (names_up r.number) ≡ length (r.name ∷ names_up r.parent) = ap length (up_from r there) in
        parts_back (reverse (names_up r.number)) (omega (arith, long, some)) all

    same_structured : (r s : ResourceData) → IsFound nodes r → IsFound nodes s → structured_of r.number nodes ≡ structured_of s.number nodes → r.number ≡ s.number
    same_structured r s one two same =
        let turned : reverse (names_up r.number) ≡ reverse (names_up s.number) = sym (parts_of r one) ∙ ap between_slashes same ∙ parts_of s two in
        by_names (suc r.number) r s (omega arith) one two (sym (reverse-reverse (names_up r.number)) ∙ ap reverse turned ∙ reverse-reverse (names_up s.number))

-- ---- resource ids

abbrev number_in : Spot → ℕ
number_in (Resource k) = k
number_in (Fan group rest) = group
number_in (Poll channel) = channel

same_spot : (n m : ℕ) → Some (Resource n) ≡ Some (Resource m) → n ≡ m
same_spot n m same = ap number_in (same_Some (Resource n) (Resource m) same)

-- what names something is short
named_is_short : (home : HomeData) (text : List ℕ) (nodes : List ResourceData) (spot : Spot) → spot_named home text nodes ≡ Some spot → length text ≤ point_limit
named_is_short home text nodes spot named = elim (cases_Bool (nat_lt point_limit (length text))) [
  | inl t ↦ (let none : None ≡ Some spot = rw t at named in cc)
  | inr f ↦ ltb-false point_limit (length text) f
]

module _ (home : HomeData) (nodes : List ResourceData) (own : HasOwnAddresses nodes) where
  id_names : (r : ResourceData) → IsFound nodes r → spot_named home (id_of r) nodes ≡ Some (Resource r.number)
  id_names r there =
      let small : r.number < 2 ^ 63 = ltb-true r.number (2 ^ 63) (number_passes (λ (s : ResourceData). nat_lt s.number (2 ^ 63)) r.number nodes r own.numbers there) in
      let free : is_no_name nodes r ≡ true = number_passes (is_no_name nodes) r.number nodes r own.base there in
      named_by_id home nodes r there small (nothing (child_of 0 (id_of r) nodes) free)
    where
      nothing : (o : Option ℕ) → is_none o ≡ true → o ≡ None
      nothing None none = refl
      nothing (Some n) none = cc

  id_or_path : (r s : ResourceData) → IsFound nodes r → IsFound nodes s → id_of r ≡ structured_of s.number nodes → r.number ≡ s.number
  id_or_path r s one two same =
      let short : length (id_of r) ≤ point_limit = named_is_short home (id_of r) nodes (Resource r.number) (id_names r one) in
      let path : length (structured_of s.number nodes) ≤ point_limit = omega (arith, short, ap length same) in
      same_spot r.number s.number (sym (id_names r one) ∙ ap (λ t. spot_named home t nodes) same ∙ spot_named_structured home nodes s own.tree own.names two path)

  -- two resources that have one address are one
  pub one_address : (address : List ℕ) (r s : ResourceData) → IsFound nodes r → IsFound nodes s → is_address_of nodes address r ≡ true → is_address_of nodes address s ≡ true → r.number ≡ s.number
  one_address address r s one two first second = elim (or_cases (bytes_eq address (id_of r)) _ first) [
    | inl a ↦ elim (or_cases (bytes_eq address (id_of s)) _ second) [
      | inl b ↦ same_spot r.number s.number (sym (id_names r one) ∙ ap (λ t. spot_named home t nodes) (sym (text (id_of r) a) ∙ text (id_of s) b) ∙ id_names s two)
      | inr c ↦ id_or_path r s one two (sym (text (id_of r) a) ∙ text (structured_of s.number nodes) c)
    ]
    | inr d ↦ elim (or_cases (bytes_eq address (id_of s)) _ second) [
      | inl b ↦ sym (id_or_path s r two one (sym (text (id_of s) b) ∙ text (structured_of r.number nodes) d))
      | inr c ↦ same_structured nodes own.tree own.names r s one two (sym (text (structured_of r.number nodes) d) ∙ text (structured_of s.number nodes) c)
    ]
  ]
    where
      text : (t : List ℕ) → bytes_eq address t ≡ true → address ≡ t
      text t is = (bytes_eq-Decides address t).0 is

  -- so one with the right is named by right, by each of its addresses
  pub named_by_right : (o : List ℕ) (bits : ℕ) (address : List ℕ) (r : ResourceData) → IsFound nodes r → is_address_of nodes address r ≡ true → grants home nodes o bits r.number ≡ true → IsNamedByRight home nodes o bits address
  named_by_right o bits address r there is right = record {
    some = any_found_at (is_address_of nodes address) nodes r.number r there is;
    each = λ s found named. ap (grants home nodes o bits) (one_address address s r found there named is) ∙ right;
  }

-- both forms are addresses of a resource
pub its_address : (by_id : Bool) (nodes : List ResourceData) (r : ResourceData) → is_address_of nodes (cond by_id (id_of r) (structured_of r.number nodes)) r ≡ true
its_address true nodes r = or_left (bytes_eq (id_of r) (id_of r)) _ ((bytes_eq-Decides (id_of r) (id_of r)).1 refl)
its_address false nodes r = or_right (bytes_eq (structured_of r.number nodes) (id_of r)) _ ((bytes_eq-Decides (structured_of r.number nodes) (structured_of r.number nodes)).1 refl)
