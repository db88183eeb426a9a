-- In which trees no two resources have one address.
use Rattle.retrieve_laws.proofs.Words.{bytes_eq, is_none, nat_eq, nat_lt, ◌≡◌, ℕ, ◌+◌, ◌<◌, ◌^◌, List, [], ◌∷◌, ◌++◌, length, Bool, true, false, Option, Some, inl, inr, refl, sym, ap, ◌∙◌, arith, list_all, list_any, starts_with}
use Rattle.retrieve_laws.proofs.Terms.{is_numbered, is_resource_id, all_types, ty_row, Ty, AccessControlPolicy, Ae, Container, ContentInstance, CseBase, Group, PollingChannel, RemoteCse, Subscription, AccessControlPolicyAnnc, AeAnnc, ContainerAnnc, ContentInstanceAnnc, GroupAnnc, HomeData, IsHome, ResourceData, id_of, are_below, at, is_child, is_tree, have_free_names}
use Rattle.retrieve_laws.proofs.Facts.{and_from, both_ways, eq-eqb, false_from_ne_true, lt-ltb, ltb-true, or_cases, or_from, or_left, or_right, nat_tests, length-append, bytes_eq-Decides, number_passes, in_order-tree, child_parts}
use Rattle.std.specs.Prelude.{option_map}
use Rattle.std.specs.Char.{is_ascii_digit}
use Rattle.std.specs.Fmt.{decimal}
use Rattle.std.proofs.Math.Seq.{drop-append_seam}
use Rattle.std.proofs.lemmas.Fmt.{decimal_nonempty}
use Rattle.m2m_names.proofs.NumeralLemmas.{decimal_passes}
use Rattle.m2m_names.proofs.StatusLemmas.{find_none}
use Rattle.retrieve_laws.specs.Guard.{HasOwnAddresses, is_no_name}
use Rattle.retrieve_laws.proofs.FoundLemmas.{Each, IsFound, each_found}
use Rattle.resource_model.proofs.HomeLemmas.{base_name_parts, home_parts}

-- ---- a resource id has the form of one

begins : (word ds : List ℕ) → starts_with nat_eq (word ++ ds) word ≡ true
begins [] ds = refl
begins (b ∷ word) ds = and_from (nat_eq b b) _ (eq-eqb b b refl) (begins word ds)

numbered : (word ds : List ℕ) → 0 < length ds → list_all is_ascii_digit ds ≡ true → is_numbered word (word ++ ds) ≡ true
numbered word ds some digits =
    let all : length (word ++ ds) ≡ length word + length ds = length-append word ds in
    and_from _ _
    (and_from _ _ (begins word ds) (lt-ltb (length word) (length (word ++ ds)) (omega (arith, some, all))))
    (ap (list_all is_ascii_digit) (drop-append_seam word ds) ∙ digits)

is_digit : (d : ℕ) → d < 10 → is_ascii_digit (48 + d) ≡ true
is_digit d small = grind (arith, nat_tests)

all_digits : (n : ℕ) → n < 2 ^ 63 → list_all is_ascii_digit (decimal n) ≡ true
all_digits = decimal_passes is_ascii_digit is_digit

-- a test on short words that passes that of one type
some_word : (q : List ℕ → Bool) (word : List ℕ) (tys : List Ty) → list_any (λ ty. bytes_eq (ty_row ty).word word) tys ≡ true → q word ≡ true → list_any (λ ty. q (ty_row ty).word) tys ≡ true
some_word q word [] among passes = cc
some_word q word (ty ∷ tys) among passes = elim (or_cases (bytes_eq (ty_row ty).word word) (list_any (λ t. bytes_eq (ty_row t).word word) tys) among) [
  | inl t ↦ or_left (q (ty_row ty).word) (list_any (λ t. q (ty_row t).word) tys) (ap q ((bytes_eq-Decides (ty_row ty).word word).0 t) ∙ passes)
  | inr later ↦ or_right (q (ty_row ty).word) (list_any (λ t. q (ty_row t).word) tys) (some_word q word tys later passes)
]

has_word : (ty : Ty) → list_any (λ t. bytes_eq (ty_row t).word (ty_row ty).word) all_types ≡ true
has_word AccessControlPolicy = refl
has_word Ae = refl
has_word Container = refl
has_word ContentInstance = refl
has_word CseBase = refl
has_word Group = refl
has_word PollingChannel = refl
has_word RemoteCse = refl
has_word Subscription = refl
has_word AccessControlPolicyAnnc = refl
has_word AeAnnc = refl
has_word ContainerAnnc = refl
has_word ContentInstanceAnnc = refl
has_word GroupAnnc = refl

id_is_one : (r : ResourceData) → r.number < 2 ^ 63 → is_resource_id (id_of r) ≡ true
id_is_one r small =
    some_word (λ word. is_numbered word (id_of r)) (ty_row r.ty).word all_types (has_word r.ty)
    (numbered (ty_row r.ty).word (decimal r.number) (decimal_nonempty r.number (omega (arith, small))) (all_digits r.number small))

-- ---- the name of the CSEBase is none

base_is_none : (home : HomeData) → IsHome home → is_resource_id home.base ≡ false
base_is_none home is = (base_name_parts home.base (home_parts home is).base).no_id

module _ (home : HomeData) (nodes : List ResourceData) (is : IsHome home) (tree : is_tree nodes ≡ true) (base : (r : ResourceData) → at r.number nodes ≡ Some r → r.parent ≡ 0 → r.name ≡ home.base) where
  no_child : (r s : ResourceData) → r.number < 2 ^ 63 → IsFound nodes s → is_child 0 (id_of r) s ≡ false
  no_child r s small there = false_from_ne_true (is_child 0 (id_of r) s) (λ t.
      let child = child_parts 0 (id_of r) s t in
      let same : home.base ≡ id_of r = sym (base s there child.under) ∙ child.called in
      both_ways (is_resource_id home.base) (base_is_none home is) (ap is_resource_id same ∙ id_is_one r small))

  no_children : (r : ResourceData) → r.number < 2 ^ 63 → (rs : List ResourceData) → Each (IsFound nodes) rs → list_any (is_child 0 (id_of r)) rs ≡ false
  no_children r small [] each = refl
  no_children r small (s ∷ rs) each = or_from (is_child 0 (id_of r) s) (list_any (is_child 0 (id_of r)) rs) (no_child r s small each.0) (no_children r small rs each.1)

  none_so : (r : ResourceData) → r.number < 2 ^ 63 → is_no_name nodes r ≡ true
  none_so r small =
      ap (λ (o : Option ResourceData). is_none (option_map (λ (s : ResourceData). s.number) o))
      (find_none (is_child 0 (id_of r)) nodes (no_children r small nodes (each_found nodes (in_order-tree nodes tree))))

  none_at_all : are_below (2 ^ 63) nodes ≡ true → (rs : List ResourceData) → Each (IsFound nodes) rs → list_all (is_no_name nodes) rs ≡ true
  none_at_all numbers [] each = refl
  none_at_all numbers (r ∷ rs) each =
      let small : r.number < 2 ^ 63 = ltb-true r.number (2 ^ 63) (number_passes (λ (s : ResourceData). nat_lt s.number (2 ^ 63)) r.number nodes r numbers each.0) in
      and_from (is_no_name nodes r) (list_all (is_no_name nodes) rs) (none_so r small) (none_at_all numbers rs each.1)

  pub own_addresses : have_free_names nodes ≡ true → are_below (2 ^ 63) nodes ≡ true → HasOwnAddresses nodes
  own_addresses free numbers = record {
    tree = tree;
    names = free;
    base = none_at_all numbers nodes (each_found nodes (in_order-tree nodes tree));
    numbers = numbers;
  }
