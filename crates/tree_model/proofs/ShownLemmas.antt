-- What is shown: rows put in one after another, members in order, and counts that are added up.
use Rattle.std.specs.Prelude.{nat_lt, pos}
use Rattle.std.proofs.Common.{zero, suc, Option, Some, None, is_some, inl, inr, bytes_eq, ◌≡◌, ℕ, List, [], ◌∷◌, ◌++◌, length, map, Bool, true, false, cond, not, ◌&&◌, Less, refl, sym, ap, ◌∙◌, subst, arith}
use Rattle.std.proofs.lemmas.Bool.{cases_Bool, and_parts, ltb-true, both_ways}
use Rattle.std.proofs.lemmas.Str.{IsUtf8-from_ascii}
use Rattle.std.specs.Cmp.Lexicographic.{slice_cmp}
use Rattle.std.specs.List.{AllByRecursion, list_all}
use Rattle.std.specs.Str.{IsAscii, IsUtf8}
use Rattle.std.specs.List.Sorted.{IsStrictlySortedBy}
use Rattle.std.specs.Map.{keys_of}
use Rattle.std.specs.Option.{option_map_or, option_or}
use Rattle.std.specs.Ordering.{nat_cmp}
use Rattle.m2m_names.specs.Attributes.{attr_short, all_attrs}
use Rattle.m2m_names.proofs.AttributeLemmas.{attr_again}
use Rattle.m2m_names.specs.declared.attributes.Attr.{Attr}
use Rattle.m2m_names.specs.declared.attributes.Attr.TheVariants.{Cbs, Cni, Csy, Mt}
use Rattle.m2m_names.specs.declared.types.Ty.TheVariants.{CseBase, Container, Group}
use Rattle.m2m_value.specs.Data.{Data, Entry, number}
use Rattle.m2m_value.specs.Node.{AreSorted, HaveTextKeys}
use Rattle.resource_model.specs.Attributes.{Row, attr_cmp, is_attr, value_of, with_value, AreInOrder}
use Rattle.resource_model.specs.Home.{HomeData}
use Rattle.resource_model.specs.Resource.{ResourceData, is_ty}
use Rattle.resource_model.proofs.AttributeLemmas.{is_attr-same, is_attr-itself, in_order-with_value, value-with_value_same, value-with_value_other}
use Rattle.tree_model.specs.Shown.{shown_count, common_rows, base_rows, expiry_rows, container_rows, group_rows, added_rows, with_rows, shown_rows, members_of}
use Rattle.tree_model.specs.Tree.{instances_of, sizes_of}
use Rattle.m2m_names.proofs.LookupLemmas.{found_passes}

-- some rows, and then others
pub with_rows-append : (xs ys rows : List Row) → with_rows (xs ++ ys) rows ≡ with_rows ys (with_rows xs rows)
with_rows-append [] ys rows = refl
with_rows-append (x ∷ xs) ys rows = with_rows-append xs ys (with_value x.0 x.1 rows)

all_named : (a : Attr) (ks : List Attr) → AllByRecursion (λ b. attr_cmp a b ≡ Less) ks → AllByRecursion (λ k. slice_cmp nat_cmp (attr_short a) k ≡ Less) (map attr_short ks)
all_named a [] h = tt
all_named a (k ∷ ks) h = (h.0, all_named a ks h.1)

sorted_named : (ks : List Attr) → IsStrictlySortedBy attr_cmp ks → IsStrictlySortedBy (slice_cmp nat_cmp) (map attr_short ks)
unfolding IsStrictlySortedBy
sorted_named [] h = tt
sorted_named (k ∷ ks) h = (all_named k ks h.0, sorted_named ks h.1)

names_of : (rows : List Row) → keys_of (members_of rows) ≡ map attr_short (keys_of rows)
names_of [] = refl
names_of (row ∷ rows) = ap (λ ks. attr_short row.0 ∷ ks) (names_of rows)

-- the members of an object stand in order, as the attributes do
pub members_sorted : (rows : List Row) → AreInOrder rows → AreSorted (members_of rows)
members_sorted rows h = subst (IsStrictlySortedBy (slice_cmp nat_cmp)) (sym (names_of rows)) (sorted_named (keys_of rows) h)

-- ---- keys are texts

small_ascii : (bytes : List ℕ) → list_all (λ b. nat_lt b 128) bytes ≡ true → IsAscii bytes
small_ascii [] small i = omega arith
small_ascii (b ∷ bytes) small zero = ltb-true b 128 (and_parts (nat_lt b 128) _ small).0
small_ascii (b ∷ bytes) small (suc i) = small_ascii bytes (and_parts (nat_lt b 128) _ small).1 i

short_small : (a : Attr) → list_all (λ b. nat_lt b 128) (attr_short a) ≡ true
short_small a = found_passes (λ b. bytes_eq (attr_short b) (attr_short a)) (λ b. list_all (λ c. nat_lt c 128) (attr_short b)) all_attrs a (attr_again a) refl

pub short_utf8 : (a : Attr) → IsUtf8 (attr_short a)
short_utf8 a = IsUtf8-from_ascii (attr_short a) (small_ascii (attr_short a) (short_small a))

pub members_named : (rows : List Row) → HaveTextKeys (members_of rows)
members_named [] = tt
members_named (row ∷ rows) = (short_utf8 row.0, members_named rows)

-- one member is in order
pub one_sorted : (e : Entry) → AreSorted (e ∷ [])
unfolding IsStrictlySortedBy
one_sorted e = (tt, tt)

-- the slash before a CSE-ID
pub slash_utf8 : IsUtf8 (47 ∷ [])
slash_utf8 = IsUtf8-from_ascii (47 ∷ []) (small_ascii (47 ∷ []) refl)

-- ---- what is shown of an attribute

-- each attribute stands once
abbrev are_apart : List Row → Bool
are_apart [] = true
are_apart (row ∷ rows) = not (is_some (value_of row.0 rows)) && are_apart rows

nothing_there : (o : Option Data) → not (is_some o) ≡ true → o ≡ None
nothing_there None none = refl
nothing_there (Some d) none = cc

value-with_rows : (a : Attr) (added rows : List Row) → are_apart added ≡ true → value_of a (with_rows added rows) ≡ option_or (value_of a added) (value_of a rows)
value-with_rows a [] rows apart = refl
value-with_rows a (row ∷ added) rows apart =
    let parts = and_parts (not (is_some (value_of row.0 added))) (are_apart added) apart in
    let later : value_of a (with_rows added (with_value row.0 row.1 rows)) ≡ option_or (value_of a added) (value_of a (with_value row.0 row.1 rows)) = value-with_rows a added (with_value row.0 row.1 rows) parts.1 in
    elim (cases_Bool (is_attr a row.0)) [
      | inl t ↦
          let same : a ≡ row.0 = is_attr-same a row.0 t in
          let none : value_of a added ≡ None = ap (λ (b : Attr). value_of b added) same ∙ nothing_there (value_of row.0 added) parts.0 in
          let here : value_of a (with_value row.0 row.1 rows) ≡ Some row.1 = ap (λ (b : Attr). value_of b (with_value row.0 row.1 rows)) same ∙ value-with_value_same row.0 row.1 rows in
          let found : value_of a (row ∷ added) ≡ Some row.1 = rw t refl in
          later ∙ ap (λ (o : Option Data). option_or o (value_of a (with_value row.0 row.1 rows))) none ∙ here ∙ sym (ap (λ (o : Option Data). option_or o (value_of a rows)) found)
      | inr f ↦
          let kept : value_of a (with_value row.0 row.1 rows) ≡ value_of a rows = value-with_value_other row.0 a row.1 rows (λ e. both_ways _ f (ap (λ (b : Attr). is_attr b row.0) e ∙ is_attr-itself row.0)) in
          let passed : value_of a (row ∷ added) ≡ value_of a added = rw f refl in
          later ∙ ap (option_or (value_of a added)) kept ∙ sym (ap (λ (o : Option Data). option_or o (value_of a rows)) passed)
    ]

pub in_order-with_rows : (added rows : List Row) → AreInOrder rows → AreInOrder (with_rows added rows)
in_order-with_rows [] rows order = order
in_order-with_rows (row ∷ added) rows order = in_order-with_rows added (with_value row.0 row.1 rows) (in_order-with_value row.0 row.1 rows order)

module _ (home : HomeData) (nodes : List ResourceData) (r : ResourceData) where
  -- what is added where a resource is the CSEBase, a container or a group, and keeps these values
  abbrev added_where : Bool → Bool → Bool → Option Data → Option Data → List Row
  added_where base container group csy mt =
      common_rows nodes r
      ++ cond base (base_rows home) (expiry_rows r)
      ++ cond container (container_rows nodes r) []
      ++ cond group (option_map_or (λ _. []) csy ((Csy, number (pos 1)) ∷ []) ++ option_map_or (λ _. []) mt ((Mt, number (pos 0)) ∷ [])) []

  apart_where : (base container group : Bool) (csy mt : Option Data) → are_apart (added_where base container group csy mt) ≡ true
  apart_where true true true None None = refl
  apart_where true true true None (Some _) = refl
  apart_where true true true (Some _) None = refl
  apart_where true true true (Some _) (Some _) = refl
  apart_where true true false csy mt = refl
  apart_where true false true None None = refl
  apart_where true false true None (Some _) = refl
  apart_where true false true (Some _) None = refl
  apart_where true false true (Some _) (Some _) = refl
  apart_where true false false csy mt = refl
  apart_where false true true None None = refl
  apart_where false true true None (Some _) = refl
  apart_where false true true (Some _) None = refl
  apart_where false true true (Some _) (Some _) = refl
  apart_where false true false csy mt = refl
  apart_where false false true None None = refl
  apart_where false false true None (Some _) = refl
  apart_where false false true (Some _) None = refl
  apart_where false false true (Some _) (Some _) = refl
  apart_where false false false csy mt = refl

  -- what is shown is what is added, and else what is kept
  pub shown_value : (a : Attr) → value_of a (shown_rows home nodes r) ≡ option_or (value_of a (added_rows home nodes r)) (value_of a r.attrs)
  shown_value a = value-with_rows a (added_rows home nodes r) r.attrs (apart_where (is_ty r.ty CseBase) (is_ty r.ty Container) (is_ty r.ty Group) (value_of Csy r.attrs) (value_of Mt r.attrs))

  -- what a container adds, whatever else is added
  counts_added : (base : Bool) (rest : List Row) → value_of Cni (common_rows nodes r ++ cond base (base_rows home) (expiry_rows r) ++ container_rows nodes r ++ rest) ≡ Some (shown_count (length (instances_of r.number nodes)))
  counts_added true rest = refl
  counts_added false rest = refl

  sizes_added : (base : Bool) (rest : List Row) → value_of Cbs (common_rows nodes r ++ cond base (base_rows home) (expiry_rows r) ++ container_rows nodes r ++ rest) ≡ Some (shown_count (sizes_of r.number nodes))
  sizes_added true rest = refl
  sizes_added false rest = refl

  container_added : (a : Attr) → is_ty r.ty Container ≡ true → value_of a (added_rows home nodes r) ≡ value_of a (common_rows nodes r ++ cond (is_ty r.ty CseBase) (base_rows home) (expiry_rows r) ++ container_rows nodes r ++ cond (is_ty r.ty Group) (group_rows r) [])
  container_added a is = ap (λ b. value_of a (common_rows nodes r ++ cond (is_ty r.ty CseBase) (base_rows home) (expiry_rows r) ++ cond b (container_rows nodes r) [] ++ cond (is_ty r.ty Group) (group_rows r) [])) is

  pub count_shown : is_ty r.ty Container ≡ true → value_of Cni (shown_rows home nodes r) ≡ Some (shown_count (length (instances_of r.number nodes)))
  count_shown is = shown_value Cni ∙ ap (λ (o : Option Data). option_or o (value_of Cni r.attrs)) (container_added Cni is ∙ counts_added (is_ty r.ty CseBase) (cond (is_ty r.ty Group) (group_rows r) []))

  pub sizes_shown : is_ty r.ty Container ≡ true → value_of Cbs (shown_rows home nodes r) ≡ Some (shown_count (sizes_of r.number nodes))
  sizes_shown is = shown_value Cbs ∙ ap (λ (o : Option Data). option_or o (value_of Cbs r.attrs)) (container_added Cbs is ∙ sizes_added (is_ty r.ty CseBase) (cond (is_ty r.ty Group) (group_rows r) []))
