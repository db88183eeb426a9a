-- The rows that members in order give, and what stands at a key of theirs.
use Rattle.std.proofs.Common.{◌≡◌, ℕ, List, [], ◌∷◌, Bool, true, false, ◌||◌, bytes_eq, Option, Some, None, option_and_then, if◌then◌else◌, ◌++◌, append-nil, append_assoc, Less, Equal, nat_cmp, ◌⊎◌, inl, inr, refl, sym, ap, ◌∙◌, subst}
use Rattle.std.proofs.lemmas.Bool.{both_ways, cases_Bool, false_from_ne_true, and_parts, and_from}
use Rattle.std.proofs.lemmas.Cmp.{nat_list_cmp_total, tied_itself}
use Rattle.std.proofs.lemmas.Option.{same_Some}
use Rattle.std.proofs.lemmas.Slice.Eq.{bytes_eq-Decides}
use Rattle.std.specs.Cmp.Lexicographic.{slice_cmp}
use Rattle.std.specs.List.{AllByRecursion, cons_option, filter_map, list_all}
use Rattle.std.specs.List.Sorted.{IsStrictlySortedBy}
use Rattle.std.specs.Map.{keys_of}
use Rattle.std.specs.Option.{option_or, option_to_list}
use Rattle.m2m_names.proofs.LookupLemmas.{found_at, option_or-None}
use Rattle.m2m_names.specs.Attributes.{attr_short, attr_of_short, all_attrs}
use Rattle.m2m_names.specs.declared.attributes.Attr.{Attr}
use Rattle.m2m_names.specs.declared.attributes.Attr.TheVariants.{Rn}
use Rattle.m2m_value.specs.Data.{Data, Entry}
use Rattle.m2m_value.specs.Node.{AreSorted}
use Rattle.m2m_value.specs.View.{as_text, member_of}
use Rattle.resource_model.specs.Attributes.{Row, attr_cmp, AreInOrder}
use Rattle.attribute_rules.specs.Contents.{is_apart, is_no_policy, kept_row, does_clear, set_row}

-- whether there is a value, and which
pub seen : {X : Type 0} (o : Option X) → (o ≡ None) ⊎ ((x : X) × (o ≡ Some x))
seen None = inl refl
seen (Some x) = inr (x, refl)

pub no_some : {X : Type 0} (x : X) → None ≡ Some x → ⊥
no_some x e = cc

-- what each passes, and what is read of it then, all pass that are read
pub all_filter_map : {X Y : Type 0} (p : X → Bool) (q : Y → Bool) (read : X → Option Y) → ((x : X) (y : Y) → p x ≡ true → read x ≡ Some y → q y ≡ true) → (xs : List X) → list_all p xs ≡ true → list_all q (filter_map read xs) ≡ true
all_filter_map p q read gives [] all = refl
all_filter_map p q read gives (x ∷ xs) all =
    let parts = and_parts (p x) (list_all p xs) all in
    elim (seen (read x)) [
      | inl none ↦ ap (λ o. list_all q (cons_option o (filter_map read xs))) none ∙ all_filter_map p q read gives xs parts.1
      | inr found ↦ ap (λ o. list_all q (cons_option o (filter_map read xs))) found.1 ∙ and_from _ _ (gives x found.0 parts.0 found.1) (all_filter_map p q read gives xs parts.1)
    ]

-- ---- the attribute of a key

-- the attribute that a key names has that short name
pub short_of : (key : List ℕ) (a : Attr) → attr_of_short key ≡ Some a → attr_short a ≡ key
short_of key a is =
    found_at (λ b. bytes_eq (attr_short b) key) all_attrs (λ b. attr_short b ≡ key)
    (λ b. (bytes_eq-Decides (attr_short b) key).0) (Some a) (sym is)

-- what a choice of a row says, that leaves some attributes out
pub record Chosen (leaves : Attr → Bool) (d : Data) (o : Option Attr) (row : Row) : Type 0 where
  pub attr : o ≡ Some row.0
  pub value : row.1 ≡ d
  pub stays : leaves row.0 ≡ false

pub chosen : (leaves : Attr → Bool) (d : Data) (o : Option Attr) (row : Row) → option_and_then (λ attr. if leaves attr then None else Some (attr, d)) o ≡ Some row → Chosen leaves d o row
chosen leaves d None row h = absurd (no_some row h)
chosen leaves d (Some a) row h = elim (cases_Bool (leaves a)) [
  | inl t ↦ absurd (no_some row (rw t at h))
  | inr f ↦
      let is : (a, d) ≡ row = same_Some (a, d) row (rw f at h) in
      record {
        attr = ap (λ (r : Row). Some r.0) is;
        value = ap (λ (r : Row). r.1) (sym is);
        stays = ap (λ (r : Row). leaves r.0) (sym is) ∙ f;
      }
]

-- what a creation gives, and what an update sets, is at the attribute of the key
pub kept_choice : (e : Entry) (row : Row) → kept_row e ≡ Some row → Chosen (λ attr. is_apart attr || is_no_policy attr e.1) e.1 (attr_of_short e.0) row
kept_choice e row h = chosen (λ attr. is_apart attr || is_no_policy attr e.1) e.1 (attr_of_short e.0) row h

pub set_choice : (e : Entry) (row : Row) → set_row e ≡ Some row → Chosen (λ attr. does_clear attr e.1) e.1 (attr_of_short e.0) row
set_choice e row h = chosen (λ attr. does_clear attr e.1) e.1 (attr_of_short e.0) row h

pub kept_attr : (e : Entry) (row : Row) → kept_row e ≡ Some row → attr_of_short e.0 ≡ Some row.0
kept_attr e row h = (kept_choice e row h).attr

pub set_attr : (e : Entry) (row : Row) → set_row e ≡ Some row → attr_of_short e.0 ≡ Some row.0
set_attr e row h = (set_choice e row h).attr

-- ---- rows in order

-- each row is at the attribute of its member's key
abbrev pub NamesRows : (Entry → Option Row) → Type 0
NamesRows h = (e : Entry) (row : Row) → h e ≡ Some row → attr_of_short e.0 ≡ Some row.0

below_all : (h : Entry → Option Row) → NamesRows h → (a : Attr) (es : List Entry) → AllByRecursion (λ y. slice_cmp nat_cmp (attr_short a) y ≡ Less) (keys_of es) → AllByRecursion (λ b. attr_cmp a b ≡ Less) (keys_of (filter_map h es))
below_all h names a [] less = tt
below_all h names a (e ∷ es) less = elim (seen (h e)) [
  | inl none ↦ rw none (below_all h names a es less.1)
  | inr found ↦
      let here : attr_cmp a found.0.0 ≡ Less = ap (slice_cmp nat_cmp (attr_short a)) (short_of e.0 found.0.0 (names e found.0 found.1)) ∙ less.0 in
      rw found.1 (here, below_all h names a es less.1)
]

pub rows_in_order : (h : Entry → Option Row) → NamesRows h → (es : List Entry) → AreSorted es → AreInOrder (filter_map h es)
unfolding IsStrictlySortedBy
rows_in_order h names [] sorted = tt
rows_in_order h names (e ∷ es) sorted = elim (seen (h e)) [
  | inl none ↦ rw none (rows_in_order h names es sorted.1)
  | inr found ↦
      let is : attr_short found.0.0 ≡ e.0 = short_of e.0 found.0.0 (names e found.0 found.1) in
      let below : AllByRecursion (λ y. slice_cmp nat_cmp (attr_short found.0.0) y ≡ Less) (keys_of es) = subst (λ x. AllByRecursion (λ y. slice_cmp nat_cmp x y ≡ Less) (keys_of es)) (sym is) sorted.0 in
      rw found.1 (below_all h names found.0.0 es below, rows_in_order h names es sorted.1)
]

-- ---- a key among keys in order

pub sorted_rest : (e : Entry) (es : List Entry) → AreSorted (e ∷ es) → AreSorted es
unfolding IsStrictlySortedBy
sorted_rest e es sorted = sorted.1

apart : (x y : List ℕ) → slice_cmp nat_cmp x y ≡ Less → bytes_eq x y ≡ false
apart x y less = false_from_ne_true _ (λ t.
    let tied : slice_cmp nat_cmp x y ≡ Equal = ap (slice_cmp nat_cmp x) (sym ((bytes_eq-Decides x y).0 t)) ∙ tied_itself nat_list_cmp_total x in
    let no : Less ≡ Equal = sym less ∙ tied in cc)

absent_above : (x : List ℕ) (es : List Entry) → AllByRecursion (λ y. slice_cmp nat_cmp x y ≡ Less) (keys_of es) → member_of x es ≡ None
absent_above x [] less = refl
absent_above x (e ∷ es) less = rw (apart x e.0 less.0) (absent_above x es less.1)

-- the first key stands once
pub absent_after : (e : Entry) (es : List Entry) → AreSorted (e ∷ es) → member_of e.0 es ≡ None
unfolding IsStrictlySortedBy
absent_after e es sorted = absent_above e.0 es sorted.0

pub same_text : (x y : List ℕ) → bytes_eq x y ≡ true → x ≡ y
same_text x y = (bytes_eq-Decides x y).0

-- rows so far, what one more member gives, and the rest
pub joined : {X : Type 0} (xs : List X) (o : Option X) (ys : List X) → (xs ++ option_to_list o) ++ ys ≡ xs ++ cons_option o ys
joined xs None ys = ap (λ zs. zs ++ ys) (append-nil xs)
joined xs (Some x) ys = append_assoc xs (x ∷ []) ys
