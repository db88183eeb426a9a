-- What becomes of an attribute: what a creation gives it, and what an update does to it.
use Rattle.std.proofs.Common.{◌≡◌, ◌≢◌, ℕ, List, [], ◌∷◌, Bool, true, false, ◌||◌, bytes_eq, Option, Some, None, option_and_then, if◌then◌else◌, Less, is_eq, inl, inr, refl, sym, ap, ◌∙◌, subst}
use Rattle.std.proofs.lemmas.Bool.{both_ways, cases_Bool, false_from_ne_true}
use Rattle.std.proofs.lemmas.Option.{same_Some}
use Rattle.std.proofs.lemmas.Slice.Eq.{bytes_eq-Decides}
use Rattle.std.specs.List.{AllByRecursion, cons_option, filter_map, list_any}
use Rattle.std.specs.List.Sorted.{IsStrictlySortedBy}
use Rattle.std.specs.Map.{keys_of}
use Rattle.std.specs.Option.{option_or, option_map_or}
use Rattle.m2m_names.proofs.AttributeLemmas.{attr_again}
use Rattle.m2m_names.specs.Attributes.{attr_short, attr_of_short}
use Rattle.m2m_names.specs.declared.attributes.Attr.{Attr}
use Rattle.m2m_names.specs.declared.attributes.Attr.TheVariants.{Et}
use Rattle.m2m_value.specs.Data.{Data, Entry}
use Rattle.m2m_value.specs.Node.{AreSorted}
use Rattle.m2m_value.specs.View.{member_of}
use Rattle.resource_model.proofs.AttributeLemmas.{is_attr-same, is_attr-itself, value-with_value_same, value-with_value_other, value-without_value_same, value-without_value_other}
use Rattle.resource_model.specs.Attributes.{Row, attr_cmp, is_attr, AreInOrder, value_of, with_value, without_value}
use Rattle.attribute_rules.specs.Contents.{is_apart, is_no_policy, does_clear, set_row, cleared_attr, wanted_in, edit_in, set_all, clear_all, edited, value_created, value_updated}
use Rattle.attribute_rules.proofs.ContentsLemmas.{seen, no_some, short_of, chosen, set_attr, rows_in_order, sorted_rest, absent_after, same_text}

-- ---- members at an attribute

-- a key that is the short name of an attribute names it
pub here : (a : Attr) (key : List ℕ) → bytes_eq (attr_short a) key ≡ true → attr_of_short key ≡ Some a
here a key t = ap attr_of_short (sym (same_text (attr_short a) key t)) ∙ attr_again a

-- any other key names another
elsewhere : (a b : Attr) (key : List ℕ) → bytes_eq (attr_short a) key ≡ false → attr_of_short key ≡ Some b → is_attr a b ≡ false
elsewhere a b key f is = false_from_ne_true _ (λ t.
    both_ways _ f ((bytes_eq-Decides (attr_short a) key).1 (ap attr_short (is_attr-same a b t) ∙ short_of key b is)))

apart_from : (a b : Attr) → is_attr a b ≡ false → a ≢ b
apart_from a b f is = both_ways _ f (ap (is_attr a) (sym is) ∙ is_attr-itself a)

-- no later member has the key
gone : (a : Attr) (e : Entry) (es : List Entry) → AreSorted (e ∷ es) → bytes_eq (attr_short a) e.0 ≡ true → member_of (attr_short a) es ≡ None
gone a e es sorted t = ap (λ k. member_of k es) (same_text (attr_short a) e.0 t) ∙ absent_after e es sorted

-- ---- rows out of members

-- the row of a member, where the attribute and the value aren't left out
abbrev chosen_row : (Attr → Data → Bool) → Entry → Option Row
chosen_row leaves e = option_and_then (λ attr. if leaves attr e.1 then None else Some (attr, e.1)) (attr_of_short e.0)

abbrev chosen_value : (Attr → Data → Bool) → Attr → Option Data → Option Data
chosen_value leaves a o = option_and_then (λ d. if leaves a d then None else Some d) o

value_here : (leaves : Attr → Data → Bool) (a : Attr) (d : Data) (rows : List Row) → value_of a rows ≡ None → value_of a (cons_option (if leaves a d then None else Some (a, d)) rows) ≡ (if leaves a d then None else Some d)
value_here leaves a d rows none = elim (cases_Bool (leaves a d)) [
  | inl t ↦ rw t none
  | inr f ↦ rw (f, is_attr-itself a) refl
]

value_there : (leaves : Attr → Data → Bool) (a : Attr) (e : Entry) (rows : List Row) → bytes_eq (attr_short a) e.0 ≡ false → value_of a (cons_option (chosen_row leaves e) rows) ≡ value_of a rows
value_there leaves a e rows f = elim (seen (chosen_row leaves e)) [
  | inl none ↦ ap (λ o. value_of a (cons_option o rows)) none
  | inr found ↦
      let choice = chosen (λ attr. leaves attr e.1) e.1 (attr_of_short e.0) found.0 found.1 in
      let other : is_attr a found.0.0 ≡ false = elsewhere a found.0.0 e.0 f choice.attr in
      ap (λ o. value_of a (cons_option o rows)) found.1
      ∙ ap (λ b. if b then Some found.0.1 else value_of a rows) other
]

-- what the rows have of an attribute is the value that its member has
value_chosen : (leaves : Attr → Data → Bool) (a : Attr) (es : List Entry) → AreSorted es → value_of a (filter_map (chosen_row leaves) es) ≡ chosen_value leaves a (member_of (attr_short a) es)
value_chosen leaves a [] sorted = refl
value_chosen leaves a (e ∷ es) sorted =
    let later : value_of a (filter_map (chosen_row leaves) es) ≡ chosen_value leaves a (member_of (attr_short a) es) = value_chosen leaves a es (sorted_rest e es sorted) in
    elim (cases_Bool (bytes_eq (attr_short a) e.0)) [
      | inl t ↦
          ap (λ o. value_of a (cons_option (option_and_then (λ attr. if leaves attr e.1 then None else Some (attr, e.1)) o) (filter_map (chosen_row leaves) es))) (here a e.0 t)
          ∙ value_here leaves a e.1 (filter_map (chosen_row leaves) es) (later ∙ ap (chosen_value leaves a) (gone a e es sorted t))
          ∙ ap (λ b. chosen_value leaves a (if b then Some e.1 else member_of (attr_short a) es)) (sym t)
      | inr f ↦
          value_there leaves a e (filter_map (chosen_row leaves) es) f
          ∙ later
          ∙ ap (λ b. chosen_value leaves a (if b then Some e.1 else member_of (attr_short a) es)) (sym f)
    ]

-- what a creation gives an attribute
pub value_wanted : (a : Attr) (es : List Entry) → AreSorted es → value_of a (wanted_in es).attrs ≡ value_created a es
value_wanted a es sorted = value_chosen (λ attr d. is_apart attr || is_no_policy attr d) a es sorted

-- ---- what is cleared

pub cleared_at : (d : Data) (o : Option Attr) (b : Attr) → option_and_then (λ attr. if does_clear attr d then Some attr else None) o ≡ Some b → (o ≡ Some b) × (does_clear b d ≡ true)
cleared_at d None b h = absurd (no_some b h)
cleared_at d (Some a) b h = elim (cases_Bool (does_clear a d)) [
  | inl t ↦
      let is : a ≡ b = same_Some a b (rw t at h) in
      (ap Some is, ap (λ x. does_clear x d) (sym is) ∙ t)
  | inr f ↦ absurd (no_some b (rw f at h))
]

clear_here : (a : Attr) (d : Data) (attrs : List Attr) → list_any (is_attr a) attrs ≡ false → list_any (is_attr a) (cons_option (if does_clear a d then Some a else None) attrs) ≡ does_clear a d
clear_here a d attrs none = elim (cases_Bool (does_clear a d)) [
  | inl t ↦ rw (t, is_attr-itself a) refl
  | inr f ↦ rw f none
]

clear_there : (a : Attr) (e : Entry) (attrs : List Attr) → bytes_eq (attr_short a) e.0 ≡ false → list_any (is_attr a) (cons_option (cleared_attr e) attrs) ≡ list_any (is_attr a) attrs
clear_there a e attrs f = elim (seen (cleared_attr e)) [
  | inl none ↦ ap (λ o. list_any (is_attr a) (cons_option o attrs)) none
  | inr found ↦
      let other : is_attr a found.0 ≡ false = elsewhere a found.0 e.0 f (cleared_at e.1 (attr_of_short e.0) found.0 found.1).0 in
      ap (λ o. list_any (is_attr a) (cons_option o attrs)) found.1
      ∙ ap (λ b. b || list_any (is_attr a) attrs) other
]

-- an attribute is cleared where its member clears it
any_cleared : (a : Attr) (es : List Entry) → AreSorted es → list_any (is_attr a) (filter_map cleared_attr es) ≡ option_map_or (does_clear a) (member_of (attr_short a) es) false
any_cleared a [] sorted = refl
any_cleared a (e ∷ es) sorted =
    let later : list_any (is_attr a) (filter_map cleared_attr es) ≡ option_map_or (does_clear a) (member_of (attr_short a) es) false = any_cleared a es (sorted_rest e es sorted) in
    elim (cases_Bool (bytes_eq (attr_short a) e.0)) [
      | inl t ↦
          ap (λ o. list_any (is_attr a) (cons_option (option_and_then (λ attr. if does_clear attr e.1 then Some attr else None) o) (filter_map cleared_attr es))) (here a e.0 t)
          ∙ clear_here a e.1 (filter_map cleared_attr es) (later ∙ ap (λ o. option_map_or (does_clear a) o false) (gone a e es sorted t))
          ∙ ap (λ b. option_map_or (does_clear a) (if b then Some e.1 else member_of (attr_short a) es) false) (sym t)
      | inr f ↦
          clear_there a e (filter_map cleared_attr es) f
          ∙ later
          ∙ ap (λ b. option_map_or (does_clear a) (if b then Some e.1 else member_of (attr_short a) es) false) (sym f)
    ]

-- ---- the rows after an update

-- the rows after one attribute was set: the expiry isn't among them
abbrev pub row_set : Row → List Row → List Row
row_set s rows = if is_attr s.0 Et then rows else with_value s.0 s.1 rows

pub kept_beside : (a : Attr) (s : Row) (rows : List Row) → is_attr a s.0 ≡ false → value_of a (row_set s rows) ≡ value_of a rows
kept_beside a s rows other = elim (cases_Bool (is_attr s.0 Et)) [
  | inl t ↦ rw t refl
  | inr f ↦ rw f (value-with_value_other s.0 a s.1 rows (apart_from a s.0 other))
]

absent_later : (a : Attr) (rows : List Row) → AllByRecursion (λ b. attr_cmp a b ≡ Less) (keys_of rows) → value_of a rows ≡ None
absent_later a [] less = refl
absent_later a (r ∷ rows) less =
    ap (λ o. if is_eq o then Some r.1 else value_of a rows) less.0 ∙ absent_later a rows less.1

value_set : (a : Attr) (sets rows : List Row) → AreInOrder sets → is_attr a Et ≡ false → value_of a (set_all sets rows) ≡ option_or (value_of a sets) (value_of a rows)
unfolding IsStrictlySortedBy
value_set a [] rows sorted other = refl
value_set a (s ∷ sets) rows sorted other =
    let later : value_of a (set_all sets (row_set s rows)) ≡ option_or (value_of a sets) (value_of a (row_set s rows)) = value_set a sets (row_set s rows) sorted.1 other in
    elim (cases_Bool (is_attr a s.0)) [
      | inl t ↦
          let same : a ≡ s.0 = is_attr-same a s.0 t in
          let none : value_of a sets ≡ None = absent_later a sets (subst (λ x. AllByRecursion (λ b. attr_cmp x b ≡ Less) (keys_of sets)) (sym same) sorted.0) in
          let kept : is_attr s.0 Et ≡ false = ap (λ b. is_attr b Et) (sym same) ∙ other in
          later
          ∙ ap (λ o. option_or o (value_of a (row_set s rows))) none
          ∙ ap (λ b. value_of a (if b then rows else with_value s.0 s.1 rows)) kept
          ∙ ap (λ b. value_of a (with_value b s.1 rows)) (sym same)
          ∙ value-with_value_same a s.1 rows
          ∙ ap (λ b. option_or (if b then Some s.1 else value_of a sets) (value_of a rows)) (sym t)
      | inr f ↦
          later
          ∙ ap (option_or (value_of a sets)) (kept_beside a s rows f)
          ∙ ap (λ b. option_or (if b then Some s.1 else value_of a sets) (value_of a rows)) (sym f)
    ]

either : {X : Type 0} (b : Bool) (x : X) → (if b then x else x) ≡ x
either true x = refl
either false x = refl

pub value_cleared : (a : Attr) (attrs : List Attr) (rows : List Row) → value_of a (clear_all attrs rows) ≡ (if list_any (is_attr a) attrs then None else value_of a rows)
value_cleared a [] rows = refl
value_cleared a (x ∷ attrs) rows =
    let later : value_of a (clear_all attrs (without_value x rows)) ≡ (if list_any (is_attr a) attrs then None else value_of a (without_value x rows)) = value_cleared a attrs (without_value x rows) in
    elim (cases_Bool (is_attr a x)) [
      | inl t ↦
          let none : value_of a (without_value x rows) ≡ None = ap (λ b. value_of a (without_value b rows)) (sym (is_attr-same a x t)) ∙ value-without_value_same a rows in
          later
          ∙ ap (λ v. if list_any (is_attr a) attrs then None else v) none
          ∙ either {X = Option Data} (list_any (is_attr a) attrs) None
          ∙ ap (λ b. if b || list_any (is_attr a) attrs then None else value_of a rows) (sym t)
      | inr f ↦
          later
          ∙ ap (λ v. if list_any (is_attr a) attrs then None else v) (value-without_value_other x a rows (apart_from a x f))
          ∙ ap (λ b. if b || list_any (is_attr a) attrs then None else value_of a rows) (sym f)
    ]

value_one : (a : Attr) (o old : Option Data) → (if option_map_or (does_clear a) o false then None else option_or (chosen_value does_clear a o) old) ≡ option_map_or (λ d. if does_clear a d then None else Some d) o old
value_one a None old = refl
value_one a (Some d) old = elim (cases_Bool (does_clear a d)) [
  | inl t ↦ rw t refl
  | inr f ↦ rw f refl
]

-- what an attribute is after an update
pub value_edited : (a : Attr) (es : List Entry) (rows : List Row) → AreSorted es → is_attr a Et ≡ false → value_of a (edited (edit_in es) rows) ≡ value_updated a es (value_of a rows)
value_edited a es rows sorted other =
    value_cleared a (filter_map cleared_attr es) (set_all (filter_map set_row es) rows)
    ∙ ap (λ b. if b then None else value_of a (set_all (filter_map set_row es) rows)) (any_cleared a es sorted)
    ∙ ap (λ v. if option_map_or (does_clear a) (member_of (attr_short a) es) false then None else v)
    (value_set a (filter_map set_row es) rows (rows_in_order set_row set_attr es sorted) other ∙ ap (λ o. option_or o (value_of a rows)) (value_chosen does_clear a es sorted))
    ∙ value_one a (member_of (attr_short a) es) (value_of a rows)
