-- An update of a resource as changes, by what a content names.
use Rattle.sight_laws.proofs.Words.{◌≡◌, ℕ, List, [], ◌∷◌, ◌++◌, map, Bool, true, false, cond, ◌||◌, Option, Some, None, is_some, inl, inr, refl, sym, ap, ap₂, ◌∙◌, bytes_eq, cons_option, filter_map, list_any, option_and_then, option_map_or}
use Rattle.sight_laws.proofs.Terms.{attr_of_short, attr_short, Attr, Et, Ty, Data, Entry, null, AreSorted, member_of, Row, is_attr, value_of, with_value, without_value, with_rows, are_admitted, is_named, clear_all, cleared_attr, does_clear, edit_in, edited, set_all, set_row, value_updated, may_name, Updating, NewValue, with_change, with_changes}
use Rattle.sight_laws.proofs.Facts.{both_ways, cases_Bool, or_cases, or_from, or_left, or_right, list_any-append, is_attr-itself, set_attr, short_of}
use Rattle.m2m_value.proofs.Lookup.{bytes_eq_itself}
use Rattle.attribute_rules.proofs.AdmittedLemmas.{members_leave}
use Rattle.attribute_rules.proofs.ValueLemmas.{cleared_at, here, value_edited}
use Rattle.sight_laws.proofs.ChangeRowsLemmas.{is_touched}

-- ---- rows that are given, set and cleared, as changes

abbrev pub row_changes : List Row → List NewValue
row_changes rows = map (λ (row : Row). (row.0, Some row.1)) rows

abbrev pub set_changes : List Row → List NewValue
set_changes [] = []
set_changes (s ∷ sets) = cond (is_attr s.0 Et) (set_changes sets) ((s.0, Some s.1) ∷ set_changes sets)

abbrev pub clear_changes : List Attr → List NewValue
clear_changes attrs = map (λ (a : Attr). (a, None)) attrs

abbrev pub edit_changes : List Entry → List NewValue
edit_changes es = set_changes (filter_map set_row es) ++ clear_changes (filter_map cleared_attr es)

pub changes_then : (first more : List NewValue) (rows : List Row) → with_changes (first ++ more) rows ≡ with_changes more (with_changes first rows)
changes_then [] more rows = refl
changes_then (c ∷ first) more rows = changes_then first more (with_change c.0 c.1 rows)

pub given_are : (more rows : List Row) → with_rows more rows ≡ with_changes (row_changes more) rows
given_are [] rows = refl
given_are (row ∷ more) rows = given_are more (with_value row.0 row.1 rows)

sets_are : (sets rows : List Row) → set_all sets rows ≡ with_changes (set_changes sets) rows
sets_are [] rows = refl
sets_are (s ∷ sets) rows = elim (cases_Bool (is_attr s.0 Et)) [
  | inl t ↦ rw t (sets_are sets rows)
  | inr f ↦ rw f (sets_are sets (with_value s.0 s.1 rows))
]

clears_are : (attrs : List Attr) (rows : List Row) → clear_all attrs rows ≡ with_changes (clear_changes attrs) rows
clears_are [] rows = refl
clears_are (a ∷ attrs) rows = clears_are attrs (without_value a rows)

pub edited_are : (es : List Entry) (rows : List Row) → edited (edit_in es) rows ≡ with_changes (edit_changes es) rows
edited_are es rows =
    ap (clear_all (filter_map cleared_attr es)) (sets_are (filter_map set_row es) rows)
    ∙ clears_are (filter_map cleared_attr es) (with_changes (set_changes (filter_map set_row es)) rows)
    ∙ sym (changes_then (set_changes (filter_map set_row es)) (clear_changes (filter_map cleared_attr es)) rows)

-- ---- what is changed is named

named_first : (e : Entry) (es : List Entry) (a : Attr) → attr_of_short e.0 ≡ Some a → is_named a (e ∷ es) ≡ true
named_first e es a is =
    let key : bytes_eq (attr_short a) e.0 ≡ true = ap (bytes_eq (attr_short a)) (sym (short_of e.0 a is)) ∙ bytes_eq_itself (attr_short a) in
    rw key refl

named_later : (e : Entry) (es : List Entry) (a : Attr) → is_named a es ≡ true → is_named a (e ∷ es) ≡ true
named_later e es a later = elim (cases_Bool (bytes_eq (attr_short a) e.0)) [
  | inl t ↦ rw t refl
  | inr f ↦ rw f later
]

abbrev pub NoneNamed : (Attr → Bool) → List Entry → Type 0
NoneNamed p es = (a : Attr) → is_named a es ≡ true → p a ≡ false

sets_pass : (p : Attr → Bool) (es : List Entry) → NoneNamed p es → list_any (λ (c : NewValue). p c.0) (set_changes (filter_map set_row es)) ≡ false
sets_pass p [] none = refl
sets_pass p (e ∷ es) none = by (set_row e) refl (sets_pass p es (λ a named. none a (named_later e es a named)))
  where
    by : (x : Option Row) → set_row e ≡ x → list_any (λ (c : NewValue). p c.0) (set_changes (filter_map set_row es)) ≡ false → list_any (λ (c : NewValue). p c.0) (set_changes (cons_option x (filter_map set_row es))) ≡ false
    by None is rest = rest
    by (Some row) is rest = elim (cases_Bool (is_attr row.0 Et)) [
      | inl t ↦ rw t rest
      | inr f ↦ rw f (or_from _ _ (none row.0 (named_first e es row.0 (set_attr e row is))) rest)
    ]

clears_pass : (p : Attr → Bool) (es : List Entry) → NoneNamed p es → list_any (λ (c : NewValue). p c.0) (clear_changes (filter_map cleared_attr es)) ≡ false
clears_pass p [] none = refl
clears_pass p (e ∷ es) none = by (cleared_attr e) refl (clears_pass p es (λ a named. none a (named_later e es a named)))
  where
    by : (x : Option Attr) → cleared_attr e ≡ x → list_any (λ (c : NewValue). p c.0) (clear_changes (filter_map cleared_attr es)) ≡ false → list_any (λ (c : NewValue). p c.0) (clear_changes (cons_option x (filter_map cleared_attr es))) ≡ false
    by None is rest = rest
    by (Some a) is rest = or_from _ _ (none a (named_first e es a (cleared_at e.1 (attr_of_short e.0) a is).0)) rest

-- a test that no named attribute passes, none that is changed passes
pub edits_pass : (p : Attr → Bool) (es : List Entry) → ((a : Attr) → is_named a es ≡ true → p a ≡ false) → list_any (λ (c : NewValue). p c.0) (edit_changes es) ≡ false
edits_pass p es none =
    list_any-append (λ (c : NewValue). p c.0) (set_changes (filter_map set_row es)) (clear_changes (filter_map cleared_attr es))
    ∙ or_from _ _ (sets_pass p es none) (clears_pass p es none)

-- ---- and what is named is changed, but for `et`

abbrev sets_it : List Entry → Attr → Bool
sets_it es b = is_touched (set_changes (filter_map set_row es)) b

abbrev clears_it : List Entry → Attr → Bool
clears_it es b = is_touched (clear_changes (filter_map cleared_attr es)) b

sets_still : (e : Entry) (es : List Entry) (b : Attr) → sets_it es b ≡ true → sets_it (e ∷ es) b ≡ true
sets_still e es b some = by (set_row e)
  where
    by : (x : Option Row) → is_touched (set_changes (cons_option x (filter_map set_row es))) b ≡ true
    by None = some
    by (Some row) = elim (cases_Bool (is_attr row.0 Et)) [
      | inl t ↦ rw t some
      | inr f ↦ rw f (or_right _ _ some)
    ]

clears_still : (e : Entry) (es : List Entry) (b : Attr) → clears_it es b ≡ true → clears_it (e ∷ es) b ≡ true
clears_still e es b some = by (cleared_attr e)
  where
    by : (x : Option Attr) → is_touched (clear_changes (cons_option x (filter_map cleared_attr es))) b ≡ true
    by None = some
    by (Some a) = or_right _ _ some

touches : (e : Entry) (es : List Entry) (b : Attr) → is_attr b Et ≡ false → attr_of_short e.0 ≡ Some b → (sets_it (e ∷ es) b || clears_it (e ∷ es) b) ≡ true
touches e es b kept is = elim (cases_Bool (does_clear b e.1)) [
  | inl t ↦
      let cleared : cleared_attr e ≡ Some b = ap (option_and_then (λ (a : Attr). cond (does_clear a e.1) (Some a) None)) is ∙ ap (λ (c : Bool). cond c (Some b) None) t in
      or_right _ _ (ap (λ (x : Option Attr). is_touched (clear_changes (cons_option x (filter_map cleared_attr es))) b) cleared ∙ or_left _ _ (is_attr-itself b))
  | inr f ↦
      let set : set_row e ≡ Some (b, e.1) = ap (option_and_then (λ (a : Attr). cond (does_clear a e.1) None (Some (a, e.1)))) is ∙ ap (λ (c : Bool). cond c None (Some (b, e.1))) f in
      let own : is_touched (set_changes (cons_option (Some (b, e.1)) (filter_map set_row es))) b ≡ true = rw kept (or_left _ _ (is_attr-itself b)) in
      or_left _ _ (ap (λ (x : Option Row). is_touched (set_changes (cons_option x (filter_map set_row es))) b) set ∙ own)
]

named_changed : (es : List Entry) (b : Attr) → is_attr b Et ≡ false → is_named b es ≡ true → (sets_it es b || clears_it es b) ≡ true
named_changed [] b kept named = absurd (both_ways _ refl named)
named_changed (e ∷ es) b kept named = elim (cases_Bool (bytes_eq (attr_short b) e.0)) [
  | inl t ↦ touches e es b kept (here b e.0 t)
  | inr f ↦
      let later : is_named b es ≡ true = rw f at named in
      elim (or_cases (sets_it es b) (clears_it es b) (named_changed es b kept later)) [
        | inl sets ↦ or_left _ _ (sets_still e es b sets)
        | inr clears ↦ or_right _ _ (clears_still e es b clears)
      ]
]

pub named_touched : (es : List Entry) (b : Attr) → is_attr b Et ≡ false → is_named b es ≡ true → is_touched (edit_changes es) b ≡ true
named_touched es b kept named =
    list_any-append (λ (c : NewValue). is_attr c.0 b) (set_changes (filter_map set_row es)) (clear_changes (filter_map cleared_attr es))
    ∙ named_changed es b kept named

-- ---- what an admitted update doesn't name

pub unnamed : (ty : Ty) (es : List Entry) (a : Attr) → AreSorted es → are_admitted Updating ty es ≡ true → may_name ty a ≡ false → is_attr a Et ≡ false → is_named a es ≡ false
unnamed ty es a sorted admitted never kept = by (member_of (attr_short a) es) (same []) (same ((a, null) ∷ []) ∙ own)
  where
    same : (rows : List Row) → value_updated a es (value_of a rows) ≡ value_of a rows
    same rows = sym (value_edited a es rows sorted kept) ∙ members_leave ty es a rows admitted never

    own : value_of a ((a, null) ∷ []) ≡ Some null
    own = ap (λ (b : Bool). cond b (Some null) None) (is_attr-itself a)

    by_clear : (d : Data) (clears : Bool) → cond clears None (Some d) ≡ None → cond clears None (Some d) ≡ Some null → is_some (Some d) ≡ false
    by_clear d true gone stays = cc
    by_clear d false gone stays = cc

    by : (named : Option Data) → option_map_or (λ (d : Data). cond (does_clear a d) None (Some d)) named (value_of a []) ≡ None → option_map_or (λ (d : Data). cond (does_clear a d) None (Some d)) named (value_of a ((a, null) ∷ [])) ≡ Some null → is_some named ≡ false
    by None gone stays = refl
    by (Some d) gone stays = by_clear d (does_clear a d) gone stays
