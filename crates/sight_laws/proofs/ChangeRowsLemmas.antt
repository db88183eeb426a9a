-- Rows after changes, and those of some attributes among them.
use Rattle.sight_laws.proofs.Words.{◌≡◌, List, [], ◌∷◌, ◌++◌, map, filter, Bool, true, false, cond, not, ◌&&◌, ◌||◌, Option, Some, None, inl, inr, refl, sym, ap, ap₂, subst, ◌∙◌, list_any, is_lt}
use Rattle.sight_laws.proofs.Terms.{Attr, Data, Row, attr_cmp, is_attr, rows_after, rows_before, value_of, NewValue, with_change, with_changes}
use Rattle.sight_laws.proofs.Facts.{both_ways, cases_Bool, cond_both, false_from_ne_true, filter-append, filter_same, attr_itself, is_attr-itself, is_attr-same, value-with_value_other, value-with_value_same, value-without_value_other, value-without_value_same}

-- one of the changes is of the attribute
abbrev pub is_touched : List NewValue → Attr → Bool
is_touched changes b = list_any (λ (c : NewValue). is_attr c.0 b) changes

-- the rows of attributes that pass
abbrev pub rows_of : (Attr → Bool) → List Row → List Row
rows_of p rows = filter (λ (row : Row). p row.0) rows

-- the changes, of which only those of such attributes give a value
abbrev pub told_of : (Attr → Bool) → List NewValue → List NewValue
told_of p changes = map (λ (c : NewValue). (c.0, cond (p c.0) c.1 None)) changes

-- ---- two tests, one after the other

fused : {X : Type 0} (p q : X → Bool) (xs : List X) → filter p (filter q xs) ≡ filter (λ x. q x && p x) xs
fused p q [] = refl
fused p q (x ∷ xs) = elim (cases_Bool (q x)) [
  | inr f ↦ rw f (fused p q xs)
  | inl t ↦ elim (cases_Bool (p x)) [
    | inl u ↦ rw (t, u) (ap (λ ys. x ∷ ys) (fused p q xs))
    | inr g ↦ rw (t, g) (fused p q xs)
  ]
]

swapped : {X : Type 0} (p q : X → Bool) (xs : List X) → filter p (filter q xs) ≡ filter q (filter p xs)
swapped p q xs = fused p q xs ∙ filter_same (λ x. q x && p x) (λ x. p x && q x) (λ x. turned (q x) (p x)) xs ∙ sym (fused q p xs)
  where
    turned : (a b : Bool) → (a && b) ≡ (b && a)
    turned true true = refl
    turned true false = refl
    turned false true = refl
    turned false false = refl

-- of those that pass a test, those that pass another one
within : {X : Type 0} (p q r : X → Bool) → ((x : X) → p x ≡ true → q x ≡ r x) → (xs : List X) → filter p (filter q xs) ≡ filter p (filter r xs)
within {X = X} p q r same xs = fused p q xs ∙ filter_same (λ x. q x && p x) (λ x. r x && p x) (λ x. by x (p x) refl) xs ∙ sym (fused p r xs)
  where
    none : (a b : Bool) → (a && false) ≡ (b && false)
    none true true = refl
    none true false = refl
    none false true = refl
    none false false = refl

    by : (x : X) (b : Bool) → p x ≡ b → (q x && p x) ≡ (r x && p x)
    by x true is = ap (λ (a : Bool). a && p x) (same x is)
    by x false is = ap (λ (b : Bool). q x && b) is ∙ none (q x) (r x) ∙ sym (ap (λ (b : Bool). r x && b) is)

whole : {X : Type 0} (xs : List X) → filter (λ x. true) xs ≡ xs
whole [] = refl
whole (x ∷ xs) = ap (λ ys. x ∷ ys) (whole xs)

-- ---- of a change of rows, what stays of some attributes

pub told_change : (p : Attr → Bool) (a : Attr) (x : Option Data) (rows : List Row) → rows_of p (with_change a x rows) ≡ with_change a (cond (p a) x None) (rows_of p rows)
told_change p a x rows = by x
  where
    fronts : rows_of p (rows_before a rows) ≡ rows_before a (rows_of p rows)
    fronts = swapped (λ (row : Row). p row.0) (λ (row : Row). is_lt (attr_cmp row.0 a)) rows

    backs : rows_of p (rows_after a rows) ≡ rows_after a (rows_of p rows)
    backs = swapped (λ (row : Row). p row.0) (λ (row : Row). is_lt (attr_cmp a row.0)) rows

    cleared : rows_of p (with_change a None rows) ≡ with_change a None (rows_of p rows)
    cleared = filter-append (λ (row : Row). p row.0) (rows_before a rows) (rows_after a rows) ∙ ap₂ (λ xs ys. xs ++ ys) fronts backs

    by : (x : Option Data) → rows_of p (with_change a x rows) ≡ with_change a (cond (p a) x None) (rows_of p rows)
    by None = cond_both (p a) None None (λ (x : Option Data). rows_of p (with_change a None rows) ≡ with_change a x (rows_of p rows)) (λ t. cleared) (λ f. cleared)
    by (Some d) =
        filter-append (λ (row : Row). p row.0) (rows_before a rows) ((a, d) ∷ rows_after a rows)
        ∙ elim (cases_Bool (p a)) [
          | inl t ↦ rw t (ap₂ (λ xs ys. xs ++ (a, d) ∷ ys) fronts backs)
          | inr f ↦ rw f (ap₂ (λ xs ys. xs ++ ys) fronts backs)
        ]

pub told_changes : (p : Attr → Bool) (changes : List NewValue) (rows : List Row) → rows_of p (with_changes changes rows) ≡ with_changes (told_of p changes) (rows_of p rows)
told_changes p [] rows = refl
told_changes p (c ∷ changes) rows =
    told_changes p changes (with_change c.0 c.1 rows)
    ∙ ap (with_changes (told_of p changes)) (told_change p c.0 c.1 rows)

pub touched_told : (p : Attr → Bool) (changes : List NewValue) (b : Attr) → is_touched (told_of p changes) b ≡ is_touched changes b
touched_told p [] b = refl
touched_told p (c ∷ changes) b = ap (λ (x : Bool). is_attr c.0 b || x) (touched_told p changes b)

-- ---- what is changed doesn't matter

abbrev is_free : List NewValue → Attr → Bool
is_free changes b = not (is_touched changes b)

-- an attribute before or after another one isn't that
apart_before : (a b : Attr) → is_lt (attr_cmp b a) ≡ true → is_attr a b ≡ false
apart_before a b less = false_from_ne_true _ (λ t. both_ways _ (ap is_lt (attr_itself a)) (subst (λ (x : Attr). is_lt (attr_cmp x a) ≡ true) (sym (is_attr-same a b t)) less))

apart_after : (a b : Attr) → is_lt (attr_cmp a b) ≡ true → is_attr a b ≡ false
apart_after a b less = false_from_ne_true _ (λ t. both_ways _ (ap is_lt (attr_itself a)) (subst (λ (x : Attr). is_lt (attr_cmp a x) ≡ true) (sym (is_attr-same a b t)) less))

change_same : (a : Attr) (x : Option Data) (xs ys : List Row) → rows_before a xs ≡ rows_before a ys → rows_after a xs ≡ rows_after a ys → with_change a x xs ≡ with_change a x ys
change_same a None xs ys front back = ap₂ (λ (us : List Row) (vs : List Row). us ++ vs) front back
change_same a (Some d) xs ys front back = ap₂ (λ (us : List Row) (vs : List Row). us ++ (a, d) ∷ vs) front back

pub same_rest : (changes : List NewValue) (xs ys : List Row) → rows_of (is_free changes) xs ≡ rows_of (is_free changes) ys → with_changes changes xs ≡ with_changes changes ys
same_rest [] xs ys same = sym (whole xs) ∙ same ∙ whole ys
same_rest (c ∷ changes) xs ys same =
    same_rest changes (with_change c.0 c.1 xs) (with_change c.0 c.1 ys)
    (told_change (is_free changes) c.0 c.1 xs
    ∙ change_same c.0 (cond (is_free changes c.0) c.1 None) (rows_of (is_free changes) xs) (rows_of (is_free changes) ys)
    (fronts xs ∙ ap (rows_before c.0) same ∙ sym (fronts ys))
    (backs xs ∙ ap (rows_after c.0) same ∙ sym (backs ys))
    ∙ sym (told_change (is_free changes) c.0 c.1 ys))
  where
    fronts : (rows : List Row) → rows_before c.0 (rows_of (is_free changes) rows) ≡ rows_before c.0 (rows_of (is_free (c ∷ changes)) rows)
    fronts rows =
        within (λ (row : Row). is_lt (attr_cmp row.0 c.0)) (λ (row : Row). is_free changes row.0) (λ (row : Row). is_free (c ∷ changes) row.0)
        (λ row less. sym (ap (λ (b : Bool). not (b || is_touched changes row.0)) (apart_before c.0 row.0 less))) rows

    backs : (rows : List Row) → rows_after c.0 (rows_of (is_free changes) rows) ≡ rows_after c.0 (rows_of (is_free (c ∷ changes)) rows)
    backs rows =
        within (λ (row : Row). is_lt (attr_cmp c.0 row.0)) (λ (row : Row). is_free changes row.0) (λ (row : Row). is_free (c ∷ changes) row.0)
        (λ row less. sym (ap (λ (b : Bool). not (b || is_touched changes row.0)) (apart_after c.0 row.0 less))) rows

-- so where every attribute that passes is changed, the rows before don't matter
none_free : (changes : List NewValue) (p : Attr → Bool) → ((b : Attr) → p b ≡ true → is_touched changes b ≡ true) → (rows : List Row) → rows_of (is_free changes) (rows_of p rows) ≡ []
none_free changes p all [] = refl
none_free changes p all (row ∷ rows) = elim (cases_Bool (p row.0)) [
  | inl t ↦ rw t (rw (all row.0 t) (none_free changes p all rows))
  | inr f ↦ rw f (none_free changes p all rows)
]

pub same_told : (changes : List NewValue) (p : Attr → Bool) → ((b : Attr) → p b ≡ true → is_touched changes b ≡ true) → (xs ys : List Row) → with_changes changes (rows_of p xs) ≡ with_changes changes (rows_of p ys)
same_told changes p all xs ys = same_rest changes (rows_of p xs) (rows_of p ys) (none_free changes p all xs ∙ sym (none_free changes p all ys))

-- ---- a value after changes

change_value : (a b : Attr) (x : Option Data) (xs ys : List Row) → value_of a xs ≡ value_of a ys → value_of a (with_change b x xs) ≡ value_of a (with_change b x ys)
change_value a b x xs ys same = elim (cases_Bool (is_attr b a)) [
  | inl t ↦
      let it : b ≡ a = is_attr-same b a t in
      subst (λ (c : Attr). value_of a (with_change c x xs) ≡ value_of a (with_change c x ys)) (sym it) (own x)
  | inr f ↦ beside x (λ e. both_ways _ f (subst (λ (c : Attr). is_attr b c ≡ true) (sym e) (is_attr-itself b)))
]
  where
    own : (x : Option Data) → value_of a (with_change a x xs) ≡ value_of a (with_change a x ys)
    own None = value-without_value_same a xs ∙ sym (value-without_value_same a ys)
    own (Some d) = value-with_value_same a d xs ∙ sym (value-with_value_same a d ys)

    beside : (x : Option Data) → (a ≡ b → ⊥) → value_of a (with_change b x xs) ≡ value_of a (with_change b x ys)
    beside None apart = value-without_value_other b a xs apart ∙ same ∙ sym (value-without_value_other b a ys apart)
    beside (Some d) apart = value-with_value_other b a d xs apart ∙ same ∙ sym (value-with_value_other b a d ys apart)

pub value_after : (a : Attr) (changes : List NewValue) (xs ys : List Row) → value_of a xs ≡ value_of a ys → value_of a (with_changes changes xs) ≡ value_of a (with_changes changes ys)
value_after a [] xs ys same = same
value_after a (c ∷ changes) xs ys same = value_after a changes (with_change c.0 c.1 xs) (with_change c.0 c.1 ys) (change_value a c.0 c.1 xs ys same)
