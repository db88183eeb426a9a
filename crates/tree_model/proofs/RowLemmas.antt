-- Attributes that are put in another order.
use Rattle.std.proofs.Common.{◌≡◌, List, [], ◌∷◌, ◌++◌, Bool, true, false, Some, None, Ordering, Less, Equal, Greater, is_eq, inl, inr, refl, sym, ap, ◌∙◌, append-nil, append_assoc, cond, take}
use Rattle.std.proofs.lemmas.Bool.{cases_Bool, both_ways, false_from_ne_true}
use Rattle.std.proofs.lemmas.List.Elements.{filter-append}
use Rattle.std.specs.List.{filter}
use Rattle.std.specs.Ordering.{is_lt, ordering_reverse}
use Rattle.m2m_names.proofs.PlaceLemmas.{less as lt_less}
use Rattle.m2m_names.specs.declared.attributes.Attr.{Attr}
use Rattle.m2m_names.specs.declared.attributes.Attr.TheVariants.{Csi, Cst, Srt, Ty as TyAttr}
use Rattle.m2m_value.specs.Data.{Data, text, number}
use Rattle.resource_model.specs.Attributes.{Row, attr_cmp, is_attr, value_of, with_value}
use Rattle.resource_model.specs.Home.{HomeData}
use Rattle.resource_model.specs.Resource.{ResourceData}
use Rattle.resource_model.proofs.AttributeLemmas.{attr_total, falls_back}
use Rattle.tree_model.specs.Shown.{common_rows, own_cse_id, base_rows, shown_ty, shown_types, with_rows}

-- ---- what passes two tests

module _ {X : Type 0} (p q : X → Bool) where
  filter_kept : ((x : X) → p x ≡ true → q x ≡ true) → (xs : List X) → filter q (filter p xs) ≡ filter p xs
  filter_kept passes [] = refl
  filter_kept passes (x ∷ xs) = elim (cases_Bool (p x)) [
    | inl t ↦ rw (t, passes x t) (ap (λ (ys : List X). x ∷ ys) (filter_kept passes xs))
    | inr f ↦ rw f (filter_kept passes xs)
  ]

  filter_again : ((x : X) → p x ≡ true → q x ≡ true) → (xs : List X) → filter p (filter q xs) ≡ filter p xs
  filter_again passes [] = refl
  filter_again passes (x ∷ xs) = elim (cases_Bool (q x)) [
    | inl t ↦ rw t (ap (λ (ys : List X). cond (p x) (x ∷ ys) ys) (filter_again passes xs))
    | inr f ↦
        let fails : p x ≡ false = false_from_ne_true _ (λ t. both_ways _ f (passes x t)) in
        rw (f, fails) (filter_again passes xs)
  ]

  filter_none : ((x : X) → q x ≡ true → p x ≡ false) → (xs : List X) → filter p (filter q xs) ≡ []
  filter_none fails [] = refl
  filter_none fails (x ∷ xs) = elim (cases_Bool (q x)) [
    | inl t ↦ rw (t, fails x t) (filter_none fails xs)
    | inr f ↦ rw f (filter_none fails xs)
  ]

  pub filter_swap : (xs : List X) → filter p (filter q xs) ≡ filter q (filter p xs)
  filter_swap [] = refl
  filter_swap (x ∷ xs) = elim (cases_Bool (p x)) [
    | inl s ↦ elim (cases_Bool (q x)) [
      | inl t ↦ rw (s, t, s) (ap (λ (ys : List X). x ∷ ys) (filter_swap xs))
      | inr f ↦ rw (s, f) (filter_swap xs)
    ]
    | inr g ↦ elim (cases_Bool (q x)) [
      | inl t ↦ rw (g, t, g) (filter_swap xs)
      | inr f ↦ rw (g, f) (filter_swap xs)
    ]
  ]

-- ---- two attributes that are put

put_less : (a b : Attr) (x y : Data) (rows : List Row) → attr_cmp a b ≡ Less → with_value a x (with_value b y rows) ≡ with_value b y (with_value a x rows)
put_less a b x y rows less =
    let pa : Row → Bool = λ row. is_lt (attr_cmp row.0 a) in
    let pb : Row → Bool = λ row. is_lt (attr_cmp row.0 b) in
    let qa : Row → Bool = λ row. is_lt (attr_cmp a row.0) in
    let qb : Row → Bool = λ row. is_lt (attr_cmp b row.0) in
    let before : (row : Row) → pa row ≡ true → attr_cmp row.0 b ≡ Less = λ row t. attr_total.trans row.0 a b (lt_less _ t) less in
    let behind : (row : Row) → qb row ≡ true → attr_cmp a row.0 ≡ Less = λ row t. attr_total.trans a b row.0 less (lt_less _ t) in
    let first : is_lt (attr_cmp a b) ≡ true = ap is_lt less in
    let second : is_lt (attr_cmp b a) ≡ false = falls_back a b less in
    let front_left : filter pa (with_value b y rows) ≡ filter pa rows =
    filter-append pa (filter pb rows) ((b, y) ∷ filter qb rows)
    ∙ ap (λ (rs : List Row). rs ++ filter pa ((b, y) ∷ filter qb rows)) (filter_again pa pb (λ row t. ap is_lt (before row t)) rows)
    ∙ ap (λ (rs : List Row). filter pa rows ++ rs) (rw second (filter_none pa qb (λ row t. falls_back a row.0 (behind row t)) rows))
    ∙ append-nil (filter pa rows) in
    let back_left : filter qa (with_value b y rows) ≡ filter qa (filter pb rows) ++ (b, y) ∷ filter qb rows =
    filter-append qa (filter pb rows) ((b, y) ∷ filter qb rows)
    ∙ ap (λ (rs : List Row). filter qa (filter pb rows) ++ rs) (rw first (ap (λ (rs : List Row). (b, y) ∷ rs) (filter_kept qb qa (λ row t. ap is_lt (behind row t)) rows))) in
    let front_right : filter pb (with_value a x rows) ≡ filter pa rows ++ (a, x) ∷ filter pb (filter qa rows) =
    filter-append pb (filter pa rows) ((a, x) ∷ filter qa rows)
    ∙ ap (λ (rs : List Row). rs ++ filter pb ((a, x) ∷ filter qa rows)) (filter_kept pa pb (λ row t. ap is_lt (before row t)) rows)
    ∙ rw first refl in
    let back_right : filter qb (with_value a x rows) ≡ filter qb rows =
    filter-append qb (filter pa rows) ((a, x) ∷ filter qa rows)
    ∙ ap (λ (rs : List Row). rs ++ filter qb ((a, x) ∷ filter qa rows)) (filter_none qb pa (λ row t. falls_back row.0 b (before row t)) rows)
    ∙ rw second (filter_again qb qa (λ row t. ap is_lt (behind row t)) rows) in
    let left : with_value a x (with_value b y rows) ≡ filter pa rows ++ (a, x) ∷ (filter qa (filter pb rows) ++ (b, y) ∷ filter qb rows) =
    ap (λ (rs : List Row). rs ++ (a, x) ∷ filter qa (with_value b y rows)) front_left
    ∙ ap (λ (rs : List Row). filter pa rows ++ (a, x) ∷ rs) back_left in
    let right : with_value b y (with_value a x rows) ≡ (filter pa rows ++ (a, x) ∷ filter pb (filter qa rows)) ++ (b, y) ∷ filter qb rows =
    ap (λ (rs : List Row). rs ++ (b, y) ∷ filter qb (with_value a x rows)) front_right
    ∙ ap (λ (rs : List Row). (filter pa rows ++ (a, x) ∷ filter pb (filter qa rows)) ++ (b, y) ∷ rs) back_right in
    left
    ∙ ap (λ (rs : List Row). filter pa rows ++ (a, x) ∷ (rs ++ (b, y) ∷ filter qb rows)) (filter_swap qa pb rows)
    ∙ sym (append_assoc (filter pa rows) ((a, x) ∷ filter pb (filter qa rows)) ((b, y) ∷ filter qb rows))
    ∙ sym right

-- the values of two attributes are put in either order
put_apart : (a b : Attr) (x y : Data) (rows : List Row) → is_attr a b ≡ false → with_value a x (with_value b y rows) ≡ with_value b y (with_value a x rows)
put_apart a b x y rows apart = by_order (attr_cmp a b) refl apart
  where
    by_order : (o : Ordering) → attr_cmp a b ≡ o → is_eq o ≡ false → with_value a x (with_value b y rows) ≡ with_value b y (with_value a x rows)
    by_order Less e other = put_less a b x y rows e
    by_order Equal e other = cc
    by_order Greater e other = sym (put_less b a y x rows (attr_total.antisymm b a ∙ ap ordering_reverse e))

-- a value is put before those of other attributes, or behind them
put_past : (a : Attr) (x : Data) (added rows : List Row) → value_of a added ≡ None → with_value a x (with_rows added rows) ≡ with_rows added (with_value a x rows)
put_past a x [] rows none = refl
put_past a x (row ∷ added) rows none = elim (cases_Bool (is_attr a row.0)) [
  | inl t ↦ absurd (there (rw t at none))
  | inr f ↦
      put_past a x added (with_value row.0 row.1 rows) (rw f at none)
      ∙ ap (with_rows added) (put_apart a row.0 x row.1 rows f)
]
  where
    there : {d : Data} → Some d ≡ None → ⊥
    there e = cc

-- what the CSEBase shows, where what stands first in order is put first
base_first : (home : HomeData) (nodes : List ResourceData) (r : ResourceData) (rows first second third : List Row)
    → first ≡ with_value Csi (text (own_cse_id home)) rows
    → second ≡ with_value Cst (number home.cst) first
    → third ≡ with_rows (common_rows nodes r) second
    → with_value Srt shown_types third ≡ with_rows (common_rows nodes r ++ base_rows home) rows
base_first home nodes r rows first second third f s t =
    let added = common_rows nodes r in
    let csi : Data = text (own_cse_id home) in
    let cst : Data = number home.cst in
    let past_cst : third ≡ with_value Cst cst (with_rows added first) = t ∙ ap (with_rows added) s ∙ sym (put_past Cst cst added first refl) in
    let past_csi : with_rows added first ≡ with_value Csi csi (with_rows added rows) = ap (with_rows added) f ∙ sym (put_past Csi csi added rows refl) in
    ap (with_value Srt shown_types) (past_cst ∙ ap (with_value Cst cst) past_csi)

-- and its types before its type
pub base_in_order : (home : HomeData) (nodes : List ResourceData) (r : ResourceData) (rows first second third fourth : List Row)
    → first ≡ with_value Csi (text (own_cse_id home)) rows
    → second ≡ with_value Cst (number home.cst) first
    → third ≡ with_rows (take 5 (common_rows nodes r)) second
    → fourth ≡ with_value Srt shown_types third
    → with_value TyAttr (shown_ty r.ty) fourth ≡ with_rows (common_rows nodes r ++ base_rows home) rows
base_in_order home nodes r rows first second third fourth f s t u =
    let ty : Data = shown_ty r.ty in
    ap (with_value TyAttr ty) u
    ∙ put_apart TyAttr Srt ty shown_types third refl
    ∙ base_first home nodes r rows first second (with_value TyAttr ty third) f s (ap (with_value TyAttr ty) t)
