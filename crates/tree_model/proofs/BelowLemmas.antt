-- What stands at or below a resource stands there itself, or at or below a child of it.
use Rattle.std.specs.Prelude.{◌⊎◌}
use Rattle.std.proofs.Common.{◌≡◌, ℕ, zero, suc, ◌<◌, List, Bool, true, false, ◌||◌, Option, Some, None, inl, inr, refl, sym, ap, ◌∙◌, arith}
use Rattle.std.proofs.lemmas.Bool.{both_ways, cases_Bool, eq-eqb, eqb-true, or_cases, or_left, or_right}
use Rattle.std.proofs.lemmas.Option.{same_Some}
use Rattle.std.specs.List.{list_any}
use Rattle.resource_model.specs.Resource.{ResourceData, has_number}
use Rattle.tree_model.specs.Tree.{at, has, is_tree, line_of}
use Rattle.tree_model.proofs.ChangeLemmas.{line_none}
use Rattle.tree_model.proofs.GrowthLemmas.{stands}
use Rattle.tree_model.proofs.TreeLemmas.{at_number, has_at, has_from_at}

-- The resource of the second number is that of the first, or stands below it.
abbrev pub in_line : List ResourceData → ℕ → ℕ → Bool
in_line nodes n m = list_any (has_number n) (line_of m nodes)

-- It is a child of the one, or stands below a child of it.
pub record IsUnderChild (nodes : List ResourceData) (n m : ℕ) : Type 0 where
  pub child : ResourceData
  pub found : at child.number nodes ≡ Some child
  pub under : child.parent ≡ n
  pub line : in_line nodes child.number m ≡ true

module _ (nodes : List ResourceData) (tree : is_tree nodes ≡ true) where
  -- ---- step by step

  pub up_line : (n m : ℕ) (s : ResourceData) → at m nodes ≡ Some s → in_line nodes n m ≡ (has_number n s || in_line nodes n s.parent)
  up_line n m s found = ap (list_any (has_number n)) (stands nodes tree m s found).line

  pub no_line : (n m : ℕ) → at m nodes ≡ None → in_line nodes n m ≡ false
  no_line n m none = ap (list_any (has_number n)) (line_none m nodes tree (has_from_at m nodes none))

  -- a resource is in its own line
  pub own_line : (n : ℕ) → has n nodes ≡ true → in_line nodes n n ≡ true
  own_line n there =
      let found = has_at n nodes there in
      up_line n n found.0 found.1 ∙ or_left _ _ (eq-eqb found.0.number n found.2)

  -- what holds where nothing stands, and of each resource of whose parent it holds, holds of every number
  module _ (P : ℕ → Type 0) (none : (m : ℕ) → at m nodes ≡ None → P m) (some : (m : ℕ) (s : ResourceData) → at m nodes ≡ Some s → P s.parent → P m) where
    by_found : (k m : ℕ) → m < suc k → ((p : ℕ) → p < k → P p) → (o : Option ResourceData) → at m nodes ≡ o → P m
    by_found k m less above None is = none m is
    by_found k m less above (Some s) is =
        let lower : s.parent < m = (stands nodes tree m s is).above in
        some m s is (above s.parent (omega (arith, less, lower)))

    within : (k m : ℕ) → m < k → P m
    within zero m less = absurd (omega (arith, less))
    within (suc k) m less = by_found k m less (λ p lower. within k p lower) (at m nodes) refl

    pub by_line : (m : ℕ) → P m
    by_line m = within (suc m) m (omega arith)

  -- ---- at a resource, or at or below a child

  abbrev AtOrUnderChild : ℕ → ℕ → Type 0
  AtOrUnderChild n m = in_line nodes n m ≡ true → (m ≡ n) ⊎ IsUnderChild nodes n m

  child_step : (n m : ℕ) (s : ResourceData) → at m nodes ≡ Some s → AtOrUnderChild n s.parent → AtOrUnderChild n m
  child_step n m s is above t =
      let number : s.number ≡ m = at_number m nodes s is in
      elim (or_cases (has_number n s) (in_line nodes n s.parent) (sym (up_line n m s is) ∙ t)) [
        | inl own ↦ inl (sym number ∙ eqb-true s.number n own)
        | inr up ↦ elim (above up) [
          | inl same ↦ inr (record {
            child = s;
            found = ap (λ (j : ℕ). at j nodes) number ∙ is;
            under = same;
            line = up_line s.number m s is ∙ or_left _ _ (eq-eqb s.number s.number refl);
          })
          | inr below ↦ inr (record {
            child = below.child;
            found = below.found;
            under = below.under;
            line = up_line below.child.number m s is ∙ or_right _ _ below.line;
          })
        ]
      ]

  pub child_in_line : (n m : ℕ) → in_line nodes n m ≡ true → (m ≡ n) ⊎ IsUnderChild nodes n m
  child_in_line n = by_line (AtOrUnderChild n) (λ m none t. absurd (both_ways _ (no_line n m none) t)) (child_step n)

  -- what stands at or below a child stands below its parent
  module _ (n : ℕ) (there : has n nodes ≡ true) (c : ResourceData) (found : at c.number nodes ≡ Some c) (under : c.parent ≡ n) where
    abbrev StaysBelow : ℕ → Type 0
    StaysBelow m = in_line nodes c.number m ≡ true → in_line nodes n m ≡ true

    below_step : (m : ℕ) (s : ResourceData) → at m nodes ≡ Some s → StaysBelow s.parent → StaysBelow m
    below_step m s is above t =
        up_line n m s is ∙ or_right _ _ (elim (or_cases (has_number c.number s) (in_line nodes c.number s.parent) (sym (up_line c.number m s is) ∙ t)) [
          | inl own ↦
              let number : s.number ≡ m = at_number m nodes s is in
              let same : s ≡ c = same_Some s c (sym is ∙ ap (λ (j : ℕ). at j nodes) (sym number ∙ eqb-true s.number c.number own) ∙ found) in
              ap (λ (x : ResourceData). in_line nodes n x.parent) same ∙ ap (in_line nodes n) under ∙ own_line n there
          | inr up ↦ above up
        ])

    pub below_child : (m : ℕ) → in_line nodes c.number m ≡ true → in_line nodes n m ≡ true
    below_child = by_line StaysBelow (λ m none t. absurd (both_ways _ (no_line c.number m none) t)) below_step

  -- nothing stands below what isn't there
  pub none_below : (n m : ℕ) → at n nodes ≡ None → in_line nodes n m ≡ false
  none_below n m missing = by_line (λ j. in_line nodes n j ≡ false) (no_line n) step m
    where
      step : (j : ℕ) (s : ResourceData) → at j nodes ≡ Some s → in_line nodes n s.parent ≡ false → in_line nodes n j ≡ false
      step j s is above = elim (cases_Bool (has_number n s)) [
        | inl own ↦
            let number : j ≡ n = sym (at_number j nodes s is) ∙ eqb-true s.number n own in
            let both : None ≡ Some s = sym missing ∙ ap (λ (i : ℕ). at i nodes) (sym number) ∙ is in
            cc
        | inr other ↦ up_line n j s is ∙ rw other above
      ]
