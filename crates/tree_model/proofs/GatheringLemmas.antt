-- The numbers that are gathered from child to child are those of a resource and of all that stands below it.
use Rattle.std.specs.Prelude.{nat_eq, slice_get, ◌⊎◌}
use Rattle.std.proofs.Common.{◌≡◌, ℕ, ◌+◌, ◌<◌, ◌≤◌, List, [], ◌∷◌, ◌++◌, length, true, false, Some, inl, inr, refl, sym, ap, ◌∙◌, subst, arith}
use Rattle.std.proofs.lemmas.Bool.{both_ways, cases_lt, eq-eqb, eqb-true, or_cases, or_left, or_right}
use Rattle.std.proofs.lemmas.List.Folds.{list_any-append}
use Rattle.std.proofs.lemmas.Option.{same_Some}
use Rattle.std.specs.List.{list_any}
use Rattle.resource_model.specs.Resource.{ResourceData}
use Rattle.tree_model.specs.Tree.{at, children_of, has, is_tree, is_under, number_at, resource_number, Gathers}
use Rattle.tree_model.proofs.BelowLemmas.{below_child, child_in_line, in_line, own_line}
use Rattle.tree_model.proofs.ChildLemmas.{found_place, none_past}
use Rattle.tree_model.proofs.OrderLemmas.{child_under, number_some, placed_stands}

-- ---- one number more

last_in : (n : ℕ) (ns : List ℕ) → list_any (nat_eq n) (ns ++ n ∷ []) ≡ true
last_in n ns = list_any-append (nat_eq n) ns (n ∷ []) ∙ or_right _ _ (or_left _ _ (eq-eqb n n refl))

front_in : (m n : ℕ) (ns : List ℕ) → list_any (nat_eq m) ns ≡ true → list_any (nat_eq m) (ns ++ n ∷ []) ≡ true
front_in m n ns t = list_any-append (nat_eq m) ns (n ∷ []) ∙ or_left _ _ t

one_of : (m n : ℕ) (ns : List ℕ) → list_any (nat_eq m) (ns ++ n ∷ []) ≡ true → (list_any (nat_eq m) ns ≡ true) ⊎ (m ≡ n)
one_of m n ns t = elim (or_cases (list_any (nat_eq m) ns) (list_any (nat_eq m) (n ∷ [])) (sym (list_any-append (nat_eq m) ns (n ∷ [])) ∙ t)) [
  | inl front ↦ inl front
  | inr last ↦ elim (or_cases (nat_eq m n) false last) [
    | inl own ↦ inr (eqb-true m n own)
    | inr none ↦ absurd (both_ways false refl none)
  ]
]

-- ---- from child to child

-- the resource of the number and the children before this place are gathered, with all below these
pub record GathersUpTo (nodes : List ResourceData) (n place : ℕ) (old new : List ℕ) : Type 0 where
  pub own : list_any (nat_eq n) new ≡ true
  pub keeps : (m : ℕ) → list_any (nat_eq m) old ≡ true → list_any (nat_eq m) new ≡ true
  pub finds : (k c : ℕ) → k < place → Some c ≡ number_at k (children_of n nodes) → (m : ℕ) → in_line nodes c m ≡ true → list_any (nat_eq m) new ≡ true
  pub only : (m : ℕ) → list_any (nat_eq m) new ≡ true → (list_any (nat_eq m) old ≡ true) ⊎ (in_line nodes n m ≡ true)

module _ (nodes : List ResourceData) (tree : is_tree nodes ≡ true) (n : ℕ) (there : has n nodes ≡ true) (old : List ℕ) where
  -- no child yet
  pub gathers_none : GathersUpTo nodes n 0 old (old ++ n ∷ [])
  gathers_none = record {
    own = last_in n old;
    keeps = λ m t. front_in m n old t;
    finds = λ k c less is m t. absurd (omega (arith, less));
    only = λ m t. elim (one_of m n old t) [
      | inl front ↦ inl front
      | inr own ↦ inr (subst (λ (j : ℕ). in_line nodes n j ≡ true) (sym own) (own_line nodes tree n there))
    ];
  }

  -- one child more
  pub gathers_one : (place c : ℕ) (so_far new : List ℕ) → Some c ≡ number_at place (children_of n nodes) → GathersUpTo nodes n place old so_far → Gathers c nodes so_far new → GathersUpTo nodes n (place + 1) old new
  gathers_one place c so_far new is before more =
      let got = number_some (slice_get (children_of n nodes) place) c is in
      let child : ResourceData = got.0 in
      let under : child.parent ≡ n = child_under n nodes place child got.1 in
      let found : at child.number nodes ≡ Some child = placed_stands (is_under n) nodes place child tree got.1 in
      record {
        own = more.keeps n before.own;
        keeps = λ m t. more.keeps m (before.keeps m t);
        finds = λ k d less at_k m t. elim (cases_lt k place) [
          | inl lower ↦ more.keeps m (before.finds k d lower at_k m t)
          | inr past ↦
              let same : k ≡ place = omega (arith, less, past) in
              let child_is : d ≡ c = same_Some d c (at_k ∙ ap (λ (j : ℕ). number_at j (children_of n nodes)) same ∙ sym is) in
              more.finds m (subst (λ (j : ℕ). in_line nodes j m ≡ true) child_is t)
        ];
        only = λ m t. elim (more.only m t) [
          | inl front ↦ before.only m front
          | inr line ↦ inr (below_child nodes tree n there child found under m (subst (λ (j : ℕ). in_line nodes j m ≡ true) (sym got.2) line))
        ];
      }

  -- no child is left
  pub gathers_all : (place : ℕ) (new : List ℕ) → length (children_of n nodes) ≤ place → GathersUpTo nodes n place old new → Gathers n nodes old new
  gathers_all place new all before = record {
    keeps = before.keeps;
    only = before.only;
    finds = λ m t. elim (child_in_line nodes tree n m t) [
      | inl own ↦ subst (λ (j : ℕ). list_any (nat_eq j) new ≡ true) (sym own) before.own
      | inr below ↦
          let got = found_place (is_under n) nodes below.child.number below.child below.found (eq-eqb below.child.parent n below.under) in
          let is : Some below.child.number ≡ number_at got.0 (children_of n nodes) = sym (ap resource_number got.1) in
          elim (cases_lt got.0 place) [
            | inl lower ↦ before.finds got.0 below.child.number lower is m below.line
            | inr past ↦ absurd (none_past got.0 (children_of n nodes) below.child.number (omega (arith, all, past)) is)
          ]
    ];
  }
