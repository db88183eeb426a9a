-- Drafts of which none is for a subscription that counts.
use Rattle.std.specs.Prelude.{nat_eq, is_some}
use Rattle.std.proofs.Common.{◌≡◌, ℕ, ◌==◌, List, [], ◌∷◌, ◌++◌, true, false, Option, Some, None, refl, sym, subst, ap, ◌∙◌, inl, inr}
use Rattle.std.proofs.lemmas.Bool.{cases_Bool, eqb-true, both_ways}
use Rattle.std.specs.List.{list_any}
use Rattle.std.specs.List.Sorted.{IsStrictlySortedBy}
use Rattle.std.specs.Map.{keys_of}
use Rattle.std.specs.Option.{option_map_or}
use Rattle.std.specs.Ordering.{nat_cmp}
use Rattle.resource_model.specs.Resource.{ResourceData}
use Rattle.subscription_match.specs.Spending.{count_for, has_left, is_counted, is_for, is_kept, kept, kept_after, left_at, left_in, spent}
use Rattle.subscription_match.specs.declared.drafts.DraftParts.{DraftParts}

-- such a draft is kept
keeps : (nodes : List ResourceData) (earlier : List DraftParts) (draft : DraftParts) (o : Option ℕ) → option_map_or (λ n. is_some (left_at nodes n)) o false ≡ false → option_map_or (has_left nodes earlier) o true ≡ true
keeps nodes earlier draft None h = refl
keeps nodes earlier draft (Some n) h = has (left_at nodes n) refl
  where
    has : (o : Option ℕ) → left_at nodes n ≡ o → has_left nodes earlier n ≡ true
    has None is = rw is refl
    has (Some left) is = absurd (both_ways _ h (ap is_some is))

all_kept_after : (nodes : List ResourceData) (earlier drafts : List DraftParts) → list_any (is_counted nodes) drafts ≡ false → kept_after nodes earlier drafts ≡ drafts
all_kept_after nodes earlier [] h = refl
all_kept_after nodes earlier (draft ∷ drafts) h = elim (cases_Bool (is_counted nodes draft)) [
  | inl t ↦ (let no : true ≡ false = rw t at h in absurd (both_ways _ no refl))
  | inr f ↦
      let rest : list_any (is_counted nodes) drafts ≡ false = rw f at h in
      let own : is_kept nodes earlier draft ≡ true = keeps nodes earlier draft draft.subscription f in
      rw own (ap (λ (ds : List DraftParts). draft ∷ ds) (all_kept_after nodes (earlier ++ draft ∷ []) drafts rest))
]

-- all are kept
pub all_kept : (nodes : List ResourceData) (drafts : List DraftParts) → list_any (is_counted nodes) drafts ≡ false → drafts ≡ kept nodes drafts
all_kept nodes drafts h = sym (all_kept_after nodes [] drafts h)

-- none is for one that counts
none_for : (nodes : List ResourceData) (n left : ℕ) (drafts : List DraftParts) → left_at nodes n ≡ Some left → list_any (is_counted nodes) drafts ≡ false → count_for n drafts ≡ 0
none_for nodes n left [] there h = refl
none_for nodes n left (draft ∷ drafts) there h = elim (cases_Bool (is_counted nodes draft)) [
  | inl t ↦ (let no : true ≡ false = rw t at h in absurd (both_ways _ no refl))
  | inr f ↦
      let rest : list_any (is_counted nodes) drafts ≡ false = rw f at h in
      rw (other draft.subscription f) (none_for nodes n left drafts there rest)
]
  where
    other : (o : Option ℕ) → option_map_or (λ m. is_some (left_at nodes m)) o false ≡ false → option_map_or (λ m. nat_eq m n) o false ≡ false
    other None h = refl
    other (Some m) h = elim (cases_Bool (nat_eq m n)) [
      | inl t ↦ (let is : left_at nodes m ≡ Some left = ap (left_at nodes) (eqb-true m n t) ∙ there in absurd (both_ways _ h (ap is_some is)))
      | inr f ↦ f
    ]

-- nothing is left to any, since none counts
pub none_left : (nodes : List ResourceData) (drafts : List DraftParts) → list_any (is_counted nodes) drafts ≡ false → (n : ℕ) → left_in [] n ≡ spent nodes drafts n
none_left nodes drafts h n = nothing (left_at nodes n) refl
  where
    nothing : (o : Option ℕ) → left_at nodes n ≡ o → None ≡ spent nodes drafts n
    nothing None is = elim (cases_Bool (count_for n drafts == 0)) [ inl t ↦ rw t refl | inr f ↦ rw (f, is) refl ]
    nothing (Some left) is = rw (none_for nodes n left drafts is h) refl

-- what is kept, and what is left
pub ruleset none_counted = (all_kept, none_left)

-- no rows are in order
pub none_in_order : (rows : List (ℕ × ℕ)) → rows ≡ [] → IsStrictlySortedBy nat_cmp (keys_of rows)
unfolding IsStrictlySortedBy
none_in_order rows none = subst (λ (rs : List (ℕ × ℕ)). IsStrictlySortedBy nat_cmp (keys_of rs)) (sym none) tt
