-- Whom no change is told to: nothing that an operation tells is for it.
use Rattle.std.specs.Prelude.{nat_eq}
use Rattle.std.proofs.Common.{◌≡◌, ℕ, ◌+◌, List, [], ◌∷◌, ◌++◌, length, true, Option, Some, None, option_map, inl, inr, refl, sym, ap, ◌∙◌, length-append}
use Rattle.std.proofs.lemmas.Bool.{cases_Bool, eqb-true}
use Rattle.std.proofs.lemmas.List.Elements.{filter-append}
use Rattle.std.specs.List.{filter, filter_map, cons_option, AllByRecursion}
use Rattle.m2m_names.specs.declared.attributes.Attr.TheVariants.{Su}
use Rattle.m2m_names.specs.declared.types.Ty.TheVariants.{Subscription}
use Rattle.resource_model.specs.Attributes.{text_at}
use Rattle.resource_model.specs.Home.{HomeData}
use Rattle.resource_model.specs.Resource.{ResourceData, has_number, is_ty}
use Rattle.subscription_match.specs.Matching.{event_for}
use Rattle.subscription_match.specs.Notices.{listed, notes_of, notes_of_all, notice_to, notices, told, told_as, told_to_all}
use Rattle.subscription_match.specs.Spending.{count_for, is_for}
use Rattle.subscription_match.specs.declared.drafts.DraftParts.{DraftParts}
use Rattle.subscription_match.specs.declared.events.EventKind.{EventKind}
use Rattle.tree_model.specs.Changes.{ChangeData, created, updated, deleted}
use Rattle.tree_model.specs.Tree.{at, is_tree}
use Rattle.tree_model.proofs.OrderLemmas.{tree_ascends}
use Rattle.entity_model.proofs.LoweringLemmas.{each_of}

module _ (n : ℕ) where
  count-append : (xs ys : List DraftParts) → count_for n (xs ++ ys) ≡ count_for n xs + count_for n ys
  count-append xs ys = ap length (filter-append (is_for n) xs ys) ∙ length-append (filter (is_for n) xs) (filter (is_for n) ys)

  none_of_two : (xs ys : List DraftParts) → count_for n xs ≡ 0 → count_for n ys ≡ 0 → count_for n (xs ++ ys) ≡ 0
  none_of_two xs ys first second = count-append xs ys ∙ rw (first, second) refl

  module _ (home : HomeData) (nodes : List ResourceData) (going : List ℕ) where
    -- the change isn't told to the resource of the number
    abbrev pub IsUntold : ChangeData → Type 0
    IsUntold change = (s : ResourceData) → at n nodes ≡ Some s → event_for going change s ≡ None

    told_one : (change : ChangeData) (s : ResourceData) (rest : List DraftParts) (o : Option EventKind) → (has_number n s ≡ true → event_for going change s ≡ None) → event_for going change s ≡ o → count_for n rest ≡ 0 → count_for n (cons_option (option_map (told_as home nodes change s) o) rest) ≡ 0
    told_one change s rest None untold is none = none
    told_one change s rest (Some kind) untold is none = elim (cases_Bool (nat_eq s.number n)) [
      | inl t ↦ (let both : None ≡ Some kind = sym (untold t) ∙ is in cc)
      | inr f ↦ rw f none
    ]

    told_none : (change : ChangeData) (rs : List ResourceData) → AllByRecursion (λ (s : ResourceData). has_number n s ≡ true → event_for going change s ≡ None) rs → count_for n (filter_map (told home nodes going change) rs) ≡ 0
    told_none change [] each = refl
    told_none change (s ∷ rs) each = told_one change s (filter_map (told home nodes going change) rs) (event_for going change s) each.0 refl (told_none change rs each.1)

    no_notice : (change : ChangeData) → count_for n (notices home change) ≡ 0
    no_notice (created r) = refl
    no_notice (updated r s named) = refl
    no_notice (deleted r) = elim (cases_Bool (is_ty r.ty Subscription)) [
      | inl t ↦ rw t (by_su (text_at Su r.attrs))
      | inr f ↦ rw f refl
    ]
      where
        by_su : (o : Option (List ℕ)) → count_for n (listed (option_map (notice_to home r) o)) ≡ 0
        by_su None = refl
        by_su (Some su) = refl

    note_none : is_tree nodes ≡ true → (change : ChangeData) → IsUntold change → count_for n (notes_of home nodes going change) ≡ 0
    note_none tree change untold =
        none_of_two (told_to_all home nodes going change) (notices home change)
        (told_none change nodes (each_of (λ (s : ResourceData). has_number n s ≡ true → event_for going change s ≡ None) nodes (tree_ascends nodes tree) (λ s found own. untold s (ap (λ (m : ℕ). at m nodes) (sym (eqb-true s.number n own)) ∙ found))))
        (no_notice change)

    -- where no change of an operation is, nothing that it tells is for that resource
    pub not_told : is_tree nodes ≡ true → (changes : List ChangeData) → AllByRecursion IsUntold changes → count_for n (notes_of_all home nodes going changes) ≡ 0
    not_told tree [] each = refl
    not_told tree (change ∷ changes) each =
        none_of_two (notes_of home nodes going change) (notes_of_all home nodes going changes)
        (note_none tree change each.0) (not_told tree changes each.1)
