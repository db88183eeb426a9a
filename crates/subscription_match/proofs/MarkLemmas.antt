-- Drafts that are marked are those that are kept.
use Rattle.std.proofs.Common.{◌≡◌, suc, List, [], ◌∷◌, ◌++◌, length, inl, inr, ap, refl}
use Rattle.std.proofs.lemmas.Bool.{cases_Bool}
use Rattle.std.specs.List.{items_where_true}
use Rattle.resource_model.specs.Resource.{ResourceData}
use Rattle.subscription_match.specs.Spending.{is_kept, kept_after, marks_after}
use Rattle.subscription_match.specs.declared.drafts.DraftParts.{DraftParts}

pub marked_kept : (nodes : List ResourceData) (earlier drafts : List DraftParts) → items_where_true (marks_after nodes earlier drafts) drafts ≡ kept_after nodes earlier drafts
marked_kept nodes earlier [] = refl
marked_kept nodes earlier (draft ∷ drafts) = elim (cases_Bool (is_kept nodes earlier draft)) [
  | inl t ↦ rw t (ap (λ (ds : List DraftParts). draft ∷ ds) (marked_kept nodes (earlier ++ draft ∷ []) drafts))
  | inr f ↦ rw f (marked_kept nodes (earlier ++ draft ∷ []) drafts)
]

-- each has its mark
pub marks_each : (nodes : List ResourceData) (earlier drafts : List DraftParts) → length (marks_after nodes earlier drafts) ≡ length drafts
marks_each nodes earlier [] = refl
marks_each nodes earlier (draft ∷ drafts) = ap (λ n. suc n) (marks_each nodes (earlier ++ draft ∷ []) drafts)
