use Rattle.std.proofs.Common.{ℕ, List, ◌++◌, sym, ap, ◌∙◌, subst}
use Rattle.std.specs.List.Sorted.{IsStrictlySortedBy}
use Rattle.std.specs.Map.{keys_of}
use Rattle.std.specs.Ordering.{nat_cmp}
use Rattle.subscription_match.specs.Items.{items_of}
use Rattle.subscription_match.specs.Spending.{kept, left_in, spent}
use Rattle.subscription_match.specs.declared.drafts.DraftParts.{DraftParts}
use Rattle.entity_model.specs.Entity.{copy_requests}
use Rattle.entity_model.specs.Lowering.{spent_numbers}
use Rattle.entity_model.proofs.OnePassLemmas.{none_ascend}
use Rattle.entity_model.proofs.telling.nothing_told.Goals as goal

pub returns-clause-told : goal.returns-clause-told
returns-clause-told c home nodes going changes none_told none_sent = record {
  notes =
      c.new.ensures.items
      ∙ sym none_sent
      ∙ ap (λ (drafts : List DraftParts). items_of home nodes (kept nodes drafts) ++ copy_requests home nodes changes) (sym none_told);
  left = λ n.
      ap (λ (rows : List (ℕ × ℕ)). left_in rows n) c.new-2.ensures.items
      ∙ ap (λ (drafts : List DraftParts). spent nodes drafts n) (sym none_told);
  order = subst (λ (rows : List (ℕ × ℕ)). IsStrictlySortedBy nat_cmp (keys_of rows)) (sym c.new-2.ensures.items) none_ascend;
}

pub invariant_of-result : goal.invariant_of-result
invariant_of-result c = record {
  order = subst (λ (rows : List (ℕ × ℕ)). IsStrictlySortedBy nat_cmp (keys_of rows)) (sym c.new-2.ensures.items) none_ascend;
  numbers = c.new-3.ensures.items ∙ ap (λ (rows : List (ℕ × ℕ)). spent_numbers rows) (sym c.new-2.ensures.items);
}
