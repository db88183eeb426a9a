use Rattle.std.proofs.Common.{◌≡◌, [], ◌∷◌, ◌++◌, Ok, IsUtf8, string_bytes, map, inl, inr, sym, ap, ◌∙◌, subst, arith, append-nil}
use Rattle.std.proofs.lemmas.Grind.{common_steps}
use Rattle.std.proofs.lemmas.Result.{err_from_is_err_and}
use Rattle.std.specs.Cmp.Lexicographic.{slice_cmp}
use Rattle.std.specs.List.{AllByRecursion}
use Rattle.std.specs.List.Sorted.{IsStrictlySortedBy}
use Rattle.std.specs.Ordering.{nat_cmp}
use Rattle.std.specs.Map.{keys_of}
use Rattle.std.specs.Vec.Iter.{into_iter_items}
use Rattle.serde_json.specs.View.{view, items_view, members_view}
use Rattle.serde_json.proofs.Views.{Entry}
use Rattle.m2m_value.specs.Data.{elements_of, pairs_of}
use Rattle.m2m_value.specs.Reading.{elements_in, pairs_in}
use Rattle.m2m_value.proofs.Answering.{after_kept, pairs_after_kept, onto-none, pairs_onto-none, element_kept, pair_kept, element_refused, pair_refused, text_keys-push, keys_of-push, sorted_texts}
use Rattle.m2m_value.proofs.reading.+kept.Goals as goal

pub kept_items-returns-in_err-kept : goal.kept_items-returns-in_err-kept
kept_items-returns-in_err-kept t c =
    let l = c.loop-item in
    let rest = into_iter_items c.next.new.self in
    let step : into_iter_items l.item-iterator ≡ c.in-Some.item ∷ rest = grind (arith, common_steps) in
    let p = err_from_is_err_and c.from_residual-in_err-kept.result c.from_residual-in_err-kept.ensures.1 in
    rw (p.1, p.2) (elim c.in_err-kept.ensures [
      | inl memory ↦ inl memory
      | inr told ↦ inr (l.invariant ∙ ap (λ vs. after_kept l.values.items (elements_in (items_view vs))) step ∙ element_refused l.values.items (view c.in-Some.item) (items_view rest) _ told)
    ])

pub kept_items-loop-item-preserved : goal.kept_items-loop-item-preserved
kept_items-loop-item-preserved t c =
    let l = c.loop-item in
    let rest = into_iter_items c.next.new.self in
    let step : into_iter_items l.item-iterator ≡ c.in-Some.item ∷ rest = grind (arith, common_steps) in
    l.invariant ∙ ap (λ vs. after_kept l.values.items (elements_in (items_view vs))) step
    ∙ element_kept l.values.items c.push.new.self.items (view c.in-Some.item) (items_view rest) _ c.in_ok-kept.ensures c.in_ok-push.ensures.items

pub kept_items-returns : goal.kept_items-returns
kept_items-returns t c =
    let l = c.loop-item in
    let none : into_iter_items l.item-iterator ≡ [] = grind (arith, common_steps) in
    l.invariant ∙ ap (λ vs. after_kept l.values.items (elements_in (items_view vs))) none ∙ ap Ok (onto-none l.values.items ∙ ap elements_of (sym c.of.ensures))

pub kept_members-returns-in_err-kept : goal.kept_members-returns-in_err-kept
kept_members-returns-in_err-kept t c =
    let l = c.loop-key in
    let e : Entry = (c.in-Some.key, c.in-Some.member) in
    let rest = c.next.new.self in
    let step : l.key-iterator ≡ e ∷ rest = grind (arith, common_steps) in
    let p = err_from_is_err_and c.from_residual-in_err-kept.result c.from_residual-in_err-kept.ensures.1 in
    rw (p.1, p.2) (record {
      value = elim c.in_err-kept.ensures [
        | inl memory ↦ inl memory
        | inr told ↦ inr (l.invariant.0 ∙ ap (λ es. pairs_after_kept l.entries.items (pairs_in (members_view es))) step ∙ pair_refused l.entries.items (string_bytes e.0) (view e.1) (members_view rest) _ told)
      ];
      texts = tt;
    })

pub kept_members-loop-key-preserved : goal.kept_members-loop-key-preserved
kept_members-loop-key-preserved t c =
    let l = c.loop-key in
    let e : Entry = (c.in-Some.key, c.in-Some.member) in
    let rest = c.next.new.self in
    let v = c.in_ok-kept.field-0 in
    let step : l.key-iterator ≡ e ∷ rest = grind (arith, common_steps) in
    let pushed : c.push.new.self.items ≡ l.entries.items ++ (string_bytes e.0, v) ∷ [] = rw (← c.key_of.ensures.value) c.in_ok-push.ensures.items in (
      l.invariant.0 ∙ ap (λ es. pairs_after_kept l.entries.items (pairs_in (members_view es))) step
          ∙ pair_kept l.entries.items c.push.new.self.items (string_bytes e.0) (view e.1) (members_view rest) v c.in_ok-kept.ensures pushed,
      subst (λ es. AllByRecursion IsUtf8 (keys_of es)) (sym pushed) (text_keys-push l.entries.items (string_bytes e.0, v) l.invariant.1 c.key_of.ensures.utf8),
      l.invariant.2 ∙ ap (λ es. keys_of l.entries.items ++ map string_bytes (keys_of es)) step
          ∙ keys_of-push l.entries.items (string_bytes e.0, v) (map string_bytes (keys_of rest))
          ∙ ap (λ es. keys_of es ++ map string_bytes (keys_of rest)) (sym pushed),
    )

pub kept_members-of-requires : goal.kept_members-of-requires
kept_members-of-requires t c =
    let l = c.loop-key in
    let none : l.key-iterator ≡ [] = grind (arith, common_steps) in
    let same = l.invariant.2 ∙ ap (λ es. keys_of l.entries.items ++ map string_bytes (keys_of es)) none ∙ append-nil _ in
    subst (IsStrictlySortedBy (slice_cmp nat_cmp)) same (sorted_texts _ c.into_iter-key-iterator.ensures.into_iter_gives.5)

pub kept_members-returns-clause-value : goal.kept_members-returns-clause-value
kept_members-returns-clause-value t c =
    let l = c.loop-key in
    let none : l.key-iterator ≡ [] = grind (arith, common_steps) in
    l.invariant.0 ∙ ap (λ es. pairs_after_kept l.entries.items (pairs_in (members_view es))) none ∙ ap Ok (pairs_onto-none l.entries.items ∙ ap pairs_of (sym c.of.ensures))
