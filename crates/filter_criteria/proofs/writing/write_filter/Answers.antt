use Rattle.std.proofs.Common.{◌≡◌, [], ◌∷◌, ◌++◌, map, take, refl, sym, ap, ◌∙◌, subst}
use Rattle.std.proofs.lemmas.List.{take_all}
use Rattle.m2m_value.specs.Node.{AreSorted, HaveTextKeys}
use Rattle.filter_criteria.specs.Conditions.{all_conditions}
use Rattle.filter_criteria.specs.Values.{present}
use Rattle.filter_criteria.specs.Writing.{written_condition}
use Rattle.filter_criteria.proofs.Present.{present-more, present_sorted, present_texts}
use Rattle.filter_criteria.proofs.writing.write_filter.Goals as goal

pub loop-condition-preserved : goal.loop-condition-preserved
loop-condition-preserved c =
    let so_far = present (map (written_condition c.args.filter.now) (take c.loop-condition.condition-index all_conditions)) in
    let name = c.name.ensures in
    let value = c.in_ok-value.ensures in
    c.in_ok-push_member.ensures.ok
    ∙ ap (λ es. es ++ present ((c.name.result.now, c.in_ok-value.value) ∷ [])) c.loop-condition.invariant
    ∙ (λ i. so_far ++ present ((name i, value i) ∷ []))
    ∙ sym (present-more (written_condition c.args.filter.now) all_conditions c.loop-condition.condition-index _ c.loop-condition-test.true)

pub sorted_object-requires-clause-sorted : goal.sorted_object-requires-clause-sorted
sorted_object-requires-clause-sorted c =
    let all = take_all c.loop-condition.condition-index all_conditions c.loop-condition-test.false in
    let is : c.loop-condition.entries.items ≡ present (map (written_condition c.args.filter.now) all_conditions) = c.loop-condition.invariant ∙ ap (λ ms. present (map (written_condition c.args.filter.now) ms)) all in
    subst AreSorted (sym is) (present_sorted (map (written_condition c.args.filter.now) all_conditions) refl)

pub sorted_object-requires-clause-texts : goal.sorted_object-requires-clause-texts
sorted_object-requires-clause-texts c =
    let all = take_all c.loop-condition.condition-index all_conditions c.loop-condition-test.false in
    let is : c.loop-condition.entries.items ≡ present (map (written_condition c.args.filter.now) all_conditions) = c.loop-condition.invariant ∙ ap (λ ms. present (map (written_condition c.args.filter.now) ms)) all in
    subst HaveTextKeys (sym is) (present_texts (map (written_condition c.args.filter.now) all_conditions) refl)
