use Rattle.std.proofs.Common.{◌≡◌, [], ◌∷◌, ◌++◌, map, take, refl, sym, ap, ◌∙◌, subst}
use Rattle.std.proofs.lemmas.List.{take_all}
use Rattle.m2m_value.specs.Data.{object, pairs_of}
use Rattle.m2m_value.specs.Node.{AreSorted, HaveTextKeys}
use Rattle.primitive_json.specs.Members.{all_members}
use Rattle.filter_criteria.specs.Values.{present}
use Rattle.primitive_json.specs.Writing.{written_member, written_request}
use Rattle.filter_criteria.proofs.Present.{present-more, present_sorted, present_texts}
use Rattle.primitive_json.proofs.writing.write_request.Goals as goal

pub loop-member-preserved : goal.loop-member-preserved
loop-member-preserved c =
    let so_far = present (map (written_member c.parts-parts.result.now) (take c.loop-member.member-index all_members)) in
    let name = c.name.ensures in
    let value = c.in_ok-value.ensures in
    c.in_ok-push_member.ensures.ok
    ∙ ap (λ es. es ++ present ((c.name.result.now, c.in_ok-value.value) ∷ [])) c.loop-member.invariant
    ∙ (λ i. so_far ++ present ((name i, value i) ∷ []))
    ∙ sym (present-more (written_member c.parts-parts.result.now) all_members c.loop-member.member-index _ c.loop-member-test.true)

pub sorted_object-requires-clause-sorted : goal.sorted_object-requires-clause-sorted
sorted_object-requires-clause-sorted c =
    let all = take_all c.loop-member.member-index all_members c.loop-member-test.false in
    let is : c.loop-member.entries.items ≡ present (map (written_member c.parts-parts.result.now) all_members) = c.loop-member.invariant ∙ ap (λ ms. present (map (written_member c.parts-parts.result.now) ms)) all in
    subst AreSorted (sym is) (present_sorted (map (written_member c.parts-parts.result.now) all_members) refl)

pub sorted_object-requires-clause-texts : goal.sorted_object-requires-clause-texts
sorted_object-requires-clause-texts c =
    let all = take_all c.loop-member.member-index all_members c.loop-member-test.false in
    let is : c.loop-member.entries.items ≡ present (map (written_member c.parts-parts.result.now) all_members) = c.loop-member.invariant ∙ ap (λ ms. present (map (written_member c.parts-parts.result.now) ms)) all in
    subst HaveTextKeys (sym is) (present_texts (map (written_member c.parts-parts.result.now) all_members) refl)

pub returns : goal.returns
returns c =
    let all = take_all c.loop-member.member-index all_members c.loop-member-test.false in
    let is : c.loop-member.entries.items ≡ present (map (written_member c.parts-parts.result.now) all_members) = c.loop-member.invariant ∙ ap (λ ms. present (map (written_member c.parts-parts.result.now) ms)) all in
    c.sorted_object.ensures ∙ ap (λ es. object (pairs_of es)) is ∙ ap written_request c.parts-parts.ensures.same
