use Rattle.std.proofs.Common.{[], ◌∷◌, Some, refl, sym, subst}
use Rattle.m2m_value.specs.Node.{AreSorted, HaveTextKeys}
use Rattle.primitive_json.specs.Reading.{rsc_name, rqi_name, pc_name}
use Rattle.filter_criteria.specs.Values.{NamedValue}
use Rattle.filter_criteria.proofs.Present.{three_present, present_sorted, present_texts}
use Rattle.primitive_json.proofs.writing.reply_into.Goals as goal

pub sorted_object-requires-clause-sorted : goal.sorted_object-requires-clause-sorted
sorted_object-requires-clause-sorted c =
    let content : NamedValue = (pc_name, c.into_parts-rsc.result.pc) in
    let id : NamedValue = (rqi_name, c.map.result) in
    let status : NamedValue = (rsc_name, Some c.status_value.result) in
    let is = three_present content id status _ _ _ _ c.in_ok-entries.ensures.items c.in_ok-push_member.ensures.ok c.in_ok-push_member-2.ensures.ok c.in_ok-push_member-3.ensures.ok in
    subst AreSorted (sym is) (present_sorted (content ∷ id ∷ status ∷ []) refl)

pub sorted_object-requires-clause-texts : goal.sorted_object-requires-clause-texts
sorted_object-requires-clause-texts c =
    let content : NamedValue = (pc_name, c.into_parts-rsc.result.pc) in
    let id : NamedValue = (rqi_name, c.map.result) in
    let status : NamedValue = (rsc_name, Some c.status_value.result) in
    let is = three_present content id status _ _ _ _ c.in_ok-entries.ensures.items c.in_ok-push_member.ensures.ok c.in_ok-push_member-2.ensures.ok c.in_ok-push_member-3.ensures.ok in
    subst HaveTextKeys (sym is) (present_texts (content ∷ id ∷ status ∷ []) refl)
