use Rattle.std.proofs.Common.{[], ◌∷◌, Some, codes, refl, sym, subst}
use Rattle.m2m_value.specs.Node.{AreSorted, HaveTextKeys}
use Rattle.filter_criteria.specs.Values.{NamedValue}
use Rattle.filter_criteria.proofs.Present.{present_sorted, present_texts}
use Rattle.group_fanout.proofs.MemberLemmas.{four_present}
use Rattle.group_fanout.proofs.gathering.gathered_one.Goals as goal

pub sorted_object-requires-clause-sorted : goal.sorted_object-requires-clause-sorted
sorted_object-requires-clause-sorted c =
    let content : NamedValue = (codes "pc", c.into_parts-rsc.result.pc) in
    let id : NamedValue = (codes "rqi", c.map.result) in
    let status : NamedValue = (codes "rsc", Some c.status_value.result) in
    let target : NamedValue = (codes "to", Some c.of_text.result) in
    let is = four_present content id status target _ _ _ _ _ c.in_ok-entries.ensures.items c.in_ok-push_member.ensures.ok c.in_ok-push_member-2.ensures.ok c.in_ok-push_member-3.ensures.ok c.in_ok-push_member-4.ensures.ok in
    subst AreSorted (sym is) (present_sorted (content ∷ id ∷ status ∷ target ∷ []) refl)

pub sorted_object-requires-clause-texts : goal.sorted_object-requires-clause-texts
sorted_object-requires-clause-texts c =
    let content : NamedValue = (codes "pc", c.into_parts-rsc.result.pc) in
    let id : NamedValue = (codes "rqi", c.map.result) in
    let status : NamedValue = (codes "rsc", Some c.status_value.result) in
    let target : NamedValue = (codes "to", Some c.of_text.result) in
    let is = four_present content id status target _ _ _ _ _ c.in_ok-entries.ensures.items c.in_ok-push_member.ensures.ok c.in_ok-push_member-2.ensures.ok c.in_ok-push_member-3.ensures.ok c.in_ok-push_member-4.ensures.ok in
    subst HaveTextKeys (sym is) (present_texts (content ∷ id ∷ status ∷ target ∷ []) refl)
