use Rattle.std.proofs.Common.{◌≡◌, [], ◌∷◌, List, Some, codes, refl, sym, ap, subst, ◌∙◌}
use Rattle.m2m_names.specs.StatusCodes.{rsc_row}
use Rattle.m2m_value.specs.Data.{Entry, object, pairs_of}
use Rattle.m2m_value.specs.Node.{AreSorted, HaveTextKeys}
use Rattle.m2m_value.specs.View.{member_of}
use Rattle.filter_criteria.specs.Values.{NamedValue, count_data, members_in, object_of}
use Rattle.filter_criteria.proofs.Present.{present_sorted, present_texts}
use Rattle.primitive_json.specs.declared.reply.ReplyParts.{ReplyParts}
use Rattle.group_fanout.proofs.MemberLemmas.{four_present}
use Rattle.remote_members.proofs.members.told_anew.Goals as goal

pub sorted_object-requires-clause-sorted : goal.sorted_object-requires-clause-sorted
sorted_object-requires-clause-sorted c =
    let content : NamedValue = (codes "pc", c.into_parts-rsc.result.pc) in
    let id : NamedValue = (codes "rqi", c.in_ok-rqi.rqi) in
    let status : NamedValue = (codes "rsc", Some c.status_value.result) in
    let target : NamedValue = (codes "to", c.in_ok-target.target) in
    let is = four_present content id status target _ _ _ _ _ c.in_ok-entries.ensures.items c.in_ok-push_member.ensures.ok c.in_ok-push_member-2.ensures.ok c.in_ok-push_member-3.ensures.ok c.in_ok-push_member-4.ensures.ok in
    subst AreSorted (sym is) (present_sorted (content ∷ id ∷ status ∷ target ∷ []) refl)

pub sorted_object-requires-clause-texts : goal.sorted_object-requires-clause-texts
sorted_object-requires-clause-texts c =
    let content : NamedValue = (codes "pc", c.into_parts-rsc.result.pc) in
    let id : NamedValue = (codes "rqi", c.in_ok-rqi.rqi) in
    let status : NamedValue = (codes "rsc", Some c.status_value.result) in
    let target : NamedValue = (codes "to", c.in_ok-target.target) in
    let is = four_present content id status target _ _ _ _ _ c.in_ok-entries.ensures.items c.in_ok-push_member.ensures.ok c.in_ok-push_member-2.ensures.ok c.in_ok-push_member-3.ensures.ok c.in_ok-push_member-4.ensures.ok in
    subst HaveTextKeys (sym is) (present_texts (content ∷ id ∷ status ∷ target ∷ []) refl)

pub returns : goal.returns
returns c =
    let content : NamedValue = (codes "pc", c.into_parts-rsc.result.pc) in
    let id : NamedValue = (codes "rqi", c.in_ok-rqi.rqi) in
    let status : NamedValue = (codes "rsc", Some c.status_value.result) in
    let target : NamedValue = (codes "to", c.in_ok-target.target) in
    let is = four_present content id status target _ _ _ _ _ c.in_ok-entries.ensures.items c.in_ok-push_member.ensures.ok c.in_ok-push_member-2.ensures.ok c.in_ok-push_member-3.ensures.ok c.in_ok-push_member-4.ensures.ok in
    let own = c.members_in-told.ensures in
    let kept : c.in_ok-rqi.rqi ≡ member_of (codes "rqi") (members_in c.args.entry.now) = c.in_ok-rqi.ensures ∙ ap (member_of (codes "rqi")) own in
    let to : c.in_ok-target.target ≡ member_of (codes "to") (members_in c.args.entry.now) = c.in_ok-target.ensures ∙ ap (member_of (codes "to")) own in
    let same = c.into_parts-rsc.ensures.same in
    let number : c.status_value.result ≡ count_data (rsc_row c.args.reply.rsc).number =
    c.status_value.ensures ∙ ap (λ (r : ReplyParts). count_data (rsc_row r.rsc).number) same in
    c.sorted_object.ensures ∙ ap (λ (es : List Entry). object (pairs_of es)) is
    ∙ (λ i. object_of ((codes "pc", (same i).pc) ∷ (codes "rqi", kept i) ∷ (codes "rsc", Some (number i)) ∷ (codes "to", to i) ∷ []))
