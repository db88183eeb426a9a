use Rattle.std.proofs.Common.{◌≡◌, Option, Some, None, if◌then◌else◌, option_and_then, refl, ap, ◌∙◌}
use Rattle.m2m_value.specs.Data.{Data}
use Rattle.m2m_value.specs.View.{member_of}
use Rattle.filter_criteria.specs.Conditions as conditions
use Rattle.filter_criteria.specs.Values.{members_in}
use Rattle.primitive_json.specs.Members.{name_of_member, is_read}
use Rattle.primitive_json.specs.Reading.{kept_in}
use Rattle.filter_criteria.specs.declared.condition.Condition.TheVariants.{OneLabel}
use Rattle.primitive_json.specs.declared.member.Member.TheVariants.{FilterCriteria, Originator, Content, RequestId}
use Rattle.primitive_json.proofs.kept.taken_values.Goals as goal

pub returns : goal.returns
returns c =
    let first = c.take_read.ensures.others in
    let second = c.take_read-2.ensures.others in
    let third = c.take_read-3.ensures.others in
    let fourth = c.take_read-4.ensures.others in
    let to = c.take_read.ensures.value in
    let fr = c.take_read-2.ensures.value ∙ first (name_of_member Originator) refl in
    let rqi = c.take_read-3.ensures.value ∙ second (name_of_member RequestId) refl ∙ first (name_of_member RequestId) refl in
    let pc = c.take_read-4.ensures.value
    ∙ ap (λ (d : Option Data). if is_read (Some c.args.op) Content then d else None) (third (name_of_member Content) refl ∙ second (name_of_member Content) refl ∙ first (name_of_member Content) refl) in
    let fc = c.take_read-5.ensures.value
    ∙ fourth (name_of_member FilterCriteria) refl ∙ third (name_of_member FilterCriteria) refl ∙ second (name_of_member FilterCriteria) refl ∙ first (name_of_member FilterCriteria) refl in
    let lbl = c.labels_into.ensures ∙ ap (option_and_then (λ d. member_of (conditions.name_of_condition OneLabel) (members_in d))) fc in
    (λ i. record { to = to i; fr = fr i; rqi = rqi i; pc = pc i; lbl = lbl i }) ∙ ap (kept_in c.args.op) c.members_into-members.ensures
