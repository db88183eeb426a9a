use Rattle.std.proofs.Common.{[], ◌∷◌, codes, List, refl, sym, ap, subst, ◌∙◌}
use Rattle.m2m_value.specs.Data.{Data, Entry, object, pairs_of}
use Rattle.m2m_value.specs.Node.{AreSorted, HaveTextKeys}
use Rattle.filter_criteria.proofs.Present.{present_sorted, present_texts}
use Rattle.request_rules.proofs.OrderLemmas.{told_as}
use Rattle.accepted_requests.specs.Form.{entry_rows}
use Rattle.accepted_requests.proofs.form.entry_content.Goals as goal

pub sorted_object-shown-requires-clause-sorted : goal.sorted_object-shown-requires-clause-sorted
sorted_object-shown-requires-clause-sorted c =
    subst AreSorted (sym c.in_ok-members.ensures) (present_sorted (entry_rows c.args.entry.now) refl)

pub sorted_object-shown-requires-clause-texts : goal.sorted_object-shown-requires-clause-texts
sorted_object-shown-requires-clause-texts c =
    subst HaveTextKeys (sym c.in_ok-members.ensures) (present_texts (entry_rows c.args.entry.now) refl)

pub returns : goal.returns
returns c =
    let shown = c.sorted_object-shown.ensures ∙ ap (λ (es : List Entry). object (pairs_of es)) c.in_ok-members.ensures in
    told_as c.object_of_one.result _ _ (ap (λ (d : Data). object (pairs_of ((codes "m2m:req", d) ∷ []))) shown) c.object_of_one.ensures
