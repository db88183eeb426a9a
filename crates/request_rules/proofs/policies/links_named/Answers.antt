use Rattle.std.proofs.Common.{◌≡◌, Bool, List, true, false, ◌&&◌, is_some, ap, sym, ◌∙◌}
use Rattle.std.specs.List.{list_all}
use Rattle.m2m_names.specs.declared.attributes.Attr.TheVariants.{Acpi, Macp}
use Rattle.m2m_value.specs.Data.{Data}
use Rattle.request_rules.specs.Policies.{are_policies, policy_ids, policy_meant}
use Rattle.request_rules.proofs.PolicyLemmas.{found_live, lacks_live}
use Rattle.request_rules.proofs.policies.links_named.Goals as goal

-- one that `macp` names isn't live
pub returns-in_default-2-clause-live : goal.returns-in_default-2-clause-live
returns-in_default-2-clause-live g c =
    let e = c.args.entity.now in
    let es = c.args.members.now in
    let all : List Data → Bool = λ ds. list_all (λ d. is_some (policy_meant e d)) ds in
    let some = rw c.in-Some.is at c.in_ok-acpi.ensures in
    let none = rw c.in_default-2.is at c.in_ok-macp.ensures in
    let acpi : are_policies e Acpi es ≡ true = ap all (sym c.listed.ensures) ∙ found_live (all c.listed.result.now) (policy_ids e c.listed.result.now) c.in-Some.acpi.items some in
    let macp : are_policies e Macp es ≡ false = ap all (sym c.listed-2.ensures) ∙ lacks_live (all c.listed-2.result.now) (policy_ids e c.listed-2.result.now) none in
    sym (ap (λ (b : Bool). b && are_policies e Macp es) acpi ∙ macp)

-- all are live
pub returns-clause-live : goal.returns-clause-live
returns-clause-live g c =
    let e = c.args.entity.now in
    let es = c.args.members.now in
    let all : List Data → Bool = λ ds. list_all (λ d. is_some (policy_meant e d)) ds in
    let some = rw c.in-Some.is at c.in_ok-acpi.ensures in
    let more = rw c.in-Some-2.is at c.in_ok-macp.ensures in
    let acpi : are_policies e Acpi es ≡ true = ap all (sym c.listed.ensures) ∙ found_live (all c.listed.result.now) (policy_ids e c.listed.result.now) c.in-Some.acpi.items some in
    let macp : are_policies e Macp es ≡ true = ap all (sym c.listed-2.ensures) ∙ found_live (all c.listed-2.result.now) (policy_ids e c.listed-2.result.now) c.in-Some-2.macp.items more in
    sym (ap (λ (b : Bool). b && are_policies e Macp es) acpi ∙ macp)
