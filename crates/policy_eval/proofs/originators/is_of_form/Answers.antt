use Rattle.policy_eval.proofs.originators.is_of_form.Goals as goal

pub returns-in-Own : goal.returns-in-Own
returns-in-Own c =
    let own = rw c.in-Own.is at c.requires in
    rw own c.is_own.ensures

pub is_other-requires : goal.is_other-requires
is_other-requires c =
    let other = rw c.in-Other.is at c.requires in
    other.1

pub returns-in-Other : goal.returns-in-Other
returns-in-Other c =
    let other = rw c.in-Other.is at c.requires in
    rw other.0 c.is_other.ensures
