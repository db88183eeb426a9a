use Rattle.std.proofs.Common.{[], ◌∷◌, codes, ap}
use Rattle.m2m_value.specs.Data.{Data, object, pairs_of}
use Rattle.request_rules.proofs.OrderLemmas.{told_as}
use Rattle.accepted_requests.proofs.form.uri_content.Goals as goal

pub returns : goal.returns
returns c =
    told_as c.object_of_one.result _ _ (ap (λ (d : Data). object (pairs_of ((codes "m2m:uri", d) ∷ []))) c.in_ok-name.ensures) c.object_of_one.ensures
