use Rattle.std.proofs.Common.{◌≡◌, true, Some, subst}
use Rattle.std.specs.Prelude.{is_ok}
use Rattle.addressing.specs.Addresses.{address_of}
use Rattle.addressing.specs.Short.{short_of}
use Rattle.entity_model.specs.Entity.{EntityData}
use Rattle.group_fanout.specs.Rights.{asking, claimed_originator}
use Rattle.accepted_requests.specs.Asked.{IsAskedAs}
use Rattle.later_replies.proofs.stepping.asked_by.Goals as goal

pub returns-clause-asked : goal.returns-clause-asked
returns-clause-asked g c =
    let request = c.args.request.now in
    let requests = c.args.requests.now in
    subst (λ (e : EntityData). is_ok (address_of e.home request.to) ≡ true → short_of e.home (asking request) ≡ Some (claimed_originator e.home request) → IsAskedAs e.home (claimed_originator e.home request) requests request c.of.result)
    c.entity.view_is (c.of.ensures.asked (claimed_originator c.entity.inside.home request))

pub returns-clause-originator : goal.returns-clause-originator
returns-clause-originator g c = c.of.ensures.originator
