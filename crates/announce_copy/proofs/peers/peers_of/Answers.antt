use Rattle.std.proofs.Common.{◌≡◌, List, true, rules}
use Rattle.m2m_names.specs.declared.attributes.Attr.TheVariants.{At}
use Rattle.m2m_names.specs.declared.types.Ty.TheVariants.{ContentInstance}
use Rattle.m2m_value.specs.Data.{Data}
use Rattle.policy_eval.specs.Rules.{listed_in}
use Rattle.resource_model.specs.Attributes.{value_of}
use Rattle.resource_model.specs.Resource.{is_ty}
use Rattle.announce_copy.proofs.PeerLemmas.{admitted_peers}
use Rattle.announce_copy.proofs.peers.peers_of.Goals as goal

pub returns-clause-value : goal.returns-clause-value
returns-clause-value g c =
    let r = c.args.resource.now in
    let values : List Data = c.listed_in-values.result.now in
    let instance : is_ty r.ty ContentInstance ≡ true = search rules in
    let listed : values ≡ listed_in (value_of At r.attrs) = search rules in
    admitted_peers (g.T.Tree.nodes c.args.tree.now) r c.parent-container.result values _ c.admitted_by.result
    instance c.parent-container.ensures.value listed c.in_ok-note_container.ensures.there c.admitted_by.ensures
