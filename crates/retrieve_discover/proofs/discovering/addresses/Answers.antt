use Rattle.std.proofs.Common.{◌≡◌, ap, ◌∙◌, map}
use Rattle.std.proofs.lemmas.Result.{IfOk-weaker}
use Rattle.filter_criteria.specs.declared.filter.FilterParts.{FilterParts}
use Rattle.m2m_names.specs.Name.{is_originator}
use Rattle.known_rights.specs.Askers.{AskerData}
use Rattle.retrieve_discover.specs.Findings.{address, found}
use Rattle.retrieve_discover.proofs.discovering.addresses.Goals as goal

pub addresses_for-requires-clause-originator : goal.addresses_for-requires-clause-originator
addresses_for-requires-clause-originator g c =
    ap (λ (a : AskerData). is_originator a.originator) c.in_ok-asker.ensures ∙ c.requires.originator

pub returns : goal.returns
returns g c =
    let nodes = g.T.Tree.nodes c.args.tree.now in
    let show = address c.args.by_id nodes in
    let a = c.in_ok-asker.asker in
    let f = c.in_ok-asked.asked in
    let same =
    ap (λ (b : AskerData). map show (found b.home nodes b.originator f c.args.target)) c.in_ok-asker.ensures
    ∙ ap (λ (p : FilterParts). map show (found c.args.home.now nodes c.args.originator.now p c.args.target)) c.in_ok-asked.ensures in
    IfOk-weaker c.addresses_for.result (λ v. v.items ≡ map show (found a.home nodes a.originator f c.args.target)) (λ v. v.items ≡ map show (found c.args.home.now nodes c.args.originator.now c.args.filter.now c.args.target)) (λ v is. is ∙ same) c.addresses_for.ensures
