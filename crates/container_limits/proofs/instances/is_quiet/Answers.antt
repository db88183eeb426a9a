use Rattle.std.proofs.Common.{◌≡◌, true, Option, ap, sym, ◌∙◌}
use Rattle.std.proofs.lemmas.Bool.{OnTrue_from, ltb-true}
use Rattle.resource_model.specs.Resource.{ResourceData}
use Rattle.tree_model.specs.Tree.{at}
use Rattle.container_limits.specs.Limits.{is_mia_of}
use Rattle.container_limits.proofs.QuietLemmas.{no_instance_due}
use Rattle.container_limits.proofs.instances.is_quiet.Goals as goal

pub returns-then-is_mia_of-clause-quiet : goal.returns-then-is_mia_of-clause-quiet
returns-then-is_mia_of-clause-quiet g c =
    let own : is_mia_of (at c.args.container (g.T.Tree.nodes c.args.tree.now)) c.args.mia ≡ true =
    ap (λ (o : Option ResourceData). is_mia_of o c.args.mia) (sym c.get.ensures.value) ∙ sym c.is_mia_of.ensures ∙ c.if-is_mia_of.true in
    OnTrue_from _ _ (λ t. no_instance_due (g.T.Tree.nodes c.args.tree.now) c.args.container c.quiet_until.result c.args.moment c.args.mia c.quiet_until.ensures (ltb-true c.args.moment c.quiet_until.result t) own)
