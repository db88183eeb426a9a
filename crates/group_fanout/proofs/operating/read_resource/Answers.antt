use Rattle.std.proofs.Common.{sym, ap, ◌∙◌}
use Rattle.entity_model.specs.Entity.{EntityData}
use Rattle.retrieve_discover.specs.Replies.{discovered, retrieved}
use Rattle.group_fanout.specs.Operations.{reading_reply}
use Rattle.group_fanout.proofs.OperationLemmas.{reading_found, reading_shown, replied}
use Rattle.group_fanout.proofs.operating.read_resource.Goals as goal

-- what looks for resources is answered by discovery
pub returns-then-is_discovery : goal.returns-then-is_discovery
returns-then-is_discovery g c =
    let e = c.args.entity.now in
    let request = c.args.request.now in
    let n = c.args.number in
    let o = c.args.originator.now in
    replied c.discover.result (discovered c.entity.inside.home (g.T.Tree.nodes c.entity.inside.tree) o request n) (reading_reply e request n)
    (reading_found e request n o c.requires.claimed (sym c.is_discovery.ensures ∙ c.if-is_discovery.true)
    ∙ ap (λ (x : EntityData). discovered x.home x.nodes o request n) (sym c.entity.view_is))
    c.discover.ensures

-- and what doesn't is shown
pub returns-else-is_discovery : goal.returns-else-is_discovery
returns-else-is_discovery g c =
    let e = c.args.entity.now in
    let request = c.args.request.now in
    let n = c.args.number in
    let o = c.args.originator.now in
    replied c.retrieve.result (retrieved c.entity.inside.home (g.T.Tree.nodes c.entity.inside.tree) o request n) (reading_reply e request n)
    (reading_shown e request n o c.requires.claimed (sym c.is_discovery.ensures ∙ c.if-is_discovery.false)
    ∙ ap (λ (x : EntityData). retrieved x.home x.nodes o request n) (sym c.entity.view_is))
    c.retrieve.ensures
