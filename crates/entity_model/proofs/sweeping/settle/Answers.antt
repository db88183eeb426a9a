use Rattle.std.proofs.Common.{List, sym, ap, ◌∙◌, subst}
use Rattle.resource_model.specs.Resource.{ResourceData}
use Rattle.entity_model.specs.Entity.{EntityData}
use Rattle.entity_model.specs.Sound.{IsSoundEntity}
use Rattle.entity_model.proofs.SoundLemmas.{all_still_live}
use Rattle.entity_model.proofs.sweeping.settle.Goals as goal

pub find_dues-requires : goal.find_dues-requires
find_dues-requires g c =
    let before : EntityData = record { home = c.entity.inside.home; nodes = g.T.Tree.nodes c.entity.inside.tree; next = c.entity.inside.next; last = c.entity.inside.last; items = c.entity.inside.outbox.items; numbered = c.entity.inside.outbox.count } in
    all_still_live before c.entity.invariant

pub invariant_of-entity : goal.invariant_of-entity
invariant_of-entity g c =
    let before : EntityData = record { home = c.entity.inside.home; nodes = g.T.Tree.nodes c.entity.inside.tree; next = c.entity.inside.next; last = c.entity.inside.last; items = c.entity.inside.outbox.items; numbered = c.entity.inside.outbox.count } in
    subst IsSoundEntity (sym (ap (λ (nodes : List ResourceData). record before { nodes = nodes }) c.find_dues.ensures)) c.entity.invariant

pub returns : goal.returns
returns g c =
    let before : EntityData = record { home = c.entity.inside.home; nodes = g.T.Tree.nodes c.entity.inside.tree; next = c.entity.inside.next; last = c.entity.inside.last; items = c.entity.inside.outbox.items; numbered = c.entity.inside.outbox.count } in
    ap (λ (nodes : List ResourceData). record before { nodes = nodes }) c.find_dues.ensures ∙ c.entity.view_is
