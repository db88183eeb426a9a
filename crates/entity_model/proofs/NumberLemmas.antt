-- What an expiry leaves of an entity, by what it leaves of the tree.
use Rattle.std.proofs.Common.{◌≡◌, ℕ, List, ap, ◌∙◌}
use Rattle.resource_model.specs.Resource.{ResourceData}
use Rattle.tree_model.specs.Tree.{live}
use Rattle.notify_outbox.specs.declared.item.Item.{Item}
use Rattle.entity_model.specs.Entity.{EntityData, expired, still_waiting}

pub expired_is : (e : EntityData) (moment : ℕ) (after : List ResourceData) (items : List Item) → after ≡ live moment e.nodes → items ≡ still_waiting moment e.items → record e { nodes = after; last = moment; items = items } ≡ expired moment e
expired_is e moment after items left waiting =
    ap (λ (nodes : List ResourceData). record e { nodes = nodes; last = moment; items = items }) left
    ∙ ap (λ (is : List Item). record e { nodes = live moment e.nodes; last = moment; items = is }) waiting
