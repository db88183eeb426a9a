-- The snapshot of an entity: a text that says all that it is.
use Rattle.std.specs.Prelude.{◌≡◌, ℕ, ◌+◌, ◌≤◌, true, List, [], ◌∷◌, ◌++◌, flat_map, length}
use Rattle.std.specs.List.{AllByRecursion, list_all}
use Rattle.resource_model.specs.Home.{HomeData}
use Rattle.resource_model.specs.Resource.{ResourceData}
use Rattle.notify_outbox.specs.declared.item.Item.{Item}
use Rattle.m2m_value.specs.Shapes.{largest_count}
use Rattle.entity_lines.specs.Heads.{SpellsHead, head_line, head_of}
use Rattle.entity_lines.specs.Items.{CanBeKept, SpellsItem, item_lines}
use Rattle.entity_lines.specs.Resources.{SpellsResource, is_readable, resource_line}
use Rattle.entity_lines.specs.declared.heads.Head.{Head}
use Rattle.entity_model.specs.Entity.{EntityData}
use Rattle.entity_model.specs.Sound.{IsSoundEntity}
use Rattle.entity_soundness.specs.Laws.{AreNumbered}

-- what the first line says of an entity
abbrev pub entity_head : EntityData → Head
entity_head e = head_of e.next e.last e.numbered (length e.nodes) (length e.items)

-- the entity of a home that a head, resources and items are
abbrev pub entity_of : HomeData → Head → List ResourceData → List Item → EntityData
entity_of home head nodes items = record {
  home = home;
  nodes = nodes;
  next = head.next;
  last = head.last;
  items = items;
  numbered = head.numbered;
}

-- the head, the lines of the resources in order of creation, and those of the items
abbrev pub snapshot_of : EntityData → List ℕ
snapshot_of e =
    head_line e.home (entity_head e)
    ++ (flat_map resource_line e.nodes ++ flat_map item_lines e.items)

-- The text spells these one after another.
abbrev pub SpellsEach : {X : Type 0} → (X → List ℕ → Type 0) → List X → List ℕ → Type 0
SpellsEach spells [] text = text ≡ []
SpellsEach spells (x ∷ xs) text = (front : List ℕ) × (back : List ℕ) × (text ≡ front ++ back)
    × spells x front × SpellsEach spells xs back

-- The text is a snapshot of this entity: a head that says its home, its counters and how many
-- resources and items it has, and then a line for each resource and the lines of each item. The
-- items are numbered in order.
pub record SpellsEntity (e : EntityData) (text : List ℕ) : Type 0 where
  pub head : List ℕ
  pub nodes : List ℕ
  pub items : List ℕ
  pub split : text ≡ head ++ (nodes ++ items)
  pub says : SpellsHead e.home (entity_head e) head
  pub resources : SpellsEach SpellsResource e.nodes nodes
  pub each : SpellsEach SpellsItem e.items items
  pub sound : IsSoundEntity e
  pub numbered : AreNumbered 0 e.numbered e.items
  pub most : e.numbered ≤ largest_count

-- An entity has a snapshot: each resource and each item is read back from its lines, and the items
-- are numbered in order.
pub record HasSnapshot (e : EntityData) : Type 0 where
  pub resources : list_all is_readable e.nodes ≡ true
  pub each : AllByRecursion CanBeKept e.items
  pub numbered : AreNumbered 0 e.numbered e.items
  pub few : length e.items ≤ largest_count
