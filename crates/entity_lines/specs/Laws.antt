-- What spells a head, a resource or an item is read as it, whatever stands behind it, and what is
-- read is spelled so.
use Rattle.std.specs.Prelude.{◌≡◌, ℕ, ◌+◌, List, ◌++◌, length, Ok, Some}
use Rattle.resource_model.specs.Home.{HomeData}
use Rattle.resource_model.specs.Resource.{ResourceData}
use Rattle.primitive_json.specs.Notes.{IsSoundDest}
use Rattle.notify_outbox.specs.declared.item.Item.{Item}
use Rattle.journal_lines.specs.Lines.{line_len}
use Rattle.entity_lines.specs.Heads.{SpellsHead, first_head}
use Rattle.entity_lines.specs.Items.{SpellsItem, first_item, item_len}
use Rattle.entity_lines.specs.Resources.{SpellsResource, first_resource}
use Rattle.entity_lines.specs.declared.heads.Head.{Head}

-- A text begins with what spells something, which has so many bytes.
pub record BeginsBy (Spells : List ℕ → Type 0) (len : ℕ) (text : List ℕ) : Type 0 where
  pub front : List ℕ
  pub back : List ℕ
  pub split : text ≡ front ++ back
  pub spells : Spells front
  pub size : length front ≡ len

pub record HeadsAreReadAsSpelled : Type 0 where
  pub read : (home : HomeData) (head : Head) (front back : List ℕ) → SpellsHead home head front
      → (first_head home (front ++ back) ≡ Ok head)
      × (line_len (front ++ back) + 1 ≡ length front)
  pub spelled : (home : HomeData) (head : Head) (text : List ℕ) → first_head home text ≡ Ok head
      → BeginsBy (SpellsHead home head) (line_len text + 1) text

pub record ResourcesAreReadAsSpelled : Type 0 where
  pub read : (r : ResourceData) (front back : List ℕ) → SpellsResource r front
      → (first_resource (front ++ back) ≡ Some r)
      × (line_len (front ++ back) + 1 ≡ length front)
  pub spelled : (r : ResourceData) (text : List ℕ) → first_resource text ≡ Some r
      → BeginsBy (SpellsResource r) (line_len text + 1) text

pub record ItemsAreReadAsSpelled : Type 0 where
  pub read : (item : Item) (front back : List ℕ) → SpellsItem item front
      → (first_item (front ++ back) ≡ Some item) × (item_len (front ++ back) ≡ length front)
  pub spelled : (item : Item) (text : List ℕ) → first_item text ≡ Some item
      → IsSoundDest item.note.dest → BeginsBy (SpellsItem item) (item_len text) text
