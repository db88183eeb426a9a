-- An entity: its home, its resources, its next number, its last moment and its outbox (TS-0001, 6.2
-- and 9.6.3).
use Rattle.std.specs.Prelude.{ℕ, ◌-◌, min, max, filter, find, List, [], ◌∷◌, ◌++◌, Option}
use Rattle.std.specs.Prelude.{option_map}
use Rattle.m2m_names.specs.Stamps.{last_moment}
use Rattle.resource_model.specs.Home.{HomeData}
use Rattle.resource_model.specs.Resource.{ResourceData}
use Rattle.tree_model.specs.Changes.{ChangeData}
use Rattle.tree_model.specs.Tree.{live, overdue_numbers}
use Rattle.primitive_json.specs.declared.note.NoteParts.{NoteParts}
use Rattle.notify_outbox.specs.Items.{is_to_send, item_under, next_number, still_waits}
use Rattle.notify_outbox.specs.Outbox.{without_first}
use Rattle.notify_outbox.specs.declared.item.Item.{Item}
use Rattle.subscription_match.specs.Items.{items_of}
use Rattle.subscription_match.specs.Notices.{notes_of_all}
use Rattle.subscription_match.specs.Spending.{kept, nodes_spent}
use Rattle.subscription_match.specs.declared.drafts.DraftParts.{DraftParts}
use Rattle.announce_copy.specs.Copies.{copies_of_all}
use Rattle.announce_copy.specs.Items.{copy_notes}
use Rattle.entity_model.specs.Expiry.{expiry_changes}

-- `next` is the number of the resource that is created next, and `last` the moment of the last
-- event, in seconds since 1970; `items` are those of the outbox, in the order in which they were
-- appended, and `numbered` is how many were ever appended
pub record EntityData : Type 0 where
  pub home : HomeData
  pub nodes : List ResourceData
  pub next : ℕ
  pub last : ℕ
  pub items : List Item
  pub numbered : ℕ

-- an entity of which nothing is known but its home: no resource, no number, no moment and no item
abbrev pub blank : HomeData → EntityData
blank home = record { home = home; nodes = []; next = 0; last = 0; items = []; numbered = 0 }

-- the last moment of an event: the second before the last that a timestamp has
abbrev pub last_reading : ℕ
last_reading = last_moment - 1

-- what is taken of a clock's reading
abbrev pub cut : ℕ → ℕ
cut reading = min reading last_reading

-- the moment of an event: the clock's, but no moment comes before the last one
abbrev pub event_moment : ℕ → ℕ → ℕ
event_moment last reading = max last (cut reading)

-- the items that haven't waited the keeping time at a moment
abbrev pub still_waiting : ℕ → List Item → List Item
still_waiting moment items = filter (still_waits moment) items

-- the note that is sent next: that of the first item that waits for no channel of the tree
abbrev pub next_note : EntityData → Option NoteParts
next_note e = option_map (λ (i : Item). i.note) (find (is_to_send e.nodes) e.items)

-- it is taken
abbrev pub without_next : EntityData → EntityData
without_next e = record e { items = without_first (is_to_send e.nodes) e.items }

-- ---- what is told

-- the items that notes become that are appended at a moment, after so many items were numbered
abbrev pub items_from : ℕ → ℕ → List NoteParts → List Item
items_from count since [] = []
items_from count since (note ∷ notes) =
    item_under (next_number count) since note ∷ items_from (next_number count) since notes

-- how many items are numbered then
abbrev pub numbered_after : ℕ → List NoteParts → ℕ
numbered_after count [] = count
numbered_after count (note ∷ notes) = numbered_after (next_number count) notes

-- notes are appended at the moment of the entity, in order
abbrev pub with_notes : List NoteParts → EntityData → EntityData
with_notes notes e = record e {
  items = e.items ++ items_from e.numbered e.last notes;
  numbered = numbered_after e.numbered notes;
}

-- the requests about copies that changes ask for, where these were the resources before them
-- (TS-0001, 9.6.26 and 10.2.18)
unfoldable pub copy_requests : HomeData → List ResourceData → List ChangeData → List NoteParts
copy_requests home before changes = copy_notes home before (copies_of_all home before changes)

-- the entity after an operation by which this is told, and these requests about copies are sent,
-- where these were the resources before it: what is kept of what is told is appended, and behind it
-- the requests; and subscriptions that count are lowered, or go
abbrev pub with_told : List ResourceData → List DraftParts → List NoteParts → EntityData
    → EntityData
with_told before drafts requests e =
    with_notes (items_of e.home before (kept before drafts) ++ requests)
    (record e { nodes = nodes_spent drafts e.nodes })

-- the entity after an operation, its changes told, and sent to where copies of the resources stand;
-- these were the resources before it, and `going` are the numbers of those that its removal takes
-- (TS-0001, 9.6.8, 9.6.26 and 10.2.10)
abbrev pub telling : List ResourceData → List ℕ → List ChangeData → EntityData → EntityData
telling before going changes e =
    with_told before (notes_of_all e.home before going changes)
    (copy_requests e.home before changes) e

-- ---- expiry

-- what an expiry at a moment leaves of an entity: without what is due by then, and what stands
-- below that (TS-0001, 9.6.1.3.2), and without the items that have waited the keeping time
abbrev pub expired : ℕ → EntityData → EntityData
expired moment e = record e {
  nodes = live moment e.nodes;
  last = moment;
  items = still_waiting moment e.items;
}

-- the changes of that expiry told
abbrev pub expired_told : ℕ → EntityData → EntityData
expired_told moment e =
    telling e.nodes (overdue_numbers moment e.nodes) (expiry_changes moment e.nodes)
    (expired moment e)

-- the entity as an event finds it: expired at the moment of the event, and told of it ahead of all
-- that the event gives
abbrev pub swept : ℕ → EntityData → EntityData
swept reading e = expired_told (event_moment e.last reading) e
