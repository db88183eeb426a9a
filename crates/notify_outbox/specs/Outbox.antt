-- The outbox: a list of items (TS-0001, 10.2.10).
use Rattle.std.specs.Prelude.{ℕ, ◌-◌, List, [], ◌∷◌, ◌++◌, Bool, if◌then◌else◌, Option, option_map}
use Rattle.std.specs.Prelude.{filter, find}
use Rattle.primitive_json.specs.declared.note.NoteParts.{NoteParts}
use Rattle.notify_outbox.specs.Items.{item_under, next_number, still_waits}
use Rattle.notify_outbox.specs.declared.item.Item.{Item}

-- `items` are in the order in which they were appended, `count` is how many were ever numbered,
-- and `room` for how many more there is room
pub record OutboxData : Type 0 where
  pub items : List Item
  pub count : ℕ
  pub room : ℕ

-- a note is appended at a moment, under the next number
abbrev pub appended : NoteParts → ℕ → OutboxData → OutboxData
appended note since o = record {
  items = o.items ++ item_under (next_number o.count) since note ∷ [];
  count = next_number o.count;
  room = o.room - 1;
}

-- the list without the first item that is such a one
abbrev pub without_first : (Item → Bool) → List Item → List Item
without_first picks [] = []
without_first picks (item ∷ items) =
    if picks item then items else item ∷ without_first picks items

-- the note of the first item that is such a one
abbrev pub first_note : (Item → Bool) → OutboxData → Option NoteParts
first_note picks o = option_map (λ (item : Item). item.note) (find picks o.items)

-- that item is taken
abbrev pub taken : (Item → Bool) → OutboxData → OutboxData
taken picks o = record o { items = without_first picks o.items }

-- what waited the keeping time at a moment is dropped
abbrev pub dropped : ℕ → OutboxData → OutboxData
dropped moment o = record o { items = filter (still_waits moment) o.items }
