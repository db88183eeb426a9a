-- The items of the outbox: their numbers, and where they lead.
use Rattle.std.specs.Prelude.{ℕ, ◌+◌, ◌==◌, nat_lt, min, List, ◌++◌, Bool, true, false, not, codes}
use Rattle.std.specs.Prelude.{is_some, Option, Some, None}
use Rattle.std.specs.Fmt.{decimal}
use Rattle.m2m_names.specs.declared.types.Ty.TheVariants.{PollingChannel}
use Rattle.m2m_value.specs.Shapes.{largest_count}
use Rattle.primitive_json.specs.declared.note.Dest.{Dest}
use Rattle.primitive_json.specs.declared.note.Dest.TheVariants.{Direct, Peer, Channel, Nowhere}
use Rattle.primitive_json.specs.declared.note.NoteParts.{NoteParts}
use Rattle.resource_model.specs.Resource.{ResourceData}
use Rattle.tree_model.specs.Tree.{typed_at}
use Rattle.notify_outbox.specs.declared.item.Item.{Item}

-- ---- numbers

-- the number of the item that comes after so many; the last number stays
abbrev pub next_number : ℕ → ℕ
next_number count = min (count + 1) largest_count

-- the identifier of the request of an item
abbrev pub request_id : ℕ → List ℕ
request_id number = codes "n" ++ decimal number

-- the note, its request under this identifier
abbrev pub under_id : List ℕ → NoteParts → NoteParts
under_id id note = record note { request = record (note.request) { rqi = id } }

-- the item of a number, a moment and a note
abbrev pub item_under : ℕ → ℕ → NoteParts → Item
item_under number since note =
    record { number = number; since = since; note = under_id (request_id number) note }

-- ---- destinations

-- the polling channel into which a destination leads, where it leads into one (TS-0001, 9.6.21)
abbrev pub polled_channel : Dest → Option ℕ
polled_channel (Direct url) = None
polled_channel (Peer url) = None
polled_channel (Channel number) = Some number
polled_channel Nowhere = None

-- the channel that an item waits for
abbrev pub item_channel : Item → Option ℕ
item_channel item = polled_channel item.note.dest

-- it is the channel of this number
abbrev pub is_numbered : ℕ → Option ℕ → Bool
is_numbered n None = false
is_numbered n (Some m) = n == m

-- it is a polling channel of the tree
abbrev pub is_live : List ResourceData → Option ℕ → Bool
is_live nodes None = false
is_live nodes (Some n) = is_some (typed_at PollingChannel n nodes)

-- it isn't
abbrev pub is_open : List ResourceData → Option ℕ → Bool
is_open nodes channel = not (is_live nodes channel)

-- whatever it is
abbrev pub is_any : Option ℕ → Bool
is_any channel = true

-- whichever the item is
abbrev pub is_item : Item → Bool
is_item item = is_any (item_channel item)

-- the item waits for this channel
abbrev pub waits_for : ℕ → Item → Bool
waits_for n item = is_numbered n (item_channel item)

-- the item waits for no channel of the tree, so it is to be sent
abbrev pub is_to_send : List ResourceData → Item → Bool
is_to_send nodes item = is_open nodes (item_channel item)

-- ---- age

-- for how long an item is kept, in seconds
abbrev pub keeping_time : ℕ
keeping_time = 86400

-- the item hasn't waited so long at a moment
abbrev pub still_waits : ℕ → Item → Bool
still_waits moment item = nat_lt moment (item.since + keeping_time)
