-- The lines of an item of the outbox.
use Rattle.std.specs.Prelude.{◌≡◌, ℕ, ◌+◌, ◌<◌, ◌≤◌, ◌==◌, true, List, [], ◌∷◌, ◌++◌, length}
use Rattle.std.specs.Prelude.{Option, Some, None, option_and_then, option_map, if◌then◌else◌}
use Rattle.std.specs.Prelude.{IsUtf8, ⊤}
use Rattle.std.specs.Result.{result_ok}
use Rattle.m2m_value.specs.Data.{Data, text}
use Rattle.m2m_value.specs.Reading.{reading}
use Rattle.m2m_value.specs.Shapes.{as_count, largest_count}
use Rattle.m2m_value.specs.Spelling.{text_of}
use Rattle.m2m_value.specs.View.{as_text}
use Rattle.primitive_json.specs.Notes.{IsSoundDest}
use Rattle.primitive_json.specs.declared.note.Dest.{Dest}
use Rattle.primitive_json.specs.declared.note.Dest.TheVariants.{Direct, Peer, Channel, Nowhere}
use Rattle.primitive_json.specs.declared.note.Kind.{Kind}
use Rattle.primitive_json.specs.declared.note.Kind.TheVariants.{Notification, Relay, Copy}
use Rattle.primitive_json.specs.declared.request.RequestParts.{RequestParts}
use Rattle.notify_outbox.specs.declared.item.Item.{Item}
use Rattle.journal_lines.specs.Keeping.{can_be_kept}
use Rattle.journal_lines.specs.Lines.{behind_line, dated_len, dated_lines, deed_at, ended}
use Rattle.journal_lines.specs.Lines.{first_dated, first_line, has_line, line_len, moment_bound}
use Rattle.journal_lines.specs.Spelled.{SpellsDated, has_no_end}
use Rattle.journal_lines.specs.declared.deed.Dated.{Dated}
use Rattle.journal_lines.specs.declared.deed.Deed.{Deed}
use Rattle.journal_lines.specs.declared.deed.Deed.TheVariants.{Ask, Take, Tick}
use Rattle.entity_lines.specs.Values.{count_data, pair_data, triple_data, values_in}
use Rattle.entity_lines.specs.declared.items.Tag.{Tag}

-- ---- what is written

-- the number of a kind
abbrev pub kind_number : Kind → ℕ
kind_number Notification = 1
kind_number Relay = 2
kind_number Copy = 3

-- where an item leads: a number that says how, and what it says
abbrev pub dest_data : Dest → Data
dest_data (Direct url) = pair_data (count_data 1) (text url)
dest_data (Peer url) = pair_data (count_data 2) (text url)
dest_data (Channel n) = pair_data (count_data 3) (count_data n)
dest_data Nowhere = pair_data (count_data 4) (count_data 0)

-- its number, its kind and where it leads
abbrev pub tag_data : Item → Data
tag_data item =
    triple_data (count_data item.number) (count_data (kind_number item.note.kind))
    (dest_data item.note.dest)

-- the line of these, and the lines of its request
abbrev pub item_lines : Item → List ℕ
item_lines item =
    ended (text_of (tag_data item)) ++ dated_lines item.since (Ask item.note.request)

-- where an item leads is read back from what is written of it
abbrev pub IsReadableDest : Dest → Type 0
IsReadableDest (Direct url) = IsUtf8 url
IsReadableDest (Peer url) = IsUtf8 url
IsReadableDest (Channel n) = n ≤ largest_count
IsReadableDest Nowhere = ⊤

-- An item can be kept: its number, its moment and where it leads are read back, and a journal could
-- keep its request.
pub record CanBeKept (item : Item) : Type 0 where
  pub number : item.number ≤ largest_count
  pub since : item.since < moment_bound
  pub dest : IsReadableDest item.note.dest
  pub request : can_be_kept item.note.request ≡ true

-- ---- what is read

-- the kind of a number
abbrev pub kind_of : ℕ → Option Kind
kind_of n =
    if n == 1 then Some Notification
    else if n == 2 then Some Relay
    else if n == 3 then Some Copy
    else None

abbrev pub kind_in : Data → Option Kind
kind_in d = option_and_then kind_of (as_count d)

-- where an item leads, by a number that says how
abbrev pub dest_by : ℕ → Data → Option Dest
dest_by n d =
    if n == 1 then option_map Direct (as_text d)
    else if n == 2 then option_map Peer (as_text d)
    else if n == 3 then option_map Channel (as_count d)
    else if n == 4 then Some Nowhere
    else None

abbrev pub dest_of : List Data → Option Dest
dest_of (how ∷ what ∷ []) = option_and_then (λ n. dest_by n what) (as_count how)
dest_of _ = None

abbrev pub dest_in : Data → Option Dest
dest_in d = dest_of (values_in d)

-- a number, a kind and where the item leads
abbrev pub tag_of : ℕ → Kind → Dest → Tag
tag_of number kind dest = record { number = number; kind = kind; dest = dest }

abbrev pub tag_by : List Data → Option Tag
tag_by (own ∷ kind ∷ dest ∷ []) =
    option_and_then (λ n. option_and_then (λ k. option_map (tag_of n k) (dest_in dest))
    (kind_in kind)) (as_count own)
tag_by _ = None

abbrev pub tag_in : Data → Option Tag
tag_in d = tag_by (values_in d)

abbrev pub tag_spelled : List ℕ → Option Tag
tag_spelled line = option_and_then tag_in (result_ok (reading line))

-- the tag of an item
abbrev pub item_tag : Item → Tag
item_tag item = tag_of item.number item.note.kind item.note.dest

-- the item of a tag, a moment and a request
abbrev pub item_of : Tag → ℕ → RequestParts → Item
item_of tag since request = record {
  number = tag.number;
  since = since;
  note = record { kind = tag.kind; dest = tag.dest; request = request };
}

-- a request at a moment as an item
abbrev pub asked_item : Tag → ℕ → Deed → Option Item
asked_item tag since (Ask request) = Some (item_of tag since request)
asked_item tag since Take = None
asked_item tag since Tick = None

abbrev pub dated_item : Tag → Dated → Option Item
dated_item tag dated = asked_item tag dated.moment dated.deed

-- the item whose lines stand at the front of a text
abbrev pub first_item : List ℕ → Option Item
first_item bytes =
    if has_line bytes
    then option_and_then (λ tag. option_and_then (dated_item tag) (first_dated (behind_line bytes)))
    (tag_spelled (first_line bytes))
    else None

-- how many bytes these lines have
abbrev pub item_len : List ℕ → ℕ
item_len bytes = line_len bytes + 1 + dated_len (behind_line bytes)

-- The text is the lines of an item.
pub record SpellsItem (item : Item) (text : List ℕ) : Type 0 where
  pub line : List ℕ
  pub lines : List ℕ
  pub split : text ≡ ended line ++ lines
  pub whole : has_no_end line ≡ true
  pub means : tag_spelled line ≡ Some (item_tag item)
  pub asks : SpellsDated (deed_at item.since (Ask item.note.request)) lines
  pub sound : IsSoundDest item.note.dest
