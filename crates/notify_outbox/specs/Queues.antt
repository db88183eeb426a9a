-- How the items are kept: in queues, one for each channel and one for no channel.
use Rattle.std.specs.Prelude.{◌≡◌, ◌≢◌, ℕ, ◌+◌, ◌<◌, ◌≤◌, nat_le, nat_lt, List, [], ◌∷◌, ◌++◌}
use Rattle.std.specs.Prelude.{length, slice_index_or, take, Bool, if◌then◌else◌}
use Rattle.std.specs.Prelude.{Option, Some, None, IsUtf8}
use Rattle.std.specs.List.{AllByRecursion, flat_map}
use Rattle.m2m_value.specs.Shapes.{largest_count}
use Rattle.notify_outbox.specs.Items.{item_channel, next_number, request_id}
use Rattle.notify_outbox.specs.declared.item.Item.{Item}
use Rattle.notify_outbox.specs.declared.queues.Queue.{Queue}

-- ---- the list of all queues together

-- all items, queue by queue
abbrev pub joined : List Queue → List Item
joined queues = flat_map (λ (q : Queue). q.items) queues

-- the item in its place by number
abbrev pub placed : Item → List Item → List Item
placed x [] = x ∷ []
placed x (y ∷ items) =
    if nat_le x.number y.number then x ∷ y ∷ items else y ∷ placed x items

-- the items by number
abbrev pub in_order : List Item → List Item
in_order [] = []
in_order (x ∷ items) = placed x (in_order items)

-- ---- what holds of the queues

-- the first was appended before the second
abbrev pub Precedes : Item → Item → Type 0
Precedes x y = (x.number < y.number) × (x.since ≤ y.since)

-- these wait for this channel, or for none, in the order in which they were appended
abbrev pub IsQueueOf : Option ℕ → List Item → Type 0
IsQueueOf channel [] = Unit {0}
IsQueueOf channel (x ∷ items) =
    (item_channel x ≡ channel) × AllByRecursion (Precedes x) items × IsQueueOf channel items

abbrev pub IsQueue : Queue → Type 0
IsQueue q = IsQueueOf q.channel q.items

-- no two have one number
abbrev pub AreApart : List Item → Type 0
AreApart [] = Unit {0}
AreApart (x ∷ items) = AllByRecursion (λ (y : Item). x.number ≢ y.number) items × AreApart items

-- the queues hold items with numbers up to the count, none appended before `oldest`
pub record AreKept (queues : List Queue) (count oldest : ℕ) : Type 0 where
  pub each : AllByRecursion IsQueue queues
  pub apart : AreApart (joined queues)
  pub numbered : AllByRecursion (λ (x : Item). x.number ≤ count) (joined queues)
  pub young : AllByRecursion (λ (x : Item). oldest ≤ x.since) (joined queues)
  pub few : length (joined queues) ≤ count

-- ---- items that have the last number too

-- each was appended no earlier than those before it
abbrev pub DoFollow : List Item → Type 0
DoFollow [] = Unit {0}
DoFollow (x ∷ items) = AllByRecursion (λ (y : Item). x.since ≤ y.since) items × DoFollow items

-- these were appended when the last number was given already, none before `oldest`
pub record AreLate (late : List Item) (count oldest : ℕ) : Type 0 where
  pub full : 0 < length late → count ≡ largest_count
  pub order : DoFollow late
  pub young : AllByRecursion (λ (x : Item). oldest ≤ x.since) late

-- ---- what is in stock for items to come

-- the request identifiers of the items that come after so many
abbrev pub AreIds : ℕ → List (List ℕ) → Type 0
AreIds count [] = Unit {0}
AreIds count (id ∷ ids) =
    (id ≡ request_id (next_number count)) × IsUtf8 id × AreIds (next_number count) ids

-- ---- the place of the least first item

-- the lesser by number: the best so far, a place and a number, or the first of these items, which
-- stand at this place
abbrev pub better : Option (ℕ × ℕ) → ℕ → List Item → Option (ℕ × ℕ)
better best place [] = best
better None place (x ∷ items) = Some (place, x.number)
better (Some b) place (x ∷ items) =
    if nat_lt x.number b.1 then Some (place, x.number) else Some b

-- the least first item of those queues whose channels are wanted, from a place on
abbrev pub least_from : (Option ℕ → Bool) → Option (ℕ × ℕ) → ℕ → List Queue → Option (ℕ × ℕ)
least_from wants best place [] = best
least_from wants best place (q ∷ queues) =
    least_from wants (if wants q.channel then better best place q.items else best) (place + 1)
    queues

-- ---- age

-- the item was appended after this moment
abbrev pub is_fresh : ℕ → Item → Bool
is_fresh limit x = nat_lt limit x.since

-- the items from the first on that was appended after this moment
abbrev pub fresh : ℕ → List Item → List Item
fresh limit [] = []
fresh limit (x ∷ items) = if is_fresh limit x then x ∷ items else fresh limit items

abbrev pub freshened : ℕ → Queue → Queue
freshened limit q = record q { items = fresh limit q.items }

-- ---- what is done to the queues

-- the first item of the queue at a place was taken
pub record Pops (place : ℕ) (old new : List Queue) (x : Item) : Type 0 where
  pub before : List Item
  pub after : List Item
  pub was : joined old ≡ before ++ x ∷ after
  pub is : joined new ≡ before ++ after
  pub front : (d : Queue) → take 1 (slice_index_or old place d).items ≡ x ∷ []
  pub each : AllByRecursion IsQueue old → AllByRecursion IsQueue new

-- the items are for the channel, and come after these
abbrev pub Follow : Option ℕ → List Item → List Item → Type 0
Follow channel items node =
    IsQueueOf channel node × AllByRecursion (λ x. AllByRecursion (Precedes x) node) items

-- the items were put behind the others of their channel
pub record Puts (channel : Option ℕ) (node : List Item) (old new : List Queue) : Type 0 where
  pub before : List Item
  pub after : List Item
  pub was : joined old ≡ before ++ after
  pub is : joined new ≡ before ++ (node ++ after)
  pub each : AllByRecursion IsQueue old → Follow channel (joined old) node
      → AllByRecursion IsQueue new
