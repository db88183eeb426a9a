-- What is read one after another, up to which place, and where it stops.
use Rattle.std.specs.Prelude.{◌≡◌, ℕ, zero, suc, ◌+◌, ◌<◌, ◌≤◌, ◌==◌, true, false, List, []}
use Rattle.std.specs.Prelude.{◌∷◌, ◌++◌, length, take, drop, count_by, Option, Some}
use Rattle.std.specs.Prelude.{option_and_then, option_map, ⊤}
use Rattle.std.specs.List.{AllByRecursion}
use Rattle.resource_model.specs.Resource.{ResourceData}
use Rattle.tree_model.specs.Tree.{fits_in, is_well_formed}
use Rattle.primitive_json.specs.Notes.{IsSoundDest}
use Rattle.notify_outbox.specs.Outbox.{OutboxData}
use Rattle.notify_outbox.specs.declared.item.Item.{Item}
use Rattle.journal_lines.specs.Lines.{line_len}
use Rattle.entity_lines.specs.Items.{first_item, item_len}
use Rattle.entity_lines.specs.Resources.{first_resource}
use Rattle.entity_soundness.specs.Tested.{do_follow, follows}
use Rattle.entity_snapshot.specs.declared.reading.Behind.{Behind}
use Rattle.entity_snapshot.specs.declared.fault.SnapshotFault.{SnapshotFault}
use Rattle.entity_snapshot.specs.declared.fault.SnapshotFault.TheVariants.{NoHeader, OtherFormat}
use Rattle.entity_snapshot.specs.declared.fault.SnapshotFault.TheVariants.{OtherHome, BadLine}
use Rattle.entity_snapshot.specs.declared.fault.SnapshotFault.TheVariants.{Unsound, OutOfMemory}

-- the number of the line that begins at a place, from 1
abbrev pub line_number : List ℕ → ℕ → ℕ
line_number text place = count_by (λ b. b == 10) (take place text) + 1

-- ---- one after another

-- so many, where the first of a text is read so and has so many bytes
abbrev pub each_in : {X : Type 0} → (List ℕ → Option X) → (List ℕ → ℕ) → ℕ → List ℕ
    → Option (List X)
each_in first len zero text = Some []
each_in first len (suc n) text =
    option_and_then (λ x. option_map (λ xs. x ∷ xs) (each_in first len n (drop (len text) text)))
    (first text)

-- how many bytes they have
abbrev pub each_len : (List ℕ → ℕ) → ℕ → List ℕ → ℕ
each_len len zero text = 0
each_len len (suc n) text = len text + each_len len n (drop (len text) text)

-- So many stand in a text between two places, one after another, and they are these.
pub record ReadsEach {X : Type 0} (first : List ℕ → Option X) (len : List ℕ → ℕ) (text : List ℕ)
    (from count end : ℕ) (xs : List X) : Type 0 where
  pub read : each_in first len count (drop from text) ≡ Some xs
  pub size : end ≡ from + each_len len count (drop from text)
  pub within : end ≤ length text

-- ---- resources

-- how many bytes the line of a resource has
abbrev pub resource_len : List ℕ → ℕ
resource_len text = line_len text + 1

-- the resources of so many lines
abbrev pub resources_in : ℕ → List ℕ → Option (List ResourceData)
resources_in count text = each_in first_resource resource_len count text

-- The resource whose line is the first of a text, of so many bytes, was put behind those of a tree,
-- where it fits.
pub record PutsFirst (text : List ℕ) (len : ℕ) (before after : List ResourceData) : Type 0 where
  pub resource : ResourceData
  pub found : first_resource text ≡ Some resource
  pub size : len ≡ resource_len text
  pub within : len ≤ length text
  pub fits : fits_in before resource ≡ true
  pub put : after ≡ before ++ resource ∷ []

-- No resource whose line is the first of a text fits behind those of a tree.
abbrev pub FitsNone : List ℕ → List ResourceData → Type 0
FitsNone text before =
    (r : ResourceData) → first_resource text ≡ Some r → fits_in before r ≡ false

-- The lines of so many resources stand in a text between two places, and they are those of a tree.
pub record ReadsResources (text : List ℕ) (from count end : ℕ) (nodes : List ResourceData) : Type 0
  where
    pub each : ReadsEach first_resource resource_len text from count end nodes
    pub well : is_well_formed nodes ≡ true

-- Behind the lines of fewer resources than so many, which are those of a tree, none stands at a
-- place that fits behind them.
pub record StopsInResources (text : List ℕ) (from count place : ℕ) : Type 0 where
  pub done : ℕ
  pub nodes : List ResourceData
  pub few : done < count
  pub read : ReadsResources text from done place nodes
  pub none : FitsNone (drop place text) nodes

-- Why the lines of so many resources aren't read: at the line of this number stands none that fits,
-- or memory runs out.
abbrev pub HaltsResources : List ℕ → ℕ → ℕ → SnapshotFault → Type 0
HaltsResources text from count NoHeader = ⊥
HaltsResources text from count OtherFormat = ⊥
HaltsResources text from count OtherHome = ⊥
HaltsResources text from count (BadLine number) =
    (place : ℕ) × StopsInResources text from count place × (number ≡ line_number text place)
HaltsResources text from count Unsound = ⊥
HaltsResources text from count OutOfMemory = ⊤

-- ---- items

-- the items of so many
abbrev pub items_in : ℕ → List ℕ → Option (List Item)
items_in count text = each_in first_item item_len count text

-- The item whose lines stand at the front of a text, of so many bytes, was put behind others.
pub record PutsBack (text : List ℕ) (len most last : ℕ) (behind next : Behind)
    (before after : OutboxData) : Type 0 where
  pub item : Item
  pub found : first_item text ≡ Some item
  pub sound : IsSoundDest item.note.dest
  pub size : len ≡ item_len text
  pub within : len ≤ length text
  pub fits : follows last most behind.number behind.since item ≡ true
  pub items : after.items ≡ before.items ++ item ∷ []
  pub count : after.count ≡ next.number
  pub number : next.number ≡ item.number
  pub since : next.since ≡ item.since

-- No item whose lines stand at the front of a text may stand behind these.
abbrev pub FollowsNone : List ℕ → ℕ → ℕ → Behind → Type 0
FollowsNone text most last behind =
    (item : Item) → first_item text ≡ Some item → IsSoundDest item.note.dest
    → follows last most behind.number behind.since item ≡ false

-- where each of them leads may be the destination of one
abbrev pub HaveSoundDests : List Item → Type 0
HaveSoundDests items = AllByRecursion (λ (i : Item). IsSoundDest i.note.dest) items

-- The lines of so many items stand in a text between two places, and each may stand behind the one
-- before it.
pub record ReadsItems (text : List ℕ) (from count end most last : ℕ) (items : List Item) : Type 0
  where
    pub each : ReadsEach first_item item_len text from count end items
    pub follow : do_follow last most 0 0 items ≡ true
    pub sound : HaveSoundDests items

-- Behind the lines of fewer items than so many, each of which may stand behind the one before it,
-- none stands at a place that may stand behind them.
pub record StopsInItems (text : List ℕ) (from count most last place : ℕ) : Type 0 where
  pub done : ℕ
  pub items : List Item
  pub few : done < count
  pub read : ReadsItems text from done place most last items
  pub none : (item : Item) → first_item (drop place text) ≡ Some item → IsSoundDest item.note.dest
      → do_follow last most 0 0 (items ++ item ∷ []) ≡ false

-- Why the lines of so many items aren't read: at the line of this number begins none that may stand
-- there, or memory runs out.
abbrev pub HaltsItems : List ℕ → ℕ → ℕ → ℕ → ℕ → SnapshotFault → Type 0
HaltsItems text from count most last NoHeader = ⊥
HaltsItems text from count most last OtherFormat = ⊥
HaltsItems text from count most last OtherHome = ⊥
HaltsItems text from count most last (BadLine number) =
    (place : ℕ) × StopsInItems text from count most last place × (number ≡ line_number text place)
HaltsItems text from count most last Unsound = ⊥
HaltsItems text from count most last OutOfMemory = ⊤
