-- What comes of opening a snapshot.
use Rattle.std.specs.Prelude.{◌≡◌, ◌⊎◌, ℕ, ◌+◌, ◌<◌, ◌≤◌, List, Ok, Err, ⊤}
use Rattle.resource_model.specs.Home.{HomeData}
use Rattle.resource_model.specs.Resource.{ResourceData}
use Rattle.notify_outbox.specs.declared.item.Item.{Item}
use Rattle.m2m_value.specs.Shapes.{largest_count}
use Rattle.journal_lines.specs.Lines.{line_len}
use Rattle.journal_lines.specs.declared.header.HeaderFault.TheVariants as header
use Rattle.journal_lines.specs.declared.header.HeaderFault.{HeaderFault}
use Rattle.entity_lines.specs.Heads.{first_head}
use Rattle.entity_lines.specs.declared.heads.Head.{Head}
use Rattle.entity_model.specs.Sound.{IsSoundEntity}
use Rattle.entity_snapshot.specs.Reading.{ReadsItems, ReadsResources, StopsInItems}
use Rattle.entity_snapshot.specs.Reading.{StopsInResources, line_number}
use Rattle.entity_snapshot.specs.Snapshots.{entity_of}
use Rattle.entity_snapshot.specs.declared.fault.SnapshotFault.{SnapshotFault}
use Rattle.entity_snapshot.specs.declared.fault.SnapshotFault.TheVariants.{NoHeader, OtherFormat}
use Rattle.entity_snapshot.specs.declared.fault.SnapshotFault.TheVariants.{OtherHome, BadLine}
use Rattle.entity_snapshot.specs.declared.fault.SnapshotFault.TheVariants.{Unsound, OutOfMemory}

-- The resources and items that a head speaks of stand behind it, up to a place.
pub record ReadsBehind (text : List ℕ) (head : Head) (end : ℕ) (nodes : List ResourceData)
    (items : List Item) : Type 0 where
  pub at : ℕ
  pub resources : ReadsResources text (line_len text + 1) head.resources at nodes
  pub each : ReadsItems text at head.items end head.numbered head.last items
  pub most : head.numbered ≤ largest_count

-- The resources that a head speaks of stand behind it, but at a place begins no item that may stand
-- there.
pub record StopsBehindResources (text : List ℕ) (head : Head) (place : ℕ) : Type 0 where
  pub at : ℕ
  pub nodes : List ResourceData
  pub resources : ReadsResources text (line_len text + 1) head.resources at nodes
  pub stops : StopsInItems text at head.items head.numbered head.last place

-- At this place behind a head begins no resource or item that fits behind those before it.
abbrev pub StopsBehind : List ℕ → Head → ℕ → Type 0
StopsBehind text head place =
    StopsInResources text (line_len text + 1) head.resources place
    ⊎ StopsBehindResources text head place

-- Why what stands behind a head isn't read: it numbers more items than there are numbers, at the
-- line of this number begins nothing that fits, or memory runs out.
abbrev pub HaltsBehind : List ℕ → Head → SnapshotFault → Type 0
HaltsBehind text head NoHeader = ⊥
HaltsBehind text head OtherFormat = ⊥
HaltsBehind text head OtherHome = ⊥
HaltsBehind text head (BadLine number) =
    (place : ℕ) × StopsBehind text head place × (number ≡ line_number text place)
HaltsBehind text head Unsound = largest_count < head.numbered
HaltsBehind text head OutOfMemory = ⊤

-- What stands behind a head are resources and items, but of no sound entity.
pub record ReadsUnsound (home : HomeData) (text : List ℕ) (head : Head) : Type 0 where
  pub end : ℕ
  pub nodes : List ResourceData
  pub items : List Item
  pub behind : ReadsBehind text head end nodes items
  pub unsound : ¬ IsSoundEntity (entity_of home head nodes items)

-- A head stands first in a text, and this holds of it.
abbrev pub HasHead : HomeData → List ℕ → (Head → Type 0) → Type 0
HasHead home text P = (head : Head) × (first_head home text ≡ Ok head) × P head

-- No snapshot is opened at the text for this reason: by its first line, at the line of this number,
-- or as a whole. That memory runs out says nothing of the text.
abbrev pub IsUnopened : HomeData → List ℕ → SnapshotFault → Type 0
IsUnopened home text NoHeader = first_head home text ≡ Err header.NoHeader
IsUnopened home text OtherFormat = first_head home text ≡ Err header.OtherFormat
IsUnopened home text OtherHome = first_head home text ≡ Err header.OtherHome
IsUnopened home text (BadLine number) = HasHead home text
    (λ head. (place : ℕ) × StopsBehind text head place × (number ≡ line_number text place))
IsUnopened home text Unsound = HasHead home text
    (λ head. (largest_count < head.numbered) ⊎ ReadsUnsound home text head)
IsUnopened home text OutOfMemory = ⊤

-- the fault of a head as that of a snapshot
abbrev pub snapshot_fault : HeaderFault → SnapshotFault
snapshot_fault header.NoHeader = NoHeader
snapshot_fault header.OtherFormat = OtherFormat
snapshot_fault header.OtherHome = OtherHome
snapshot_fault header.OutOfMemory = OutOfMemory
