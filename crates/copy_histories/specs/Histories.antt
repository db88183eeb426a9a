-- The law of announced copies along the histories of a CSE (TS-0001, 9.6.26 and 10.2.18).
use Rattle.std.specs.Prelude.{◌≡◌, ◌⊎◌, ℕ, true, List, [], ◌∷◌, ◌++◌, take, Option, Some, None}
use Rattle.std.specs.List.{filter_map}
use Rattle.attribute_kinds.specs.Kinds.{is_cse_id}
use Rattle.primitive_json.specs.declared.note.Kind.{Kind}
use Rattle.primitive_json.specs.declared.note.Kind.TheVariants.{Copy, Notification, Relay}
use Rattle.primitive_json.specs.declared.note.NoteParts.{NoteParts}
use Rattle.primitive_json.specs.declared.request.RequestParts.{RequestParts}
use Rattle.resource_model.specs.Home.{HomeData, IsHome}
use Rattle.resource_model.specs.Resource.{ResourceData}
use Rattle.tree_model.specs.Tree.{at}
use Rattle.announce_copy.specs.Copies.{CopyDraft}
use Rattle.announce_copy.specs.Peers.{listed_peers}
use Rattle.copy_laws.specs.Following.{DoFollow, no_instance}
use Rattle.copy_laws.specs.Replica.{replica}
use Rattle.copy_laws.specs.Standing.{Instances, stood_after}
use Rattle.entity_model.specs.Entity.{EntityData, swept}
use Rattle.entity_model.specs.Opening.{opening}
use Rattle.entity_model.specs.Sound.{IsSoundEntity}
use Rattle.group_fanout.specs.Fan.{member_effect}
use Rattle.cse_machine.specs.declared.event.Event.{Event}
use Rattle.cse_machine.specs.declared.event.Event.TheVariants.{Ask, Take, Tick}
use Rattle.cse_machine.specs.declared.event.Outcome.{Outcome}
use Rattle.cse_machine.specs.declared.event.Outcome.TheVariants.{Done, Forward, Item as Given}
use Rattle.cse_machine.specs.declared.event.Outcome.TheVariants.{Starved, Ticked}
use Rattle.cse_machine.specs.History.{History, HistoryLeaves}
use Rattle.cse_machine.specs.Step.{IsCutShort, IsUnswept, Step, heard_members}
use Rattle.machine_laws.specs.Outbox.{Account, AccountStep, Accounted, waiting_of}

-- ---- what was sent

-- the operation on a copy that an item is, if it is one
abbrev pub copy_in_note : Kind → NoteParts → Option CopyDraft
copy_in_note Notification note = None
copy_in_note Relay note = None
copy_in_note Copy note = Some (note.request.op, note.request.to, None, note.request.pc)

abbrev pub copy_in : Accounted → Option CopyDraft
copy_in line = copy_in_note line.item.note.kind line.item.note

-- those of an account, taken or dropped or waiting, as they were appended
abbrev pub copies_in : Account → List CopyDraft
copies_in account = filter_map copy_in account

-- ---- the trees that a step leaves, one after another

-- of operations on the members of a group
abbrev pub member_trees : EntityData → List RequestParts → List (List ResourceData)
member_trees e [] = []
member_trees e (request ∷ requests) =
    (member_effect e request).after.nodes ∷ member_trees (member_effect e request).after requests

-- of a request that is answered: by the operations on the members to which it is fanned out, where
-- it is; and in the end
abbrev pub request_trees : EntityData → RequestParts → EntityData → List (List ResourceData)
request_trees e request after = member_trees e (heard_members e request) ++ after.nodes ∷ []

-- the instances that stand along trees, one after another
abbrev pub stood_through : List ℕ → Instances → List ResourceData → List (List ResourceData)
    → Instances
stood_through peer stood nodes [] = stood
stood_through peer stood nodes (after ∷ trees) =
    stood_through peer (stood_after peer stood nodes after) after trees

-- they are these
abbrev pub AreThese : Instances → Instances → Type 0
AreThese stood others = (n : ℕ) → stood n ≡ others n

-- those behind an expiry, and behind these trees
abbrev pub stood_by : List ℕ → ℕ → EntityData → Instances → List (List ResourceData) → Instances
stood_by peer reading before stood trees =
    stood_through peer stood before.nodes ((swept reading before).nodes ∷ trees)

-- What instances stand behind a step: by the expiry, and by each operation of a request; where
-- memory runs out, by so many members of a fan-out, or by nothing, where it ran out in the expiry.
abbrev pub StandStep : List ℕ → ℕ → Event → EntityData → Outcome → EntityData → Instances
    → Instances → Type 0
StandStep peer reading (Ask request) before (Done reply) after stood next =
    AreThese next (stood_by peer reading before stood
    (request_trees (swept reading before) request after))
StandStep peer reading (Ask request) before (Forward poa onward) after stood next =
    AreThese next (stood_by peer reading before stood [])
StandStep peer reading Take before (Given sent) after stood next =
    AreThese next (stood_by peer reading before stood [])
StandStep peer reading Tick before Ticked after stood next =
    AreThese next (stood_by peer reading before stood [])
StandStep peer reading (Ask request) before (Starved done) after stood next =
    (IsCutShort (swept reading before) request done after
    × AreThese next (stood_by peer reading before stood
    (member_trees (swept reading before)
    (take done (heard_members (swept reading before) request)))))
    ⊎ (IsUnswept reading before done after × AreThese next stood)
StandStep peer reading Take before (Starved done) after stood next =
    IsUnswept reading before done after × AreThese next stood
StandStep peer reading Tick before (Starved done) after stood next =
    IsUnswept reading before done after × AreThese next stood
StandStep peer reading (Ask request) before (Given sent) after stood next = ⊥
StandStep peer reading (Ask request) before Ticked after stood next = ⊥
StandStep peer reading Take before (Done reply) after stood next = ⊥
StandStep peer reading Take before (Forward poa onward) after stood next = ⊥
StandStep peer reading Take before Ticked after stood next = ⊥
StandStep peer reading Tick before (Done reply) after stood next = ⊥
StandStep peer reading Tick before (Forward poa onward) after stood next = ⊥
StandStep peer reading Tick before (Given sent) after stood next = ⊥

-- the steps one after another, with the account of their items and the instances that stand
abbrev pub Stands : List ℕ → EntityData → Account → Instances → History → EntityData → Account
    → Instances → Type 0
Stands peer before account stood [] after final last =
    (after ≡ before) × (final ≡ account) × AreThese last stood
Stands peer before account stood (entry ∷ history) after final last =
    (middle : EntityData) × (next : Account) × (upon : Instances)
    × Step entry.reading entry.event before entry.outcome middle
    × AccountStep entry.reading entry.event before entry.outcome middle account next
    × StandStep peer entry.reading entry.event before entry.outcome middle stood upon
    × Stands peer middle next upon history after final last

-- ---- the law

-- What stands at a CSE follows the resources of this one, once all that was ever sent there is
-- carried out, in order: what the account of all items has, of which the outbox holds those that
-- wait.
pub record AreCopied (peer : List ℕ) (before : EntityData) (history : History) (e : EntityData)
    : Type 0 where
  pub account : Account
  pub stood : Instances
  pub steps : Stands peer before [] no_instance history e account stood
  pub waits : e.items ≡ waiting_of account
  pub follow : DoFollow e.home peer stood e.nodes (replica peer (copies_in account))

-- So it is after every history from a sound entity of which nothing is announced, and whose outbox
-- is empty, as it is where one opens.
abbrev pub CopiesFollowHistories : Type 0
CopiesFollowHistories =
    (peer : List ℕ) (before e : EntityData) (history : History)
    → is_cse_id peer ≡ true → IsSoundEntity before → before.items ≡ []
    → ((r : ResourceData) → at r.number before.nodes ≡ Some r → listed_peers r ≡ [])
    → HistoryLeaves before history e → AreCopied peer before history e

-- And so it is after every history from a CSE as it opens.
abbrev pub CopiesFollowFromOpenings : Type 0
CopiesFollowFromOpenings =
    (peer : List ℕ) (home : HomeData) (reading : ℕ) (e : EntityData) (history : History)
    → is_cse_id peer ≡ true → IsHome home → HistoryLeaves (opening home reading) history e
    → AreCopied peer (opening home reading) history e
