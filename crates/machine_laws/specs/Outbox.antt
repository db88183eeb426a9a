-- What becomes of each item of the outbox (TS-0001, 9.6.8 and 10.2.10).
use Rattle.std.specs.Prelude.{◌≡◌, ◌⊎◌, ℕ, Bool, true, false, not, ◌&&◌, ◌||◌, List, [], ◌∷◌, ◌++◌}
use Rattle.std.specs.Prelude.{map, take}
use Rattle.std.specs.Prelude.{filter, IsTrue, if◌then◌else◌, Option, Some, None}
use Rattle.std.specs.List.{list_all}
use Rattle.std.specs.Option.{option_map_or}
use Rattle.m2m_names.specs.declared.operations.Op.{Op}
use Rattle.m2m_names.specs.declared.operations.Op.TheVariants.{Create, Retrieve, Update, Delete}
use Rattle.m2m_names.specs.declared.operations.Op.TheVariants.{Notify}
use Rattle.primitive_json.specs.declared.note.NoteParts.{NoteParts}
use Rattle.primitive_json.specs.declared.request.RequestParts.{RequestParts}
use Rattle.resource_model.specs.Home.{HomeData}
use Rattle.resource_model.specs.Resource.{ResourceData}
use Rattle.tree_model.specs.Changes.{ChangeData}
use Rattle.tree_model.specs.Tree.{at, has, overdue_numbers}
use Rattle.addressing.specs.Laws.{spot_named}
use Rattle.addressing.specs.declared.spot.Spot.{Spot}
use Rattle.addressing.specs.declared.spot.Spot.TheVariants.{Resource, Fan, Poll}
use Rattle.policy_eval.specs.Rights.{grants, retrieve_bit}
use Rattle.notify_outbox.specs.Items.{is_to_send, still_waits, waits_for}
use Rattle.notify_outbox.specs.declared.item.Item.{Item}
use Rattle.subscription_match.specs.Items.{items_of}
use Rattle.subscription_match.specs.Notices.{notes_of_all}
use Rattle.subscription_match.specs.Spending.{kept}
use Rattle.entity_model.specs.Entity.{EntityData, copy_requests, event_moment, items_from, swept}
use Rattle.entity_model.specs.Expiry.{expiry_changes}
use Rattle.entity_model.specs.Places.{first_fault}
use Rattle.request_rules.specs.Order.{fault_on}
use Rattle.create_delete.specs.Changes.{changes_by}
use Rattle.create_delete.specs.Changing.{effect_by}
use Rattle.create_delete.specs.Relaying.{relayed}
use Rattle.create_delete.specs.Telling.{gone_numbers}
use Rattle.cse_machine.specs.declared.event.Event.{Event}
use Rattle.cse_machine.specs.declared.event.Event.TheVariants.{Ask, Take, Tick}
use Rattle.cse_machine.specs.declared.event.Outcome.{Outcome}
use Rattle.cse_machine.specs.declared.event.Outcome.TheVariants.{Done, Forward, Item as Given}
use Rattle.cse_machine.specs.declared.event.Outcome.TheVariants.{Starved, Ticked}
use Rattle.cse_machine.specs.Answer.{addressed, first_places}
use Rattle.cse_machine.specs.History.{History, HistoryLeaves}
use Rattle.group_fanout.specs.Rights.{claimed_originator}
use Rattle.cse_machine.specs.Step.{IsCutShort, IsUnswept, Step, heard_members}
use Rattle.group_fanout.specs.Fan.{fanned_at, member_effect, rest_of}

-- ---- what is appended

-- what changes append, where these were the resources before them and `going` are those that the
-- same removal takes: what subscriptions are told, one note for each change and each subscription
-- that looks for it, as far as it has notifications left, and one for each deletion notice; and
-- behind it the requests about the copies of what is announced
abbrev pub notes_told : HomeData → List ResourceData → List ℕ → List ChangeData → List NoteParts
notes_told home before going changes =
    items_of home before (kept before (notes_of_all home before going changes))
    ++ copy_requests home before changes

-- the notes of the expiry that an event finds
abbrev pub expiry_notes : ℕ → EntityData → List NoteParts
expiry_notes reading e =
    let moment = event_moment e.last reading in
    notes_told e.home e.nodes (overdue_numbers moment e.nodes) (expiry_changes moment e.nodes)

-- the notes of what an operation makes of an entity, on the resource of a number
abbrev pub done_notes : Op → EntityData → RequestParts → ℕ → EntityData → List NoteParts
done_notes op e request n done =
    notes_told e.home e.nodes (gone_numbers e done) (changes_by op request n e done)

-- the notes of an operation on a resource that may change something; one that is refused has none
abbrev pub change_notes : Op → EntityData → RequestParts → ResourceData → List NoteParts
change_notes op e request target =
    let originator = claimed_originator e.home request in
    option_map_or (λ fault. []) (fault_on op e originator request target)
    (done_notes op e request target.number (effect_by op e originator request target).after)

-- the note of a Notify to a resource, which is handed on; one that is refused has none
abbrev pub relay_notes : EntityData → RequestParts → ResourceData → List NoteParts
relay_notes e request target =
    let originator = claimed_originator e.home request in
    option_map_or (λ fault. []) (fault_on Notify e originator request target)
    (relayed e originator request ∷ [])

-- the notes of any operation on a resource
abbrev pub operation_notes : Op → EntityData → RequestParts → ResourceData → List NoteParts
operation_notes Create e request target = change_notes Create e request target
operation_notes Retrieve e request target = change_notes Retrieve e request target
operation_notes Update e request target = change_notes Update e request target
operation_notes Delete e request target = change_notes Delete e request target
operation_notes Notify e request target = relay_notes e request target

-- those of a request on the resource that was found, if one was
abbrev pub found_notes : EntityData → RequestParts → Option ResourceData → List NoteParts
found_notes e request found = option_map_or (operation_notes request.op e request) found []

-- the items of a request to a resource; those of each are numbered and dated by the entity
abbrev pub found_items : EntityData → RequestParts → Option ResourceData → List Item
found_items e request found = items_from e.numbered e.last (found_notes e request found)

-- the items of requests to members of a group, one after another: those of each as of one request
-- to the entity that the one before it left
abbrev pub member_items : EntityData → List RequestParts → List Item
member_items e [] = []
member_items e (request ∷ requests) =
    found_items e request (addressed e request.to)
    ++ member_items (member_effect e request).after requests

-- the items of a request at what its address names here
abbrev pub spot_items : EntityData → RequestParts → Option Spot → List Item
spot_items e request None = []
spot_items e request (Some (Resource n)) = found_items e request (at n e.nodes)
spot_items e request (Some (Fan group place)) =
    member_items e (fanned_at e request (rest_of e.home request.to place) group)
spot_items e request (Some (Poll channel)) = []

-- the items that an expiry appends
abbrev pub expiry_items : ℕ → EntityData → List Item
expiry_items reading e =
    items_from e.numbered (event_moment e.last reading) (expiry_notes reading e)

-- those that a request to an entity appends from which what is due is gone; one that is refused has
-- none
abbrev pub request_items : EntityData → RequestParts → List Item
request_items e request =
    option_map_or (λ fault. []) (first_fault (first_places e request))
    (spot_items e request (spot_named e.home request.to e.nodes))

-- ---- what a poll takes

-- the originator of a request may poll the channel of the number (TS-0001, 9.6.22)
abbrev pub may_poll : EntityData → RequestParts → ℕ → Bool
may_poll e request channel =
    has channel e.nodes
    && grants e.home e.nodes (claimed_originator e.home request) retrieve_bit channel

-- the channel that an operation polls, where it does and the originator may
abbrev pub polled_by : Op → EntityData → RequestParts → ℕ → Option ℕ
polled_by Create e request channel = None
polled_by Retrieve e request channel =
    if may_poll e request channel then Some channel else None
polled_by Update e request channel = None
polled_by Delete e request channel = None
polled_by Notify e request channel = None

-- that of a request at what its address names
abbrev pub channel_at : EntityData → RequestParts → Option Spot → Option ℕ
channel_at e request None = None
channel_at e request (Some (Resource n)) = None
channel_at e request (Some (Fan group place)) = None
channel_at e request (Some (Poll channel)) = polled_by request.op e request channel

-- the channel that a request polls, unless a place refuses it
abbrev pub channel_polled : EntityData → RequestParts → Option ℕ
channel_polled e request =
    option_map_or (λ fault. None) (first_fault (first_places e request))
    (channel_at e request (spot_named e.home request.to e.nodes))

-- ---- the account of all items

-- how an item fared: it waits, it was given away, or it was dropped
pub data Fate : Type 0 where
  Waits : Fate
  Taken : Fate
  Dropped : Fate

abbrev pub does_wait : Fate → Bool
does_wait Waits = true
does_wait Taken = false
does_wait Dropped = false

abbrev pub is_dropped : Fate → Bool
is_dropped Waits = false
is_dropped Taken = false
is_dropped Dropped = true

-- an item that was appended, and how it fared
pub record Accounted : Type 0 where
  pub item : Item
  pub fate : Fate

-- all items that were appended since the history began, in order
abbrev pub Account : Type 0
Account = List Accounted

-- those of them that wait, in order
abbrev pub waiting_of : Account → List Item
waiting_of account =
    map (λ (line : Accounted). line.item)
    (filter (λ (line : Accounted). does_wait line.fate) account)

-- items are appended
abbrev pub noted : List Item → Account → Account
noted items account = account ++ map (λ item. record { item = item; fate = Waits }) items

-- what waits and has waited the keeping time at a moment is dropped
abbrev pub is_too_old : ℕ → Accounted → Bool
is_too_old moment line = does_wait line.fate && not (still_waits moment line.item)

abbrev pub aged_line : ℕ → Accounted → Accounted
aged_line moment line = if is_too_old moment line then record line { fate = Dropped } else line

abbrev pub aged : ℕ → Account → Account
aged moment account = map (aged_line moment) account

-- the first that waits and is such a one is given away
abbrev pub given : (Item → Bool) → Account → Account
given picks [] = []
given picks (line ∷ account) =
    if does_wait line.fate && picks line.item
    then record line { fate = Taken } ∷ account
    else line ∷ given picks account

-- ---- along a history

-- what an expiry makes of the account: what has waited too long is dropped, and then its own items
-- are appended
abbrev pub expired_account : ℕ → EntityData → Account → Account
expired_account reading e account =
    noted (expiry_items reading e) (aged (event_moment e.last reading) account)

-- what a request makes of it behind the expiry: a poll is given the first item that waits for its
-- channel, and every other request appends its items
abbrev pub requested_account : EntityData → RequestParts → Account → Account
requested_account e request account =
    option_map_or (λ channel. given (waits_for channel) account) (channel_polled e request)
    (noted (request_items e request) account)

-- What it makes of it where memory ran out: the first so many members of a fan-out have appended
-- theirs; or nothing is done, not even by the expiry, where memory ran out there.
abbrev pub short_account : ℕ → RequestParts → EntityData → ℕ → Account → Account
short_account reading request before done account =
    let e = swept reading before in
    noted (member_items e (take done (heard_members e request)))
    (expired_account reading before account)

-- What a step makes of it: a request polls, or appends its items behind those of the expiry, or
-- goes on; the first item that waits for no polling channel is given away; and where memory runs
-- out, nothing is done but by the expiry and by so many members of a fan-out, and not even that
-- where it ran out in the expiry.
abbrev pub AccountStep : ℕ → Event → EntityData → Outcome → EntityData → Account → Account → Type 0
AccountStep reading (Ask request) before (Done reply) after account next =
    next ≡ requested_account (swept reading before) request
    (expired_account reading before account)
AccountStep reading (Ask request) before (Forward poa onward) after account next =
    next ≡ expired_account reading before account
AccountStep reading Take before (Given sent) after account next =
    next ≡ given (is_to_send (swept reading before).nodes) (expired_account reading before account)
AccountStep reading Tick before Ticked after account next =
    next ≡ expired_account reading before account
AccountStep reading (Ask request) before (Starved done) after account next =
    (IsCutShort (swept reading before) request done after
    × (next ≡ short_account reading request before done account))
    ⊎ (IsUnswept reading before done after × (next ≡ account))
AccountStep reading Take before (Starved done) after account next =
    IsUnswept reading before done after × (next ≡ account)
AccountStep reading Tick before (Starved done) after account next =
    IsUnswept reading before done after × (next ≡ account)
AccountStep reading (Ask request) before (Given sent) after account next = ⊥
AccountStep reading (Ask request) before Ticked after account next = ⊥
AccountStep reading Take before (Done reply) after account next = ⊥
AccountStep reading Take before (Forward poa onward) after account next = ⊥
AccountStep reading Take before Ticked after account next = ⊥
AccountStep reading Tick before (Done reply) after account next = ⊥
AccountStep reading Tick before (Forward poa onward) after account next = ⊥
AccountStep reading Tick before (Given sent) after account next = ⊥

-- the steps one after another, from an entity and the account of its items to others
abbrev pub Accounts : EntityData → Account → History → EntityData → Account → Type 0
Accounts before account [] after final = (after ≡ before) × (final ≡ account)
Accounts before account (entry ∷ history) after final =
    (middle : EntityData) × (next : Account)
    × Step entry.reading entry.event before entry.outcome middle
    × AccountStep entry.reading entry.event before entry.outcome middle account next
    × Accounts middle next history after final

-- ---- the law

-- a line was dropped only where its item had waited the keeping time at a moment
abbrev pub is_justly_dropped : ℕ → Accounted → Bool
is_justly_dropped moment line = not (is_dropped line.fate) || not (still_waits moment line.item)

-- The outbox is the list of all items that were appended, in order, less those that were given away
-- and those that were dropped; and what was dropped had waited the keeping time.
pub record IsAccounted (opening : EntityData) (history : History) (e : EntityData) : Type 0 where
  pub account : Account
  pub steps : Accounts opening [] history e account
  pub waits : e.items ≡ waiting_of account
  pub dropped : IsTrue (list_all (is_justly_dropped e.last) account)

-- So it is after every history from an entity whose outbox is empty, as it is where one opens.
abbrev pub OutboxesAreAccounted : Type 0
OutboxesAreAccounted =
    (opening e : EntityData) (history : History)
    → opening.items ≡ [] → HistoryLeaves opening history e → IsAccounted opening history e
