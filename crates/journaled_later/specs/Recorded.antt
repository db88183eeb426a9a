-- What is written down of the steps of a CSE that answers later.
use Rattle.std.specs.Prelude.{◌≡◌, ◌⊎◌, ◌<◌, ◌≤◌, ℕ, List, ◌∷◌, ◌++◌, length, Option, Some, None}
use Rattle.std.specs.Prelude.{IsTrue}
use Rattle.primitive_json.specs.declared.request.RequestParts.{RequestParts}
use Rattle.resource_model.specs.Home.{HomeData}
use Rattle.addressing.specs.Addresses.{address_of}
use Rattle.entity_model.specs.Entity.{EntityData, event_moment}
use Rattle.entity_model.specs.Sound.{IsSoundEntity}
use Rattle.group_fanout.specs.Rights.{claimed_originator}
use Rattle.cse_machine.specs.declared.event.Outcome.{Outcome}
use Rattle.cse_machine.specs.declared.event.Outcome.TheVariants.{Starved}
use Rattle.accepted_requests.specs.Asked.{IsAskedAs}
use Rattle.accepted_requests.specs.Names.{number_in}
use Rattle.accepted_requests.specs.declared.asked.Asked.{Asked}
use Rattle.later_replies.specs.Entries.{LaterEntryData, LaterRequestsData}
use Rattle.later_replies.specs.Step.{is_heard_outcome}
use Rattle.journal_lines.specs.Lines.{lines_of, moment_bound}
use Rattle.journal_lines.specs.declared.deed.Deed.TheVariants.{Tick}
use Rattle.later_lines.specs.Keeping.{before_run}
use Rattle.later_lines.specs.Words.{IsReadBack, word_lines}
use Rattle.later_lines.specs.declared.word.Word.TheVariants.{Accepted, Gone}
use Rattle.later_opening.specs.Making.{later_of, with_entry}
use Rattle.kept_object.specs.Records.{Records}
use Rattle.journaled_later.specs.Keeping.{KeepsLater}
use Rattle.journaled_later.specs.declared.answering.Stood.{Stood}

-- An entity with its accepted requests became another one, and something was put behind lines for
-- it: behind each text that keeps the one before, it makes a text that keeps the one after.
abbrev pub RecordsLater : EntityData → LaterRequestsData → List ℕ → EntityData
    → LaterRequestsData → List ℕ → Type 0
RecordsLater before requests lines after left now =
    Records KeepsLater (later_of before requests) lines (later_of after left) now

-- these accepted requests, with one among them, and the last number that was given
abbrev pub with_one : List LaterEntryData → LaterEntryData → List LaterEntryData → ℕ
    → LaterRequestsData
with_one front e back given = record { entries = front ++ e ∷ back; given = given }

-- So it is wherever the accepted request stands among others, which became this one.
abbrev pub RecordsRun : LaterEntryData → EntityData → List ℕ → LaterEntryData → EntityData
    → List ℕ → Type 0
RecordsRun e before lines ran after now =
    (front back : List LaterEntryData) (given : ℕ)
    → RecordsLater before (with_one front e back given) lines after
    (with_one front ran back given) now

-- ---- what is appended

-- The lines of the acceptance of a request were appended, which are read back as it; it wasn't
-- accepted later than at this moment.
pub record AppendsAccepted (moment : ℕ) (e : LaterEntryData) (old new : List ℕ) : Type 0 where
  pub earlier : e.accepted ≤ moment
  pub appended : new ≡ old ++ word_lines (Accepted (before_run e))
  pub reads_back : IsReadBack (Accepted (before_run e))

-- The lines of an expiry at the moment of the entity were appended, and then those of the
-- acceptance of a request.
pub record AppendsAcceptance (inner : EntityData) (e : LaterEntryData) (old new : List ℕ) : Type 0
  where
    pub sound : IsSoundEntity inner
    pub small : event_moment inner.last 0 < moment_bound
    pub accepted : AppendsAccepted (event_moment inner.last 0) e
        (old ++ lines_of (event_moment inner.last 0) Tick) new

-- The lines of the accepted request of this number were appended that say that it went.
pub record AppendsGone (named : Option ℕ) (old new : List ℕ) : Type 0 where
  pub number : ℕ
  pub is : named ≡ Some number
  pub appended : new ≡ old ++ word_lines (Gone number)
  pub reads_back : IsReadBack (Gone number)

-- ---- what becomes of the accepted requests

-- One more is kept, which waits under a number above the last that was given.
pub record HasOneMore (standing after : LaterRequestsData) : Type 0 where
  pub entry : LaterEntryData
  pub after_is : after ≡ with_entry entry standing
  pub above : standing.given < entry.number
  pub waits : entry.reply ≡ None

-- The outcome stands, and so do the accepted requests; or memory ran out, and they are as they
-- stood before.
abbrev pub IsWrittenOrBack : LaterRequestsData → LaterRequestsData → Outcome → LaterRequestsData
    → Outcome → Type 0
IsWrittenOrBack standing after outcome left told =
    ((told ≡ outcome) × (left ≡ after)) ⊎ ((told ≡ Starved 0) × (left ≡ standing))

-- What a request says, where the entity inside may be answered for.
abbrev pub SaysAsked : HomeData → LaterRequestsData → RequestParts → Outcome → Asked → Type 0
SaysAsked home standing request told asked = IsTrue (is_heard_outcome told)
    → IsAskedAs home (claimed_originator home request) standing request asked

-- This is what stood before a request was answered.
pub record IsAsItStood (stood : Stood) (home : HomeData) (request : RequestParts) (told : Outcome)
    (standing : LaterRequestsData) : Type 0 where
  pub given : stood.given ≡ standing.given
  pub count : stood.count ≡ length standing.entries
  pub named : IsTrue (is_heard_outcome told) → stood.named ≡ number_in (address_of home request.to)
