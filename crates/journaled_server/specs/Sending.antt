-- How items are sent that stay in the outbox until they were sent (TS-0001, 10.2.10).
use Rattle.std.specs.Prelude.{◌≡◌, ◌≢◌, ◌<◌, ◌⊎◌, ℕ, ◌+◌, Bool, true, false, List, [], ◌∷◌, ◌++◌}
use Rattle.std.specs.Prelude.{length, Option, Some, None}
use Rattle.std.specs.declared.result.Result.{Result}
use Rattle.std.specs.declared.result.Result.TheVariants.{Ok, Err}
use Rattle.m2m_io.specs.Told.{Tells}
use Rattle.primitive_json.specs.declared.note.NoteParts.{NoteParts}
use Rattle.notify_outbox.specs.declared.item.Item.{Item}
use Rattle.turn_desk.specs.Entries.{Marked, entry_of}
use Rattle.turn_desk.specs.Growth.{Asks}
use Rattle.kept_desk.specs.declared.turn.Answer.{Answer}
use Rattle.kept_desk.specs.declared.turn.Answer.TheVariants.{Kept}
use Rattle.journal_events.specs.declared.event.KeptEvent.{KeptEvent}
use Rattle.journal_events.specs.declared.event.KeptEvent.TheVariants.{Next, Sent}
use Rattle.journal_events.specs.declared.event.KeptOutcome.{KeptOutcome}
use Rattle.journal_events.specs.declared.event.KeptOutcome.TheVariants as came
use Rattle.cse_server.specs.Outside.{Carries, LinkTold}
use Rattle.cse_server.specs.Sending.{carried_for, most_items}

-- what is known of who sends: the seat at which it asks, and what its clock and its link tell
pub record Sender (S : Type 0) : Type 0 where
  pub seat : S
  pub readings : Option (List ℕ)
  pub link : LinkTold

abbrev pub sender : {S : Type 0} → S → Option (List ℕ) → LinkTold → Sender S
sender seat readings link = record { seat = seat; readings = readings; link = link }

-- ---- answers

-- that this item is to be sent next
abbrev pub item_given : Item → Answer KeptOutcome
item_given item = Kept (came.Next (Some item))

-- that none is left
abbrev pub none_left : Answer KeptOutcome
none_left = Kept (came.Next None)

-- that an item which was sent isn't the next one any more
abbrev pub taken : Answer KeptOutcome
taken = Kept came.Taken

-- the answer tells no item, and not that none is left
abbrev pub TellsNoNext : Answer KeptOutcome → Type 0
TellsNoNext answer = (given : Option Item) → answer ≢ Kept (came.Next given)

-- what came of looking says what the answer tells
abbrev pub GivesNext : {E : Type 0} → Result (Option Item) E → Answer KeptOutcome → Type 0
GivesNext (Ok given) answer = answer ≡ Kept (came.Next given)
GivesNext (Err fault) answer = TellsNoNext answer

-- whether the answer says that the item is taken
abbrev pub TellsTaken : Bool → Answer KeptOutcome → Type 0
TellsTaken true answer = answer ≡ taken
TellsTaken false answer = answer ≢ taken

-- There wasn't memory for all of it, or the answer doesn't say that the item is taken.
abbrev pub IsCutShort : Bool → Answer KeptOutcome → Type 0
IsCutShort whole answer = (whole ≡ false) ⊎ (answer ≢ taken)

-- all of it came well, or it was cut short
abbrev pub EndsItem : {A E : Type 0} → Result A E → Bool → Answer KeptOutcome → Type 0
EndsItem (Ok done) whole answer = (whole ≡ true) × (answer ≡ taken)
EndsItem (Err fault) whole answer = IsCutShort whole answer

-- ---- one item

-- What was carried for a note, where there was memory for that: its request, once, whatever was
-- answered, where it goes to a URL. Without memory it was nothing.
abbrev pub CarriesNote : Bool → NoteParts → LinkTold → LinkTold → Type 0
CarriesNote true note old new =
    (answer : Option (List ℕ)) × Carries (carried_for note.dest note.request answer) old new
CarriesNote false note old new = Carries [] old new

-- A note was carried, where there was memory for that. Nothing was asked.
pub record CarriesNow {S : Type 0} (whole : Bool) (note : NoteParts) (old new : Sender S)
    : Type 0 where
  pub carries : CarriesNote whole note old.link new.link
  pub seat : new.seat ≡ old.seat
  pub readings : new.readings ≡ old.readings

module _ {S : Type 0} (grown : S → List (Marked KeptEvent (Answer KeptOutcome)) → S → Type 0) where
  -- The seat asked this at a reading of the clock, and this was answered. Nothing was carried.
  pub record AsksNow (event : KeptEvent) (answer : Answer KeptOutcome) (old new : Sender S)
      : Type 0 where
    pub reading : ℕ
    pub asks : Asks grown old.seat (entry_of reading event answer) new.seat
    pub clock : Tells (λ list. list ++ reading ∷ []) old.readings new.readings
    pub link : new.link ≡ old.link

  -- An item that was looked at was carried, and then the seat said that the item of this number is
  -- sent, which was answered so.
  pub record CarriesThenSays (item : Item) (whole : Bool) (answer : Answer KeptOutcome)
      (old new : Sender S) : Type 0 where
    pub between : Sender S
    pub carries : CarriesNow whole item.note old between
    pub says : AsksNow (Sent item.number) answer between new

  -- The item that is to be sent next was looked at. Then it was carried, and then the seat said
  -- that it is sent.
  pub record SendsItem (item : Item) (whole : Bool) (answer : Answer KeptOutcome)
      (old new : Sender S) : Type 0 where
    pub looked : Sender S
    pub looks : AsksNow Next (item_given item) old looked
    pub sends : CarriesThenSays item whole answer looked new

  -- ---- what comes of it

  -- The item that is to be sent next was looked at, and this came of it.
  pub record LooksNext {E : Type 0} (old new : Sender S) (result : Result (Option Item) E)
      : Type 0 where
    pub answer : Answer KeptOutcome
    pub asks : AsksNow Next answer old new
    pub gives : GivesNext result answer

  -- The seat said that the item of this number is sent, and this came of it.
  pub record SaysSent (number : ℕ) (old new : Sender S) (is_taken : Bool) : Type 0 where
    pub answer : Answer KeptOutcome
    pub asks : AsksNow (Sent number) answer old new
    pub tells : TellsTaken is_taken answer

  -- An item that was looked at was carried, and then said to be sent, and this came of it.
  pub record SendsLooked {A E : Type 0} (item : Item) (old new : Sender S) (result : Result A E)
      : Type 0 where
    pub whole : Bool
    pub answer : Answer KeptOutcome
    pub sends : CarriesThenSays item whole answer old new
    pub ends : EndsItem result whole answer

  -- ---- one after another

  -- These items were sent, in order, and behind each the seat said so, and it was the next no more.
  abbrev pub SendsEach : List Item → Sender S → Sender S → Type 0
  SendsEach [] old new = new ≡ old
  SendsEach (item ∷ items) old new = (between : Sender S)
      × SendsItem item true taken old between × SendsEach items between new

  -- How sending ends behind so many items: where none was left, or as many were sent as one call
  -- sends. Else memory ran out or an answer was lost: that to the last question, or in sending the
  -- item that it gave, of which it was said that it is sent all the same.
  abbrev pub EndsSending : {E : Type 0} → Result ℕ E → ℕ → Sender S → Sender S → Type 0
  EndsSending (Ok sent) count old new = (sent ≡ count)
      × (((count < most_items) × AsksNow Next none_left old new)
      ⊎ ((count ≡ most_items) × (new ≡ old)))
  EndsSending (Err fault) count old new = (count < most_items)
      × (((answer : Answer KeptOutcome) × TellsNoNext answer × AsksNow Next answer old new)
      ⊎ ((item : Item) × (whole : Bool) × (answer : Answer KeptOutcome) × IsCutShort whole answer
      × SendsItem item whole answer old new))

  -- A seat asked which item is to be sent next, again and again. Each that it was given was sent
  -- over a link, and behind that the seat said so.
  pub record SendsThenTakes {E : Type 0} (old new : Sender S) (result : Result ℕ E) : Type 0 where
    pub items : List Item
    pub between : Sender S
    pub sends : SendsEach items old between
    pub ends : EndsSending result (length items) between new
