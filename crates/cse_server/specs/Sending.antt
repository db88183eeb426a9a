-- How the items of an outbox are sent (TS-0001, 10.2.10; TS-0009, 6).
use Rattle.std.specs.Prelude.{◌≡◌, ◌≢◌, ◌≤◌, ◌⊎◌, ℕ, ◌+◌, false, List, [], ◌∷◌, ◌++◌, length, map}
use Rattle.std.specs.Prelude.{Option, Some, None}
use Rattle.std.specs.declared.result.Result.{Result}
use Rattle.std.specs.declared.result.Result.TheVariants.{Ok, Err}
use Rattle.m2m_io.specs.Link.{Carrying}
use Rattle.m2m_io.specs.Told.{Tells}
use Rattle.primitive_json.specs.declared.note.Dest.{Dest}
use Rattle.primitive_json.specs.declared.note.Dest.TheVariants.{Direct, Peer, Channel, Nowhere}
use Rattle.primitive_json.specs.declared.note.NoteParts.{NoteParts}
use Rattle.primitive_json.specs.declared.request.RequestParts.{RequestParts}
use Rattle.turn_desk.specs.Entries.{Marked, entry_of}
use Rattle.turn_desk.specs.Growth.{Asks, AsksAll}
use Rattle.http_client_binding.specs.declared.target.Aim.{Aim}
use Rattle.http_client_binding.specs.declared.target.Aim.TheVariants.{Direct as ToTarget}
use Rattle.http_client_binding.specs.declared.target.Aim.TheVariants.{Peer as ToPeer}
use Rattle.cse_machine.specs.declared.event.Event.{Event}
use Rattle.cse_machine.specs.declared.event.Event.TheVariants.{Take}
use Rattle.cse_machine.specs.declared.event.Outcome.{Outcome}
use Rattle.cse_machine.specs.declared.event.Outcome.TheVariants.{Item}
use Rattle.cse_server.specs.Outside.{Carries, LinkTold}
use Rattle.http_forwarding.specs.Sending.{exchange_for}

-- ---- one item

-- that exchange was made, and there was memory for it
abbrev pub carried_to : List ℕ → Aim → RequestParts → Option (List ℕ) → List Carrying
carried_to url aim request answer =
    record { made = Some (exchange_for request url aim answer); starved = false } ∷ []

-- What is carried for a request by where it goes: one exchange where that is a URL, and nothing
-- where it is a polling channel that is gone, or can't be reached.
abbrev pub carried_for : Dest → RequestParts → Option (List ℕ) → List Carrying
carried_for (Direct url) request answer = carried_to url ToTarget request answer
carried_for (Peer url) request answer = carried_to url ToPeer request answer
carried_for (Channel number) request answer = []
carried_for Nowhere request answer = []

-- what came of the question for the next item says what the outcome gives
abbrev pub GivesItem : {E : Type 0} → Result (Option NoteParts) E → Outcome → Type 0
GivesItem (Ok given) outcome = outcome ≡ Item given
GivesItem (Err starved) outcome = outcome ≢ Item None

-- A seat asked for the next item at a reading that a clock gave, which told these before and tells
-- those now.
pub record TakesItem {S E : Type 0} (grown : S → List (Marked Event Outcome) → S → Type 0)
    (before after : S) (given now : Option (List ℕ)) (result : Result (Option NoteParts) E)
    : Type 0 where
  pub reading : ℕ
  pub outcome : Outcome
  pub asks : Asks grown before (entry_of reading Take outcome) after
  pub clock : Tells (λ list. list ++ reading ∷ []) given now
  pub gives : GivesItem result outcome

-- ---- one after another

-- Items were sent, each once, in order, whatever was answered.
abbrev pub SendsEach : List NoteParts → List Carrying → Type 0
SendsEach [] carried = carried ≡ []
SendsEach (note ∷ notes) carried =
    (answer : Option (List ℕ)) × (later : List Carrying)
    × (carried ≡ carried_for note.dest note.request answer ++ later) × SendsEach notes later

-- the most items that one call sends
abbrev pub most_items : ℕ
most_items = 100000

-- the outcome by which an item is given
abbrev pub item_given : NoteParts → Outcome
item_given note = Item (Some note)

-- the outcome by which it is said that none is left
abbrev pub none_left : Outcome
none_left = Item None

-- How sending ends behind so many items: where none was left, or as many were sent as one call
-- sends. Where memory ran out, it did for the event of the last question, or in sending the item
-- that it gave.
abbrev pub EndsSending : {E : Type 0} → Result ℕ E → ℕ → List Outcome → Type 0
EndsSending (Ok sent) count last =
    (sent ≡ count) × ((last ≡ none_left ∷ []) ⊎ ((last ≡ []) × (count ≡ most_items)))
EndsSending (Err starved) count last =
    (outcome : Outcome) × (last ≡ outcome ∷ []) × (outcome ≢ none_left)

-- A seat asked for the next item again and again, at readings that a clock gave, and for nothing
-- else; and each item that it was given was sent over a link, but perhaps not the last, where
-- memory ran out. Clock and link told these before and tell those now.
pub record SendsItems {S E : Type 0} (grown : S → List (Marked Event Outcome) → S → Type 0)
    (before after : S) (given now : Option (List ℕ)) (told more : LinkTold)
    (result : Result ℕ E) : Type 0 where
  -- the items that were sent, and what came of the question behind them, if there was one
  pub notes : List NoteParts
  pub last : List Outcome
  pub readings : List ℕ
  pub carried : List Carrying
  pub asked : AsksAll grown before readings (map (λ (reading : ℕ). Take) readings)
      (map item_given notes ++ last) after
  pub clock : Tells (λ list. list ++ readings) given now
  pub sent : SendsEach notes carried
  pub link : Carries carried told more
  pub ends : EndsSending result (length notes) last
  pub few : length notes + length last ≤ most_items
