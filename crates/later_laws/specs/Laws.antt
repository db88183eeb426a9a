-- The laws of a CSE that answers later.
use Rattle.std.specs.Prelude.{◌≡◌, ◌⊎◌, ◌≤◌, ◌+◌, ◌==◌, ℕ, true, false, List, [], ◌∷◌, ◌++◌, map}
use Rattle.std.specs.Prelude.{Bool, None, Some, Contains, if◌then◌else◌}
use Rattle.primitive_json.specs.declared.reply.ReplyParts.{ReplyParts}
use Rattle.primitive_json.specs.declared.request.RequestParts.{RequestParts}
use Rattle.m2m_names.specs.declared.codes.Rsc.TheVariants.{Accepted, NoPrivilege, NonBlocking}
use Rattle.m2m_names.specs.declared.codes.Rsc.TheVariants.{NotAcceptable, NotFound}
use Rattle.turn_desk.specs.Entries.{Runs, entry_of}
use Rattle.turn_desk.specs.declared.entry.Entry.{Entry}
use Rattle.entity_model.specs.Entity.{EntityData, swept}
use Rattle.entity_model.specs.Places.{refusal, reply_to}
use Rattle.entity_model.specs.Sound.{IsSoundEntity}
use Rattle.group_fanout.specs.Rights.{claimed_originator}
use Rattle.cse_machine.specs.History.{History, HistoryLeaves}
use Rattle.cse_machine.specs.Step.{Step}
use Rattle.cse_machine.specs.declared.event.Event.{Event}
use Rattle.cse_machine.specs.declared.event.Event.TheVariants.{Ask}
use Rattle.cse_machine.specs.declared.event.Outcome.{Outcome}
use Rattle.cse_machine.specs.declared.event.Outcome.TheVariants.{Done, Starved}
use Rattle.guard_laws.specs.Guard.{IsGuarded}
use Rattle.later_replies.specs.Answered.{ComesTo, IsDeletedByOwn, IsTakenUp, ShowsOwn, TellsNumber}
use Rattle.later_replies.specs.Sound.{IsSoundLater, Rises}
use Rattle.later_replies.specs.Effects.{is_acceptable, is_full, is_own, with_accepted}
use Rattle.later_replies.specs.Entries.{LaterData, LaterEntryData}
use Rattle.later_replies.specs.Entries.{accepted_entry, does_wait, opened, still_standing}
use Rattle.later_replies.specs.Entries.{still_stands}
use Rattle.accepted_requests.specs.Form.{uri_content}
use Rattle.later_replies.specs.Names.{entry_at}
use Rattle.later_replies.specs.Runs.{is_to_run}
use Rattle.later_replies.specs.Step.{LaterStep}
use Rattle.later_laws.specs.Turns.{HasTurns, IsTurn, Ran, Turn, all_ran, as_ran, inner_history}

-- ---- what is asked inside

-- After every list of events the entity inside is left by a legal history of the machine. It
-- consists, event by event, of the runs of accepted requests, and then of the event itself.
abbrev pub LaterHistoriesAreLegal : Type 0
LaterHistoriesAreLegal =
    (before after : LaterData) (history : History) → Runs LaterStep before history after
    → (turns : List Turn) × HasTurns before history turns after
    × HistoryLeaves before.inner (inner_history turns) after.inner

-- What is asked inside is a step of the sound entity that what was asked before it left. So what
-- holds of each step of a sound entity holds of each run, and of each event.
abbrev pub InnerEntriesAreSteps : Type 0
InnerEntriesAreSteps =
    (before after : LaterData) (history earlier later : History) (turns : List Turn)
    (reading : ℕ) (event : Event) (outcome : Outcome)
    → IsSoundEntity before.inner → HasTurns before history turns after
    → inner_history turns ≡ earlier ++ entry_of reading event outcome ∷ later
    → (there : EntityData) × (left : EntityData)
    × HistoryLeaves before.inner earlier there × IsSoundEntity there
    × Step reading event there outcome left
    × HistoryLeaves before.inner (earlier ++ entry_of reading event outcome ∷ []) left

-- What is asked inside is guarded: each run for the originator of the accepted request, and each
-- event for its own.
abbrev pub InnerStepsAreGuarded : Type 0
InnerStepsAreGuarded =
    (before after : LaterData) (history earlier later : History) (turns : List Turn)
    (reading : ℕ) (request : RequestParts) (reply : ReplyParts)
    → IsSoundEntity before.inner → HasTurns before history turns after
    → inner_history turns ≡ earlier ++ entry_of reading (Ask request) (Done reply) ∷ later
    → (there : EntityData) × (left : EntityData)
    × HistoryLeaves before.inner earlier there
    × HistoryLeaves before.inner (earlier ++ entry_of reading (Ask request) (Done reply) ∷ []) left
    × IsGuarded (swept reading there) request reply left

-- ---- at every moment

-- A CSE by which no request was accepted yet is sound where the entity inside is.
abbrev pub OpensSound : Type 0
OpensSound = (opening : EntityData) → IsSoundEntity opening → IsSoundLater (opened opening)

-- A sound one is sound after every list of events, and the last number that was given never falls.
abbrev pub LaterStaysSound : Type 0
LaterStaysSound =
    (before after : LaterData) (history : History)
    → IsSoundLater before → Runs LaterStep before history after
    → IsSoundLater after × (before.requests.given ≤ after.requests.given)

-- ---- acceptance

-- Where the entity inside refuses a request since it isn't blocking, and the request is one that
-- may be accepted, it is accepted under the next number, if there is room; else it is refused. Want
-- of memory alone leaves it undone.
abbrev pub WhatIsAcceptableIsAccepted : Type 0
WhatIsAcceptableIsAccepted =
    (before after : LaterData) (reading : ℕ) (request : RequestParts) (told : ReplyParts)
    (outcome : Outcome) (t : Turn)
    → (is : IsTurn before (entry_of reading (Ask request) outcome) t after)
    → t.told ≡ Done told → told.rsc ≡ NonBlocking
    → is_acceptable before.inner.home (still_standing is.moment is.left) request ≡ true
    → ((is_full (still_standing is.moment is.left) ≡ true)
    × (outcome ≡ Done (refusal request NotAcceptable))
    × (after.requests ≡ still_standing is.moment is.left))
    ⊎ (((is_full (still_standing is.moment is.left) ≡ false)
    × (outcome ≡ Done (reply_to request Accepted (Some (uri_content (is.left.given + 1)))))
    × (after.requests ≡ with_accepted (still_standing is.moment is.left)
    (claimed_originator before.inner.home request) request is.moment))
    ⊎ ((outcome ≡ Starved 0) × (after.requests ≡ still_standing is.moment is.left)))

-- Each accepted request that is kept behind an event was kept when the event was taken, or is the
-- event's own: it is the request of its originator, accepted at its moment under the next number.
abbrev pub AcceptanceAloneAdds : Type 0
AcceptanceAloneAdds =
    (before after : LaterData) (e : Entry Event Outcome) (t : Turn) (x : LaterEntryData)
    → (is : IsTurn before e t after) → Contains after.requests.entries x
    → Contains (still_standing is.moment is.left).entries x
    ⊎ ((up : IsTakenUp before.inner.home (still_standing is.moment is.left) is.moment e.event
    t.told e.outcome after.requests)
    × (x ≡ accepted_entry (is.left.given + 1)
    (claimed_originator before.inner.home up.asked.request) up.asked.request is.moment))

-- ---- order

-- the numbers of the accepted requests that were run in a turn, in order
abbrev pub run_numbers : Turn → List ℕ
run_numbers t = map (λ (r : Ran). r.entry.number) t.ran

-- those of turns, one after another
abbrev pub all_run_numbers : List Turn → List ℕ
all_run_numbers [] = []
all_run_numbers (t ∷ ts) = run_numbers t ++ all_run_numbers ts

-- Accepted requests are run in the order of their acceptance, and none twice.
abbrev pub RunsRise : Type 0
RunsRise =
    (before after : LaterData) (history : History) (turns : List Turn)
    → IsSoundLater before → HasTurns before history turns after
    → Rises 0 (all_run_numbers turns)

-- What waits is run by the first event that runs it: it stands among the runs of that turn.
abbrev pub WhatWaitsIsRun : Type 0
WhatWaitsIsRun =
    (before after : LaterData) (e : Entry Event Outcome) (t : Turn) (x : LaterEntryData)
    → (is : IsTurn before e t after) → Contains before.requests.entries x
    → is_to_run is.moment e.event x ≡ true → Contains (map (λ r. r.entry) t.ran) x

-- Until then it waits: an event that doesn't run it leaves it as it is, but for what goes.
abbrev pub WhatIsNotRunStays : Type 0
WhatIsNotRunStays =
    (before after : LaterData) (e : Entry Event Outcome) (t : Turn) (x : LaterEntryData)
    → (is : IsTurn before e t after) → Contains before.requests.entries x
    → is_to_run is.moment e.event x ≡ false → Contains is.left.entries x

-- ---- results

-- The result that is kept is the reply of that run: what was run stands behind the runs with the
-- reply that the entity inside gave, or the one for which memory ran out.
abbrev pub ResultsAreRepliesOfRuns : Type 0
ResultsAreRepliesOfRuns =
    (before after : LaterData) (e : Entry Event Outcome) (t : Turn) (r : Ran)
    → (is : IsTurn before e t after) → Contains t.ran r → Contains is.left.entries (as_ran r)

-- No other result is ever kept: whatever has one is what one of the runs left, or had it before.
abbrev pub KeptResultsAreOfRuns : Type 0
KeptResultsAreOfRuns =
    (before after : LaterData) (history : History) (turns : List Turn) (x : LaterEntryData)
    → HasTurns before history turns after → Contains after.requests.entries x
    → does_wait x ≡ false
    → Contains before.requests.entries x ⊎ Contains (map as_ran (all_ran turns)) x

-- ---- what is shown

-- An event comes to the outcome of the entity inside, or to what comes of a request that asks to be
-- answered later or names an accepted request, or memory runs out for that.
abbrev pub EventsComeTo : Type 0
EventsComeTo =
    (before after : LaterData) (e : Entry Event Outcome) (t : Turn)
    → (is : IsTurn before e t after)
    → ComesTo before.inner.home (still_standing is.moment is.left) is.moment e.event t.told
    e.outcome after.requests

-- A reply that isn't that of the entity inside shows nothing but the number under which its request
-- was accepted, and its originator's own accepted request.
abbrev pub OwnAloneIsShown : Type 0
OwnAloneIsShown =
    (before after : LaterData) (e : Entry Event Outcome) (t : Turn) (reply : ReplyParts)
    → (is : IsTurn before e t after) → e.outcome ≡ Done reply
    → (t.told ≡ Done reply)
    ⊎ ((reply.pc ≡ None)
    ⊎ (TellsNumber before.inner.home (still_standing is.moment is.left) e.event t.told reply
    ⊎ ShowsOwn before.inner.home (still_standing is.moment is.left) e.event t.told reply))

-- Where a request names an accepted request that isn't its originator's, it has no right: nothing
-- is accepted, shown or taken away.
abbrev pub OthersAreRefused : Type 0
OthersAreRefused =
    (before after : LaterData) (reading : ℕ) (request : RequestParts) (told : ReplyParts)
    (outcome : Outcome) (t : Turn) (x : LaterEntryData)
    → (is : IsTurn before (entry_of reading (Ask request) outcome) t after)
    → t.told ≡ Done told → told.rsc ≡ NotFound
    → entry_at before.inner.home request.to (still_standing is.moment is.left) ≡ Some x
    → is_own before.inner.home request x ≡ false
    → (after.requests ≡ still_standing is.moment is.left)
    × ((outcome ≡ Done (refusal request NoPrivilege)) ⊎ (outcome ≡ Starved 0))

-- ---- what goes

-- the accepted request as a turn leaves it: as it was, or, where it was run, with its result
pub record IsLeftAs (t : Turn) (is_run : Bool) (x left : LaterEntryData) : Type 0 where
  pub same : is_run ≡ false → left ≡ x
  pub ran : is_run ≡ true → (r : Ran) × Contains t.ran r × (r.entry ≡ x) × (left ≡ as_ran r)

-- An accepted request goes only when it is due, or by its originator's Delete. Until then it is
-- kept as it is, but for the result that its run gives it.
abbrev pub GoesWhenDueOrByOwn : Type 0
GoesWhenDueOrByOwn =
    (before after : LaterData) (e : Entry Event Outcome) (t : Turn) (x : LaterEntryData)
    → (is : IsTurn before e t after) → Contains before.requests.entries x
    → still_stands is.moment x ≡ true
    → ((left : LaterEntryData) × Contains after.requests.entries left
    × IsLeftAs t (is_to_run is.moment e.event x) x left)
    ⊎ IsDeletedByOwn before.inner.home (still_standing is.moment is.left) e.event x.number

-- ---- once

-- One of the events runs the accepted request: a take, a tick, or an event of a later moment than
-- that of its acceptance. No event before that is its originator's Delete of it.
abbrev pub ComesToRun : (before : LaterData) (events : History) (turns : List Turn)
    (after : LaterData) → HasTurns before events turns after → LaterEntryData → Type 0
ComesToRun before [] turns after has x = ⊥
ComesToRun before (e ∷ events) turns after has x =
    (is_to_run has.4.moment e.event x ≡ true)
    ⊎ ((IsDeletedByOwn before.inner.home (still_standing has.4.moment has.4.left) e.event x.number
    → ⊥) × ComesToRun has.2 events has.1 after has.5 x)

-- how often a number stands in a list
abbrev pub times : ℕ → List ℕ → ℕ
times n [] = 0
times n (m ∷ ms) = if m == n then times n ms + 1 else times n ms

-- An accepted request that waits behind some events, and comes to run by later ones, is run by
-- these, as it was accepted, and exactly once by all of them.
abbrev pub RunsOnce : Type 0
RunsOnce =
    (start before after : LaterData) (earlier later : History)
    (first second : List Turn) (x : LaterEntryData) → IsSoundLater start
    → HasTurns start earlier first before → (has : HasTurns before later second after)
    → Contains before.requests.entries x → does_wait x ≡ true
    → ComesToRun before later second after has x
    → Contains (map (λ r. r.entry) (all_ran second)) x
    × (times x.number (all_run_numbers first ++ all_run_numbers second) ≡ 1)
