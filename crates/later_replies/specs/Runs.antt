-- How accepted requests are run.
use Rattle.std.specs.Prelude.{◌≡◌, ◌⊎◌, ℕ, ◌+◌, ◌<◌, nat_lt, Bool, true, false, ◌&&◌, ◌||◌, List, []}
use Rattle.std.specs.Prelude.{◌∷◌, Option, Some, None, IsTrue, ⊤}
use Rattle.m2m_value.specs.Spelling.{capped}
use Rattle.primitive_json.specs.declared.reply.ReplyParts.{ReplyParts}
use Rattle.primitive_json.specs.declared.request.RequestParts.{RequestParts}
use Rattle.entity_model.specs.Entity.{EntityData}
use Rattle.accepted_requests.specs.Sizes.{most_kept, result_size}
use Rattle.cse_machine.specs.Answer.{starved}
use Rattle.cse_machine.specs.Step.{Step}
use Rattle.cse_machine.specs.declared.event.Event.{Event}
use Rattle.cse_machine.specs.declared.event.Event.TheVariants.{Ask, Take, Tick}
use Rattle.cse_machine.specs.declared.event.Outcome.{Outcome}
use Rattle.cse_machine.specs.declared.event.Outcome.TheVariants.{Done, Forward, Item, Ticked}
use Rattle.cse_machine.specs.declared.event.Outcome.TheVariants.{Starved}
use Rattle.later_replies.specs.Entries.{LaterEntryData, does_wait}

-- The event runs whatever waits; any other runs what was accepted at an earlier moment.
abbrev pub runs_all : Event → Bool
runs_all (Ask request) = false
runs_all Take = true
runs_all Tick = true

-- An event at a moment runs this entry.
abbrev pub is_to_run : ℕ → Event → LaterEntryData → Bool
is_to_run moment event e = does_wait e && (runs_all event || nat_lt e.accepted moment)

-- the reply of an outcome, where it is one
abbrev pub reply_in : Outcome → Option ReplyParts
reply_in (Done reply) = Some reply
reply_in (Forward poa onward) = None
reply_in (Item given) = None
reply_in Ticked = None
reply_in (Starved done) = None

-- the reply of a run: the machine's, or that for which memory runs out
abbrev pub reply_of_run : RequestParts → Outcome → ReplyParts
reply_of_run request (Done reply) = reply
reply_of_run request (Forward poa onward) = starved request
reply_of_run request (Item given) = starved request
reply_of_run request Ticked = starved request
reply_of_run request (Starved done) = starved request

-- the entry once it was run
abbrev pub with_outcome : LaterEntryData → Outcome → LaterEntryData
with_outcome e outcome = record e { reply = Some (reply_of_run e.request outcome) }

-- The entry is run at this reading: its request is one step of the entity inside, and its reply is
-- kept.
pub record IsRun (reading : ℕ) (e : LaterEntryData) (before : EntityData) (ran : LaterEntryData)
    (after : EntityData) : Type 0 where
  pub outcome : Outcome
  pub step : Step reading (Ask e.request) before outcome after
  pub kept : ran ≡ with_outcome e outcome

-- The entry is run where it is one of those that are, and else nothing is done with it.
abbrev pub IsPassed : ℕ → (LaterEntryData → Bool) → LaterEntryData → EntityData → LaterEntryData
    → EntityData → Type 0
IsPassed reading runs e before then after =
    (IsTrue (runs e) × IsRun reading e before then after)
    ⊎ ((runs e ≡ false) × (then ≡ e) × (after ≡ before))

-- Those of the entries that are to be are run, in their order, each on the entity that the one
-- before it left; these are the entries then, and this is the entity.
abbrev pub ArePassed : ℕ → (LaterEntryData → Bool) → List LaterEntryData → EntityData
    → List LaterEntryData → EntityData → Type 0
ArePassed reading runs [] before then after = (then ≡ []) × (after ≡ before)
ArePassed reading runs (e ∷ entries) before then after =
    (first : LaterEntryData) × (between : EntityData) × (later : List LaterEntryData)
    × (then ≡ first ∷ later) × IsPassed reading runs e before first between
    × ArePassed reading runs entries between later after

-- ---- how much is kept

-- An entry that is run where so many bytes of results are kept: where these are more than may be,
-- its result is the one for which memory runs out.
abbrev pub IsBounded : Bool → ℕ → LaterEntryData → LaterEntryData → Type 0
IsBounded runs kept e ran = runs ≡ true → most_kept < kept → ran ≡ with_outcome e (Starved 0)

-- how many bytes of results are kept then: those of its own are more, if it is run
abbrev pub kept_then : Bool → ℕ → LaterEntryData → ℕ
kept_then true kept ran = kept + result_size ran
kept_then false kept ran = kept

-- the same as a number that ends at 2^64 - 1
abbrev pub counted_then : Bool → ℕ → LaterEntryData → ℕ
counted_then true kept ran = capped (kept + result_size ran)
counted_then false kept ran = kept

-- So it is of each of the entries that are run, in their order, where so many bytes of results are
-- kept before.
abbrev pub AreBounded : (LaterEntryData → Bool) → ℕ → List LaterEntryData → List LaterEntryData
    → Type 0
AreBounded runs kept [] then = ⊤
AreBounded runs kept (e ∷ entries) [] = ⊤
AreBounded runs kept (e ∷ entries) (ran ∷ then) =
    IsBounded (runs e) kept e ran × AreBounded runs (kept_then (runs e) kept ran) entries then
