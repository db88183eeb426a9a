-- What requests were answered, counted, and the line on it (the profile's).
use Rattle.std.specs.Prelude.{ℕ, ◌+◌, ◌==◌, Bool, false, not, cond, ◌&&◌, ◌||◌, List, [], ◌∷◌, ◌++◌}
use Rattle.std.specs.Prelude.{codes, bytes_eq}
use Rattle.std.specs.Fmt.{decimal}
use Rattle.std.specs.List.{count_by}
use Rattle.m2m_names.specs.StatusCodes.{rsc_row}
use Rattle.m2m_names.specs.declared.codes.Rsc.{Rsc}
use Rattle.m2m_names.specs.declared.codes.Rsc.TheVariants.{Created, Ok as Fine}
use Rattle.primitive_json.specs.Members.{retrieves}
use Rattle.turn_desk.specs.declared.entry.Entry.{Entry}
use Rattle.cse_machine.specs.History.{History}
use Rattle.cse_machine.specs.declared.event.Event.{Event}
use Rattle.cse_machine.specs.declared.event.Event.TheVariants.{Ask}
use Rattle.cse_machine.specs.declared.event.Outcome.{Outcome}
use Rattle.cse_machine.specs.declared.event.Outcome.TheVariants.{Done}
use Rattle.made_input.specs.Requests.{fan_point}
use Rattle.made_input.specs.declared.tally.Tally.{Tally}

-- ---- one request and its outcome

-- the outcome is a reply with this status code
abbrev pub gives : Rsc → Outcome → Bool
gives rsc (Done reply) = (rsc_row reply.rsc).number == (rsc_row rsc).number
gives rsc outcome = false

-- the request is a Retrieve
abbrev pub reads : Event → Bool
reads (Ask request) = retrieves request.op
reads event = false

-- the request is sent to the fan-out point
abbrev pub fans_out : Event → Bool
fans_out (Ask request) = bytes_eq request.to fan_point
fans_out event = false

-- a resource was created by it
abbrev pub is_created : Entry Event Outcome → Bool
is_created e = gives Created e.outcome

-- it is a Retrieve that was answered
abbrev pub is_retrieved : Entry Event Outcome → Bool
is_retrieved e = reads e.event && gives Fine e.outcome

-- it is a fan-out that was answered
abbrev pub is_fanned : Entry Event Outcome → Bool
is_fanned e = fans_out e.event && gives Fine e.outcome

-- it is none of these
abbrev pub is_refused : Entry Event Outcome → Bool
is_refused e = not (is_created e || is_retrieved e || is_fanned e)

-- ---- all of them

-- how many of them were answered how
abbrev pub tally_of : History → Tally
tally_of history = record {
  created = count_by is_created history;
  retrieved = count_by is_retrieved history;
  fanned = count_by is_fanned history;
  refused = count_by is_refused history;
}

-- The counts with one more, which this entry is.
abbrev pub with_one : Tally → Entry Event Outcome → Tally
with_one tally e = record {
  created = tally.created + cond (is_created e) 1 0;
  retrieved = tally.retrieved + cond (is_retrieved e) 1 0;
  fanned = tally.fanned + cond (is_fanned e) 1 0;
  refused = tally.refused + cond (is_refused e) 1 0;
}

-- ---- the line

-- a word, and a number in decimal
abbrev pub counted : List ℕ → ℕ → List ℕ
counted word count = word ++ decimal count

-- The four counts in words.
abbrev pub tally_words : Tally → List ℕ
tally_words tally =
    counted (codes " created ") tally.created
    ++ counted (codes " retrieved ") tally.retrieved
    ++ counted (codes " fanned ") tally.fanned
    ++ counted (codes " refused ") tally.refused

-- The line: how many requests there were, what they were answered, and how many resources and
-- items of the outbox there are then.
abbrev pub line : ℕ → Tally → ℕ → ℕ → List ℕ
line requests tally resources notes =
    counted (codes "requests ") requests
    ++ tally_words tally
    ++ counted (codes " resources ") resources
    ++ counted (codes " notes ") notes
    ++ 10 ∷ []
