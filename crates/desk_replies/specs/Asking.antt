-- What was put to a desk, and what came of it.
use Rattle.std.specs.Prelude.{ℕ, List, [], ◌++◌, map, Option}
use Rattle.m2m_io.specs.Link.{Carrying}
use Rattle.m2m_io.specs.Told.{Tells}
use Rattle.primitive_json.specs.declared.reply.ReplyParts.{ReplyParts}
use Rattle.primitive_json.specs.declared.request.RequestParts.{RequestParts}
use Rattle.turn_desk.specs.Entries.{Marked}
use Rattle.turn_desk.specs.Growth.{AsksAll}
use Rattle.http_forwarding.specs.Carries.{LinkTold}
use Rattle.cse_machine.specs.declared.event.Event.{Event}
use Rattle.cse_machine.specs.declared.event.Event.TheVariants.{Ask}
use Rattle.cse_machine.specs.declared.event.Outcome.{Outcome}
use Rattle.desk_replies.specs.Replies.{CarriesEach, GivesReplies}

-- Requests that were put to a desk, one after another: their outcomes, the replies that these gave,
-- and what was carried to other CSEs for them.
pub record Asked : Type 0 where
  pub requests : List RequestParts
  pub outcomes : List Outcome
  pub replies : List ReplyParts
  pub carried : List Carrying

-- nothing was asked
abbrev pub nothing_asked : Asked
nothing_asked = record { requests = []; outcomes = []; replies = []; carried = [] }

-- what was asked first, and then what was asked behind that
abbrev pub asked_on : Asked → Asked → Asked
asked_on first then = record {
  requests = first.requests ++ then.requests;
  outcomes = first.outcomes ++ then.outcomes;
  replies = first.replies ++ then.replies;
  carried = first.carried ++ then.carried;
}

-- A seat asked these requests, in order, at the readings that a clock gave; the outcomes gave these
-- replies, and for them this was carried over a link. Clock and link told these before and tell
-- those now.
pub record HasAsked {S : Type 0} (grown : S → List (Marked Event Outcome) → S → Type 0)
    (before after : S) (given now : Option (List ℕ)) (told more : LinkTold) (asked : Asked)
    : Type 0 where
  pub readings : List ℕ
  pub asks : AsksAll grown before readings (map Ask asked.requests) asked.outcomes after
  pub clock : Tells (λ list. list ++ readings) given now
  pub gives : GivesReplies asked.requests asked.outcomes asked.replies asked.carried
  pub link : CarriesEach asked.carried told more
