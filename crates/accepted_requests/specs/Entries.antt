-- Requests that were accepted, to be answered later (TS-0001, 8.2.1 and 9.6.12).
use Rattle.std.specs.Prelude.{ℕ, ◌+◌, ◌==◌, nat_lt, min, Bool, not, List, [], filter, find}
use Rattle.std.specs.Prelude.{Option, None, Some, is_some}
use Rattle.m2m_names.specs.Stamps.{last_moment}
use Rattle.m2m_names.specs.declared.codes.Rsc.TheVariants.{Internal}
use Rattle.m2m_names.specs.declared.operations.Op.TheVariants.{Retrieve}
use Rattle.primitive_json.specs.declared.reply.ReplyParts.{ReplyParts}
use Rattle.primitive_json.specs.declared.request.RequestParts.{RequestParts}
use Rattle.entity_model.specs.Places.{refusal}

-- what is kept of a request that was accepted: its number; its originator, in the short form; the
-- request as it is run; the moment of its acceptance; and its reply, once it was run
pub record LaterEntryData : Type 0 where
  pub number : ℕ
  pub originator : List ℕ
  pub request : RequestParts
  pub accepted : ℕ
  pub reply : Option ReplyParts

-- the accepted requests that are kept, in the order of their acceptance, and the last number that
-- was given to one
pub record LaterRequestsData : Type 0 where
  pub entries : List LaterEntryData
  pub given : ℕ

-- none was accepted yet
abbrev pub no_entries : LaterRequestsData
no_entries = record { entries = []; given = 0 }

-- as a request is run: it says nothing of how its reply is wanted
abbrev pub as_run : RequestParts → RequestParts
as_run request = record request { rt = None }

-- the request of an originator, accepted under a number at a moment
abbrev pub accepted_entry : ℕ → List ℕ → RequestParts → ℕ → LaterEntryData
accepted_entry number originator request moment = record {
  number = number;
  originator = originator;
  request = as_run request;
  accepted = moment;
  reply = None;
}

-- The request waits: it wasn't run yet.
abbrev pub does_wait : LaterEntryData → Bool
does_wait e = not (is_some e.reply)

-- no request: nothing is asked
abbrev pub no_request : RequestParts
no_request = record {
  op = Retrieve;
  to = [];
  fr = None;
  rqi = [];
  ty = None;
  pc = None;
  rqet = None;
  rt = None;
  rcn = None;
  fc = None;
  drt = None;
}

-- the reply that is kept ready: the one for which memory runs out
abbrev pub ready_reply : RequestParts → ReplyParts
ready_reply request = refusal request Internal

-- the entry while it is run: its request is with whoever runs it, and its reply is the one that was
-- kept ready
abbrev pub begun : LaterEntryData → LaterEntryData
begun e = record e { request = no_request; reply = Some (ready_reply e.request) }

-- the entry once it was run: its request is back, with the reply, where there is one
abbrev pub finished : LaterEntryData → RequestParts → Option ReplyParts → LaterEntryData
finished e request None = record e { request = request }
finished e request (Some reply) = record e { request = request; reply = Some reply }

-- for how long an accepted request is kept, in seconds
abbrev pub entry_time : ℕ
entry_time = 86400

-- the moment at which it is due, which a timestamp has
abbrev pub due_of : LaterEntryData → ℕ
due_of e = min (e.accepted + entry_time) last_moment

-- it isn't due at a moment
abbrev pub still_stands : ℕ → LaterEntryData → Bool
still_stands moment e = nat_lt moment (due_of e)

-- those that are due go
abbrev pub still_standing : ℕ → LaterRequestsData → LaterRequestsData
still_standing moment requests =
    record requests { entries = filter (still_stands moment) requests.entries }

-- the accepted request of a number
abbrev pub numbered : ℕ → LaterRequestsData → Option LaterEntryData
numbered number requests = find (λ (e : LaterEntryData). e.number == number) requests.entries

-- that one goes
abbrev pub without : ℕ → LaterRequestsData → LaterRequestsData
without number requests = record requests {
  entries = filter (λ (e : LaterEntryData). not (e.number == number)) requests.entries;
}
