-- What is shown of an accepted request (TS-0001, 9.6.12; the short names are the profile's).
use Rattle.std.specs.Prelude.{ℕ, List, [], ◌∷◌, codes, Option, Some, None, option_map}
use Rattle.std.specs.Prelude.{if◌then◌else◌}
use Rattle.m2m_names.specs.Operations.{op_row}
use Rattle.m2m_names.specs.StatusCodes.{is_success}
use Rattle.m2m_value.specs.Data.{Data, number, text, object, pairs_of}
use Rattle.filter_criteria.specs.Values.{NamedValue, object_of, count_data, moment_data}
use Rattle.primitive_json.specs.Writing.{written_reply}
use Rattle.primitive_json.specs.declared.reply.ReplyParts.{ReplyParts}
use Rattle.accepted_requests.specs.Entries.{LaterEntryData, due_of}
use Rattle.accepted_requests.specs.Names.{entry_name}

-- the number of the type of an accepted request (TS-0004, 6.3.4.2.1)
abbrev pub request_type : ℕ
request_type = 17

-- the numbers of its states: it was served, it was refused, and it waits
abbrev pub served_state : ℕ
served_state = 1

abbrev pub refused_state : ℕ
refused_state = 2

abbrev pub waiting_state : ℕ
waiting_state = 3

-- the state by its reply
abbrev pub state_of : Option ReplyParts → ℕ
state_of None = waiting_state
state_of (Some reply) = if is_success reply.rsc then served_state else refused_state

-- its members in byte order of their names; the reply stands there once it was run
abbrev pub entry_rows : LaterEntryData → List NamedValue
entry_rows e =
    (codes "ct", Some (moment_data e.accepted)) ∷
    (codes "et", Some (moment_data (due_of e))) ∷
    (codes "op", Some (number (op_row e.request.op).number)) ∷
    (codes "org", Some (text e.originator)) ∷
    (codes "ors", option_map written_reply e.reply) ∷
    (codes "ri", Some (text (entry_name e.number))) ∷
    (codes "rid", Some (text e.request.rqi)) ∷
    (codes "rs", Some (count_data (state_of e.reply))) ∷
    (codes "tg", Some (text e.request.to)) ∷
    (codes "ty", Some (count_data request_type)) ∷ []

-- the content that shows it
abbrev pub entry_content : LaterEntryData → Data
entry_content e = object (pairs_of ((codes "m2m:req", object_of (entry_rows e)) ∷ []))

-- the content that says under which number a request was accepted (TS-0001, 8.2.1)
abbrev pub uri_content : ℕ → Data
uri_content n = object (pairs_of ((codes "m2m:uri", text (entry_name n)) ∷ []))
