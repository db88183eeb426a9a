-- What the payloads of a talk are, and what they are answered (TS-0020, 6.2; TS-0004, 8.2.2).
use Rattle.std.specs.Prelude.{◌≡◌, ℕ, List, [], ◌∷◌, Option, Some, None, IfSome, IsUtf8, map}
use Rattle.std.specs.Prelude.{if◌then◌else◌, option_and_then}
use Rattle.std.specs.List.{filter_map}
use Rattle.std.specs.Result.{result_ok}
use Rattle.m2m_value.specs.Data.{Data}
use Rattle.m2m_value.specs.Reading.{reading}
use Rattle.m2m_value.specs.Spelling.{text_of}
use Rattle.m2m_value.specs.View.{as_text, member_of}
use Rattle.filter_criteria.specs.Values.{members_in}
use Rattle.primitive_json.specs.Bounds.{is_request_id}
use Rattle.primitive_json.specs.Members.{name_of_member}
use Rattle.primitive_json.specs.Reading.{read_request}
use Rattle.primitive_json.specs.Writing.{written_reply}
use Rattle.primitive_json.specs.declared.member.Member.TheVariants.{RequestId}
use Rattle.primitive_json.specs.declared.reply.ReplyParts.{ReplyParts}
use Rattle.primitive_json.specs.declared.request.RequestParts.{RequestParts}
use Rattle.cse_server.specs.Talk.{malformed, replies_behind}
use Rattle.ws_binding.specs.declared.payload.Heard.{Heard}
use Rattle.ws_binding.specs.declared.payload.Heard.TheVariants.{Asks, Refused}

-- ---- the requests

-- the value that a payload is
abbrev pub value_in : List ℕ → Option Data
value_in payload = result_ok (reading payload)

-- the request that a value is
abbrev pub request_of : Data → Option RequestParts
request_of value = result_ok (read_request value)

-- the request that a payload is
abbrev pub payload_request : List ℕ → Option RequestParts
payload_request payload = option_and_then request_of (value_in payload)

-- the requests of payloads, in order: one of each that is one
abbrev pub payload_requests : List (List ℕ) → List RequestParts
payload_requests payloads = filter_map payload_request payloads

-- ---- the identifiers

-- the text, where it may be a request identifier
abbrev pub id_among : List ℕ → Option (List ℕ)
id_among text = if is_request_id text then Some text else None

-- the identifier that a value of a member is
abbrev pub id_text : Data → Option (List ℕ)
id_text value = option_and_then id_among (as_text value)

-- the identifier that a value has: its member `rqi`, where it is an object that has one of its kind
abbrev pub id_of : Data → Option (List ℕ)
id_of value = option_and_then id_text (member_of (name_of_member RequestId) (members_in value))

-- the identifier that a reply to the payload repeats; what isn't JSON has none
abbrev pub echo_of : List ℕ → Option (List ℕ)
echo_of payload = option_and_then id_of (value_in payload)

-- What a payload was heard as, by the request that it is and the identifier that it has: that
-- request, with its identifier; or, where it is none, its identifier.
abbrev pub IsHeard : Option RequestParts → Option (List ℕ) → Heard → Type 0
IsHeard request id (Asks rqi parts) = (request ≡ Some parts) × (parts.rqi ≡ rqi) × IsUtf8 rqi
IsHeard request id (Refused rqi) = (request ≡ None) × (rqi ≡ id) × IfSome rqi IsUtf8

-- ---- the replies

-- the reply to a payload: where it is a request, the first of the replies to requests, of which it
-- has one; and else a refusal with the identifier that it has
abbrev pub reply_for : List ℕ → Option RequestParts → List ReplyParts → ReplyParts
reply_for payload None replies = malformed (echo_of payload)
reply_for payload (Some request) [] = malformed (Some request.rqi)
reply_for payload (Some request) (reply ∷ replies) = reply

-- the replies to payloads, one each, in order, the replies to the requests among them being these
abbrev pub replies_to : List (List ℕ) → List ReplyParts → List ReplyParts
replies_to [] replies = []
replies_to (payload ∷ payloads) replies =
    reply_for payload (payload_request payload) replies
    ∷ replies_to payloads (replies_behind (payload_request payload) replies)

-- a reply as a payload: its compact text (TS-0004, 8.2.2)
abbrev pub reply_payload : ReplyParts → List ℕ
reply_payload reply = text_of (written_reply reply)

-- what is said to payloads, the replies to the requests among them being these
abbrev pub said_to : List (List ℕ) → List ReplyParts → List (List ℕ)
said_to payloads replies = map reply_payload (replies_to payloads replies)
