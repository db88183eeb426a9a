-- What a connection is answered, by its frames and the replies to their requests (TS-0009, 6; RFC
-- 9112, 9.3).
use Rattle.std.specs.Prelude.{ℕ, ◌+◌, Bool, true, false, not, ◌&&◌, ◌||◌, List, [], ◌∷◌, ◌++◌}
use Rattle.std.specs.Prelude.{Option, Some, None, IfSome, if◌then◌else◌, ⊤}
use Rattle.std.specs.List.{filter_map}
use Rattle.std.specs.Result.{result_ok}
use Rattle.m2m_names.specs.declared.codes.Rsc.TheVariants.{BadRequest}
use Rattle.m2m_value.specs.Sound.{IsSound}
use Rattle.primitive_json.specs.declared.reply.ReplyParts.{ReplyParts}
use Rattle.primitive_json.specs.declared.request.RequestParts.{RequestParts}
use Rattle.http_frames.specs.declared.frame.Frame.{Frame}
use Rattle.http_binding.specs.Binding.{binding, echo_of}
use Rattle.http_binding.specs.Replying.{reply_text}
use Rattle.cse_server.specs.Closing.{closes}

-- ---- the requests

-- the request that a frame binds to
abbrev pub request_in : Frame → Option RequestParts
request_in frame = result_ok (binding frame)

-- the requests of frames, in order: one of each frame that binds
abbrev pub requests_in : List Frame → List RequestParts
requests_in frames = filter_map request_in frames

-- ---- the replies

-- the refusal of what is no request, with an identifier where one is known
abbrev pub malformed : Option (List ℕ) → ReplyParts
malformed rqi = record { rsc = BadRequest; rqi = rqi; pc = None }

-- the reply to a frame: where it binds to a request, the first of the replies to requests, of which
-- it has one; and else a refusal with the identifier that it has
abbrev pub reply_for : Frame → Option RequestParts → List ReplyParts → ReplyParts
reply_for frame None replies = malformed (echo_of frame)
reply_for frame (Some request) [] = malformed (Some request.rqi)
reply_for frame (Some request) (reply ∷ replies) = reply

-- the replies that are left behind it
abbrev pub replies_behind : Option RequestParts → List ReplyParts → List ReplyParts
replies_behind None replies = replies
replies_behind (Some request) [] = []
replies_behind (Some request) (reply ∷ replies) = replies

-- What is said to frames of which the first stands at this place, one after another, the replies to
-- the requests among them being these, in order: up to and with the reply to the first frame that
-- closes.
abbrev pub reply_texts : List Frame → ℕ → List ReplyParts → List ℕ
reply_texts [] place replies = []
reply_texts (frame ∷ frames) place replies =
    reply_text (reply_for frame (request_in frame) replies) (closes place frame)
    ++ (if closes place frame then []
    else reply_texts frames (place + 1) (replies_behind (request_in frame) replies))

-- the same, a text for each reply
abbrev pub texts_to : List Frame → ℕ → List ReplyParts → List (List ℕ)
texts_to [] place replies = []
texts_to (frame ∷ frames) place replies =
    reply_text (reply_for frame (request_in frame) replies) (closes place frame)
    ∷ (if closes place frame then []
    else texts_to frames (place + 1) (replies_behind (request_in frame) replies))

-- The content of each reply that is said to frames is sound, as each value is that is kept.
abbrev pub SaySound : List Frame → List ReplyParts → Type 0
SaySound [] replies = ⊤
SaySound (frame ∷ frames) replies =
    IfSome (reply_for frame (request_in frame) replies).pc IsSound
    × SaySound frames (replies_behind (request_in frame) replies)

-- some frame closes, the first of them standing at this place
abbrev pub some_closes : List Frame → ℕ → Bool
some_closes [] place = false
some_closes (frame ∷ frames) place = closes place frame || some_closes frames (place + 1)

-- no frame stands behind one that closes, the first of them standing at this place
abbrev pub ends_at_close : List Frame → ℕ → Bool
ends_at_close [] place = true
ends_at_close (frame ∷ []) place = true
ends_at_close (frame ∷ next ∷ frames) place =
    not (closes place frame) && ends_at_close (next ∷ frames) (place + 1)

-- what is said last where something is left that begins with no frame
abbrev pub last_reply : List ℕ
last_reply = reply_text (malformed None) true

-- The talk of a connection from the frame at this place on, which is the first of these: what is
-- said to its frames, the replies to their requests being these, and the last reply where the rest
-- of its stream is refused.
abbrev pub talk : ℕ → List Frame → Bool → List ReplyParts → List ℕ
talk place frames refused replies =
    reply_texts frames place replies ++ (if refused then last_reply else [])

-- the same, a text for each reply
abbrev pub talk_texts : ℕ → List Frame → Bool → List ReplyParts → List (List ℕ)
talk_texts place frames refused replies =
    texts_to frames place replies ++ (if refused then last_reply ∷ [] else [])
