-- What is written to the lines of `twin`.
use Rattle.std.specs.Prelude.{ℕ, List, ◌∷◌, ◌++◌, codes, if◌then◌else◌}
use Rattle.std.specs.Str.{bytes_eq}
use Rattle.m2m_value.specs.Spelling.{text_of}
use Rattle.primitive_json.specs.Writing.{written_reply, written_request}
use Rattle.primitive_json.specs.declared.reply.ReplyParts.{ReplyParts}
use Rattle.primitive_json.specs.declared.request.RequestParts.{RequestParts}
use Rattle.cse_machine.specs.Answer.{starved}
use Rattle.cse_machine.specs.declared.event.Outcome.{Outcome}
use Rattle.cse_machine.specs.declared.event.Outcome.TheVariants.{Done, Forward, Item, Ticked}
use Rattle.cse_machine.specs.declared.event.Outcome.TheVariants.{Starved}
use Rattle.primitive_replay.specs.Script.{as_line}

-- that the originator has the same sight of both sides
abbrev pub agree_line : List ℕ
agree_line = as_line (codes "sights agree")

-- that it hasn't
abbrev pub differ_line : List ℕ
differ_line = as_line (codes "sights differ")

-- the text of a reply: its compact JSON
abbrev pub reply_text : ReplyParts → List ℕ
reply_text reply = text_of (written_reply reply)

-- the text of a request that goes on: the URL of the CSE where it goes, and what is sent there
abbrev pub forward_text : List ℕ → RequestParts → List ℕ
forward_text poa onward = codes "forward " ++ (poa ++ 32 ∷ text_of (written_request onward))

-- The text of what comes of a request: that of its reply; or that it goes on to another CSE. Where
-- memory ran out, it is that of the reply which says so, and so for an outcome that no request has.
abbrev pub outcome_text : RequestParts → Outcome → List ℕ
outcome_text request (Done reply) = reply_text reply
outcome_text request (Forward poa onward) = forward_text poa onward
outcome_text request (Item given) = reply_text (starved request)
outcome_text request Ticked = reply_text (starved request)
outcome_text request (Starved done) = reply_text (starved request)

-- What is written for a request of which these are the outcomes on both sides: one line where they
-- read the same, and else a line for each.
abbrev pub answer_text : List ℕ → List ℕ → List ℕ
answer_text left right =
    if bytes_eq left right then as_line (codes "same " ++ left)
    else as_line (codes "left " ++ left) ++ as_line (codes "right " ++ right)
