-- What an accepted request keeps ready.
use Rattle.std.specs.Prelude.{◌≡◌, ℕ, Bool, true, false, List, Option, Some, None, IsUtf8}
use Rattle.filter_criteria.specs.Bounds.{IsMoment}
use Rattle.primitive_json.specs.declared.reply.ReplyParts.{ReplyParts}
use Rattle.primitive_json.specs.declared.request.RequestParts.{RequestParts}
use Rattle.accepted_requests.specs.Entries.{ready_reply}
use Rattle.accepted_requests.specs.Sizes.{content_size}

-- the reply, once it was run
abbrev pub reply_kept : Bool → ReplyParts → Option ReplyParts
reply_kept true reply = Some reply
reply_kept false reply = None

-- Its originator is a text, its moment one of a timestamp. Before it was run, its reply is the one
-- for which memory runs out. The size is that of the reply's content.
pub record IsKeptReady (originator : List ℕ) (accepted : ℕ) (request : RequestParts)
    (has_run : Bool) (reply : ReplyParts) (size : ℕ) : Type 0 where
  pub originator_text : IsUtf8 originator
  pub accepted_moment : IsMoment accepted
  pub ready : has_run ≡ false → reply ≡ ready_reply request
  pub sized : size ≡ content_size reply
