-- What is read is of its kinds, and is read back from the value that is written of it.
use Rattle.std.specs.Prelude.{◌≡◌, ◌<◌, ◌^◌, IsTrue, IfSome, Ok, ⊤}
use Rattle.m2m_names.specs.Name.{is_filled, is_originator}
use Rattle.m2m_value.specs.Data.{Data}
use Rattle.filter_criteria.specs.Bounds.{IsMoment}
use Rattle.filter_criteria.specs.Laws.{IsFilterOfKinds}
use Rattle.primitive_json.specs.Bounds.{is_request_id}
use Rattle.primitive_json.specs.Form.{has_form, has_no_more}
use Rattle.primitive_json.specs.Kinds.{numeral_limit, target_limit}
use Rattle.primitive_json.specs.Reading.{read_request, read_reply}
use Rattle.primitive_json.specs.Writing.{written_request, written_reply}
use Rattle.primitive_json.specs.declared.request.RequestParts.{RequestParts}
use Rattle.primitive_json.specs.declared.request.When.{When}
use Rattle.primitive_json.specs.declared.request.When.TheVariants.{At, Millis}
use Rattle.primitive_json.specs.declared.reply.ReplyParts.{ReplyParts}

-- a moment is one of a timestamp
abbrev pub IsWhenOfKind : When → Type 0
IsWhenOfKind (At at) = IsMoment at
IsWhenOfKind (Millis n) = ⊤

-- each parameter is of its kind, and those are there that the operation needs, and no others that
-- it doesn't read
pub record IsOfKinds (r : RequestParts) : Type 0 where
  pub form : IsTrue (has_form r)
  pub no_more : IsTrue (has_no_more r)
  pub to : IsTrue (is_filled target_limit r.to)
  pub fr : IfSome r.fr (λ s. IsTrue (is_originator s))
  pub rqet : IfSome r.rqet IsWhenOfKind
  pub fc : IfSome r.fc IsFilterOfKinds

-- milliseconds have at most 18 digits
abbrev pub IsShortWhen : When → Type 0
IsShortWhen (At at) = ⊤
IsShortWhen (Millis n) = n < 10 ^ numeral_limit

-- Where a request says when it expires in milliseconds, these have at most 18 digits.
abbrev pub HasShortExpiry : RequestParts → Type 0
HasShortExpiry r = IfSome r.rqet IsShortWhen

-- what is read as a request is of its kinds
abbrev pub RequestsAreOfKinds : Type 0
RequestsAreOfKinds = (d : Data) (r : RequestParts) → read_request d ≡ Ok r → IsOfKinds r

-- a request of its kinds is read from what is written of it
abbrev pub RequestsAreReadBack : Type 0
RequestsAreReadBack =
    (r : RequestParts) → IsOfKinds r → HasShortExpiry r → read_request (written_request r) ≡ Ok r

-- A request that was read from a value is read again from what is written of it.
abbrev pub ReadingsAreReadBack : Type 0
ReadingsAreReadBack =
    (d : Data) (r : RequestParts) → read_request d ≡ Ok r → HasShortExpiry r
    → read_request (written_request r) ≡ Ok r

-- the request identifier of a reply is of its kind
abbrev pub IsReplyOfKinds : ReplyParts → Type 0
IsReplyOfKinds r = IfSome r.rqi (λ s. IsTrue (is_request_id s))

-- A reply that is read has parameters of their kinds.
abbrev pub RepliesAreOfKinds : Type 0
RepliesAreOfKinds = (d : Data) (r : ReplyParts) → read_reply d ≡ Ok r → IsReplyOfKinds r

-- A reply that is written is read back as it was (TS-0004, 8.2.2).
abbrev pub RepliesAreReadBack : Type 0
RepliesAreReadBack = (r : ReplyParts) → IsReplyOfKinds r → read_reply (written_reply r) ≡ Ok r
