-- That each reply repeats the identifier of its request (TS-0001, 8.1.3).
use Rattle.std.specs.Prelude.{◌≡◌, ℕ, List, Some, IsTrue}
use Rattle.m2m_io.specs.Link.{Carrying}
use Rattle.primitive_json.specs.Form.{has_form}
use Rattle.primitive_json.specs.Laws.{IsReplyOfKinds}
use Rattle.primitive_json.specs.declared.reply.ReplyParts.{ReplyParts}
use Rattle.primitive_json.specs.declared.request.RequestParts.{RequestParts}
use Rattle.entity_model.specs.Entity.{EntityData}
use Rattle.cse_machine.specs.declared.event.Event.TheVariants.{Ask}
use Rattle.cse_machine.specs.declared.event.Outcome.{Outcome}
use Rattle.cse_machine.specs.Step.{Step}
use Rattle.desk_replies.specs.Replies.{GivesReply}
use Rattle.desk_replies.specs.Rule.{ReplyRule, plainly}
use Rattle.remote_members.specs.Wide.{wide}
use Rattle.resource_model.specs.Home.{HomeData}

-- The reply repeats the identifier of the request.
abbrev pub Repeats : RequestParts → ReplyParts → Type 0
Repeats request reply = reply.rqi ≡ Some request.rqi

-- The reply that a rule gives keeps the identifier of the reply to the request itself.
abbrev pub KeepsTheIdentifier : ReplyRule → Type 0
KeepsTheIdentifier rule =
    (outcome : Outcome) (reply : ReplyParts) (replies : List ReplyParts)
    → (rule.told outcome reply replies).rqi ≡ reply.rqi

-- Whatever comes of a request, its reply repeats its identifier: where the request is refused,
-- served, fanned out, or polls; where it goes on to another CSE, whatever that answers; where memory
-- runs out; and where a rule that keeps it has asked others behind the request.
abbrev pub EachReplyRepeatsTheIdentifier : Type 0
EachReplyRepeatsTheIdentifier =
    (rule : ReplyRule) (reading : ℕ) (request : RequestParts) (before after : EntityData)
    (outcome : Outcome) (reply : ReplyParts) (carried : List Carrying)
    (replies : List ReplyParts) → KeepsTheIdentifier rule
    → Step reading (Ask request) before outcome after
    → GivesReply request outcome reply carried
    → Repeats request (rule.told outcome reply replies)

-- So the reply to a request of its form has an identifier of its kind. A request without its form
-- is refused with the identifier that it has.
abbrev pub RepliesToFormsAreOfKinds : Type 0
RepliesToFormsAreOfKinds =
    (rule : ReplyRule) (reading : ℕ) (request : RequestParts) (before after : EntityData)
    (outcome : Outcome) (reply : ReplyParts) (carried : List Carrying)
    (replies : List ReplyParts) → KeepsTheIdentifier rule
    → Step reading (Ask request) before outcome after
    → GivesReply request outcome reply carried → IsTrue (has_form request)
    → IsReplyOfKinds (rule.told outcome reply replies)

-- A rule keeps it where nothing is asked behind a request, and where members at other CSEs are.
abbrev pub TheRulesKeepTheIdentifier : Type 0
TheRulesKeepTheIdentifier =
    KeepsTheIdentifier plainly × ((home : HomeData) → KeepsTheIdentifier (wide home))
