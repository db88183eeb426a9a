-- How a request is answered whose group has members at other CSEs (TS-0001, 10.2.7): the entity
-- answers for its own members at one moment, and each other is asked behind that, by a request of
-- its own.
use Rattle.std.specs.Prelude.{ℕ, Bool, List, [], Some, unwrap_or}
use Rattle.std.specs.List.{list_any}
use Rattle.std.specs.Option.{option_map_or}
use Rattle.m2m_value.specs.Data.{Data}
use Rattle.primitive_json.specs.declared.reply.ReplyParts.{ReplyParts}
use Rattle.primitive_json.specs.declared.request.RequestParts.{RequestParts}
use Rattle.resource_model.specs.Home.{HomeData}
use Rattle.group_fanout.specs.Fan.{gathering, requests_to}
use Rattle.cse_machine.specs.declared.event.Outcome.{Outcome}
use Rattle.cse_machine.specs.declared.event.Outcome.TheVariants.{Done, Forward, Item, Ticked}
use Rattle.cse_machine.specs.declared.event.Outcome.TheVariants.{Starved}
use Rattle.desk_replies.specs.Rule.{ReplyRule}
use Rattle.remote_members.specs.Remote.{is_away, remote_addresses, entries_anew}
use Rattle.remote_members.specs.Remote.{told_of_members}

-- the addresses of the members at other CSEs that the reply of an entity tells of, in order
abbrev pub members_away : HomeData → ReplyParts → List (List ℕ)
members_away home reply = remote_addresses home (unwrap_or (told_of_members reply.pc) [])

-- the reply tells of such a member
abbrev pub tells_of_away : HomeData → ReplyParts → Bool
tells_of_away home reply =
    list_any (is_away home) (unwrap_or (told_of_members reply.pc) [])

-- The requests that are asked behind one: where the entity itself answers it, one to each member at
-- another CSE that its reply tells of, in order. The reply of another CSE stays as it is, whatever
-- it tells of.
abbrev pub requests_behind : HomeData → RequestParts → Outcome → List RequestParts
requests_behind home request (Done reply) = requests_to request (members_away home reply)
requests_behind home request (Forward poa sent) = []
requests_behind home request (Item given) = []
requests_behind home request Ticked = []
requests_behind home request (Starved done) = []

-- a reply that tells these of the members, in place of what it told
abbrev pub with_entries : ReplyParts → List Data → ReplyParts
with_entries reply entries = record reply { pc = Some (gathering entries) }

-- The reply of an entity, where its members at other CSEs have these replies, in order.
abbrev pub completed : HomeData → ReplyParts → List ReplyParts → ReplyParts
completed home reply replies =
    option_map_or (λ entries. with_entries reply (entries_anew home entries replies))
    (told_of_members reply.pc) reply

-- the reply, by the outcome of the request, the reply that this gives, and those of the members
abbrev pub wide_reply : HomeData → Outcome → ReplyParts → List ReplyParts → ReplyParts
wide_reply home (Done answered) reply replies = completed home reply replies
wide_reply home (Forward poa sent) reply replies = reply
wide_reply home (Item given) reply replies = reply
wide_reply home Ticked reply replies = reply
wide_reply home (Starved done) reply replies = reply

-- The rule by which a CSE of this home answers, also for members at other CSEs.
abbrev pub wide : HomeData → ReplyRule
wide home = record { behind = requests_behind home; told = wide_reply home }
