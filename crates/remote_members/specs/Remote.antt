-- Members of a group at other CSEs, as the reply to a fan-out tells of them, and how the replies to
-- their own requests take the place of that (TS-0001, 10.2.7; TS-0004, 7.5.2).
use Rattle.std.specs.Prelude.{ℕ, Bool, true, false, List, [], ◌∷◌, Option, Some, None, Result}
use Rattle.std.specs.Prelude.{Ok, Err, bytes_eq, codes, if◌then◌else◌, is_some, option_and_then}
use Rattle.std.specs.List.{filter_map}
use Rattle.m2m_names.specs.StatusCodes.{rsc_row}
use Rattle.m2m_value.specs.Data.{Data, Entry}
use Rattle.m2m_value.specs.View.{as_list, as_text, member_of}
use Rattle.filter_criteria.specs.Values.{NamedValue, count_data, members_in, object_of, where_it}
use Rattle.primitive_json.specs.Members.{name_of_member}
use Rattle.primitive_json.specs.Reading.{pc_name, rqi_name, rsc_name}
use Rattle.primitive_json.specs.declared.member.Member.TheVariants.{Target}
use Rattle.primitive_json.specs.declared.reply.ReplyParts.{ReplyParts}
use Rattle.resource_model.specs.Home.{HomeData}
use Rattle.addressing.specs.Addresses.{address_of}
use Rattle.addressing.specs.declared.addr.Addr.{Addr}
use Rattle.addressing.specs.declared.addr.Addr.TheVariants.{Local, Foreign, OtherProvider}
use Rattle.addressing.specs.declared.addr.AddrFault.{AddrFault}
use Rattle.request_rules.specs.Rights.{sole}

-- ---- what a reply tells of members

-- the value of an entry of this name
abbrev pub value_under : List ℕ → Entry → Option Data
value_under name entry = if bytes_eq name entry.0 then Some entry.1 else None

-- the value of the only member of an object, where this is its name
abbrev pub alone_at : List ℕ → Data → Option Data
alone_at name d = option_and_then (value_under name) (sole d)

-- the replies in an aggregated response
abbrev pub replies_in : Data → Option (List Data)
replies_in aggregated = option_and_then as_list (alone_at (codes "m2m:rsp") aggregated)

-- What a content tells of the members of a group, one after another, where it is an aggregated
-- response, and nothing else (TS-0004, 7.5.2).
abbrev pub told_in : Data → Option (List Data)
told_in content = option_and_then replies_in (alone_at (codes "m2m:agr") content)

-- what a reply with this content tells of members
abbrev pub told_of_members : Option Data → Option (List Data)
told_of_members content = option_and_then told_in content

-- ---- which members are at other CSEs

-- an address of another CSE of own provider
abbrev pub is_foreign : Result Addr AddrFault → Bool
is_foreign (Ok (Local segments)) = false
is_foreign (Ok (Foreign text)) = true
is_foreign (Ok OtherProvider) = false
is_foreign (Err fault) = false

-- The text is such an address, for the CSE of this home.
abbrev pub is_remote : HomeData → List ℕ → Bool
is_remote home text = is_foreign (address_of home text)

-- where the request to the member went of which this is told
abbrev pub target_in : Data → Option (List ℕ)
target_in entry = option_and_then as_text (member_of (name_of_member Target) (members_in entry))

-- That address, where the member is at another CSE.
abbrev pub remote_address : HomeData → Data → Option (List ℕ)
remote_address home entry = where_it (is_remote home) (target_in entry)

-- the member of which this is told is at another CSE
abbrev pub is_away : HomeData → Data → Bool
is_away home entry = is_some (remote_address home entry)

-- The addresses of those members that are at other CSEs, in order.
abbrev pub remote_addresses : HomeData → List Data → List (List ℕ)
remote_addresses home entries = filter_map (remote_address home) entries

-- ---- with the replies to their own requests

-- what is told of a member once its own request has this reply: its status and its content; the
-- identifier and the address stay
abbrev pub rows_anew : List Entry → ReplyParts → List NamedValue
rows_anew told reply =
    (pc_name, reply.pc) ∷ (rqi_name, member_of rqi_name told)
    ∷ (rsc_name, Some (count_data (rsc_row reply.rsc).number))
    ∷ (name_of_member Target, member_of (name_of_member Target) told) ∷ []

-- the object that tells so of it
abbrev pub told_anew : Data → ReplyParts → Data
told_anew entry reply = object_of (rows_anew (members_in entry) reply)

-- Of a member at another CSE, which has this address, the first of the replies is told; of each
-- other what was told already.
abbrev pub told_by : Option (List ℕ) → Data → List ReplyParts → Data
told_by None entry replies = entry
told_by (Some to) entry [] = entry
told_by (Some to) entry (reply ∷ replies) = told_anew entry reply

-- the replies that are left for the members behind it
abbrev pub replies_left : Option (List ℕ) → List ReplyParts → List ReplyParts
replies_left None replies = replies
replies_left (Some to) [] = []
replies_left (Some to) (reply ∷ replies) = replies

-- What is told of the members one after another, where those at other CSEs have these replies, in
-- order.
abbrev pub entries_anew : HomeData → List Data → List ReplyParts → List Data
entries_anew home [] replies = []
entries_anew home (entry ∷ entries) replies =
    told_by (remote_address home entry) entry replies
    ∷ entries_anew home entries (replies_left (remote_address home entry) replies)
