-- What comes of a request that is to be answered later, and of one to an accepted request, by its
-- originator.
use Rattle.std.specs.Prelude.{◌≡◌, ℕ, ◌+◌, ◌==◌, nat_lt, Bool, false, not, ◌&&◌, ◌||◌, ℤ, pos, List}
use Rattle.std.specs.Prelude.{[], ◌∷◌, ◌++◌, length, Option, Some, None, is_some, option_map}
use Rattle.std.specs.Prelude.{if◌then◌else◌, Result, IfOk, OnOk, OnErr}
use Rattle.std.specs.Option.{option_map_or}
use Rattle.std.specs.Ordering.{int_eq}
use Rattle.m2m_names.specs.StatusCodes.{rsc_row}
use Rattle.m2m_names.specs.declared.codes.Rsc.{Rsc}
use Rattle.m2m_names.specs.declared.codes.Rsc.TheVariants.{Accepted, Ok as Fine, Deleted}
use Rattle.m2m_names.specs.declared.codes.Rsc.TheVariants.{BadChild, NoPrivilege, NonBlocking}
use Rattle.m2m_names.specs.declared.codes.Rsc.TheVariants.{NotAcceptable, NotAllowed, NotFound}
use Rattle.m2m_names.specs.declared.operations.Op.{Op}
use Rattle.m2m_names.specs.declared.operations.Op.TheVariants.{Create, Retrieve, Update, Delete}
use Rattle.m2m_names.specs.declared.operations.Op.TheVariants.{Notify}
use Rattle.m2m_value.specs.Shapes.{largest_count}
use Rattle.primitive_json.specs.declared.reply.ReplyParts.{ReplyParts}
use Rattle.primitive_json.specs.declared.request.RequestParts.{RequestParts}
use Rattle.resource_model.specs.Home.{HomeData}
use Rattle.addressing.specs.Addresses.{address_of}
use Rattle.policy_eval.specs.Originators.{is_same}
use Rattle.entity_model.specs.Places.{refusal, reply_to}
use Rattle.accepted_requests.specs.Entries.{LaterEntryData, LaterRequestsData, accepted_entry}
use Rattle.accepted_requests.specs.Entries.{without}
use Rattle.accepted_requests.specs.Form.{entry_content, uri_content}
use Rattle.accepted_requests.specs.Names.{entry_at, is_here}

-- what comes of a request beside what the CSE answers: the reply, and the accepted requests that
-- are kept then
pub record LaterEffect : Type 0 where
  pub reply : ReplyParts
  pub requests : LaterRequestsData

-- a reply by which nothing is accepted, and nothing goes
abbrev pub reply_only : LaterRequestsData → ReplyParts → LaterEffect
reply_only requests reply = record { reply = reply; requests = requests }

-- ---- acceptance

-- how many accepted requests are kept at most
abbrev pub most_entries : ℕ
most_entries = 1000

-- no more can be kept, or no more numbers given
abbrev pub is_full : LaterRequestsData → Bool
is_full requests =
    not (nat_lt (length requests.entries) most_entries)
    || not (nat_lt requests.given largest_count)

-- the request of an originator is accepted at a moment, under the next number (TS-0001, 8.2.1)
abbrev pub with_accepted : LaterRequestsData → List ℕ → RequestParts → ℕ → LaterRequestsData
with_accepted requests originator request moment = record {
  entries = requests.entries
      ++ accepted_entry (requests.given + 1) originator request moment ∷ [];
  given = requests.given + 1;
}

abbrev pub taken_up : LaterRequestsData → List ℕ → RequestParts → ℕ → LaterEffect
taken_up requests originator request moment = record {
  reply = reply_to request Accepted (Some (uri_content (requests.given + 1)));
  requests = with_accepted requests originator request moment;
}

-- it is, unless there is no room
abbrev pub taken_up_if_room : LaterRequestsData → List ℕ → RequestParts → ℕ → LaterEffect
taken_up_if_room requests originator request moment =
    if is_full requests then reply_only requests (refusal request NotAcceptable)
    else taken_up requests originator request moment

-- the number of the response type nonBlockingRequestSynch (TS-0004, 6.3.4.2.6)
abbrev pub later_request : ℤ
later_request = pos 1

-- The request asks to be answered later.
abbrev pub wants_later : RequestParts → Bool
wants_later request = option_map_or (λ z. int_eq z later_request) request.rt false

-- It does, is sent to this CSE, and to no accepted request.
abbrev pub is_acceptable : HomeData → LaterRequestsData → RequestParts → Bool
is_acceptable home requests request =
    wants_later request && is_here (address_of home request.to)
    && not (is_some (entry_at home request.to requests))

-- ---- at an accepted request

-- what its originator gets by an operation
abbrev pub own_effect : Op → LaterRequestsData → RequestParts → LaterEntryData → LaterEffect
own_effect Create requests request e = reply_only requests (refusal request BadChild)
own_effect Retrieve requests request e =
    reply_only requests (reply_to request Fine (Some (entry_content e)))
own_effect Update requests request e = reply_only requests (refusal request NotAllowed)
own_effect Delete requests request e =
    record { reply = reply_to request Deleted None; requests = without e.number requests }
own_effect Notify requests request e = reply_only requests (refusal request NotAllowed)

-- what one gets whose own it is, or isn't: no other has a right
abbrev pub entry_effect : Bool → LaterRequestsData → RequestParts → LaterEntryData → LaterEffect
entry_effect is_own requests request e =
    if is_own then own_effect request.op requests request e
    else reply_only requests (refusal request NoPrivilege)

-- The accepted request is this originator's own, by the full forms.
abbrev pub owns : HomeData → List ℕ → LaterEntryData → Bool
owns home who e = is_same home e.originator who

-- what this originator gets
abbrev pub originator_effect : HomeData → List ℕ → LaterRequestsData → RequestParts
    → LaterEntryData → LaterEffect
originator_effect home who requests request e =
    entry_effect (owns home who e) requests request e

-- ---- a request

-- the status is this one
abbrev pub is_status : Rsc → Rsc → Bool
is_status rsc other = (rsc_row rsc).number == (rsc_row other).number

-- with these statuses alone another reply may be given
abbrev pub is_heard : Rsc → Bool
is_heard told = is_status told NonBlocking || is_status told NotFound

-- what comes of a request of this originator that was refused since it isn't blocking: it is
-- accepted, if it is acceptable
abbrev pub acceptance_by : HomeData → List ℕ → LaterRequestsData → ℕ → RequestParts
    → Option LaterEffect
acceptance_by home who requests moment request =
    if is_acceptable home requests request
    then Some (taken_up_if_room requests who request moment)
    else None

-- what comes of one to what isn't there: it is answered for the accepted request that it names, if
-- it names one
abbrev pub naming_by : HomeData → List ℕ → LaterRequestsData → RequestParts → Option LaterEffect
naming_by home who requests request =
    option_map (originator_effect home who requests request) (entry_at home request.to requests)

-- what comes of a request of this originator to which this status was replied, where it is more
-- than that reply
abbrev pub later_effect_by : HomeData → List ℕ → LaterRequestsData → ℕ → RequestParts → Rsc
    → Option LaterEffect
later_effect_by home who requests moment request told =
    if is_status told NonBlocking then acceptance_by home who requests moment request else
    if is_status told NotFound then naming_by home who requests request else None

-- ---- as calls give it

-- This comes of a call, unless memory runs out; then the accepted requests stay.
pub record ComesToLater {E : Type 0} (result : Result ReplyParts E) (before after
    : LaterRequestsData) (effect : LaterEffect) : Type 0 where
  pub reply : IfOk result (λ r. r ≡ effect.reply)
  pub requests : OnOk result (after ≡ effect.requests)
  pub same : OnErr result (after ≡ before)

-- A call gives nothing where the other reply stands, and else this effect, unless memory runs out.
abbrev pub GivesLater : {E : Type 0} → Option (Result ReplyParts E) → LaterRequestsData
    → LaterRequestsData → Option LaterEffect → Type 0
GivesLater None before after None = after ≡ before
GivesLater None before after (Some effect) = ⊥
GivesLater (Some told) before after None = ⊥
GivesLater (Some told) before after (Some effect) = ComesToLater told before after effect
