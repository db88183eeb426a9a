-- What comes of a request that is to be answered later, and of one to an accepted request, for whom
-- the machine judges it as (TS-0001, 8.2.1).
pub use Rattle.accepted_requests.specs.Effects.{ComesToLater, GivesLater, LaterEffect}
pub use Rattle.accepted_requests.specs.Effects.{entry_effect, is_acceptable, is_full, is_heard}
pub use Rattle.accepted_requests.specs.Effects.{is_status, most_entries, own_effect, reply_only}
pub use Rattle.accepted_requests.specs.Effects.{taken_up, taken_up_if_room, wants_later}
pub use Rattle.accepted_requests.specs.Effects.{with_accepted}
use Rattle.std.specs.Prelude.{ℕ, Bool, Option}
use Rattle.m2m_names.specs.declared.codes.Rsc.{Rsc}
use Rattle.primitive_json.specs.declared.request.RequestParts.{RequestParts}
use Rattle.resource_model.specs.Home.{HomeData}
use Rattle.group_fanout.specs.Rights.{claimed_originator}
use Rattle.accepted_requests.specs.Effects.{acceptance_by, later_effect_by, naming_by}
use Rattle.accepted_requests.specs.Effects.{originator_effect, owns}
use Rattle.accepted_requests.specs.Entries.{LaterEntryData, LaterRequestsData}

-- The accepted request is the originator's own, by the full forms.
abbrev pub is_own : HomeData → RequestParts → LaterEntryData → Bool
is_own home request e = owns home (claimed_originator home request) e

-- what the originator of a request gets
abbrev pub asker_effect : HomeData → LaterRequestsData → RequestParts → LaterEntryData → LaterEffect
asker_effect home requests request e =
    originator_effect home (claimed_originator home request) requests request e

-- what comes of a request that the entity inside refuses since it isn't blocking: it is accepted,
-- if it is acceptable
abbrev pub acceptance : HomeData → LaterRequestsData → ℕ → RequestParts → Option LaterEffect
acceptance home requests moment request =
    acceptance_by home (claimed_originator home request) requests moment request

-- what comes of one to what isn't there in the entity inside: it is answered for the accepted
-- request that it names, if it names one
abbrev pub naming : HomeData → LaterRequestsData → RequestParts → Option LaterEffect
naming home requests request =
    naming_by home (claimed_originator home request) requests request

-- what comes of a request to which the entity inside replied with this status, where it is more
-- than that reply
abbrev pub later_effect : HomeData → LaterRequestsData → ℕ → RequestParts → Rsc
    → Option LaterEffect
later_effect home requests moment request told =
    later_effect_by home (claimed_originator home request) requests moment request told
