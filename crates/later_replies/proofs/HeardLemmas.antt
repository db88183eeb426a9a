-- A request that the entity inside refuses by certain statuses has an originator and an address.
use Rattle.std.specs.Prelude.{nat_lt, unwrap_or, is_ok}
use Rattle.std.proofs.Common.{◌≡◌, ℕ, List, length, true, false, ◌&&◌, Option, Some, None, is_some, inl, inr, refl, sym, ap, ◌∙◌}
use Rattle.std.specs.Option.{option_and_then}
use Rattle.std.proofs.lemmas.Bool.{cases_Bool, false≢true}
use Rattle.m2m_names.specs.Name.{is_originator}
use Rattle.m2m_names.specs.declared.codes.Rsc.TheVariants.{BadRequest}
use Rattle.primitive_json.specs.Form.{has_form}
use Rattle.primitive_json.specs.declared.reply.ReplyParts.{ReplyParts}
use Rattle.primitive_json.specs.declared.request.RequestParts.{RequestParts}
use Rattle.resource_model.specs.Home.{HomeData}
use Rattle.addressing.specs.Addresses.{address_of}
use Rattle.addressing.specs.Short.{short_of, shortened}
use Rattle.entity_model.specs.Entity.{EntityData, swept}
use Rattle.entity_model.specs.Places.{refusal}
use Rattle.cse_machine.specs.Answer.{effect_of, has_address, has_originator, is_registration}
use Rattle.cse_machine.specs.Step.{Step}
use Rattle.cse_machine.specs.declared.event.Event.TheVariants.{Ask}
use Rattle.cse_machine.specs.declared.event.Outcome.{Outcome}
use Rattle.cse_machine.specs.declared.event.Outcome.TheVariants.{Done, Forward, Item, Ticked, Starved}
use Rattle.cse_machine.proofs.OutcomeLemmas.{same_reply}
use Rattle.request_rules.specs.Creation.{c_stem}
use Rattle.group_fanout.specs.Rights.{asking, claimed_originator}
use Rattle.later_replies.specs.Effects.{is_heard}
use Rattle.later_replies.specs.Step.{is_heard_outcome}

-- ---- who asks

short_there : (home : HomeData) (text : List ℕ) → is_some (short_of home text) ≡ true → short_of home text ≡ Some (shortened home text)
short_there home text there = elim (cases_Bool (is_originator text && nat_lt 0 (length (shortened home text)))) [
  | inl t ↦ rw t refl
  | inr f ↦ (let none : false ≡ true = rw f at there in absurd (false≢true none))
]

pub short_asking : (home : HomeData) (request : RequestParts) → has_originator home request ≡ true → short_of home (asking request) ≡ Some (claimed_originator home request)
short_asking home request has = elim (cases_Bool (is_registration request)) [
  | inl t ↦ short_there home (asking request) (rw t at has)
  | inr f ↦ by_fr request.fr (rw f at has)
]
  where
    by_fr : (fr : Option (List ℕ)) → is_some (option_and_then (short_of home) fr) ≡ true → short_of home (unwrap_or fr c_stem) ≡ Some (shortened home (unwrap_or fr c_stem))
    by_fr None there = absurd (false≢true there)
    by_fr (Some text) there = short_there home text there

-- ---- a reply by such a status

not_heard : (request : RequestParts) (reply : ReplyParts) → Done reply ≡ Done (refusal request BadRequest) → is_heard reply.rsc ≡ true → ⊥
not_heard request reply is heard =
    let same : reply ≡ refusal request BadRequest = same_reply reply (refusal request BadRequest) is in
    false≢true (sym (ap (λ (r : ReplyParts). is_heard r.rsc) same) ∙ heard)

-- the request has an originator, and an address
pub record IsJudged (home : HomeData) (request : RequestParts) : Type 0 where
  pub originator : has_originator home request ≡ true
  pub address : has_address home request ≡ true

judged : (e : EntityData) (request : RequestParts) (reply : ReplyParts) → Done reply ≡ (effect_of e request).outcome → is_heard reply.rsc ≡ true → IsJudged e.home request
judged e request reply is heard = elim (cases_Bool (has_form request)) [
  | inr f ↦ absurd (not_heard request reply (rw f at is) heard)
  | inl t ↦ elim (cases_Bool (has_originator e.home request)) [
    | inr f ↦ absurd (not_heard request reply (rw (t, f) at is) heard)
    | inl o ↦ elim (cases_Bool (has_address e.home request)) [
      | inr f ↦ absurd (not_heard request reply (rw (t, o, f) at is) heard)
      | inl a ↦ record { originator = o; address = a }
    ]
  ]
]

pub heard_judged : (reading : ℕ) (request : RequestParts) (reply : ReplyParts) (before after : EntityData) → Step reading (Ask request) before (Done reply) after → is_heard reply.rsc ≡ true → IsJudged before.home request
heard_judged reading request reply before after step heard = judged (swept reading before) request reply step.0 heard

-- what follows from an address and an originator holds where the entity inside may be answered for
pub heard_asked : (P : Type 0) (reading : ℕ) (request : RequestParts) (before after : EntityData) (told : Outcome) → Step reading (Ask request) before told after → (is_ok (address_of before.home request.to) ≡ true → short_of before.home (asking request) ≡ Some (claimed_originator before.home request) → P) → is_heard_outcome told ≡ true → P
heard_asked P reading request before after (Done reply) step of heard =
    let j = heard_judged reading request reply before after step heard in
    of j.address (short_asking before.home request j.originator)
heard_asked P reading request before after (Forward poa onward) step of heard = absurd (false≢true heard)
heard_asked P reading request before after (Item given) step of heard = absurd (false≢true heard)
heard_asked P reading request before after Ticked step of heard = absurd (false≢true heard)
heard_asked P reading request before after (Starved done) step of heard = absurd (false≢true heard)
