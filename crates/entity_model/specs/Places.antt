-- What comes of a request, and the order in which it is refused.
use Rattle.std.specs.Prelude.{◌≡◌, ℕ, Bool, ℤ, List, [], ◌∷◌, Option, Some, None, unwrap_or}
use Rattle.std.specs.Prelude.{Result, IfOk, OnOk, if◌then◌else◌}
use Rattle.std.specs.Option.{option_map_or}
use Rattle.m2m_names.specs.declared.codes.Rsc.{Rsc}
use Rattle.m2m_names.specs.declared.codes.Rsc.TheVariants.{NotFound}
use Rattle.m2m_value.specs.Data.{Data}
use Rattle.primitive_json.specs.Kinds.{attributes_wanted}
use Rattle.primitive_json.specs.declared.reply.ReplyParts.{ReplyParts}
use Rattle.primitive_json.specs.declared.request.RequestParts.{RequestParts}
use Rattle.resource_model.specs.Resource.{ResourceData}
use Rattle.policy_eval.specs.Rights.{discovery_bit, retrieve_bit}
use Rattle.entity_model.specs.Entity.{EntityData}

-- a reply to a request, which has its identifier (TS-0001, 8.1.3)
abbrev pub reply_to : RequestParts → Rsc → Option Data → ReplyParts
reply_to request rsc content = record { rsc = rsc; rqi = Some request.rqi; pc = content }

-- a refusal has no content
abbrev pub refusal : RequestParts → Rsc → ReplyParts
refusal request rsc = reply_to request rsc None

-- the status where the resource isn't there that an address names (TS-0004, 7.3.3)
abbrev pub absent : Rsc
absent = NotFound

-- the result content that a request asks for: the attributes, where it says none (TS-0001, 8.1.2)
abbrev pub wanted_content : Option ℤ → ℤ
wanted_content rcn = unwrap_or rcn attributes_wanted

-- the bit that a Retrieve needs on its target: DISCOVERY where it looks for resources, and else
-- RETRIEVE (TS-0001, 9.6.2.1.2 and 10.2.6)
abbrev pub reading_bit : Bool → ℕ
reading_bit looks = if looks then discovery_bit else retrieve_bit

-- what comes of a request: the reply, and the entity after it
pub record Effect : Type 0 where
  pub reply : ReplyParts
  pub after : EntityData

-- This comes of a request, unless memory runs out: the reply, and the entity that is left.
pub record ComesTo {E : Type 0} (result : Result ReplyParts E) (left : EntityData)
    (effect : Effect) : Type 0 where
  pub reply : IfOk result (λ r. r ≡ effect.reply)
  pub after : OnOk result (left ≡ effect.after)

-- a reply that leaves the entity as it is
abbrev pub reply_alone : EntityData → ReplyParts → Effect
reply_alone e reply = record { reply = reply; after = e }

-- a refusal leaves the entity as it is
abbrev pub refused : EntityData → RequestParts → Rsc → Effect
refused e request rsc = reply_alone e (refusal request rsc)

-- what comes of a request on the resource that was found, if one was
abbrev pub on_found : EntityData → RequestParts → (ResourceData → Effect) → Option ResourceData
    → Effect
on_found e request effect found = option_map_or effect found (refused e request absent)

-- a place in the order of refusals: what has to hold there, and the status where it doesn't
pub record Check : Type 0 where
  pub holds : Bool
  pub fault : Rsc

-- The place where this has to hold, with the status where it doesn't.
abbrev pub unless : Bool → Rsc → Check
unless holds fault = record { holds = holds; fault = fault }

-- the status of the first place that doesn't hold
abbrev pub first_fault : List Check → Option Rsc
first_fault [] = None
first_fault (place ∷ places) = if place.holds then first_fault places else Some place.fault

-- the request is refused by the first of these places that doesn't hold, and else this comes of it
abbrev pub unless_refused : List Check → EntityData → RequestParts → Effect → Effect
unless_refused places e request effect =
    option_map_or (refused e request) (first_fault places) effect
