-- A request is refused by the first of the places before its address is resolved, or goes by its address.
use Rattle.std.proofs.Common.{Bool, None, Option, Some, [], ap, false, refl, sym, true, ◌∙◌, ◌∷◌, ◌≡◌}
use Rattle.std.specs.Option.{option_map_or}
use Rattle.m2m_names.specs.StatusCodes.{is_success}
use Rattle.m2m_names.specs.declared.codes.Rsc.{Rsc}
use Rattle.m2m_names.specs.declared.codes.Rsc.TheVariants.{BadRequest, NonBlocking, RequestTimeout}
use Rattle.primitive_json.specs.Form.{has_form}
use Rattle.primitive_json.specs.declared.request.RequestParts.{RequestParts}
use Rattle.addressing.specs.Addresses.{address_of}
use Rattle.entity_model.specs.Entity.{EntityData}
use Rattle.entity_model.specs.Places.{first_fault, refused, unless}
use Rattle.cse_machine.specs.Answer.{address_effect, as_done, effect_of, first_places, has_address, has_originator, is_blocking, is_in_time}
use Rattle.cse_machine.specs.Heard.{MayBeHeard}

-- the first place that doesn't hold refuses it, or each holds
pub data Judged (e : EntityData) (request : RequestParts) : Type 0 where
  turned_down : (fault : Rsc) → is_success fault ≡ false → first_fault (first_places e request) ≡ Some fault → Judged e request
  is_heard : first_fault (first_places e request) ≡ None → MayBeHeard e request → Judged e request

module _ (e : EntityData) (request : RequestParts) where
  judged_by : (k o a t b : Bool) → has_form request ≡ k → has_originator e.home request ≡ o → has_address e.home request ≡ a → is_in_time e request ≡ t → is_blocking request ≡ b
      → first_fault (first_places e request) ≡ first_fault (unless k BadRequest ∷ unless o BadRequest ∷ unless a BadRequest ∷ unless t RequestTimeout ∷ unless b NonBlocking ∷ [])
      → Judged e request
  judged_by false o a t b form originator address time blocking is = turned_down BadRequest refl is
  judged_by true false a t b form originator address time blocking is = turned_down BadRequest refl is
  judged_by true true false t b form originator address time blocking is = turned_down BadRequest refl is
  judged_by true true true false b form originator address time blocking is = turned_down RequestTimeout refl is
  judged_by true true true true false form originator address time blocking is = turned_down NonBlocking refl is
  judged_by true true true true true form originator address time blocking is = is_heard is (record {
    form = form;
    originator = originator;
    address = address;
    time = time;
    blocking = blocking;
  })

  pub judged : Judged e request
  judged =
      judged_by (has_form request) (has_originator e.home request) (has_address e.home request) (is_in_time e request) (is_blocking request)
      refl refl refl refl refl refl

  -- what comes of it then
  pub refused_effect : (fault : Rsc) → first_fault (first_places e request) ≡ Some fault → effect_of e request ≡ as_done (refused e request fault)
  refused_effect fault is =
      ap (λ (f : Option Rsc). option_map_or (λ (x : Rsc). as_done (refused e request x)) f (address_effect e request (address_of e.home request.to))) is

  pub heard_effect : first_fault (first_places e request) ≡ None → effect_of e request ≡ address_effect e request (address_of e.home request.to)
  heard_effect none =
      ap (λ (f : Option Rsc). option_map_or (λ (x : Rsc). as_done (refused e request x)) f (address_effect e request (address_of e.home request.to))) none

  -- what is said of it where no place refuses it
  pub heard_facts : first_fault (first_places e request) ≡ None → MayBeHeard e request
  heard_facts none = elim judged [
    | turned_down fault other is ↦ absurd (let some : Some fault ≡ None = sym is ∙ none in cc)
    | is_heard still facts ↦ facts
  ]
