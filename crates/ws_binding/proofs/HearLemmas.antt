-- What a payload is heard as, and the reply to it.
use Rattle.std.proofs.Common.{◌≡◌, ℕ, true, List, [], ◌∷◌, Option, Some, None, Result, Ok, Err, inl, inr, refl, sym, ap, subst, ◌∙◌}
use Rattle.std.proofs.lemmas.Bool.{false≢true}
use Rattle.std.specs.List.{cons_option}
use Rattle.std.specs.Option.{option_and_then, unwrap_or}
use Rattle.m2m_value.specs.Data.{Data}
use Rattle.m2m_value.specs.View.{as_text, member_of, text_or_empty}
use Rattle.filter_criteria.specs.Values.{members_in}
use Rattle.http_forwarding.specs.Carries.{LinkTold}
use Rattle.primitive_json.specs.Bounds.{is_request_id}
use Rattle.primitive_json.specs.Members.{name_of_member}
use Rattle.primitive_json.specs.Reading.{operation_in, read_as, read_request, request_fault, request_made}
use Rattle.primitive_json.specs.declared.fault.PrimFault.{PrimFault}
use Rattle.primitive_json.specs.declared.member.Member.TheVariants.{RequestId}
use Rattle.primitive_json.specs.declared.reply.ReplyParts.{ReplyParts}
use Rattle.primitive_json.specs.declared.request.RequestParts.{RequestParts}
use Rattle.primitive_json.proofs.FormLemmas.{kinds_apart}
use Rattle.primitive_json.proofs.RoundTrip.{request_of_kinds}
use Rattle.turn_desk.specs.Entries.{Marked}
use Rattle.cse_machine.specs.declared.event.Event.{Event}
use Rattle.cse_machine.specs.declared.event.Outcome.{Outcome}
use Rattle.desk_replies.specs.Answering.{Answers}
use Rattle.desk_replies.specs.Asking.{Asked, nothing_asked}
use Rattle.desk_replies.specs.Rule.{IsAnswered, ReplyRule}
use Rattle.desk_replies.proofs.AskingLemmas.{answered_as, answered_none, answered_one, begun_one, has_asked_nothing}
use Rattle.cse_server.specs.Talk.{malformed}
use Rattle.ws_binding.specs.Payloads.{echo_of, id_among, id_of, id_text, payload_request, payload_requests, reply_for}
use Rattle.ws_binding.specs.Way.{Hears}

-- ---- the identifier of a request

made_is : {A : Type 0} (fault : Option PrimFault) (made read : A) → read_as fault made ≡ Ok read → made ≡ read
made_is None made read e = ap (λ (r : Result _ PrimFault). elim r [ Ok a ↦ a | Err f ↦ made ]) e
made_is (Some fault) made read e = cc

text_found : (text : Option (List ℕ)) (rqi : List ℕ) → rqi ≡ unwrap_or text [] → is_request_id rqi ≡ true → option_and_then id_among text ≡ Some rqi
text_found None rqi is id = absurd (false≢true (subst (λ (v : List ℕ). is_request_id v ≡ true) is id))
text_found (Some s) rqi is id =
    let here : is_request_id s ≡ true = subst (λ (v : List ℕ). is_request_id v ≡ true) is id in
    rw here (ap Some (sym is))

id_found : (found : Option Data) (rqi : List ℕ) → rqi ≡ text_or_empty found → is_request_id rqi ≡ true → option_and_then id_text found ≡ Some rqi
id_found None rqi is id = text_found None rqi is id
id_found (Some d) rqi is id = text_found (as_text d) rqi is id

-- a request has the identifier of the value that it is
pub id_is_rqi : (d : Data) (r : RequestParts) → read_request d ≡ Ok r → id_of d ≡ Some r.rqi
id_is_rqi d r e =
    let es = members_in d in
    let made = made_is (request_fault (operation_in es) es) (request_made (unwrap_or (operation_in es) _) es) r e in
    let kinds = kinds_apart r (request_of_kinds d r e) in
    id_found (member_of (name_of_member RequestId) es) r.rqi (sym (ap (λ (p : RequestParts). p.rqi) made)) kinds.rqi

-- ---- the reply to a payload

payload_requests-one : (payload : List ℕ) (request : RequestParts) → payload_request payload ≡ Some request → payload_requests (payload ∷ []) ≡ request ∷ []
payload_requests-one payload request e = ap (λ (o : Option RequestParts). cons_option o []) e

payload_requests-none : (payload : List ℕ) → payload_request payload ≡ None → payload_requests (payload ∷ []) ≡ []
payload_requests-none payload e = ap (λ (o : Option RequestParts). cons_option o []) e

reply_for-one : (payload : List ℕ) (request : RequestParts) (reply : ReplyParts) → payload_request payload ≡ Some request
    → reply_for payload (payload_request payload) (reply ∷ []) ≡ reply
reply_for-one payload request reply e = ap (λ (o : Option RequestParts). reply_for payload o (reply ∷ [])) e

module _ {S : Type 0} (rule : ReplyRule) (grown : S → List (Marked Event Outcome) → S → Type 0) where
  -- a payload that is a request was asked
  pub heard_one : {E : Type 0} (before after : S) (given now : Option (List ℕ)) (told more : LinkTold) (payload : List ℕ) (request : RequestParts)
      → payload_request payload ≡ Some request → (result : Result ReplyParts E) → Answers rule grown before after given now told more request result
      → Hears rule grown before after given now told more payload result
  heard_one before after given now told more payload request some (Ok reply) by = record {
    heard = payload ∷ [];
    either = inl refl;
    asks = record {
      asked = by.asked;
      asks = by.asks;
      answers = answered_as rule (request ∷ []) (payload_requests (payload ∷ [])) by.asked
          (answered_one rule request by.asked by.answers.0 by.answers.1 by.answers.2 by.answers.3) (sym (payload_requests-one payload request some));
    };
    replied = (refl, refl, by.answers.4 ∙ sym (reply_for-one payload request _ some));
  }
  heard_one before after given now told more payload request some (Err starved) by = elim by.answers [
    | inl none ↦ record {
      heard = [];
      either = inr refl;
      asks = record {
        asked = by.asked;
        asks = by.asks;
        answers = subst (λ (v : Asked). IsAnswered rule [] v) (sym none) (answered_none rule);
      };
      replied = tt;
    }
    | inr front ↦ record {
      heard = payload ∷ [];
      either = inl refl;
      asks = record {
        asked = by.asked;
        asks = by.asks;
        answers = answered_as rule (request ∷ []) (payload_requests (payload ∷ [])) by.asked
            (begun_one rule request by.asked front.0 front.1 front.2 front.3) (sym (payload_requests-one payload request some));
      };
      replied = tt;
    }
  ]

  module _ (nothing : (seat : S) → grown seat [] seat) where
    -- a payload that is none was refused
    pub heard_none : {E : Type 0} (seat : S) (given : Option (List ℕ)) (told : LinkTold) (payload : List ℕ) → payload_request payload ≡ None
        → (reply : ReplyParts) → reply ≡ malformed (echo_of payload) → Hears {E = E} rule grown seat seat given given told told payload (Ok reply)
    heard_none seat given told payload none reply is = record {
      heard = payload ∷ [];
      either = inl refl;
      asks = record {
        asked = nothing_asked;
        asks = has_asked_nothing grown nothing seat given told;
        answers = answered_as rule [] (payload_requests (payload ∷ [])) nothing_asked (answered_none rule) (sym (payload_requests-none payload none));
      };
      replied = (refl, refl, is ∙ sym (ap (λ (o : Option RequestParts). reply_for payload o []) none));
    }

    -- memory ran out before a payload was heard
    pub unheard : {E : Type 0} (seat : S) (given : Option (List ℕ)) (told : LinkTold) (payload : List ℕ) (starved : E)
        → Hears {E = E} rule grown seat seat given given told told payload (Err starved)
    unheard seat given told payload starved = record {
      heard = [];
      either = inr refl;
      asks = record {
        asked = nothing_asked;
        asks = has_asked_nothing grown nothing seat given told;
        answers = answered_none rule;
      };
      replied = tt;
    }
