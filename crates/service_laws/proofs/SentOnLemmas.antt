-- What another CSE answers to each request that goes on to it.
use Rattle.service_laws.proofs.Words.{◌≡◌, ◌⊎◌, ℕ, List, [], length, Option, Some, None, Result, Ok, Err, IfSome, inl, inr, refl, sym, ap, subst, ◌∙◌, append-nil, nat_eq, starts_with, codes, list_all, true}
use Rattle.std.proofs.Common.{nat_le}
use Rattle.service_laws.proofs.Terms.{Request, BeginsWithFrame, RequestParts, EntityData, request_frame, request_text, Peer, swept, Frame}
use Rattle.service_laws.proofs.Facts.{cases_Bool, le-leb}
use Rattle.std.specs.Char.{is_ascii_graphic}
use Rattle.std.proofs.lemmas.Bool.{false≢true, leb-true}
use Rattle.m2m_names.specs.Name.{is_originator, originator_limit}
use Rattle.m2m_names.specs.UrlReading.{host_end_at}
use Rattle.m2m_names.proofs.NameLemmas.{printable_parts}
use Rattle.policy_eval.specs.Originators.{full_form}
use Rattle.primitive_json.specs.Bounds.{request_id_limit}
use Rattle.primitive_json.specs.Form.{has_form}
use Rattle.primitive_json.specs.Laws.{IsWhenOfKind}
use Rattle.primitive_json.specs.Requests.{IsSoundWhen}
use Rattle.primitive_json.specs.declared.request.When.{When}
use Rattle.primitive_json.specs.declared.request.When.TheVariants.{At, Millis}
use Rattle.resource_model.specs.Home.{HomeData, IsHome}
use Rattle.http_frames.specs.Frame.{body_limit, head_limit}
use Rattle.http_frames.specs.Text.{head_text}
use Rattle.http_frames.proofs.FrameLemmas.{BeginsWith_unique}
use Rattle.http_target.specs.declared.fault.BindFault.{BindFault}
use Rattle.http_binding.specs.Binding.{binding, echo_of}
use Rattle.http_binding.specs.Replying.{body_of}
use Rattle.retarget.specs.Routes.{forwarded}
use Rattle.entity_model.proofs.TellingLemmas.{sound_swept}
use Rattle.group_fanout.specs.Rights.{claimed_originator}
use Rattle.cse_machine.proofs.PlaceLemmas.{claimed_valid}
use Rattle.binding_laws.specs.OneMessage.{CanStandInHead, FitsAMessage}
use Rattle.binding_laws.proofs.OneMessageLemmas.{message_or_none}
use Rattle.binding_laws.proofs.RootLemmas.{sent_target}
use Rattle.peer_link.specs.PeerTalk.{PeerTalks}
use Rattle.service_laws.specs.Peers.{AnswersBound, IsRefusedThere}
use Rattle.service_laws.specs.SentOn.{BytesBind, BytesBindToNone, IsAnsweredThere, WhatIsSentOnCanStandInHead, WhatIsSentOnIsAnsweredOrRefused}
use Rattle.service_laws.proofs.RepeatLemmas.{id_of_kind}
use Rattle.service_laws.proofs.OnwardLemmas.{WentOn, foreign_plain, lead_graphic, url_some, went_on}
use Rattle.service_laws.proofs.PeerLemmas.{answer_is_the_peers, no_message_there, refused_there}

-- ---- it can stand in a head

-- the full form of an originator is printable, however long it is
full_graphic : (home : HomeData) (o : List ℕ) → IsHome home → is_originator o ≡ true → list_all is_ascii_graphic (full_form home o) ≡ true
full_graphic home o is valid =
    let graphic = (printable_parts originator_limit o valid).graphic in
    elim (cases_Bool (starts_with nat_eq o (codes "/"))) [
      | inl t ↦ rw t graphic
      | inr f ↦ rw f (lead_graphic home o is graphic)
    ]

-- a request of its form has a printable identifier
id_graphic : (r : RequestParts) → has_form r ≡ true → list_all is_ascii_graphic r.rqi ≡ true
id_graphic r form = (printable_parts request_id_limit r.rqi (id_of_kind r form)).graphic

when_kept : (when : Option When) → IfSome when IsSoundWhen → IfSome when IsWhenOfKind
when_kept None h = tt
when_kept (Some (At at)) h = h
when_kept (Some (Millis n)) h = tt

onward_stands : (e : EntityData) (request sent : RequestParts) (url : List ℕ) → IsHome e.home → IfSome request.rqet IsSoundWhen → WentOn e request url sent
    → CanStandInHead (forwarded e.home (claimed_originator e.home request) request) url Peer
onward_stands e request sent url home rqet went =
    let o = claimed_originator e.home request in
    let is_url = url_some url (host_end_at url) refl went.url_is in
    record {
      is_url = is_url;
      target = sent_target (forwarded e.home o request) url is_url (foreign_plain e.home request.to went.text went.address).bytes;
      fr = full_graphic e.home o home (claimed_valid e.home request went.originator);
      rqi = id_graphic request went.form;
      rqet = when_kept request.rqet rqet;
    }

pub sent_on_stands : WhatIsSentOnCanStandInHead
sent_on_stands reading request before after url sent goes =
    let e = swept reading before in
    let went = went_on e request url sent goes.step.0 in
    subst (λ (r : RequestParts). CanStandInHead r url Peer) (sym went.same)
    (onward_stands e request sent url (sound_swept reading before goes.sound).home goes.keeps.rqet went)

-- ---- so its bytes are its own message, or begin with none

-- what fits, or doesn't
fits_or_not : (sent : RequestParts) (url : List ℕ) → FitsAMessage sent url Peer ⊎ ¬ (FitsAMessage sent url Peer)
fits_or_not sent url =
    let head = length (head_text (request_frame sent url Peer)) in
    let body = length (body_of sent.pc) in
    elim (cases_Bool (nat_le head head_limit)) [
      | inr long ↦ inr (λ fits. false≢true (sym long ∙ le-leb head head_limit fits.head))
      | inl short ↦ elim (cases_Bool (nat_le body (body_limit Request))) [
        | inr long ↦ inr (λ fits. false≢true (sym long ∙ le-leb body (body_limit Request) fits.body))
        | inl brief ↦ inl (record { head = leb-true head head_limit short; body = leb-true body (body_limit Request) brief })
      ]
    ]

-- ---- together

-- one fault of binding isn't a request
no_request : (fault : BindFault) (asked : RequestParts) → Err fault ≡ Ok asked → ⊥
no_request fault asked same = cc

module _ (sent : RequestParts) (url : List ℕ) (there left : EntityData) (given now : Option (List ℕ)) (answer : List ℕ) (talks : PeerTalks there left given now (request_text sent url Peer) answer) where
  abbrev bytes : List ℕ
  bytes = request_text sent url Peer

  abbrev own : Frame
  own = request_frame sent url Peer

  abbrev Known : Type 0
  Known =
      ((asked : RequestParts) × BytesBind bytes asked × IsAnsweredThere there left given now talks.new.link asked sent.rqi answer)
      ⊎ (BytesBindToNone bytes × IsRefusedThere there left sent.rqi answer)

  by_binding : (bound : Result RequestParts BindFault) → binding own ≡ bound → BeginsWithFrame Request bytes own [] → Known
  by_binding (Ok asked) is begins =
      let peers = answer_is_the_peers sent url [] there left given now answer begins talks in
      inl (
        asked,
        record { frame = own; rest = []; begins = begins; binds = is },
        record {
          told = peers.reply;
          answers = subst (λ (b : Result RequestParts BindFault). AnswersBound there left given now talks.new.link b (echo_of own) peers.reply) is peers.answers;
          text = peers.text;
          gives = peers.gives;
        },
      )
  by_binding (Err fault) is begins =
      inr (
        (λ asked binds.
            no_request fault asked
            (sym is ∙ sym (ap binding (BeginsWith_unique Request bytes binds.frame own binds.rest [] binds.begins begins).0) ∙ binds.binds)),
        refused_there sent url [] fault there left given now answer begins is talks,
      )

  known : CanStandInHead sent url Peer → Known
  known can =
      let one = message_or_none sent url Peer can in
      elim (fits_or_not sent url) [
        | inl fits ↦ by_binding (binding own) refl (record { bytes = bytes; is_frame = one.0 fits; stream_is = sym (append-nil bytes) })
        | inr long ↦ (
            let none = one.1 long in
            inr ((λ asked binds. none binds.frame binds.rest binds.begins), no_message_there sent url there left given now answer none talks))
      ]

pub sent_on_answered : WhatIsSentOnIsAnsweredOrRefused
sent_on_answered reading request before after url sent goes there left given now answer talks =
    known sent url there left given now answer talks (sent_on_stands reading request before after url sent goes)
