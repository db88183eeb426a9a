-- A closed talk has all that was to come.
use Rattle.std.proofs.Common.{◌≡◌, ◌⊎◌, ℕ, ◌+◌, ◌≤◌, List, [], ◌++◌, length, take, Some, inl, inr, refl, sym, ap, subst, ◌∙◌, arith, append-nil}
use Rattle.std.proofs.lemmas.List.{take_all, take-append-le}
use Rattle.primitive_json.specs.declared.reply.ReplyParts.{ReplyParts}
use Rattle.primitive_json.specs.declared.request.RequestParts.{RequestParts}
use Rattle.desk_replies.specs.Asking.{Asked}
use Rattle.desk_replies.specs.Replies.{GivesReplies}
use Rattle.desk_replies.specs.Rule.{plainly}
use Rattle.desk_replies.proofs.PlainLemmas.{plain_asked}
use Rattle.ws_binding.specs.Laws.{AClosedTalkHasAllThatWasToCome, IsTalkOf}
use Rattle.ws_binding.specs.Payloads.{payload_requests, said_to}
use Rattle.ws_binding.specs.Talk.{AnswersPayloads}
use Rattle.ws_binding.specs.Talker.{talk_told}
use Rattle.ws_binding.specs.declared.talk.TalkEnded.TheVariants.{Closed}

-- what was heard is what was to come, up to so many
heard_is : (most : ℕ) (to_come heard unheard left : List (List ℕ)) → to_come ≡ (heard ++ unheard) ++ left → unheard ≡ [] → length heard + length unheard ≤ most
    → (left ≡ []) ⊎ (length heard ≡ most) → take most to_come ≡ heard
heard_is most to_come heard unheard left come none few ends =
    let come_here : to_come ≡ heard ++ left = come ∙ ap (λ (v : List (List ℕ)). (heard ++ v) ++ left) none ∙ ap (λ (v : List (List ℕ)). v ++ left) (append-nil heard) in
    let short : length heard ≤ most = omega (arith, few) in
    elim ends [
      | inl none_left ↦
          let all : to_come ≡ heard = come_here ∙ ap (λ (v : List (List ℕ)). heard ++ v) none_left ∙ append-nil heard in
          ap (λ (v : List (List ℕ)). take most v) all ∙ take_all most heard short
      | inr full ↦
          let within : most ≤ length heard = omega (arith, full) in
          ap (λ (v : List (List ℕ)). take most v) come_here ∙ take-append-le most heard left within ∙ take_all most heard short
    ]

talk_of : (most : ℕ) (asked : Asked) (to_come left said_before said_now : List (List ℕ))
    → GivesReplies asked.requests asked.outcomes asked.replies asked.carried
    → AnswersPayloads most plainly asked (talk_told (Some to_come) (Some said_before)) (talk_told (Some left) (Some said_now)) Closed
    → IsTalkOf (take most to_come) asked said_before said_now
talk_of most asked to_come left said_before said_now gives talks =
    let none = talks.says.0 in
    let heard = heard_is most to_come talks.heard talks.unheard left talks.taken none talks.few (talks.closed refl) in
    let plain = plain_asked (payload_requests talks.heard) asked talks.answers in
    let requests = plain.0 ∙ ap (λ (v : List (List ℕ)). payload_requests v) (sym heard) in
    record {
      said = said_to talks.heard talks.answers.replies;
      said_now_is = talks.says.1;
      asks = requests;
      talk = record {
        replies = talks.answers.replies;
        gives =
            subst (λ (v : List RequestParts). GivesReplies v asked.outcomes talks.answers.replies asked.carried) requests
            (subst (λ (v : List ReplyParts). GivesReplies asked.requests asked.outcomes v asked.carried) plain.1 gives);
        said_are = ap (λ (v : List (List ℕ)). said_to v talks.answers.replies) (sym heard);
      };
    }

pub closed_talk : AClosedTalkHasAllThatWasToCome
closed_talk asked to_come left said_before said_now gives talks = talk_of _ asked to_come left said_before said_now gives talks
