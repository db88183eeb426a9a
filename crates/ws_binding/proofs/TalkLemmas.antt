-- Payloads and what is said to them, joined.
use Rattle.std.proofs.Common.{◌≡◌, ℕ, List, [], ◌∷◌, ◌++◌, length, map, Option, Some, None, inl, inr, refl, sym, ap, ◌∙◌, append_assoc, append-nil}
use Rattle.std.specs.List.{cons_option}
use Rattle.std.proofs.lemmas.List.{map-append}
use Rattle.std.proofs.lemmas.List.Elements.{filter_map-append}
use Rattle.m2m_io.specs.Told.{TellsStill}
use Rattle.primitive_json.specs.declared.reply.ReplyParts.{ReplyParts}
use Rattle.primitive_json.specs.declared.request.RequestParts.{RequestParts}
use Rattle.desk_replies.proofs.LinkLemmas.{Tells-append}
use Rattle.cse_server.specs.Talk.{replies_behind}
use Rattle.cse_server.proofs.TalkLemmas.{behind_append, behind_length, none_left, some_left}
use Rattle.ws_binding.specs.Payloads.{payload_request, payload_requests, reply_for, replies_to, reply_payload, said_to}
use Rattle.ws_binding.specs.Talk.{Says, SaysAllButLast, SaysMost}
use Rattle.ws_binding.specs.Talker.{SaysAll, Takes}
use Rattle.ws_binding.specs.declared.talk.TalkEnded.{TalkEnded}
use Rattle.ws_binding.specs.declared.talk.TalkEnded.TheVariants.{Closed, Failed, Memory}

-- ---- requests and replies

pub payload_requests-append : (xs ys : List (List ℕ)) → payload_requests (xs ++ ys) ≡ payload_requests xs ++ payload_requests ys
payload_requests-append xs ys = filter_map-append payload_request xs ys

reply_same : (payload : List ℕ) (r : Option RequestParts) (rest : List RequestParts) (rs more : List ReplyParts) → length rs ≡ length (cons_option r rest) → reply_for payload r (rs ++ more) ≡ reply_for payload r rs
reply_same payload None rest rs more same = refl
reply_same payload (Some q) rest [] more same = absurd (none_left q rest same)
reply_same payload (Some q) rest (o ∷ rs) more same = refl

replies_to-append : (xs ys : List (List ℕ)) (rs more : List ReplyParts) → length rs ≡ length (payload_requests xs) → replies_to (xs ++ ys) (rs ++ more) ≡ replies_to xs rs ++ replies_to ys more
replies_to-append [] ys [] more same = refl
replies_to-append [] ys (o ∷ rs) more same = absurd (some_left o rs same)
replies_to-append (x ∷ xs) ys rs more same =
    let r = payload_request x in
    let left = replies_behind r rs in
    let again : length left ≡ length (payload_requests xs) = behind_length r (payload_requests xs) rs same in
    rw (reply_same x r (payload_requests xs) rs more same, behind_append r (payload_requests xs) rs more same)
    (ap (λ v. reply_for x r rs ∷ v) (replies_to-append xs ys left more again))

pub said_to-append : (xs ys : List (List ℕ)) (rs more : List ReplyParts) → length rs ≡ length (payload_requests xs) → said_to (xs ++ ys) (rs ++ more) ≡ said_to xs rs ++ said_to ys more
said_to-append xs ys rs more same =
    ap (λ v. map reply_payload v) (replies_to-append xs ys rs more same) ∙ map-append reply_payload (replies_to xs rs) (replies_to ys more)

-- ---- what was taken

pub Takes-append : (given more : List (List ℕ)) (a b c : Option (List (List ℕ))) → Takes given a b → Takes more b c → Takes (given ++ more) a c
Takes-append given more a b None p q = tt
Takes-append given more a None (Some z) p q = absurd q
Takes-append given more None (Some y) (Some z) p q = absurd p
Takes-append given more (Some x) (Some y) (Some z) p q = p ∙ ap (λ v. given ++ v) q ∙ sym (append_assoc given more z)

-- what is taken stays taken
pub Takes-still : (given : List (List ℕ)) (a b c : Option (List (List ℕ))) → Takes given a b → TellsStill b c → Takes given a c
Takes-still given a b None p q = tt
Takes-still given a None (Some z) p q = absurd q
Takes-still given None (Some y) (Some z) p q = absurd p
Takes-still given (Some x) (Some y) (Some z) p q = p ∙ ap (λ v. given ++ v) (sym q)

-- ---- what was said

pub SaysAll-none : (a b : Option (List (List ℕ))) → TellsStill a b → SaysAll [] a b
SaysAll-none a None p = tt
SaysAll-none None (Some y) p = absurd p
SaysAll-none (Some x) (Some y) p = p ∙ sym (append-nil x)

-- nothing was said, and then these
pub SaysAll-behind : (said : List (List ℕ)) (a b c : Option (List (List ℕ))) → TellsStill a b → SaysAll said b c → SaysAll said a c
SaysAll-behind said a b None p q = tt
SaysAll-behind said a None (Some z) p q = absurd q
SaysAll-behind said None (Some y) (Some z) p q = absurd p
SaysAll-behind said (Some x) (Some y) (Some z) p q = q ∙ ap (λ v. v ++ said) p

pub SaysAllButLast-then : (first then : List (List ℕ)) (a b c : Option (List (List ℕ))) → SaysAll first a b → SaysAllButLast then b c → SaysAllButLast (first ++ then) a c
SaysAllButLast-then first then a b c p q = record {
  before = first ++ q.before;
  last = q.last;
  payloads_are = ap (λ v. first ++ v) q.payloads_are ∙ sym (append_assoc first q.before (q.last ∷ []));
  said = Tells-append first q.before a b c p q.said;
}

pub SaysMost-then : (first then : List (List ℕ)) (a b c : Option (List (List ℕ))) → SaysAll first a b → SaysMost then b c → SaysMost (first ++ then) a c
SaysMost-then first then a b c p (inl all) = inl (Tells-append first then a b c p all)
SaysMost-then first then a b c p (inr most) = inr (SaysAllButLast-then first then a b c p most)

pub Says-then : (ended : TalkEnded) (first then unheard : List (List ℕ)) (a b c : Option (List (List ℕ))) → SaysAll first a b → Says ended then unheard b c → Says ended (first ++ then) unheard a c
Says-then Closed first then unheard a b c p q = (q.0, Tells-append first then a b c p q.1)
Says-then Failed first then unheard a b c p q = (q.0, SaysMost-then first then a b c p q.1)
Says-then Memory first then [] a b c p q = SaysMost-then first then a b c p q
Says-then Memory first then (payload ∷ behind) a b c p q = (q.0, Tells-append first then a b c p q.1)
