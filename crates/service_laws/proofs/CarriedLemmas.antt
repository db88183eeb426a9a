-- What is carried over two links that answer alike.
use Rattle.service_laws.proofs.Words.{◌≡◌, ℕ, false, List, [], ◌∷◌, ◌++◌, Option, Some, None, IfSome, inl, inr, refl, sym, ap, subst, ◌∙◌, All, option_map, option_to_list}
use Rattle.service_laws.proofs.Terms.{Carrying, Exchange, made_in, ReplyParts, RequestParts, Peer, Carried, Outcome, Done, Forward, Item, Ticked, Starved, GivesReply, GivesReplies, GoesOn, RepliesBy}
use Rattle.service_laws.proofs.Facts.{true≢false, All-head, All-tail, same_Some, one_reply}
use Rattle.http_forwarding.specs.Sending.{IsFor}
use Rattle.service_laws.specs.Laws.{AnswerAlike, HadMemory}

-- what was made for one request, over two links that answer alike
one_exchange : (url : List ℕ) (sent : RequestParts) (m n : Option Exchange) (a b : Option (List ℕ)) (es fs : List Exchange)
    → IfSome m (IsFor sent url Peer) → IfSome n (IsFor sent url Peer)
    → option_map (λ x. x.answer) m ≡ Some a → option_map (λ x. x.answer) n ≡ Some b
    → AnswerAlike (option_to_list m ++ es) (option_to_list n ++ fs)
    → (m ≡ n) × (a ≡ b) × AnswerAlike es fs
one_exchange url sent None n a b es fs first second some other alike = cc
one_exchange url sent (Some x) None a b es fs first second some other alike = cc
one_exchange url sent (Some x) (Some y) a b es fs first second some other alike =
    let same = alike (ap (λ (v : Exchange). v.host) first ∙ sym (ap (λ (v : Exchange). v.host) second))
    (ap (λ (v : Exchange). v.request) first ∙ sym (ap (λ (v : Exchange). v.request) second)) in (
      ap Some same.0,
      sym (same_Some x.answer a some) ∙ ap (λ (v : Exchange). v.answer) same.0 ∙ same_Some y.answer b other,
      same.1,
    )

-- where there was memory, the exchange has an answer, or failed, and that gives the reply
with_memory : (sent : RequestParts) (reply : ReplyParts) (carrying : Carrying) → carrying.starved ≡ false → RepliesBy sent reply carrying
    → (answer : Option (List ℕ)) × (option_map (λ x. x.answer) carrying.made ≡ Some answer) × Carried answer sent.rqi reply
with_memory sent reply carrying memory (inl starved) = absurd (true≢false (sym starved.0 ∙ memory))
with_memory sent reply carrying memory (inr by) = by.1

-- What two links that answer alike carry for one outcome, and then for others: the reply is one, and the others are carried over links
-- that answer alike.
pub record CarriesAlike (p q : ReplyParts) (e f le lf : List Carrying) : Type 0 where
  pub reply : p ≡ q
  pub carried : e ≡ f
  pub memory : All HadMemory le
  pub other_memory : All HadMemory lf
  pub links : AnswerAlike (made_in le) (made_in lf)

goes_alike : (url : List ℕ) (sent : RequestParts) (p q : ReplyParts) (e f le lf : List Carrying)
    → GoesOn url sent p e → GoesOn url sent q f
    → All HadMemory (e ++ le) → All HadMemory (f ++ lf) → AnswerAlike (made_in (e ++ le)) (made_in (f ++ lf))
    → CarriesAlike p q e f le lf
goes_alike url sent p q e f le lf g h memory memories alike =
    let c = g.carrying in
    let d = h.carrying in
    let had : All HadMemory (c ∷ le) = subst (λ (v : List Carrying). All HadMemory (v ++ le)) g.once memory in
    let has : All HadMemory (d ∷ lf) = subst (λ (v : List Carrying). All HadMemory (v ++ lf)) h.once memories in
    let links : AnswerAlike (made_in (c ∷ le)) (made_in (d ∷ lf)) =
    subst (λ (v : List Carrying). AnswerAlike (made_in (c ∷ le)) (made_in (v ++ lf))) h.once
    (subst (λ (v : List Carrying). AnswerAlike (made_in (v ++ le)) (made_in (f ++ lf))) g.once alike) in
    let here : c.starved ≡ false = All-head HadMemory c le had in
    let there : d.starved ≡ false = All-head HadMemory d lf has in
    let one = with_memory sent p c here g.replies in
    let two = with_memory sent q d there h.replies in
    let same = one_exchange url sent c.made d.made one.0 two.0 (made_in le) (made_in lf) g.made h.made one.1 two.1 links in
    let starved : c.starved ≡ d.starved = here ∙ sym there in
    let carrying : c ≡ d = λ i. record { made = same.0 i; starved = starved i } in
    record {
      reply = one_reply two.0 sent.rqi p q (subst (λ (a : Option (List ℕ)). Carried a sent.rqi p) same.1 one.2) two.2;
      carried = g.once ∙ ap (λ (v : Carrying). v ∷ []) carrying ∙ sym h.once;
      memory = All-tail HadMemory c le had;
      other_memory = All-tail HadMemory d lf has;
      links = same.2;
    }

-- nothing is carried for an outcome that doesn't go on
stays_alike : (p q r : ReplyParts) (e f le lf : List Carrying) → (p ≡ r) × (e ≡ []) → (q ≡ r) × (f ≡ [])
    → All HadMemory (e ++ le) → All HadMemory (f ++ lf) → AnswerAlike (made_in (e ++ le)) (made_in (f ++ lf))
    → CarriesAlike p q e f le lf
stays_alike p q r e f le lf g h memory memories alike = record {
  reply = g.0 ∙ sym h.0;
  carried = g.1 ∙ sym h.1;
  memory = subst (λ (v : List Carrying). All HadMemory (v ++ le)) g.1 memory;
  other_memory = subst (λ (v : List Carrying). All HadMemory (v ++ lf)) h.1 memories;
  links = subst (λ (v : List Carrying). AnswerAlike (made_in le) (made_in (v ++ lf))) h.1
      (subst (λ (v : List Carrying). AnswerAlike (made_in (v ++ le)) (made_in (f ++ lf))) g.1 alike);
}

reply_alike : (request : RequestParts) (outcome : Outcome) (p q : ReplyParts) (e f le lf : List Carrying)
    → GivesReply request outcome p e → GivesReply request outcome q f
    → All HadMemory (e ++ le) → All HadMemory (f ++ lf) → AnswerAlike (made_in (e ++ le)) (made_in (f ++ lf))
    → CarriesAlike p q e f le lf
reply_alike request (Done answered) p q e f le lf g h memory memories alike = stays_alike p q _ e f le lf g h memory memories alike
reply_alike request (Forward poa sent) p q e f le lf g h memory memories alike = goes_alike poa sent p q e f le lf g h memory memories alike
reply_alike request (Item given) p q e f le lf g h memory memories alike = stays_alike p q _ e f le lf g h memory memories alike
reply_alike request Ticked p q e f le lf g h memory memories alike = stays_alike p q _ e f le lf g h memory memories alike
reply_alike request (Starved done) p q e f le lf g h memory memories alike = stays_alike p q _ e f le lf g h memory memories alike

-- The same outcomes of the same requests give the same replies, for which the same is carried, where the links answer alike and memory
-- sufficed.
pub replies_alike : (xs : List RequestParts) (os : List Outcome) (ps qs : List ReplyParts) (es fs : List Carrying)
    → GivesReplies xs os ps es → GivesReplies xs os qs fs
    → All HadMemory es → All HadMemory fs → AnswerAlike (made_in es) (made_in fs) → (ps ≡ qs) × (es ≡ fs)
replies_alike [] [] [] [] es fs g h memory memories alike = (refl, g ∙ sym h)
replies_alike [] [] [] (q ∷ qs) es fs g h memory memories alike = absurd h
replies_alike [] [] (p ∷ ps) qs es fs g h memory memories alike = absurd g
replies_alike [] (o ∷ os) [] qs es fs g h memory memories alike = absurd g
replies_alike [] (o ∷ os) (p ∷ ps) qs es fs g h memory memories alike = absurd g
replies_alike (x ∷ xs) [] [] qs es fs g h memory memories alike = absurd g
replies_alike (x ∷ xs) [] (p ∷ ps) qs es fs g h memory memories alike = absurd g
replies_alike (x ∷ xs) (o ∷ os) [] qs es fs g h memory memories alike = absurd g
replies_alike (x ∷ xs) (o ∷ os) (p ∷ ps) [] es fs g h memory memories alike = absurd h
replies_alike (x ∷ xs) (o ∷ os) (p ∷ ps) (q ∷ qs) es fs g h memory memories alike =
    let first =
    reply_alike x o p q g.0 h.0 g.1 h.1 g.3 h.3
    (subst (λ (v : List Carrying). All HadMemory v) g.2 memory) (subst (λ (v : List Carrying). All HadMemory v) h.2 memories)
    (subst (λ (v : List Carrying). AnswerAlike (made_in (g.0 ++ g.1)) (made_in v)) h.2
    (subst (λ (v : List Carrying). AnswerAlike (made_in v) (made_in fs)) g.2 alike)) in
    let rest = replies_alike xs os ps qs g.1 h.1 g.4 h.4 first.memory first.other_memory first.links in
    (cc (first.reply, rest.0), g.2 ∙ (λ i. first.carried i ++ rest.1 i) ∙ sym h.2)
