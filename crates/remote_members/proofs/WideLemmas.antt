-- A request that is answered also for members at other CSEs.
use Rattle.std.proofs.Common.{◌≡◌, ℕ, ◌≤◌, true, false, List, [], ◌∷◌, ◌++◌, length, take, Option, Some, Result, Ok, Err, IfOk, IfSome, inl, inr, refl, sym, ap, subst, ◌∙◌, append-nil, length-append, arith}
use Rattle.std.specs.Prelude.{unwrap_or}
use Rattle.std.specs.Option.{option_map_or}
use Rattle.std.proofs.Math.Seq.{take-append_seam}
use Rattle.std.proofs.lemmas.Bool.{false≢true, true≢false}
use Rattle.m2m_io.specs.Link.{Carrying}
use Rattle.m2m_value.specs.Data.{Data}
use Rattle.primitive_json.specs.declared.reply.ReplyParts.{ReplyParts}
use Rattle.primitive_json.specs.declared.request.RequestParts.{RequestParts}
use Rattle.resource_model.specs.Home.{HomeData}
use Rattle.turn_desk.specs.Entries.{Marked}
use Rattle.http_forwarding.specs.Carries.{LinkTold}
use Rattle.group_fanout.specs.Fan.{gathering, requests_to}
use Rattle.cse_machine.specs.declared.event.Event.{Event}
use Rattle.cse_machine.specs.declared.event.Outcome.{Outcome}
use Rattle.cse_machine.specs.declared.event.Outcome.TheVariants.{Done, Forward, Item, Ticked, Starved}
use Rattle.desk_replies.specs.Answering.{Answers}
use Rattle.desk_replies.specs.Asking.{Asked, asked_on, nothing_asked}
use Rattle.desk_replies.specs.Replies.{GivesReplies, GivesReply}
use Rattle.desk_replies.specs.Rule.{AnswersOne, Group, IsGrouped}
use Rattle.desk_replies.proofs.AskingLemmas.{has_asked_nothing, has_asked_on}
use Rattle.desk_replies.proofs.RepliesLemmas.{gives-length}
use Rattle.remote_members.specs.Asking.{AsksMembers, AsksOne, Completes, TellsMembers, is_done, one_asked, requests_for}
use Rattle.remote_members.specs.Remote.{remote_addresses, entries_anew, told_of_members}
use Rattle.remote_members.specs.Wide.{requests_behind, completed, members_away, with_entries, wide, wide_reply}
use Rattle.remote_members.specs.declared.asking.Answered.{Answered}

-- each request has its outcome
gives-outcomes : (xs : List RequestParts) (os : List Outcome) (ps : List ReplyParts) (es : List Carrying) → GivesReplies xs os ps es → length os ≡ length xs
gives-outcomes [] [] [] es g = refl
gives-outcomes [] [] (p ∷ ps) es g = absurd g
gives-outcomes [] (o ∷ os) [] es g = absurd g
gives-outcomes [] (o ∷ os) (p ∷ ps) es g = absurd g
gives-outcomes (x ∷ xs) [] [] es g = absurd g
gives-outcomes (x ∷ xs) [] (p ∷ ps) es g = absurd g
gives-outcomes (x ∷ xs) (o ∷ os) [] es g = absurd g
gives-outcomes (x ∷ xs) (o ∷ os) (p ∷ ps) es g = let rest = gives-outcomes xs os ps g.1 g.4 in omega (arith, rest)

-- ---- the outcome of the first

-- where it is no reply of the entity itself, nothing is asked behind it
none_behind : (home : HomeData) (request : RequestParts) (outcome : Outcome) → is_done outcome ≡ false → requests_behind home request outcome ≡ []
none_behind home request (Done reply) other = absurd (true≢false other)
none_behind home request (Forward poa sent) other = refl
none_behind home request (Item given) other = refl
none_behind home request Ticked other = refl
none_behind home request (Starved done) other = refl

stays_so : (home : HomeData) (outcome : Outcome) (reply : ReplyParts) (replies : List ReplyParts) → is_done outcome ≡ false → wide_reply home outcome reply replies ≡ reply
stays_so home (Done answered) reply replies other = absurd (true≢false other)
stays_so home (Forward poa sent) reply replies other = refl
stays_so home (Item given) reply replies other = refl
stays_so home Ticked reply replies other = refl
stays_so home (Starved done) reply replies other = refl

-- where it is, the members are those that it tells of, and they complete it
behind_own : (home : HomeData) (request : RequestParts) (outcome : Outcome) (reply : ReplyParts) (carried : List Carrying) → is_done outcome ≡ true
    → GivesReply request outcome reply carried → requests_behind home request outcome ≡ requests_to request (members_away home reply)
behind_own home request (Done answered) reply carried own gives = ap (λ (r : ReplyParts). requests_to request (members_away home r)) (sym gives.0)
behind_own home request (Forward poa sent) reply carried own gives = absurd (false≢true own)
behind_own home request (Item given) reply carried own gives = absurd (false≢true own)
behind_own home request Ticked reply carried own gives = absurd (false≢true own)
behind_own home request (Starved done) reply carried own gives = absurd (false≢true own)

told_own : (home : HomeData) (outcome : Outcome) (reply : ReplyParts) (replies : List ReplyParts) → is_done outcome ≡ true → wide_reply home outcome reply replies ≡ completed home reply replies
told_own home (Done answered) reply replies own = refl
told_own home (Forward poa sent) reply replies own = absurd (false≢true own)
told_own home (Item given) reply replies own = absurd (false≢true own)
told_own home Ticked reply replies own = absurd (false≢true own)
told_own home (Starved done) reply replies own = absurd (false≢true own)

-- ---- the reply that is completed

-- with what is told of its members
pub completes : (home : HomeData) (reply : ReplyParts) (entries anew : List Data) (content : Data) (replies : List ReplyParts)
    → told_of_members reply.pc ≡ Some entries → TellsMembers home entries replies anew → content ≡ gathering anew
    → Completes home reply replies (record reply { pc = Some content })
completes home reply entries anew content replies told tells is =
    ap (λ (c : Data). record reply { pc = Some c }) is
    ∙ ap (λ (ds : List Data). with_entries reply ds) tells
    ∙ sym (ap (λ (o : Option (List Data)). option_map_or (λ es. with_entries reply (entries_anew home es replies)) o reply) told)

pub away_of : (home : HomeData) (request : RequestParts) (reply : ReplyParts) (entries : List Data) → told_of_members reply.pc ≡ Some entries
    → requests_for home request entries ≡ requests_to request (members_away home reply)
away_of home request reply entries told =
    sym (ap (λ (o : Option (List Data)). requests_to request (remote_addresses home (unwrap_or o []))) told)

-- the copy that was kept is the request
pub kept_is : (kept : Option RequestParts) (held request : RequestParts) → kept ≡ Some held → IfSome kept (λ r. r ≡ request) → held ≡ request
kept_is kept held request is copy = subst (λ (o : Option RequestParts). IfSome o (λ r. r ≡ request)) is copy

-- ---- the whole

module _ {S : Type 0} (grown : S → List (Marked Event Outcome) → S → Type 0) where
  -- the members that a reply tells of were asked by a request, which was kept, and this came of that
  pub members_complete : {A E F : Type 0} (items : A → List Data) (before after : S) (given now : Option (List ℕ)) (told more : LinkTold) (home : HomeData)
      (kept request : RequestParts) (parts reply : ReplyParts) (entries : List Data) (result : Result A E) (end : Result ReplyParts F)
      → kept ≡ request → parts ≡ reply → told_of_members parts.pc ≡ Some entries
      → (asks : AsksMembers grown before after given now told more (requests_for home kept entries) (λ replies a. TellsMembers home entries replies (items a)) result)
      → IfOk end (λ r. (asks.unasked ≡ []) × Completes home parts asks.asked.replies r)
      → AsksMembers grown before after given now told more (requests_to request (members_away home reply)) (Completes home reply) end
  members_complete items before after given now told more home kept request parts reply entries result end held same tells asks says =
      let away : requests_for home kept entries ≡ requests_to kept (members_away home parts) = away_of home kept parts entries tells in
      let whole : AsksMembers grown before after given now told more (requests_to kept (members_away home parts)) (Completes home parts) end =
      record {
        asked = asks.asked;
        unasked = asks.unasked;
        asks = asks.asks;
        front = asks.front ∙ away;
        given_all = says;
      } in
      let by_reply : AsksMembers grown before after given now told more (requests_to kept (members_away home reply)) (Completes home reply) end =
      subst (λ (r : ReplyParts). AsksMembers grown before after given now told more (requests_to kept (members_away home r)) (Completes home r) end) same whole in
      subst (λ (q : RequestParts). AsksMembers grown before after given now told more (requests_to q (members_away home reply)) (Completes home reply) end) held by_reply

  -- nothing was asked, for want of memory
  pub nothing_answered : {E : Type 0} → ((seat : S) → grown seat [] seat) → (seat : S) (given : Option (List ℕ)) (told : LinkTold) (home : HomeData)
      (request : RequestParts) (e : E) → Answers (wide home) grown seat seat given given told told request (Err e)
  nothing_answered nothing seat given told home request e = record {
    asked = nothing_asked;
    asks = has_asked_nothing grown nothing seat given told;
    answers = inl refl;
  }

  -- the first alone was asked, and memory ran out then
  pub first_short : {E F : Type 0} (before after : S) (given now : Option (List ℕ)) (told more : LinkTold) (home : HomeData) (request : RequestParts)
      (result : Result Answered E) (e : F) → AsksOne grown before after given now told more request result
      → Answers (wide home) grown before after given now told more request (Err e)
  first_short before after given now told more home request result e one = record {
    asked = one_asked request one.outcome one.reply one.carried;
    asks = one.asks;
    answers = inr (
      record { request = request; outcome = one.outcome; reply = one.reply; outcomes = []; replies = [] },
      refl,
      record { requests = refl; outcomes = refl; replies = refl },
      record { front = omega arith; each = refl },
    );
  }

  -- its outcome is no reply of the entity itself
  pub first_stays : {E F : Type 0} (before after : S) (given now : Option (List ℕ)) (told more : LinkTold) (home : HomeData) (request : RequestParts)
      (first : Answered) → first.is_own ≡ false → AsksOne {E = E} grown before after given now told more request (Ok first)
      → Answers {E = F} (wide home) grown before after given now told more request (Ok first.reply)
  first_stays before after given now told more home request first others one =
      let not_own : is_done one.outcome ≡ false = sym one.replied.1 ∙ others in
      let group : Group = record { request = request; outcome = one.outcome; reply = one.reply; outcomes = []; replies = [] } in
      record {
        asked = one_asked request one.outcome one.reply one.carried;
        asks = one.asks;
        answers = (
          group,
          refl,
          record { requests = refl; outcomes = refl; replies = refl },
          record { all = sym (ap (λ v. length v) (none_behind home request one.outcome not_own)); each = refl },
          one.replied.0 ∙ sym (stays_so home one.outcome one.reply [] not_own),
        );
      }

  -- it is, and members were asked behind it
  module _ (E F : Type 0) (on : (before between after : S) (more then : List (Marked Event Outcome)) → grown before more between → grown between then after → grown before (more ++ then) after)
      (before between after : S) (g g' g'' : Option (List ℕ)) (t t' t'' : LinkTold) (home : HomeData) (request : RequestParts)
      (first : Answered) (result : Result ReplyParts F) (own : first.is_own ≡ true)
      (one : AsksOne {E = E} grown before between g g' t t' request (Ok first))
      (second : AsksMembers grown between after g' g'' t' t'' (requests_to request (members_away home first.reply)) (Completes home first.reply) result) where
    abbrev head : Asked
    head = one_asked request one.outcome one.reply one.carried

    abbrev behind : List RequestParts
    behind = requests_behind home request one.outcome

    abbrev group : Group
    group = record { request = request; outcome = one.outcome; reply = one.reply; outcomes = second.asked.outcomes; replies = second.asked.replies }

    owns : is_done one.outcome ≡ true
    owns = sym one.replied.1 ∙ own

    front : second.asked.requests ++ second.unasked ≡ behind
    front =
        second.front ∙ ap (λ (r : ReplyParts). requests_to request (members_away home r)) one.replied.0
        ∙ sym (behind_own home request one.outcome one.reply one.asks.gives.0 owns one.asks.gives.3)

    many : length second.asked.outcomes ≡ length second.asked.requests
    many = gives-outcomes second.asked.requests second.asked.outcomes second.asked.replies second.asked.carried second.asks.gives

    each : length second.asked.replies ≡ length second.asked.outcomes
    each = gives-length second.asked.requests second.asked.outcomes second.asked.replies second.asked.carried second.asks.gives ∙ sym many

    taken : take (length second.asked.outcomes) behind ≡ second.asked.requests
    taken =
        ap (λ (v : List RequestParts). take (length second.asked.outcomes) v) (sym front)
        ∙ ap (λ (n : ℕ). take n (second.asked.requests ++ second.unasked)) many
        ∙ take-append_seam second.asked.requests second.unasked

    grouped : IsGrouped (wide home) (group ∷ []) (asked_on head second.asked)
    grouped = record {
      requests = append-nil (request ∷ take (length second.asked.outcomes) behind) ∙ ap (λ v. request ∷ v) taken;
      outcomes = append-nil (one.outcome ∷ second.asked.outcomes);
      replies = append-nil (one.reply ∷ second.asked.replies);
    }

    within : length second.asked.outcomes ≤ length behind
    within = omega (arith, many, ap (λ v. length v) front, length-append second.asked.requests second.unasked)

    all_of : second.unasked ≡ [] → length second.asked.outcomes ≡ length behind
    all_of none =
        omega (arith, many, ap (λ v. length v) front, length-append second.asked.requests second.unasked, ap (λ v. length v) none)

    answered : (end : Result ReplyParts F) → IfOk end (λ r. (second.unasked ≡ []) × Completes home first.reply second.asked.replies r)
        → AnswersOne (wide home) request (asked_on head second.asked) end
    answered (Ok reply) says = (
      group,
      refl,
      grouped,
      record { all = all_of says.0; each = each },
      says.1 ∙ ap (λ (r : ReplyParts). completed home r second.asked.replies) one.replied.0
          ∙ sym (told_own home one.outcome one.reply second.asked.replies owns),
    )
    answered (Err e) says = inr (group, refl, grouped, record { front = within; each = each })

    pub first_completed : Answers (wide home) grown before after g g'' t t'' request result
    first_completed = record {
      asked = asked_on head second.asked;
      asks = has_asked_on grown on before between after g g' g'' t t' t'' head second.asked one.asks second.asks;
      answers = answered result second.given_all;
    }
