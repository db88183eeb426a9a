-- What is told of the members of a group.
use Rattle.service_laws.proofs.Words.{◌≡◌, ℕ, Bool, if◌then◌else◌, true, false, List, [], ◌∷◌, ◌++◌, length, map, Option, Some, None, Result, Ok, Err, inl, inr, refl, sym, ap, subst, ◌∙◌, append-nil, arith, option_map, option_map_or}
use Rattle.service_laws.proofs.Terms.{Carrying, ReplyParts, RequestParts, EntityData, swept, Event, Ask, Outcome, Done, History, HistoryLeaves, Step, GivesReplies, events_of, outcomes_of, readings_of}
use Rattle.service_laws.proofs.Facts.{Grew-runs, cases_Bool, false≢true, none_some, same_first, same_rest, take_all}
use Rattle.std.proofs.Common.{take}
use Rattle.std.specs.Prelude.{unwrap_or}
use Rattle.std.specs.List.{cons_option, filter}
use Rattle.m2m_names.specs.StatusCodes.{rsc_row}
use Rattle.m2m_names.specs.declared.codes.Rsc.{Rsc}
use Rattle.m2m_names.specs.declared.codes.Rsc.TheVariants.{NotReachable, Ok as Fine}
use Rattle.m2m_value.specs.Data.{Data, text}
use Rattle.filter_criteria.specs.Values.{count_data, object_of, where_it}
use Rattle.primitive_json.specs.Members.{name_of_member}
use Rattle.primitive_json.specs.Reading.{pc_name, rqi_name, rsc_name}
use Rattle.primitive_json.specs.declared.member.Member.TheVariants.{Target}
use Rattle.resource_model.specs.Home.{HomeData}
use Rattle.resource_model.specs.Resource.{ResourceData}
use Rattle.addressing.specs.Addresses.{address_of}
use Rattle.addressing.specs.declared.addr.Addr.{Addr}
use Rattle.addressing.specs.declared.addr.Addr.TheVariants.{Foreign, Local, OtherProvider}
use Rattle.addressing.specs.declared.addr.AddrFault.{AddrFault}
use Rattle.addressing.specs.declared.spot.Spot.{Spot}
use Rattle.entity_model.specs.Places.{Effect, absent, refusal, refused, reply_to}
use Rattle.group_fanout.specs.Fan.{Single, addresses_of, fan_effect, fanned, gathered_one, gathering, member_effect, member_effect_by, requests_to, rest_of, sent_to, single_of, singles_of, told_of}
use Rattle.group_fanout.proofs.HomeLemmas.{member_home}
use Rattle.http_forwarding.specs.Carries.{LinkTold}
use Rattle.desk_replies.specs.Replies.{CarriesEach}
use Rattle.cse_machine.specs.Answer.{EventEffect, address_effect, as_done, effect_of, spot_effect}
use Rattle.desk_replies.specs.Rule.{Group, ReplyRule, requests_of}
use Rattle.turn_desk.specs.declared.entry.Entry.{Entry}
use Rattle.std.proofs.lemmas.List.{length-map}
use Rattle.desk_replies.proofs.RepliesLemmas.{gives-length}
use Rattle.remote_members.specs.Remote.{is_foreign, is_remote, remote_address, remote_addresses, entries_anew, replies_left, target_in, told_anew, told_by}
use Rattle.remote_members.specs.Wide.{requests_behind, completed, members_away, with_entries, wide, wide_reply}
use Rattle.remote_members.proofs.RemoteLemmas.{told_gathering}
use Rattle.service_laws.specs.Members.{MembersAreTold, EachMemberAnswersAtItsPlace, IsFannedOut, MembersAnswered}
use Rattle.service_laws.proofs.RepeatLemmas.{first_repeats}

-- ---- one entry

-- where its request went
target_rows : (pc : Option Data) (rqi : Option (List ℕ)) (status : Data) (to : List ℕ)
    → target_in (object_of ((pc_name, pc) ∷ (rqi_name, option_map text rqi) ∷ (rsc_name, Some status) ∷ (name_of_member Target, Some (text to)) ∷ [])) ≡ Some to
target_rows None None status to = refl
target_rows None (Some rqi) status to = refl
target_rows (Some d) None status to = refl
target_rows (Some d) (Some rqi) status to = refl

target_told : (reply : ReplyParts) (to : List ℕ) → target_in (told_of reply to) ≡ Some to
target_told reply to = target_rows reply.pc reply.rqi (count_data (rsc_row reply.rsc).number) to

address_told : (home : HomeData) (reply : ReplyParts) (to : List ℕ) (b : Bool) → is_remote home to ≡ b → remote_address home (told_of reply to) ≡ (if b then Some to else None)
address_told home reply to b is =
    ap (where_it (is_remote home)) (target_told reply to) ∙ ap (λ (v : Bool). if v then Some to else None) is

-- of a member that isn't reached, its own reply is told in the place of that
anew_told : (request : RequestParts) (to : List ℕ) (reply : ReplyParts) → reply.rqi ≡ Some request.rqi → told_anew (told_of (refusal request NotReachable) to) reply ≡ told_of reply to
anew_told request to reply repeats =
    ap (λ (id : Option (List ℕ)).
    object_of ((pc_name, reply.pc) ∷ (rqi_name, option_map text id) ∷ (rsc_name, Some (count_data (rsc_row reply.rsc).number)) ∷ (name_of_member Target, Some (text to)) ∷ []))
    (sym repeats)

-- a member at another CSE isn't reached in the event
unreached_by : (e : EntityData) (request : RequestParts) (a : Result Addr AddrFault) → is_foreign a ≡ true → (member_effect_by e request a).reply ≡ refusal request NotReachable
unreached_by e request (Ok (Local segments)) away = absurd (false≢true away)
unreached_by e request (Ok (Foreign address)) away = refl
unreached_by e request (Ok OtherProvider) away = absurd (false≢true away)
unreached_by e request (Err fault) away = absurd (false≢true away)

-- ---- the entries

-- the addresses of those that are away
away_told : (home : HomeData) (request : RequestParts) (e : EntityData) (addresses : List (List ℕ))
    → remote_addresses home (map gathered_one (singles_of e (requests_to request addresses))) ≡ filter (is_remote home) addresses
away_told home request e [] = refl
away_told home request e (to ∷ addresses) =
    let effect = member_effect e (sent_to request to) in
    let rest = away_told home request effect.after addresses in
    let more = remote_addresses home (map gathered_one (singles_of effect.after (requests_to request addresses))) in
    elim (cases_Bool (is_remote home to)) [
      | inl t ↦
          let kept : filter (is_remote home) (to ∷ addresses) ≡ to ∷ filter (is_remote home) addresses = rw t refl in
          ap (λ (o : Option (List ℕ)). cons_option o more) (address_told home effect.reply to true t) ∙ ap (λ v. to ∷ v) rest ∙ sym kept
      | inr f ↦
          let left : filter (is_remote home) (to ∷ addresses) ≡ filter (is_remote home) addresses = rw f refl in
          ap (λ (o : Option (List ℕ)). cons_option o more) (address_told home effect.reply to false f) ∙ rest ∙ sym left
    ]

-- Each reply has the identifier of the request.
abbrev RepeatAll : RequestParts → List ReplyParts → Type 0
RepeatAll request [] = Unit {0}
RepeatAll request (reply ∷ replies) = (reply.rqi ≡ Some request.rqi) × RepeatAll request replies

-- one entry and those behind it
module _ (home : HomeData) (request : RequestParts) (to : List ℕ) (addresses : List (List ℕ)) (e : EntityData) (same : e.home ≡ home) where
  abbrev effect : Effect
  effect = member_effect e (sent_to request to)

  abbrev behind : List Single
  behind = singles_of effect.after (requests_to request addresses)

  abbrev entry : Data
  entry = told_of effect.reply to

  -- what is told, by the address of a member away
  abbrev Told : Option (List ℕ) → List ReplyParts → Type 0
  Told a rs = MembersAreTold home (single_of (sent_to request to) effect ∷ behind) rs (told_by a entry rs ∷ entries_anew home (map gathered_one behind) (replies_left a rs))

  one_in_order : (b : Bool) → is_remote home to ≡ b → (rs : List ReplyParts) → RepeatAll request rs → length rs ≡ length (filter (is_remote home) (to ∷ addresses))
      → ((ps : List ReplyParts) → RepeatAll request ps → length ps ≡ length (filter (is_remote home) addresses) → MembersAreTold home behind ps (entries_anew home (map gathered_one behind) ps))
      → MembersAreTold home (single_of (sent_to request to) effect ∷ behind) rs (entries_anew home (entry ∷ map gathered_one behind) rs)
  one_in_order false f rs so many later =
      let rest : length rs ≡ length (filter (is_remote home) addresses) = rw f at many in
      subst (λ (a : Option (List ℕ)). Told a rs) (sym (address_told home effect.reply to false f)) (inl (f, refl, later rs so rest))
  one_in_order true t [] so many later =
      let none : 0 ≡ length (to ∷ filter (is_remote home) addresses) = rw t at many in
      let no : ⊥ = omega (arith, none) in
      absurd no
  one_in_order true t (r ∷ rs) so many later =
      let all : length (r ∷ rs) ≡ length (to ∷ filter (is_remote home) addresses) = rw t at many in
      let away : is_foreign (address_of e.home to) ≡ true = ap (λ (h : HomeData). is_foreign (address_of h to)) same ∙ t in
      let unreached : effect.reply ≡ refusal (sent_to request to) NotReachable = unreached_by e (sent_to request to) (address_of e.home to) away in
      let anew : told_anew entry r ≡ told_of r to =
      ap (λ (p : ReplyParts). told_anew (told_of p to) r) unreached ∙ anew_told (sent_to request to) to r so.0 in
      subst (λ (a : Option (List ℕ)). Told a (r ∷ rs)) (sym (address_told home effect.reply to true t))
      (inr (t, r, rs, refl, anew, later rs so.1 (omega (arith, all))))

told_in_order : (home : HomeData) (request : RequestParts) (addresses : List (List ℕ)) (e : EntityData) (replies : List ReplyParts)
    → e.home ≡ home → RepeatAll request replies → length replies ≡ length (filter (is_remote home) addresses)
    → MembersAreTold home (singles_of e (requests_to request addresses)) replies (entries_anew home (map gathered_one (singles_of e (requests_to request addresses))) replies)
told_in_order home request [] e [] same repeat count = refl
told_in_order home request [] e (reply ∷ replies) same repeat count = (let no : ⊥ = omega (arith, count) in absurd no)
told_in_order home request (to ∷ addresses) e replies same repeat count =
    one_in_order home request to addresses e same (is_remote home to) refl replies repeat count
    (λ rs so many. told_in_order home request addresses (member_effect e (sent_to request to)).after rs (member_home e (sent_to request to) ∙ same) so many)

-- ---- the questions

-- each reply to a question repeats the identifier of the request
repeat_all : (request : RequestParts) (history : History) (left after : EntityData) (addresses : List (List ℕ)) (outcomes : List Outcome) (replies : List ReplyParts) (carried : List Carrying)
    → HistoryLeaves left history after → events_of history ≡ map Ask (requests_to request addresses) → outcomes_of history ≡ outcomes
    → GivesReplies (requests_to request addresses) outcomes replies carried → RepeatAll request replies
repeat_all request history left after [] [] [] carried run events came gives = tt
repeat_all request history left after [] [] (p ∷ ps) carried run events came gives = absurd gives
repeat_all request history left after [] (o ∷ os) [] carried run events came gives = absurd gives
repeat_all request history left after [] (o ∷ os) (p ∷ ps) carried run events came gives = absurd gives
repeat_all request history left after (a ∷ addresses) [] [] carried run events came gives = absurd gives
repeat_all request history left after (a ∷ addresses) [] (p ∷ ps) carried run events came gives = absurd gives
repeat_all request history left after (a ∷ addresses) (o ∷ os) [] carried run events came gives = absurd gives
repeat_all request [] left after (a ∷ addresses) (o ∷ os) (p ∷ ps) carried run events came gives =
    absurd (none_some (Ask (sent_to request a)) (map Ask (requests_to request addresses)) events)
repeat_all request (h ∷ history) left after (a ∷ addresses) (o ∷ os) (p ∷ ps) carried run events came gives =
    let asked : h.event ≡ Ask (sent_to request a) = same_first h.event (Ask (sent_to request a)) (events_of history) (map Ask (requests_to request addresses)) events in
    let outcome : h.outcome ≡ o = same_first h.outcome o (outcomes_of history) os came in
    let step : Step h.reading (Ask (sent_to request a)) left o run.0 =
    subst (λ (v : Event). Step h.reading v left o run.0) asked
    (subst (λ (x : Outcome). Step h.reading h.event left x run.0) outcome run.1) in (
      first_repeats h.reading (sent_to request a) left run.0 o p gives.0 step gives.3,
      repeat_all request history run.0 after addresses os ps gives.1 run.2
          (same_rest h.event (Ask (sent_to request a)) (events_of history) (map Ask (requests_to request addresses)) events)
          (same_rest h.outcome o (outcomes_of history) os came) gives.4,
    )

-- ---- the fan-out

-- what a request gives that is fanned out
fanned_effect : (e : EntityData) (request : RequestParts) (group : ResourceData) (rest : List (List ℕ)) → IsFannedOut e request group rest
    → effect_of e request ≡ as_done (fanned e request (requests_to request (addresses_of rest group)))
fanned_effect e request group rest so =
    ap (λ (o : Option Rsc). option_map_or (λ fault. as_done (refused e request fault)) o (address_effect e request (address_of e.home request.to))) so.heard
    ∙ ap (address_effect e request) so.address
    ∙ ap (λ (s : Option Spot). as_done (spot_effect e request s)) so.spot
    ∙ ap (λ (g : Option ResourceData). as_done (option_map_or (fan_effect e request (rest_of e.home request.to so.place)) g (refused e request absent))) so.there
    ∙ ap (λ (o : Option Rsc). as_done (option_map_or (refused e request) o (fanned e request (requests_to request (addresses_of (rest_of e.home request.to so.place) group))))) so.allowed
    ∙ ap (λ (r : List (List ℕ)). as_done (fanned e request (requests_to request (addresses_of r group)))) (sym so.rest_is)

-- the members away that its reply tells of
fanned_away : (e : EntityData) (request : RequestParts) (addresses : List (List ℕ)) (home : HomeData)
    → members_away home (fanned e request (requests_to request addresses)).reply ≡ filter (is_remote home) addresses
fanned_away e request addresses home =
    ap (λ (o : Option (List Data)). remote_addresses home (unwrap_or o [])) (told_gathering (map gathered_one (singles_of e (requests_to request addresses))))
    ∙ away_told home request e addresses

-- and what it tells once they have replies
fanned_completed : (e : EntityData) (request : RequestParts) (addresses : List (List ℕ)) (home : HomeData) (replies : List ReplyParts)
    → completed home (fanned e request (requests_to request addresses)).reply replies
    ≡ reply_to request Fine (Some (gathering (entries_anew home (map gathered_one (singles_of e (requests_to request addresses))) replies)))
fanned_completed e request addresses home replies =
    let own = (fanned e request (requests_to request addresses)).reply in
    ap (λ (o : Option (List Data)). option_map_or (λ entries. with_entries own (entries_anew home entries replies)) o own)
    (told_gathering (map gathered_one (singles_of e (requests_to request addresses))))

-- ---- the whole

-- the entry of the request in front, and those of the questions behind it
module _ (before after : EntityData) (old new : LinkTold) (request : RequestParts) (group : ResourceData) (rest : List (List ℕ)) (reading : ℕ) (later : List ℕ)
    (first reply : ReplyParts) (outcomes : List Outcome) (own : ReplyParts) (replies : List ReplyParts) (carried : List Carrying) (asked : List RequestParts)
    (fan : IsFannedOut (swept reading before) request group rest)
    (are : asked ≡ request ∷ requests_to request (members_away before.home first))
    (gives : GivesReplies asked (Done first ∷ outcomes) (own ∷ replies) carried) (link : CarriesEach carried old new)
    (is : reply ≡ completed before.home own replies) where
  abbrev found : EntityData
  found = swept reading before

  abbrev addresses : List (List ℕ)
  addresses = addresses_of rest group

  abbrev away : List (List ℕ)
  away = filter (is_remote before.home) addresses

  abbrev fan_reply : ReplyParts
  fan_reply = (fanned found request (requests_to request addresses)).reply

  abbrev asked_away : List RequestParts
  asked_away = requests_to request (members_away before.home first)

  by_step : (m : Entry Event Outcome) (mine : History) (run : HistoryLeaves before (m ∷ mine) after) → Step reading (Ask request) before (Done first) run.0
      → readings_of mine ≡ later → events_of mine ≡ map Ask asked_away → outcomes_of mine ≡ outcomes
      → MembersAnswered before after old new request group rest reading later first reply outcomes
  by_step m mine run step readings events came =
      let both : Done first ≡ Done fan_reply = step.0 ∙ ap (λ (effect : EventEffect). effect.outcome) (fanned_effect found request group rest fan) in
      let first_is : first ≡ fan_reply = cc (both) in
      let away_is : members_away before.home first ≡ away = ap (members_away before.home) first_is ∙ fanned_away found request addresses before.home in
      let events_then : events_of mine ≡ map Ask (requests_to request away) = events ∙ ap (λ (tos : List (List ℕ)). map Ask (requests_to request tos)) away_is in
      let all : GivesReplies (request ∷ requests_to request away) (Done first ∷ outcomes) (own ∷ replies) carried =
      subst (λ (rs : List RequestParts). GivesReplies rs (Done first ∷ outcomes) (own ∷ replies) carried)
      (are ∙ ap (λ (tos : List (List ℕ)). request ∷ requests_to request tos) away_is) gives in
      record {
        left = run.0;
        step = step;
        history = mine;
        leaves = run.2;
        readings_are = readings;
        events_are = events_then;
        outcomes_are = came;
        replies = replies;
        carried = all.1;
        gives = all.4;
        link = subst (λ (cs : List Carrying). CarriesEach cs old new) (all.2 ∙ ap (λ (cs : List Carrying). cs ++ all.1) all.3.1) link;
        entries = entries_anew before.home (map gathered_one (singles_of found (requests_to request addresses))) replies;
        reply_is =
            is ∙ ap (λ (r : ReplyParts). completed before.home r replies) (all.3.0 ∙ first_is)
            ∙ fanned_completed found request addresses before.home replies;
        told = told_in_order before.home request addresses found replies refl
            (repeat_all request mine run.0 after away outcomes replies all.1 run.2 events_then came all.4)
            (gives-length (requests_to request away) outcomes replies all.1 all.4 ∙ length-map away (sent_to request));
      }

  by_history : (mine : History) → HistoryLeaves before mine after → readings_of mine ≡ reading ∷ later → events_of mine ≡ map Ask asked
      → outcomes_of mine ≡ Done first ∷ outcomes → MembersAnswered before after old new request group rest reading later first reply outcomes
  by_history [] run readings events came = absurd (none_some reading later readings)
  by_history (m ∷ mine) run readings events came =
      let asks : events_of (m ∷ mine) ≡ Ask request ∷ map Ask asked_away = events ∙ ap (map Ask) are in
      by_step m mine run
      (subst (λ (n : ℕ). Step n (Ask request) before (Done first) run.0) (same_first m.reading reading (readings_of mine) later readings)
      (subst (λ (v : Event). Step m.reading v before (Done first) run.0) (same_first m.event (Ask request) (events_of mine) (map Ask asked_away) asks)
      (subst (λ (o : Outcome). Step m.reading m.event before o run.0) (same_first m.outcome (Done first) (outcomes_of mine) outcomes came) run.1)))
      (same_rest m.reading reading (readings_of mine) later readings)
      (same_rest m.event (Ask request) (events_of mine) (map Ask asked_away) asks)
      (same_rest m.outcome (Done first) (outcomes_of mine) outcomes came)

pub each_member : EachMemberAnswersAtItsPlace
each_member before after given now told more request group rest reading later first reply outcomes answers readings came fan =
    let ran = answers.asks.asks in
    let g : Group = answers.answers.0 in
    let rule : ReplyRule = wide before.home in
    let outcomes_are : g.outcome ∷ g.outcomes ≡ Done first ∷ outcomes = sym (append-nil (g.outcome ∷ g.outcomes)) ∙ answers.answers.2.outcomes ∙ came in
    let outcome_is : g.outcome ≡ Done first = same_first g.outcome (Done first) g.outcomes outcomes outcomes_are in
    let replies_are : g.reply ∷ g.replies ≡ answers.asked.replies = sym (append-nil (g.reply ∷ g.replies)) ∙ answers.answers.2.replies in
    let many : length g.outcomes ≡ length (rule.behind g.request g.outcome) = answers.answers.3.all in
    let whole : take (length g.outcomes) (rule.behind g.request g.outcome) ≡ rule.behind g.request g.outcome =
    take_all (length g.outcomes) (rule.behind g.request g.outcome) (omega (arith, many)) in
    let asked_is : answers.asked.requests ≡ request ∷ requests_to request (members_away before.home first) =
    sym answers.answers.2.requests ∙ append-nil (requests_of rule g) ∙ ap (λ v. g.request ∷ v) whole
    ∙ (λ i. answers.answers.1 i ∷ requests_behind before.home (answers.answers.1 i) (outcome_is i)) in
    by_history before after told more request group rest reading later first reply outcomes g.reply g.replies answers.asked.carried answers.asked.requests fan asked_is
    (subst (λ (os : List Outcome). GivesReplies answers.asked.requests os (g.reply ∷ g.replies) answers.asked.carried) came
    (subst (λ (ps : List ReplyParts). GivesReplies answers.asked.requests answers.asked.outcomes ps answers.asked.carried) (sym replies_are) answers.asks.gives))
    answers.asks.link
    (answers.answers.4 ∙ ap (λ (o : Outcome). wide_reply before.home o g.reply g.replies) outcome_is)
    ran.mine (Grew-runs Step ran.grew) (ran.readings_are ∙ readings) ran.events_are (ran.outcomes_are ∙ came)
