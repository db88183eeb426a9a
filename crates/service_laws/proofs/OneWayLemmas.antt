-- A stream is answered in one way.
use Rattle.service_laws.proofs.Words.{◌≡◌, ◌≢◌, ℕ, ◌+◌, Bool, true, false, List, [], ◌∷◌, ◌++◌, map, Option, Some, IsTrue, inl, inr, refl, sym, ap, subst, ◌∙◌, arith, All, list_all, list_any}
use Rattle.service_laws.proofs.Terms.{ReplyParts, SinkTold, sink_told, readings_of, events_of, outcomes_of, Frame, Request, BeginsWithFrames, BeginsWithFrame, HasNoFrame, EntityData, Event, Ask, Outcome, Done, Forward, Item, Starved, Ticked, History, IsDone, Step, Ended, Closed, NoFrame, ReadFault, WriteFault, Memory, closes, requests_in, talk, talk_texts, some_closes, ends_at_close, RefusesRightly, EndsRightly, Says, GivesReplies}
use Rattle.service_laws.proofs.Facts.{cases_Bool, true≢false, false≢true, append_cancel_left, All-map, Grew-runs, one_way, same_Some}
use Rattle.std.specs.Prelude.{◌&&◌, ◌||◌, Err, Ok, Result, unwrap_or}
use Rattle.std.specs.List.{cons_option, flat_map}
use Rattle.turn_desk.specs.declared.entry.Entry.{Entry}
use Rattle.std.proofs.Common.{None, length, suc, take, zero}
use Rattle.std.proofs.lemmas.Bool.{or_parts}
use Rattle.turn_desk.specs.Growth.{IsOwnRun}
use Rattle.http_frames.proofs.FrameLemmas.{BeginsWith_unique}
use Rattle.http_frames.proofs.InboxLemmas.{none_within}
use Rattle.http_frames.proofs.LookLemmas.{some_bytes}
use Rattle.entity_model.specs.Sound.{IsSoundEntity}
use Rattle.machine_laws.specs.Sight.{IsBy, IsRequestBy, are_calm_but_last, does_poll, is_calm_event, is_polling, is_polling_event, names_poll, sight}
use Rattle.cse_server.specs.Connection.{SaysBeforeLast}
use Rattle.cse_server.proofs.TalkLemmas.{talk_said}
use Rattle.machine_laws.proofs.AlikeLemmas.{none_polls, same_outcomes, stayed_alike}
use Rattle.resource_model.specs.Home.{HomeData}
use Rattle.primitive_json.specs.declared.request.RequestParts.{RequestParts}
use Rattle.service_laws.specs.Laws.{IsFaultless, ServesBoth, AreServedAlike, IsAnsweredInOneWay, EqualSightsAreServedAlike, NonePolled, PollsNoneBehind, TheRulesPollNoneBehind, WithoutTheSegmentNonePolled}
use Rattle.service_laws.proofs.QuestionLemmas.{AreSettled, all_front, front_calm, front_leaves, front_unpolled, same_from, same_told, take_map}
use Rattle.service_laws.proofs.CarriedLemmas.{replies_alike}
use Rattle.desk_replies.specs.Asking.{HasAsked}
use Rattle.desk_replies.specs.Rule.{AreWhole, Group, IsWhole, ReplyRule, requests_of}
use Rattle.addressing.specs.Addresses.{address_of}
use Rattle.addressing.specs.declared.addr.Addr.{Addr}
use Rattle.addressing.specs.declared.addr.Addr.TheVariants.{Foreign, Local, OtherProvider}
use Rattle.addressing.specs.declared.addr.AddrFault.{AddrFault}
use Rattle.filter_criteria.specs.Values.{where_it}
use Rattle.group_fanout.specs.Fan.{requests_to, sent_to}
use Rattle.m2m_value.specs.Data.{Data}
use Rattle.remote_members.specs.Remote.{is_foreign, is_remote, remote_address, remote_addresses, target_in, told_of_members}
use Rattle.remote_members.specs.Wide.{wide}

-- ---- where a stream ends

nothing_begins : HasNoFrame Request []
nothing_begins = none_within Request [] 1 (some_bytes Request []) (omega arith)

-- What is known of the rest of a stream where a connection ended whole: these frames were heard from this place on, and it
-- was refused, or not.
pub record Settles (place : ℕ) (ended : Ended) (refused : Bool) (heard : List Frame) (rest : List ℕ) : Type 0 where
  pub closed : refused ≡ false → (ended ≡ Closed) × (some_closes heard place ≡ false → rest ≡ [])
  pub refusal : refused ≡ true → (ended ≡ NoFrame) × (some_closes heard place ≡ false) × (rest ≢ []) × HasNoFrame Request rest

pub settles : (place : ℕ) (ended : Ended) (refused : Bool) (heard : List Frame) (rest : List ℕ) (now : Option (List ℕ))
    → IsFaultless ended → RefusesRightly place refused heard rest → EndsRightly place ended refused heard rest now
    → Settles place ended refused heard rest
settles place Closed refused heard rest now whole right ends = record {
  closed = λ f. (refl, ends.1);
  refusal = λ t. absurd (true≢false (sym t ∙ ends.0));
}
settles place NoFrame refused heard rest now whole right ends = record {
  closed = λ f. absurd (true≢false (sym ends.0 ∙ f));
  refusal = λ t. (refl, (right t).0, (right t).1, (right t).2);
}
settles place ReadFault refused heard rest now whole right ends = absurd whole
settles place WriteFault refused heard rest now whole right ends = absurd whole
settles place Memory refused heard rest now whole right ends = absurd whole

-- no frame stands at the front of the rest where none closed
none_behind : (place : ℕ) (ended : Ended) (refused : Bool) (heard : List Frame) (rest : List ℕ) → some_closes heard place ≡ false
    → Settles place ended refused heard rest → HasNoFrame Request rest
none_behind place ended true heard rest stays s = (s.refusal refl).3
none_behind place ended false heard rest stays s =
    subst (λ (v : List ℕ). HasNoFrame Request v) (sym ((s.closed refl).1 stays)) nothing_begins

-- one rest is refused or not, and the connection ends so
same_end : (place : ℕ) (ended end : Ended) (refused denied : Bool) (heard : List Frame) (rest : List ℕ)
    → Settles place ended refused heard rest → Settles place end denied heard rest → (refused ≡ denied) × (ended ≡ end)
same_end place ended end true true heard rest s t = (refl, (s.refusal refl).0 ∙ sym (t.refusal refl).0)
same_end place ended end false false heard rest s t = (refl, (s.closed refl).0 ∙ sym (t.closed refl).0)
same_end place ended end true false heard rest s t =
    let no = s.refusal refl in
    absurd (no.2 ((t.closed refl).1 no.1))
same_end place ended end false true heard rest s t =
    let no = t.refusal refl in
    absurd (no.2 ((s.closed refl).1 no.1))

-- none closes behind a frame that doesn't
Settles-behind : (place : ℕ) (ended : Ended) (refused : Bool) (x : Frame) (xs : List Frame) (rest : List ℕ) → closes place x ≡ false
    → Settles place ended refused (x ∷ xs) rest → Settles (place + 1) ended refused xs rest
Settles-behind place ended refused x xs rest f s = record {
  closed = λ e. ((s.closed e).0, λ stays. (s.closed e).1 (rw f stays));
  refusal = λ e. ((s.refusal e).0, rw f at (s.refusal e).1, (s.refusal e).2, (s.refusal e).3);
}

-- nothing is heard behind a frame that closes
last_heard : (place : ℕ) (x : Frame) (xs : List Frame) → closes place x ≡ true → IsTrue (ends_at_close (x ∷ xs) place) → xs ≡ []
last_heard place x [] t up = refl
last_heard place x (y ∷ ys) t up = absurd (false≢true (rw t at up))

up_behind : (place : ℕ) (x : Frame) (xs : List Frame) → closes place x ≡ false → IsTrue (ends_at_close (x ∷ xs) place) → IsTrue (ends_at_close xs (place + 1))
up_behind place x [] f up = refl
up_behind place x (y ∷ ys) f up = rw f at up

-- a stream settles which frames are heard, and how the connection ends
pub heard_one_way : (heard others : List Frame) (place : ℕ) (ended end : Ended) (refused denied : Bool) (stream rest other : List ℕ)
    → BeginsWithFrames Request stream heard rest → BeginsWithFrames Request stream others other
    → IsTrue (ends_at_close heard place) → IsTrue (ends_at_close others place)
    → Settles place ended refused heard rest → Settles place end denied others other
    → (heard ≡ others) × (refused ≡ denied) × (ended ≡ end)
heard_one_way [] [] place ended end refused denied stream rest other a b up ups s t =
    let ends = same_end place ended end refused denied [] rest s (subst (λ (v : List ℕ). Settles place end denied [] v) (sym b ∙ a) t) in
    (refl, ends.0, ends.1)
heard_one_way [] (y ∷ ys) place ended end refused denied stream rest other a b up ups s t =
    absurd (none_behind place ended refused [] rest refl s y b.0 (subst (λ (v : List ℕ). BeginsWithFrame Request v y b.0) a b.1))
heard_one_way (x ∷ xs) [] place ended end refused denied stream rest other a b up ups s t =
    absurd (none_behind place end denied [] other refl t x a.0 (subst (λ (v : List ℕ). BeginsWithFrame Request v x a.0) b a.1))
heard_one_way (x ∷ xs) (y ∷ ys) place ended end refused denied stream rest other a b up ups s t =
    let first = BeginsWith_unique Request stream x y a.0 b.0 a.1 b.1 in
    elim (cases_Bool (closes place y)) [
      | inl c ↦
          let here : closes place x ≡ true = ap (closes place) first.0 ∙ c in
          let alone : xs ≡ [] = last_heard place x xs here up in
          let single : ys ≡ [] = last_heard place y ys c ups in
          let same : x ∷ xs ≡ y ∷ ys = cc (first.0, alone, single) in
          let whole : rest ≡ other =
          sym (subst (λ (fs : List Frame). BeginsWithFrames Request a.0 fs rest) alone a.2) ∙ first.1
          ∙ subst (λ (fs : List Frame). BeginsWithFrames Request b.0 fs other) single b.2 in
          let ends =
          same_end place ended end refused denied (y ∷ ys) other
          (subst (λ (v : List ℕ). Settles place ended refused (y ∷ ys) v) whole
          (subst (λ (fs : List Frame). Settles place ended refused fs rest) same s)) t in
          (same, ends.0, ends.1)
      | inr o ↦
          let here : closes place x ≡ false = ap (closes place) first.0 ∙ o in
          let later =
          heard_one_way xs ys (place + 1) ended end refused denied b.0 rest other
          (subst (λ (v : List ℕ). BeginsWithFrames Request v xs rest) first.1 a.2) b.2
          (up_behind place x xs here up) (up_behind place y ys o ups)
          (Settles-behind place ended refused x xs rest here s) (Settles-behind place end denied y ys other o t) in
          (cc (first.0, later.0), later.1, later.2)
    ]

-- ---- what is said

-- where it ends whole, all of its talk is written
pub said_whole : (ended : Ended) (old new : List ℕ) (place : ℕ) (heard : List Frame) (refused : Bool) (rs : List ReplyParts) (puts now : Option ℕ) → IsFaultless ended
    → Says ended (talk_texts place heard refused rs) (sink_told (Some old) puts) (sink_told (Some new) now) → new ≡ old ++ talk place heard refused rs
said_whole Closed old new place heard refused rs puts now whole said = said.said.written ∙ ap (λ v. old ++ v) (talk_said place heard refused rs)
said_whole NoFrame old new place heard refused rs puts now whole said = said.said.written ∙ ap (λ v. old ++ v) (talk_said place heard refused rs)
said_whole ReadFault old new place heard refused rs puts now whole said = absurd whole
said_whole WriteFault old new place heard refused rs puts now whole said = absurd whole
said_whole Memory old new place heard refused rs puts now whole said = absurd whole

talk_same : (place : ℕ) (heard others : List Frame) (refused denied : Bool) (rs ps : List ReplyParts) → heard ≡ others → refused ≡ denied → rs ≡ ps
    → talk place heard refused rs ≡ talk place others denied ps
talk_same place heard others refused denied rs ps a b c = λ i. talk place (a i) (b i) (c i)

all_done : (mine : History) (outcomes : List Outcome) → outcomes_of mine ≡ outcomes → All IsDone outcomes → All IsDone (outcomes_of mine)
all_done mine outcomes same done = subst (λ (os : List Outcome). All IsDone os) (sym same) done

-- where nothing went wrong, memory didn't run out in what is asked for the last reply
none_cut : (ended : Ended) (texts : List (List ℕ)) (old new : SinkTold) → IsFaultless ended → SaysBeforeLast ended texts old new → ⊥
none_cut Closed texts old new whole cut = cut
none_cut NoFrame texts old new whole cut = cut
none_cut ReadFault texts old new whole cut = cut
none_cut WriteFault texts old new whole cut = whole
none_cut Memory texts old new whole cut = whole

-- so all that is asked for each request was asked
whole_of : (ended : Ended) (flag : Bool) (texts : List (List ℕ)) (old new : SinkTold) → IsFaultless ended → (flag ≡ false → SaysBeforeLast ended texts old new) → flag ≡ true
whole_of ended true texts old new whole cut = refl
whole_of ended false texts old new whole cut = absurd (none_cut ended texts old new whole (cut refl))

-- the readings of a front
front_readings : (n : ℕ) (mine other : History) → readings_of mine ≡ readings_of other → readings_of (take n mine) ≡ readings_of (take n other)
front_readings n mine other same = take_map (λ (e : Entry Event Outcome). e.reading) n mine ∙ ap (λ (v : List ℕ). take n v) same ∙ sym (take_map (λ (e : Entry Event Outcome). e.reading) n other)

-- the events of a front are the questions of it
front_events : (n : ℕ) (mine : History) (requests : List RequestParts) → events_of mine ≡ map Ask requests → events_of (take n mine) ≡ map Ask (take n requests)
front_events n mine requests are = take_map (λ (e : Entry Event Outcome). e.event) n mine ∙ ap (λ (v : List Event). take n v) are ∙ sym (take_map Ask n requests)

front_outcomes : (n : ℕ) (mine : History) (outcomes : List Outcome) → outcomes_of mine ≡ outcomes → outcomes_of (take n mine) ≡ take n outcomes
front_outcomes n mine outcomes are = take_map (λ (e : Entry Event Outcome). e.outcome) n mine ∙ ap (λ (v : List Outcome). take n v) are

-- Two connections with one stream, at the same readings, that ended whole.
module _ (rule : ReplyRule) (left right after other : EntityData) (both : ServesBoth rule left right after other) where
  abbrev one : HasAsked (IsOwnRun Step) left after (Some both.given) (Some both.told) both.link both.link_now both.first.asked
  one = both.first.asks

  abbrev two : HasAsked (IsOwnRun Step) right other (Some both.given) (Some both.told) both.other_link both.other_link_now both.second.asked
  two = both.second.asks

  both_heard : (both.first.talks.heard ≡ both.second.talks.heard) × (both.first.talks.refused ≡ both.second.talks.refused) × (both.ended ≡ both.end)
  both_heard =
      let first = both.first.talks in
      let second = both.second.talks in
      let s = first.stream in
      let t = second.stream in
      heard_one_way first.heard second.heard 1 both.ended both.end first.refused second.refused both.stream s.0 t.0 s.1 t.1 first.up_to second.up_to
      (settles 1 both.ended first.refused first.heard s.0 both.rest both.whole s.2 s.3)
      (settles 1 both.end second.refused second.heard t.0 both.other_rest both.wholes t.2 t.3)

  -- the groups of what was asked
  abbrev groups : List Group
  groups = both.first.talks.answers.groups

  abbrev others : List Group
  others = both.second.talks.answers.groups

  first_whole : All (IsWhole rule) groups
  first_whole =
      let first = both.first.talks in
      subst (λ (flag : Bool). AreWhole rule flag groups)
      (whole_of both.ended first.answers.is_whole (talk_texts 1 first.heard first.refused first.answers.replies)
      (sink_told (Some both.old) both.puts) (sink_told (Some both.new) both.puts_now) both.whole first.cut) first.answers.whole

  second_whole : All (IsWhole rule) others
  second_whole =
      let second = both.second.talks in
      subst (λ (flag : Bool). AreWhole rule flag others)
      (whole_of both.end second.answers.is_whole (talk_texts 1 second.heard second.refused second.answers.replies)
      (sink_told (Some both.old) both.other_puts) (sink_told (Some both.twin) both.other_puts_now) both.wholes second.cut) second.answers.whole

  same_heard : map (λ (group : Group). group.request) groups ≡ map (λ (group : Group). group.request) others
  same_heard =
      both.first.talks.answers.requests_are ∙ ap (λ fs. requests_in fs) both_heard.0 ∙ sym both.second.talks.answers.requests_are

  same_readings : readings_of one.asks.mine ≡ readings_of two.asks.mine
  same_readings =
      one.asks.readings_are ∙ append_cancel_left both.given one.readings two.readings (sym one.clock ∙ two.clock)
      ∙ sym two.asks.readings_are

  abbrev IsSettled : Type 0
  IsSettled = AreSettled both.first.asked.requests both.second.asked.requests both.first.asked.outcomes both.second.asked.outcomes

  -- where the outcomes so far settle the next question, the same is asked, and comes of it
  same_questions : IsSettled → (both.first.asked.requests ≡ both.second.asked.requests) × (both.first.asked.outcomes ≡ both.second.asked.outcomes)
  same_questions settled =
      let a = both.first.talks.answers.grouped in
      let b = both.second.talks.answers.grouped in
      let same =
      same_from rule both.first.asked.requests both.second.asked.requests both.first.asked.outcomes both.second.asked.outcomes settled groups others [] [] refl
      (sym a.requests) (sym b.requests) (sym a.outcomes) (sym b.outcomes) first_whole second_whole same_heard in
      (sym a.requests ∙ same.0 ∙ b.requests, sym a.outcomes ∙ same.1 ∙ b.outcomes)

  -- then so are the replies, and what was carried
  same_answers : IsSettled → (both.first.asked.replies ≡ both.second.asked.replies) × (both.first.asked.carried ≡ both.second.asked.carried)
  same_answers settled =
      let a = both.first.asked in
      let b = both.second.asked in
      let same = same_questions settled in
      replies_alike b.requests b.outcomes a.replies b.replies a.carried b.carried
      (subst (λ (v : List Outcome). GivesReplies b.requests v a.replies a.carried) same.1
      (subst (λ (rs : List RequestParts). GivesReplies rs a.outcomes a.replies a.carried) same.0 one.gives))
      two.gives both.carried both.carries both.links

  same_replies : IsSettled → both.first.talks.answers.replies ≡ both.second.talks.answers.replies
  same_replies settled =
      let a = both.first.talks.answers.grouped in
      let b = both.second.talks.answers.grouped in
      sym both.first.talks.answers.replies_are
      ∙ same_told rule groups others first_whole second_whole same_heard
      (a.outcomes ∙ (same_questions settled).1 ∙ sym b.outcomes)
      (a.replies ∙ (same_answers settled).0 ∙ sym b.replies)
      ∙ both.second.talks.answers.replies_are

  -- and what is written
  same_bytes : IsSettled → both.new ≡ both.twin
  same_bytes settled =
      let first = both.first.talks in
      let second = both.second.talks in
      said_whole both.ended both.old both.new 1 first.heard first.refused first.answers.replies both.puts both.puts_now both.whole first.says
      ∙ ap (λ v. both.old ++ v) (talk_same 1 first.heard second.heard first.refused second.refused first.answers.replies second.answers.replies both_heard.0 both_heard.1
      (same_replies settled))
      ∙ sym (said_whole both.end both.old both.twin 1 second.heard second.refused second.answers.replies both.other_puts both.other_puts_now both.wholes second.says)

  served_same : IsSettled → AreServedAlike both
  served_same settled = (same_bytes settled, both_heard.2, (same_answers settled).1)

  all_first : All IsDone (outcomes_of one.asks.mine)
  all_first = all_done one.asks.mine both.first.asked.outcomes one.asks.outcomes_are both.done

  all_second : All IsDone (outcomes_of two.asks.mine)
  all_second = all_done two.asks.mine both.second.asked.outcomes two.asks.outcomes_are both.dones

  same_events : IsSettled → events_of one.asks.mine ≡ events_of two.asks.mine
  same_events settled = one.asks.events_are ∙ ap (map Ask) (same_questions settled).0 ∙ sym two.asks.events_are

-- a front of the outcomes
fronts_done : (n : ℕ) (mine : History) (outcomes : List Outcome) → outcomes_of mine ≡ outcomes → All IsDone outcomes → All IsDone (outcomes_of (take n mine))
fronts_done n mine outcomes are done =
    subst (λ (os : List Outcome). All IsDone os) (sym (front_outcomes n mine outcomes are)) (all_front IsDone n outcomes done)

-- one entity settles the next question by the outcomes so far
settled_by_one : (rule : ReplyRule) (opening after other : EntityData) (both : ServesBoth rule opening opening after other) → IsSettled rule opening opening after other both
settled_by_one rule opening after other both n same =
    let one = both.first.asks.asks in
    let two = both.second.asks.asks in
    let first = front_leaves n one.mine opening after (Grew-runs Step one.grew) in
    let second = front_leaves n two.mine opening other (Grew-runs Step two.grew) in
    let way =
    one_way (take n one.mine) (take n two.mine) opening first.0 second.0 first.1 second.1
    (front_readings n one.mine two.mine (same_readings rule opening opening after other both))
    (front_events n one.mine both.first.asked.requests one.events_are ∙ ap (map Ask) same ∙ sym (front_events n two.mine both.second.asked.requests two.events_are))
    (fronts_done n one.mine both.first.asked.outcomes one.outcomes_are both.done)
    (fronts_done n two.mine both.second.asked.outcomes two.outcomes_are both.dones) in
    sym (front_outcomes n one.mine both.first.asked.outcomes one.outcomes_are) ∙ way.0
    ∙ front_outcomes n two.mine both.second.asked.outcomes two.outcomes_are

pub answered_in_one_way : IsAnsweredInOneWay
answered_in_one_way rule opening after other both =
    let one = both.first.asks.asks in
    let two = both.second.asks.asks in
    let settled = settled_by_one rule opening after other both in
    let way =
    one_way one.mine two.mine opening after other (Grew-runs Step one.grew) (Grew-runs Step two.grew)
    (same_readings rule opening opening after other both) (same_events rule opening opening after other both settled)
    (all_first rule opening opening after other both) (all_second rule opening opening after other both) in
    (served_same rule opening opening after other both settled, way.1)

-- ---- by one originator

none_asked : (home : HomeData) (requests : List RequestParts) → list_any (is_polling_event home) (map Ask requests) ≡ list_any (is_polling home) requests
none_asked home [] = refl
none_asked home (request ∷ requests) = ap (λ (b : Bool). is_polling home request || b) (none_asked home requests)

or_false : (a b : Bool) → a ≡ false → b ≡ false → a || b ≡ false
or_false a b p q = ap (λ (x : Bool). x || b) p ∙ q

any_front : {A : Type 0} (test : A → Bool) (n : ℕ) (xs : List A) → list_any test xs ≡ false → list_any test (take n xs) ≡ false
any_front test zero xs none = refl
any_front test (suc n) [] none = refl
any_front test (suc n) (x ∷ xs) none =
    let parts = or_parts (test x) (list_any test xs) none in
    or_false (test x) (list_any test (take n xs)) parts.0 (any_front test n xs parts.1)

any_append : {A : Type 0} (test : A → Bool) (xs ys : List A) → list_any test xs ≡ false → list_any test ys ≡ false → list_any test (xs ++ ys) ≡ false
any_append test [] ys none others = others
any_append test (x ∷ xs) ys none others =
    let parts = or_parts (test x) (list_any test xs) none in
    or_false (test x) (list_any test (xs ++ ys)) parts.0 (any_append test xs ys parts.1 others)

-- where no request polls, and nothing behind one, no question does
none_of_groups : (home : HomeData) (rule : ReplyRule) → PollsNoneBehind home rule → (groups : List Group)
    → list_any (is_polling home) (map (λ (group : Group). group.request) groups) ≡ false → list_any (is_polling home) (flat_map (requests_of rule) groups) ≡ false
none_of_groups home rule behind [] none = refl
none_of_groups home rule behind (g ∷ groups) none =
    let parts = or_parts (is_polling home g.request) (list_any (is_polling home) (map (λ (group : Group). group.request) groups)) none in
    any_append (is_polling home) (requests_of rule g) (flat_map (requests_of rule) groups)
    (or_false (is_polling home g.request) _ parts.0 (any_front (is_polling home) (length g.outcomes) (rule.behind g.request g.outcome) (behind g.request g.outcome)))
    (none_of_groups home rule behind groups parts.1)

pub none_polled : WithoutTheSegmentNonePolled
none_polled rule opening after old new ended served behind none =
    let answers = served.talks.answers in
    let one = served.asks.asks in
    let ran = Grew-runs Step one.grew in
    let asked : list_any (is_polling opening.home) served.asked.requests ≡ false =
    ap (list_any (is_polling opening.home)) (sym answers.grouped.requests)
    ∙ none_of_groups opening.home rule behind answers.groups (ap (list_any (is_polling opening.home)) answers.requests_are ∙ none) in
    record {
      history = one.mine;
      leaves = ran;
      readings_are = one.readings_are;
      events_are = one.events_are;
      outcomes_are = one.outcomes_are;
      none = none_polls opening after one.mine ran
          (ap (list_any (is_polling_event opening.home)) one.events_are ∙ none_asked opening.home served.asked.requests ∙ asked);
    }

-- what an originator sees settles the next question by the outcomes so far
settled_by_sight : (rule : ReplyRule) (left right after other : EntityData) (o : List ℕ) (both : ServesBoth rule left right after other)
    → IsSoundEntity left → IsSoundEntity right → sight o left ≡ sight o right
    → All (IsRequestBy left.home o) both.first.asked.requests
    → NonePolled left after both.first.asks.readings both.first.asked
    → are_calm_but_last (map Ask both.first.asked.requests) ≡ true
    → IsSettled rule left right after other both
settled_by_sight rule left right after other o both sound sounds same by none calm n fronts =
    let requests = both.first.asked.requests in
    let one = both.first.asks.asks in
    let two = both.second.asks.asks in
    let first = front_leaves n none.history left after none.leaves in
    let second = front_leaves n two.mine right other (Grew-runs Step two.grew) in
    let asked : events_of (take n none.history) ≡ map Ask (take n requests) = front_events n none.history requests none.events_are in
    let read : readings_of (take n none.history) ≡ readings_of (take n two.mine) =
    front_readings n none.history two.mine (none.readings_are ∙ sym one.readings_are ∙ same_readings rule left right after other both) in
    let way =
    stayed_alike (take n none.history) (take n two.mine) o left right first.0 second.0 sound sounds same first.1 second.1 read
    (asked ∙ ap (map Ask) fronts ∙ sym (front_events n two.mine both.second.asked.requests two.events_are))
    (subst (λ (es : List Event). All (IsBy left.home o) es) (sym asked)
    (All-map (IsBy left.home o) Ask (take n requests) (all_front (IsRequestBy left.home o) n requests by)))
    (ap are_calm_but_last (asked ∙ take_map Ask n requests) ∙ front_calm n (map Ask requests) calm)
    (fronts_done n none.history both.first.asked.outcomes none.outcomes_are both.done)
    (fronts_done n two.mine both.second.asked.outcomes two.outcomes_are both.dones) in
    sym (front_outcomes n none.history both.first.asked.outcomes none.outcomes_are)
    ∙ same_outcomes (take n none.history) (take n two.mine) left first.0 first.1 read (front_unpolled n none.history left after none.leaves none.none) way.answers
    ∙ front_outcomes n two.mine both.second.asked.outcomes two.outcomes_are

pub served_alike : EqualSightsAreServedAlike
served_alike rule left right after other o both sound sounds same by none calm =
    let requests = both.first.asked.requests in
    let one = both.first.asks.asks in
    let two = both.second.asks.asks in
    let settled = settled_by_sight rule left right after other o both sound sounds same by none calm in
    let events : events_of none.history ≡ map Ask requests = none.events_are in
    let read : readings_of none.history ≡ readings_of two.mine = none.readings_are ∙ sym one.readings_are ∙ same_readings rule left right after other both in
    let way =
    stayed_alike none.history two.mine o left right after other sound sounds same none.leaves (Grew-runs Step two.grew)
    read (none.events_are ∙ sym one.events_are ∙ same_events rule left right after other both settled)
    (subst (λ (es : List Event). All (IsBy left.home o) es) (sym events) (All-map (IsBy left.home o) Ask requests by))
    (ap are_calm_but_last events ∙ calm)
    (all_done none.history both.first.asked.outcomes none.outcomes_are both.done) (all_second rule left right after other both) in
    (served_same rule left right after other both settled, λ all. way.seen (ap (list_all is_calm_event) events ∙ all), way.shaped)

-- ---- what a rule has asked behind a request

-- an address at another CSE has no segments here
remote_unpolled : (home : HomeData) (request : RequestParts) (to : List ℕ) → is_remote home to ≡ true → is_polling home (sent_to request to) ≡ false
remote_unpolled home request to away = unnamed (address_of home to) away
  where
    and_nothing : (b : Bool) → b && false ≡ false
    and_nothing true = refl
    and_nothing false = refl

    unnamed : (a : Result Addr AddrFault) → is_foreign a ≡ true → does_poll request.op && names_poll a ≡ false
    unnamed (Ok (Local segments)) away = absurd (false≢true away)
    unnamed (Ok (Foreign text)) away = and_nothing (does_poll request.op)
    unnamed (Ok OtherProvider) away = absurd (false≢true away)
    unnamed (Err fault) away = absurd (false≢true away)

remote_passes : (home : HomeData) (o : Option (List ℕ)) (to : List ℕ) → where_it (is_remote home) o ≡ Some to → is_remote home to ≡ true
remote_passes home None to some = (let no : None ≡ Some to = some in cc)
remote_passes home (Some text) to some = elim (cases_Bool (is_remote home text)) [
  | inl t ↦ (let same : Some text ≡ Some to = rw t at some in subst (λ (x : List ℕ). is_remote home x ≡ true) (same_Some text to same) t)
  | inr f ↦ (let no : None ≡ Some to = rw f at some in cc)
]

none_by : (home : HomeData) (request : RequestParts) (more : List (List ℕ)) (a o : Option (List ℕ)) → where_it (is_remote home) o ≡ a
    → list_any (is_polling home) (requests_to request more) ≡ false → list_any (is_polling home) (requests_to request (cons_option a more)) ≡ false
none_by home request more None o is none = none
none_by home request more (Some to) o is none =
    or_false (is_polling home (sent_to request to)) (list_any (is_polling home) (requests_to request more))
    (remote_unpolled home request to (remote_passes home o to is)) none

remote_none : (home : HomeData) (request : RequestParts) (entries : List Data) → list_any (is_polling home) (requests_to request (remote_addresses home entries)) ≡ false
remote_none home request [] = refl
remote_none home request (entry ∷ entries) =
    none_by home request (remote_addresses home entries) (remote_address home entry) (target_in entry) refl (remote_none home request entries)

wide_polls_none : (home : HomeData) → PollsNoneBehind home (wide home)
wide_polls_none home request (Done reply) = remote_none home request (unwrap_or (told_of_members reply.pc) [])
wide_polls_none home request (Forward poa sent) = refl
wide_polls_none home request (Item given) = refl
wide_polls_none home request Ticked = refl
wide_polls_none home request (Starved done) = refl

pub rules_poll_none : TheRulesPollNoneBehind
rules_poll_none home = (λ request outcome. refl, wide_polls_none home)
