-- Laws of the talk of a connection.
use Rattle.std.specs.Prelude.{◌≡◌, ℕ, true, false, List, [], ◌∷◌, ◌++◌, length, map, Option, Some}
use Rattle.std.specs.Prelude.{⊤, IsTrue}
use Rattle.std.specs.List.{All, list_all, list_any}
use Rattle.m2m_io.specs.Link.{Carrying, Exchange, made_in}
use Rattle.cse_server.specs.Outside.{LinkTold, Outside, outside, sink_told}
use Rattle.turn_desk.specs.Entries.{readings_of, events_of, outcomes_of}
use Rattle.turn_desk.specs.Growth.{IsOwnRun}
use Rattle.desk_replies.specs.Asking.{Asked}
use Rattle.desk_replies.specs.Rule.{ReplyRule, plainly}
use Rattle.remote_members.specs.Wide.{wide}
use Rattle.resource_model.specs.Home.{HomeData}
use Rattle.primitive_json.specs.declared.reply.ReplyParts.{ReplyParts}
use Rattle.primitive_json.specs.declared.request.RequestParts.{RequestParts}
use Rattle.http_frames.specs.declared.frame.Frame.{Frame}
use Rattle.entity_model.specs.Entity.{EntityData, swept}
use Rattle.entity_model.specs.Sound.{IsSoundEntity}
use Rattle.cse_machine.specs.declared.event.Event.TheVariants.{Ask}
use Rattle.cse_machine.specs.declared.event.Outcome.{Outcome}
use Rattle.cse_machine.specs.declared.event.Outcome.TheVariants.{Done}
use Rattle.group_fanout.specs.Rights.{claimed_originator}
use Rattle.guard_laws.specs.Guard.{IsGuarded}
use Rattle.cse_machine.specs.History.{History, HistoryLeaves, IsDone}
use Rattle.machine_laws.specs.Sight.{shape, sight, IsRequestBy, are_calm_but_last, is_calm}
use Rattle.machine_laws.specs.Sight.{is_calm_event}
use Rattle.machine_laws.specs.Sight.{NonePolls, is_polling}
use Rattle.cse_machine.specs.Step.{Step}
use Rattle.cse_server.specs.declared.connection.Ended.{Ended}
use Rattle.cse_server.specs.declared.connection.Ended.TheVariants.{Closed, NoFrame, ReadFault}
use Rattle.cse_server.specs.declared.connection.Ended.TheVariants.{WriteFault, Memory}
use Rattle.cse_server.specs.Talk.{requests_in, reply_texts, some_closes}
use Rattle.cse_server.specs.Connection.{Serves}

-- Where some frame closes, more frames behind these add nothing to what is said, whatever the
-- replies (RFC 9112, section 9.6).
abbrev pub NothingIsAnsweredBehindClose : Type 0
NothingIsAnsweredBehindClose =
    (frames more : List Frame) (place : ℕ) (replies : List ReplyParts)
    → some_closes frames place ≡ true
    → reply_texts (frames ++ more) place replies ≡ reply_texts frames place replies

-- What a connection of a sound entity shows and changes is guarded, by whatever rule it is
-- answered: where the outcome of a request that was asked is a reply, this shows nothing and its
-- step changed nothing but by a grant to the originator, judged on the entity that the history of
-- the requests before it left, with the outcomes that these had and at the readings that the clock
-- gave, and from which what was due is gone.
abbrev pub ServesGuarded : Type 0
ServesGuarded =
    (rule : ReplyRule) (opening after : EntityData) (old new : Outside) (ended : Ended)
    (served : Serves rule (IsOwnRun Step) opening after old new ended)
    (earlier later : List RequestParts) (request : RequestParts)
    (before behind : List Outcome) (reply : ReplyParts)
    → IsSoundEntity opening → served.asked.requests ≡ earlier ++ request ∷ later
    → served.asked.outcomes ≡ before ++ Done reply ∷ behind
    → length earlier ≡ length before
    → (history : History) × (found : EntityData) × (left : EntityData)
    × (reading : ℕ) × (then : List ℕ)
    × HistoryLeaves opening history found × (events_of history ≡ map Ask earlier)
    × (outcomes_of history ≡ before)
    × (served.asks.readings ≡ readings_of history ++ reading ∷ then)
    × Step reading (Ask request) found (Done reply) left
    × IsGuarded (swept reading found) request reply left

-- nothing went wrong with the connection: it was closed, or nothing more can be heard
abbrev pub IsFaultless : Ended → Type 0
IsFaultless Closed = ⊤
IsFaultless NoFrame = ⊤
IsFaultless ReadFault = ⊥
IsFaultless WriteFault = ⊥
IsFaultless Memory = ⊥

-- As long as two links are asked the same, they answer alike. So they do where nothing is asked.
abbrev pub AnswerAlike : List Exchange → List Exchange → Type 0
AnswerAlike [] others = ⊤
AnswerAlike (x ∷ exchanges) [] = ⊤
AnswerAlike (x ∷ exchanges) (y ∷ others) =
    x.host ≡ y.host → x.request ≡ y.request → (x ≡ y) × AnswerAlike exchanges others

-- memory sufficed for carrying a request
abbrev pub HadMemory : Carrying → Type 0
HadMemory carrying = carrying.starved ≡ false

-- Two connections were served with one stream at the same readings, by one rule: the first by the
-- entity `left`, which it left as `after`, and the second by `right`, which it left as `other`.
-- Nothing went wrong with either, there was memory for each question and for what was carried for
-- it, and their links answered alike. What their links told before may differ.
pub record ServesBoth (rule : ReplyRule) (left right after other : EntityData) : Type 0 where
  pub stream : List ℕ
  pub given : List ℕ
  pub told : List ℕ
  -- what was written before, and what is written now
  pub old : List ℕ
  pub new : List ℕ
  pub twin : List ℕ
  -- what is left to read; and the puts and what the links tell, before and now
  pub rest : Option (List ℕ)
  pub other_rest : Option (List ℕ)
  pub puts : Option ℕ
  pub puts_now : Option ℕ
  pub other_puts : Option ℕ
  pub other_puts_now : Option ℕ
  pub link : LinkTold
  pub link_now : LinkTold
  pub other_link : LinkTold
  pub other_link_now : LinkTold
  pub ended : Ended
  pub end : Ended
  pub first : Serves rule (IsOwnRun Step) left after
      (outside (Some stream) (sink_told (Some old) puts) (Some given) link)
      (outside rest (sink_told (Some new) puts_now) (Some told) link_now) ended
  pub second : Serves rule (IsOwnRun Step) right other
      (outside (Some stream) (sink_told (Some old) other_puts) (Some given) other_link)
      (outside other_rest (sink_told (Some twin) other_puts_now) (Some told) other_link_now) end
  pub whole : IsFaultless ended
  pub wholes : IsFaultless end
  pub done : All IsDone first.asked.outcomes
  pub dones : All IsDone second.asked.outcomes
  pub carried : All HadMemory first.asked.carried
  pub carries : All HadMemory second.asked.carried
  pub links : AnswerAlike (made_in first.asked.carried) (made_in second.asked.carried)

-- Both got the same bytes, ended alike, and the same was carried for both.
abbrev pub AreServedAlike :
    {rule : ReplyRule} {left right after other : EntityData}
    → ServesBoth rule left right after other → Type 0
AreServedAlike both =
    (both.new ≡ both.twin) × (both.ended ≡ both.end)
    × (both.first.asked.carried ≡ both.second.asked.carried)

-- A stream is answered in one way, by whatever rule: two connections that are served with it at the
-- same readings by the same entity are served alike, and leave the same entity.
abbrev pub IsAnsweredInOneWay : Type 0
IsAnsweredInOneWay =
    (rule : ReplyRule) (opening after other : EntityData)
    (both : ServesBoth rule opening opening after other)
    → AreServedAlike both × (after ≡ other)

-- None of the requests that were asked at these readings is a poll of the entity that it finds: so
-- it is in the history of them, from the entity that opened to the one after.
pub record NonePolled (opening after : EntityData) (readings : List ℕ) (asked : Asked)
    : Type 0 where
  pub history : History
  pub leaves : HistoryLeaves opening history after
  pub readings_are : readings_of history ≡ readings
  pub events_are : events_of history ≡ map Ask asked.requests
  pub outcomes_are : outcomes_of history ≡ asked.outcomes
  pub none : NonePolls opening history after leaves

-- Equal sights are served alike, by whatever rule: so are two connections that are served by sound
-- entities of which an originator sees the same, where each question that was asked is by that
-- originator; where none of them polls; and where none but the last names policies or rules. The
-- entities have one shape for the originator afterwards; and it sees the same of what they leave,
-- where the last names none either.
abbrev pub EqualSightsAreServedAlike : Type 0
EqualSightsAreServedAlike =
    (rule : ReplyRule) (left right after other : EntityData) (originator : List ℕ)
    (both : ServesBoth rule left right after other)
    → IsSoundEntity left → IsSoundEntity right → sight originator left ≡ sight originator right
    → All (IsRequestBy left.home originator) both.first.asked.requests
    → NonePolled left after both.first.asks.readings both.first.asked
    → IsTrue (are_calm_but_last (map Ask both.first.asked.requests))
    → AreServedAlike both
    × (IsTrue (list_all is_calm_event (map Ask both.first.asked.requests))
    → sight originator after ≡ sight originator other)
    × (shape originator after ≡ shape originator other)

-- What a rule has asked behind a request, at the CSE of a home, is no Retrieve of an address with
-- the segment of a poll point.
abbrev pub PollsNoneBehind : HomeData → ReplyRule → Type 0
PollsNoneBehind home rule =
    (request : RequestParts) (outcome : Outcome)
    → list_any (is_polling home) (rule.behind request outcome) ≡ false

-- Where none of the requests that a connection heard is a Retrieve of an address with the segment of
-- a poll point, and the rule has no such one asked behind them, no question polls. So the bytes of
-- the stream alone can tell that none does.
abbrev pub WithoutTheSegmentNonePolled : Type 0
WithoutTheSegmentNonePolled =
    (rule : ReplyRule) (opening after : EntityData) (old new : Outside) (ended : Ended)
    (served : Serves rule (IsOwnRun Step) opening after old new ended)
    → PollsNoneBehind opening.home rule
    → list_any (is_polling opening.home) (requests_in served.talks.heard) ≡ false
    → NonePolled opening after served.asks.readings served.asked

-- Where nothing is asked behind a request, and where members at other CSEs are, a rule asks for no
-- poll behind one.
abbrev pub TheRulesPollNoneBehind : Type 0
TheRulesPollNoneBehind =
    (home : HomeData) → PollsNoneBehind home plainly × PollsNoneBehind home (wide home)

-- What a rule has asked behind a request is asked for the originator of that, and names no policies
-- or rules where the request names none.
abbrev pub AsksForTheOriginator : ReplyRule → Type 0
AsksForTheOriginator rule =
    (home : HomeData) (request : RequestParts) (outcome : Outcome)
    → All (IsRequestBy home (claimed_originator home request)) (rule.behind request outcome)
    × (IsTrue (is_calm request) → IsTrue (list_all is_calm (rule.behind request outcome)))

-- By such a rule, where each request that a connection heard is an originator's, so is each question;
-- and where none of these requests names policies or rules, no question does. So the bytes of the
-- stream alone can tell that.
abbrev pub WhatIsHeardTellsWhoAsks : Type 0
WhatIsHeardTellsWhoAsks =
    (rule : ReplyRule) (opening after : EntityData) (old new : Outside) (ended : Ended)
    (served : Serves rule (IsOwnRun Step) opening after old new ended)
    (home : HomeData) (originator : List ℕ) → AsksForTheOriginator rule
    → (All (IsRequestBy home originator) (requests_in served.talks.heard)
    → All (IsRequestBy home originator) served.asked.requests)
    × (IsTrue (list_all is_calm (requests_in served.talks.heard))
    → IsTrue (list_all is_calm served.asked.requests))

-- So a rule asks where nothing is asked behind a request, and where members at other CSEs are.
abbrev pub TheRulesAskForTheOriginator : Type 0
TheRulesAskForTheOriginator =
    AsksForTheOriginator plainly × ((home : HomeData) → AsksForTheOriginator (wide home))
