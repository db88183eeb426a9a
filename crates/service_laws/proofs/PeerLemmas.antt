-- The answer of another CSE to one request.
use Rattle.service_laws.proofs.Words.{◌≡◌, ◌≢◌, ◌≤◌, ℕ, Bool, true, false, List, [], ◌∷◌, ◌++◌, length, map, if◌then◌else◌, Option, Some, None, Result, Ok, Err, IfSome, IsTrue, is_some, ◌⊎◌, inl, inr, refl, sym, ap, subst, ◌∙◌, append-nil, arith, cons_option, list_all, list_any, option_map, option_to_list, result_ok}
use Rattle.service_laws.proofs.Terms.{Carrying, Exchange, made_in, ReplyParts, RequestParts, Runs, readings_of, events_of, outcomes_of, Frame, Request, BeginsWithFrame, BeginsWithFrames, HasNoFrame, reply_text, close_lines, content_lines, id_lines, request_frame, request_text, caller_lines, expiry_lines, host_field, origin_lines, host_of, Peer, Carried, handed_on, EntityData, History, Event, Ask, Outcome, Done, Forward, Item, Ticked, Starved, Step, Ended, Closed, NoFrame, ReadFault, WriteFault, Memory, asks_by, asks_to_close, closes, Says, SinkTold, sink_told, GivesReply, GivesReplies, RepliesBy, malformed, reply_for, request_in, requests_in, talk, talk_texts}
use Rattle.service_laws.proofs.Facts.{cases_Bool, cond-true, cond-false, false≢true, true≢false, Grew-runs, one_reply, told_is_carried, none_some, same_Some, same_first}
use Rattle.std.specs.Fmt.{decimal}
use Rattle.m2m_value.specs.Data.{Data, depth}
use Rattle.m2m_value.specs.Reading.{reading_depth}
use Rattle.m2m_value.specs.Sound.{IsSound}
use Rattle.m2m_names.specs.declared.operations.Op.{Op}
use Rattle.m2m_names.specs.declared.operations.Op.TheVariants.{Create, Retrieve, Update, Notify, Delete as Removal}
use Rattle.m2m_io.specs.Told.{Tells}
use Rattle.primitive_json.specs.Bounds.{is_request_id}
use Rattle.primitive_json.specs.Laws.{IsReplyOfKinds}
use Rattle.primitive_json.specs.declared.request.When.{When}
use Rattle.http_frames.specs.declared.frame.Start.{Start}
use Rattle.http_frames.specs.Frame.{IsFrame}
use Rattle.http_frames.specs.Lines.{Line, is_same_name}
use Rattle.http_frames.specs.declared.frame.Side.TheVariants.{Reply}
use Rattle.http_target.specs.declared.fault.BindFault.{BindFault}
use Rattle.http_binding.specs.Binding.{binding, echo_of, created_type}
use Rattle.http_binding.specs.Headers.{length_field}
use Rattle.http_binding.proofs.BackLemmas.{reply_sound}
use Rattle.http_binding.proofs.LawLemmas.{binds_to_kinds}
use Rattle.http_client_binding.proofs.AskLemmas.{request_back}
use Rattle.binding_laws.proofs.BoundLemmas.{bound_back}
use Rattle.binding_laws.proofs.ToldLemmas.{none_told}
use Rattle.cse_server.specs.Connection.{says_all}
use Rattle.cse_server.specs.Talk.{SaySound}
use Rattle.peer_link.specs.PeerTalk.{PeerTalks, answers_none, is_unanswered, unasked}
use Rattle.service_laws.specs.Laws.{IsFaultless}
use Rattle.service_laws.specs.Peers.{AnAnswerIsThePeers, AnswersBound, AnswersOnce, GivesTold, IsPeersAnswer, IsRefusedThere, RepliesAlone, TheRequestIsAnsweredThere, WhatBindsToNothingIsRefusedThere, WhatIsNoMessageIsRefusedThere}
use Rattle.service_laws.proofs.RepeatLemmas.{of_kinds}
use Rattle.service_laws.proofs.OneWayLemmas.{Settles, heard_one_way, said_whole, settles}
use Rattle.cse_server.specs.Outside.{LinkTold}
use Rattle.desk_replies.proofs.LinkLemmas.{carries_all}
use Rattle.desk_replies.proofs.PlainLemmas.{plain_asked}
use Rattle.desk_replies.specs.Rule.{plainly}
use Rattle.http_forwarding.specs.Answers.{unreached}
use Rattle.cse_machine.specs.Answer.{starved}
use Rattle.std.specs.Prelude.{not}
use Rattle.std.proofs.lemmas.Bool.{and_parts}

-- ---- it closes the connection

any_later : (xs ys : List Line) → list_any asks_by ys ≡ true → list_any asks_by (xs ++ ys) ≡ true
any_later [] ys some = some
any_later (x ∷ xs) ys some = elim (cases_Bool (asks_by x)) [
  | inl t ↦ rw t refl
  | inr f ↦ rw f (any_later xs ys some)
]

asks : (sent : RequestParts) (url : List ℕ) → asks_to_close (request_frame sent url Peer).lines ≡ true
unfolding is_same_name
asks sent url =
    any_later (caller_lines sent url) _
    (any_later (content_lines (created_type sent.op sent.ty) sent.pc) _ refl)

closes_here : (sent : RequestParts) (url : List ℕ) (place : ℕ) → closes place (request_frame sent url Peer) ≡ true
closes_here sent url place = rw (asks sent url) refl

-- ---- its talk

-- the connection was served whole
whole_end : (ended : Ended) → (ended ≡ Closed) ⊎ (ended ≡ NoFrame) → IsFaultless ended
whole_end ended (inl closed) = subst IsFaultless (sym closed) tt
whole_end ended (inr none) = subst IsFaultless (sym none) tt

all_said : (ended : Ended) → IsFaultless ended → says_all ended ≡ true
all_said Closed whole = refl
all_said NoFrame whole = refl
all_said ReadFault whole = absurd whole
all_said WriteFault whole = absurd whole
all_said Memory whole = absurd whole

-- and all of its talk was written
written_all : (ended : Ended) (answer : List ℕ) (place : ℕ) (heard : List Frame) (refused : Bool) (rs : List ReplyParts) (puts : Option ℕ) (new : SinkTold) → IsFaultless ended → new.written ≡ Some answer
    → Says ended (talk_texts place heard refused rs) (sink_told (Some []) puts) new → answer ≡ talk place heard refused rs
written_all ended answer place heard refused rs puts new whole told said =
    said_whole ended [] answer place heard refused rs puts new.puts whole
    (subst (λ (w : Option (List ℕ)). Says ended (talk_texts place heard refused rs) (sink_told (Some []) puts) (sink_told w new.puts)) told said)

-- a lone frame that closes ends the connection
lone_settles : (frame : Frame) (rest : List ℕ) → closes 1 frame ≡ true → Settles 1 Closed false (frame ∷ []) rest
lone_settles frame rest here = record {
  closed = λ f. (refl, λ stays. absurd (true≢false (rw here at stays)));
  refusal = λ t. absurd (false≢true t);
}

-- what is said to a lone frame that closes
lone_talk : (frame : Frame) (replies : List ReplyParts) → closes 1 frame ≡ true
    → talk 1 (frame ∷ []) false replies ≡ reply_text (reply_for frame (request_in frame) replies) true
lone_talk frame replies here = rw here (append-nil _ ∙ append-nil _)

-- ---- its reply

-- the identifier that a refusal repeats is of its kind
abbrev IsOfItsKind : Option (List ℕ) → Type 0
IsOfItsKind id = IfSome id (λ s. IsTrue (is_request_id s))

-- what the lines of a request to another CSE say
abbrev lines_with : List ℕ → Option (List ℕ) → List ℕ → Option When → Option ℕ → Option Data → List ℕ → List Line
lines_with host fr id when type content size =
    ((host_field, host) ∷ (origin_lines fr ++ (id_lines (Some id) ++ expiry_lines when)))
    ++ (content_lines type content ++ ((length_field, size) ∷ close_lines true))

echo_is : (start : Start) (body host : List ℕ) (fr : Option (List ℕ)) (id : List ℕ) (when : Option When) (type : Option ℕ) (content : Option Data) (size : List ℕ)
    → echo_of (record { start = start; lines = lines_with host fr id when type content size; body = body }) ≡ (if is_request_id id then Some id else None)
unfolding is_same_name
echo_is start body host None id None type None size = elim (cases_Bool (is_request_id id)) [ inl t ↦ rw t refl | inr f ↦ rw f refl ]
echo_is start body host None id None type (Some content) size = elim (cases_Bool (is_request_id id)) [ inl t ↦ rw t refl | inr f ↦ rw f refl ]
echo_is start body host None id (Some when) type None size = elim (cases_Bool (is_request_id id)) [ inl t ↦ rw t refl | inr f ↦ rw f refl ]
echo_is start body host None id (Some when) type (Some content) size = elim (cases_Bool (is_request_id id)) [ inl t ↦ rw t refl | inr f ↦ rw f refl ]
echo_is start body host (Some fr) id None type None size = elim (cases_Bool (is_request_id id)) [ inl t ↦ rw t refl | inr f ↦ rw f refl ]
echo_is start body host (Some fr) id None type (Some content) size = elim (cases_Bool (is_request_id id)) [ inl t ↦ rw t refl | inr f ↦ rw f refl ]
echo_is start body host (Some fr) id (Some when) type None size = elim (cases_Bool (is_request_id id)) [ inl t ↦ rw t refl | inr f ↦ rw f refl ]
echo_is start body host (Some fr) id (Some when) type (Some content) size = elim (cases_Bool (is_request_id id)) [ inl t ↦ rw t refl | inr f ↦ rw f refl ]

id_kind : (id : List ℕ) → IsOfItsKind (if is_request_id id then Some id else None)
id_kind id = elim (cases_Bool (is_request_id id)) [
  | inl t ↦ subst IsOfItsKind (sym (cond-true (is_request_id id) (Some id) None t)) t
  | inr f ↦ subst IsOfItsKind (sym (cond-false (is_request_id id) (Some id) None f)) tt
]

echo_kind : (sent : RequestParts) (url : List ℕ) → IsOfItsKind (echo_of (request_frame sent url Peer))
echo_kind sent url =
    let frame = request_frame sent url Peer in
    subst IsOfItsKind
    (sym (echo_is frame.start frame.body (host_of url) sent.fr sent.rqi sent.rqet (created_type sent.op sent.ty) sent.pc (decimal (length frame.body))))
    (id_kind sent.rqi)

-- ---- where its own link answers nothing

-- an exchange that failed has no answer
no_answer : (x : Exchange) (answer : Option (List ℕ)) → x.answer ≡ answer → is_unanswered x ≡ true → answer ≡ None
no_answer x None is failed = refl
no_answer x (Some bytes) is failed = absurd (false≢true (subst (λ (a : Option (List ℕ)). not (is_some a) ≡ true) is failed))

-- and the reply to what went on is that it wasn't reached, or that memory ran out
by_failed : (sent : RequestParts) (reply : ReplyParts) (carrying : Carrying) (made : Option Exchange) → carrying.made ≡ made → list_all is_unanswered (option_to_list made) ≡ true → RepliesBy sent reply carrying → (reply ≡ unreached sent.rqi) ⊎ (reply ≡ starved sent)
by_failed sent reply carrying made is failed (inl short) = inr short.1
by_failed sent reply carrying None is failed (inr by) =
    let made : option_map (λ (x : Exchange). x.answer) None ≡ Some by.1.0 = subst (λ (m : Option Exchange). option_map (λ (x : Exchange). x.answer) m ≡ Some by.1.0) is by.1.1 in
    cc
by_failed sent reply carrying (Some x) is failed (inr by) =
    let here : Some x.answer ≡ Some by.1.0 = subst (λ (m : Option Exchange). option_map (λ (y : Exchange). y.answer) m ≡ Some by.1.0) is by.1.1 in
    let none : by.1.0 ≡ None = no_answer x by.1.0 (same_Some x.answer by.1.0 here) (and_parts (is_unanswered x) true failed).0 in
    inl (subst (λ (a : Option (List ℕ)). Carried a sent.rqi reply) none by.1.2)

gives_alone : (request : RequestParts) (outcome : Outcome) (reply : ReplyParts) (carried : List Carrying) → GivesReply request outcome reply carried → list_all is_unanswered (made_in carried) ≡ true → RepliesAlone request outcome reply
gives_alone request (Done answered) reply carried gives failed = gives.0
gives_alone request (Forward poa sent) reply carried gives failed =
    let made : option_to_list gives.carrying.made ++ [] ≡ option_to_list gives.carrying.made = append-nil (option_to_list gives.carrying.made) in
    by_failed sent reply gives.carrying gives.carrying.made refl
    (subst (λ (xs : List Exchange). list_all is_unanswered xs ≡ true) made
    (subst (λ (v : List Carrying). list_all is_unanswered (made_in v) ≡ true) gives.once failed))
    gives.replies
gives_alone request (Item given) reply carried gives failed = gives.0
gives_alone request Ticked reply carried gives failed = gives.0
gives_alone request (Starved few) reply carried gives failed = gives.0

-- what a link tells that answered nothing
told_failed : (carried : List Carrying) (told : Option (List Exchange)) → Tells (λ list. list ++ made_in carried) (Some []) told → answers_none told ≡ true → list_all is_unanswered (made_in carried) ≡ true
told_failed carried None tells alone = absurd (false≢true alone)
told_failed carried (Some xs) tells alone = subst (λ (v : List Exchange). list_all is_unanswered v ≡ true) tells alone

-- So is that of a reply which an entity gives what a frame is bound to.
told_kind : (frame : Frame) (bound : Result RequestParts BindFault) (before after : EntityData) (given now : Option (List ℕ)) (link : LinkTold) (told : ReplyParts)
    → binding frame ≡ bound → IsOfItsKind (echo_of frame) → AnswersBound before after given now link bound (echo_of frame) told → IsReplyOfKinds told
told_kind frame (Ok asked) before after given now link told is echo answers =
    of_kinds plainly answers.reading asked before after answers.outcome told answers.carried [] (λ outcome reply replies. refl) answers.step answers.gives (binds_to_kinds frame asked is).0.form
told_kind frame (Err fault) before after given now link told is echo answers = subst IsReplyOfKinds (sym answers.0) echo

-- content that is sound, and no deeper than a text is read
both : (pc : Option Data) → IfSome pc IsSound → IfSome pc (λ d. depth d ≤ reading_depth) → IfSome pc (λ d. IsSound d × (depth d ≤ reading_depth))
both None sound shallow = tt
both (Some d) sound shallow = (sound, shallow)

-- a reply that an answer is the text of is known, whatever it holds
pub gives_told : (answer rqi : List ℕ) (told reply : ReplyParts) → answer ≡ reply_text told true → IsReplyOfKinds told → IfSome told.pc IsSound
    → Carried (Some answer) rqi reply → GivesTold rqi told reply
gives_told answer rqi told reply text kind sound carried = record {
  handed = λ can.
      one_reply (Some answer) rqi reply (handed_on rqi told) carried
      (subst (λ (v : List ℕ). Carried (Some v) rqi (handed_on rqi told)) (sym text)
      (told_is_carried told true rqi (record { rqi = kind; pc = both told.pc sound can.depth })
      (reply_sound told true (record { rqi = kind; body = can.body }))));
  unread = λ untold. elim carried [
    | inl said ↦
        absurd (none_told told said.0 true said.1.frame (record { rqi = kind; pc = sound }) untold
        (subst (λ (t : List ℕ). IsFrame Reply t said.1.frame) text said.1.is_frame) said.1.says)
    | inr none ↦ none.1
  ];
}

-- one outcome of one request gives one reply
one_given : (asked : RequestParts) (outcome : Outcome) (replies : List ReplyParts) (carried : List Carrying)
    → GivesReplies (asked ∷ []) (outcome ∷ []) replies carried
    → (reply : ReplyParts) × (replies ≡ reply ∷ []) × GivesReply asked outcome reply carried
one_given asked outcome [] carried g = absurd g
one_given asked outcome (p ∷ []) carried g =
    let whole : g.0 ≡ carried = sym (append-nil g.0) ∙ ap (λ (v : List Carrying). g.0 ++ v) (sym g.4) ∙ sym g.2 in
    (p, refl, subst (λ (v : List Carrying). GivesReply asked outcome p v) whole g.3)
one_given asked outcome (p ∷ q ∷ ps) carried g = absurd g.4

-- the request that the frame is bound to was asked, and nothing else
asked_once : (asked : RequestParts) (before after : EntityData) (given now : Option (List ℕ)) (link : LinkTold) (mine : History)
    (readings : List ℕ) (outcomes : List Outcome) (replies : List ReplyParts) (carried : List Carrying)
    → events_of mine ≡ Ask asked ∷ [] → Runs Step before mine after → readings_of mine ≡ readings → outcomes_of mine ≡ outcomes
    → Tells (λ list. list ++ readings) given now → GivesReplies (asked ∷ []) outcomes replies carried
    → (answers_none link.exchanges ≡ true → list_all is_unanswered (made_in carried) ≡ true)
    → (reply : ReplyParts) × (replies ≡ reply ∷ []) × AnswersOnce before after given now link asked reply
asked_once asked before after given now link [] readings outcomes replies carried events run reads came clock gives failed =
    absurd (none_some (Ask asked) [] events)
asked_once asked before after given now link (m ∷ n ∷ mine) readings outcomes replies carried events run reads came clock gives failed = cc
asked_once asked before after given now link (m ∷ []) readings outcomes replies carried events run reads came clock gives failed =
    let event : m.event ≡ Ask asked = same_first m.event (Ask asked) [] [] events in
    let one = one_given asked m.outcome replies carried (subst (λ (os : List Outcome). GivesReplies (asked ∷ []) os replies carried) (sym came) gives) in
    let step : Step m.reading (Ask asked) before m.outcome run.0 = subst (λ (v : Event). Step m.reading v before m.outcome run.0) event run.1 in (
      one.0,
      one.1,
      record {
        reading = m.reading;
        outcome = m.outcome;
        carried = carried;
        clock = subst (λ (rs : List ℕ). Tells (λ list. list ++ rs) given now) (sym reads) clock;
        step = subst (λ (e : EntityData). Step m.reading (Ask asked) before m.outcome e) (sym run.2) step;
        gives = one.2;
        alone = λ none. gives_alone asked m.outcome one.0 carried one.2 (failed none);
      },
    )

-- nothing was asked
asked_nothing : (before after : EntityData) (mine : History) → events_of mine ≡ [] → Runs Step before mine after → after ≡ before
asked_nothing before after [] events run = run
asked_nothing before after (m ∷ mine) events run = absurd (none_some m.event (events_of mine) (sym events))

-- what was asked for one frame, by what it is bound to
answers_by : (frame : Frame) (bound : Result RequestParts BindFault) (before after : EntityData) (given now : Option (List ℕ)) (link : LinkTold)
    (mine : History) (readings : List ℕ) (outcomes : List Outcome) (replies : List ReplyParts) (carried : List Carrying)
    → events_of mine ≡ map Ask (cons_option (result_ok bound) []) → Runs Step before mine after
    → readings_of mine ≡ readings → outcomes_of mine ≡ outcomes
    → Tells (λ list. list ++ readings) given now → GivesReplies (cons_option (result_ok bound) []) outcomes replies carried
    → (answers_none link.exchanges ≡ true → list_all is_unanswered (made_in carried) ≡ true)
    → AnswersBound before after given now link bound (echo_of frame) (reply_for frame (result_ok bound) replies)
answers_by frame (Ok asked) before after given now link mine readings outcomes replies carried events run reads came clock gives failed =
    let one = asked_once asked before after given now link mine readings outcomes replies carried events run reads came clock gives failed in
    subst (λ (ps : List ReplyParts). AnswersOnce before after given now link asked (reply_for frame (Some asked) ps)) (sym one.1) one.2
answers_by frame (Err fault) before after given now link mine readings outcomes replies carried events run reads came clock gives failed =
    (refl, asked_nothing before after mine events run)

-- ---- together

module _ (sent : RequestParts) (url : List ℕ) (before after : EntityData) (given now : Option (List ℕ)) (answer : List ℕ) (talks : PeerTalks before after given now (request_text sent url Peer) answer) where
  abbrev bytes : List ℕ
  bytes = request_text sent url Peer

  whole_here : IsFaultless talks.ended
  whole_here = whole_end talks.ended talks.whole

  -- what was heard settles the rest of the stream
  settled : Settles 1 talks.ended talks.serves.talks.refused talks.serves.talks.heard talks.serves.talks.stream.0
  settled =
      let stream = talks.serves.talks.stream in
      settles 1 talks.ended talks.serves.talks.refused talks.serves.talks.heard stream.0 talks.new.left whole_here stream.2 stream.3

  -- all of the talk was written
  said_there : answer ≡ talk 1 talks.serves.talks.heard talks.serves.talks.refused talks.serves.talks.answers.replies
  said_there = written_all talks.ended answer 1 talks.serves.talks.heard talks.serves.talks.refused talks.serves.talks.answers.replies _ talks.new.out whole_here
      talks.answer_is talks.serves.talks.says

  -- ---- where its frame stands at the front

  peers_answer : (rest : List ℕ) → BeginsWithFrame Request bytes (request_frame sent url Peer) rest → IsPeersAnswer before after given now talks.new.link (request_frame sent url Peer) sent.rqi answer
  peers_answer rest begins =
      let frame : Frame = request_frame sent url Peer in
      let served = talks.serves.talks in
      let here : closes 1 frame ≡ true = closes_here sent url 1 in
      let alone : BeginsWithFrames Request bytes (frame ∷ []) rest = (rest, begins, refl) in
      let stream = served.stream in
      let heard =
      heard_one_way served.heard (frame ∷ []) 1 talks.ended Closed served.refused false bytes stream.0 rest stream.1 alone served.up_to refl
      settled (lone_settles frame rest here) in
      let asked = talks.serves.asked in
      let asks = talks.serves.asks in
      let plain = plain_asked (requests_in served.heard) asked served.answers in
      let requests : asked.requests ≡ cons_option (result_ok (binding frame)) [] = plain.0 ∙ ap requests_in heard.0 in
      let told : List ℕ = reply_text (reply_for frame (request_in frame) asked.replies) true in
      let said : answer ≡ told =
      said_there
      ∙ (λ i. talk 1 (heard.0 i) (heard.1 i) (sym plain.1 i)) ∙ lone_talk frame asked.replies here in
      let reply : ReplyParts = reply_for frame (request_in frame) asked.replies in
      let answers : AnswersBound before after given now talks.new.link (binding frame) (echo_of frame) reply =
      answers_by frame (binding frame) before after given now talks.new.link asks.asks.mine asks.readings asked.outcomes asked.replies asked.carried
      (asks.asks.events_are ∙ ap (map Ask) requests) (Grew-runs Step asks.asks.grew) asks.asks.readings_are asks.asks.outcomes_are
      (subst (λ (r : Option (List ℕ)). Tells (λ list. list ++ asks.readings) given r) talks.clock asks.clock)
      (subst (λ (rs : List RequestParts). GivesReplies rs asked.outcomes asked.replies asked.carried) requests asks.gives)
      (told_failed asked.carried talks.new.link.exchanges (carries_all asked.carried unasked talks.new.link asks.link).told) in
      let sound : IfSome reply.pc IsSound =
      subst (λ (rs : List ReplyParts). IfSome (reply_for frame (request_in frame) rs).pc IsSound) (sym plain.1)
      (subst (λ (fs : List Frame). SaySound fs served.answers.replies) heard.0 (served.sound (all_said talks.ended whole_here))).0 in
      let kind : IsReplyOfKinds reply = told_kind frame (binding frame) before after given now talks.new.link reply refl (echo_kind sent url) answers in
      record {
        reply = reply;
        answers = answers;
        text = said;
        sound = sound;
        gives = λ other carried. gives_told answer sent.rqi reply other said kind sound carried;
      }

  -- ---- where it is refused

  -- a refusal with an identifier of its kind, or with none, is carried
  refused_so : (id : Option (List ℕ)) → IsOfItsKind id → answer ≡ reply_text (malformed id) true → Carried (Some answer) sent.rqi (malformed (Some sent.rqi))
  refused_so id kind said =
      subst (λ (v : List ℕ). Carried (Some v) sent.rqi (malformed (Some sent.rqi))) (sym said)
      (told_is_carried (malformed id) true sent.rqi (record { rqi = kind; pc = tt })
      (reply_sound (malformed id) true (record { rqi = kind; body = omega arith })))

  bound_to_nothing : (rest : List ℕ) (fault : BindFault) → BeginsWithFrame Request bytes (request_frame sent url Peer) rest → binding (request_frame sent url Peer) ≡ Err fault → IsRefusedThere before after sent.rqi answer
  bound_to_nothing rest fault begins bound =
      let frame = request_frame sent url Peer in
      let peers = peers_answer rest begins in
      let refused = subst (λ (b : Result RequestParts BindFault). AnswersBound before after given now talks.new.link b (echo_of frame) peers.reply) bound peers.answers in
      record {
        stays = refused.1;
        gives = refused_so (echo_of frame) (echo_kind sent url) (peers.text ∙ ap (λ (r : ReplyParts). reply_text r true) refused.0);
      }

  no_message : HasNoFrame Request bytes → bytes ≢ [] → IsRefusedThere before after sent.rqi answer
  no_message none some =
      let served = talks.serves.talks in
      let stream = served.stream in
      let heard =
      heard_one_way served.heard [] 1 talks.ended NoFrame served.refused true bytes stream.0 bytes stream.1 refl served.up_to refl
      settled (record { closed = λ f. absurd (true≢false f); refusal = λ t. (refl, refl, some, none) }) in
      let asks = talks.serves.asks in
      let plain = plain_asked (requests_in served.heard) talks.serves.asked served.answers in
      record {
        stays = asked_nothing before after asks.asks.mine (asks.asks.events_are ∙ ap (map Ask) plain.0 ∙ ap (λ (fs : List Frame). map Ask (requests_in fs)) heard.0) (Grew-runs Step asks.asks.grew);
        gives = refused_so None tt (said_there ∙ (λ i. talk 1 (heard.0 i) (heard.1 i) served.answers.replies));
      }

pub answer_is_the_peers : AnAnswerIsThePeers
answer_is_the_peers sent url rest before after given now answer begins talks = peers_answer sent url before after given now answer talks rest begins

pub refused_there : WhatBindsToNothingIsRefusedThere
refused_there sent url rest fault before after given now answer begins bound talks = bound_to_nothing sent url before after given now answer talks rest fault begins bound

-- the bytes for a request aren't none: they begin with its method
not_none : (x : ℕ) (xs : List ℕ) → x ∷ xs ≡ [] → ⊥
not_none x xs e = cc

some_text : (sent : RequestParts) (url : List ℕ) → request_text sent url Peer ≢ []
some_text sent url none = by_op sent.op none
  where
    by_op : (op : Op) → request_text (record sent { op = op }) url Peer ≡ [] → ⊥
    by_op Create e = not_none _ _ e
    by_op Retrieve e = not_none _ _ e
    by_op Update e = not_none _ _ e
    by_op Removal e = not_none _ _ e
    by_op Notify e = not_none _ _ e

pub no_message_there : WhatIsNoMessageIsRefusedThere
no_message_there sent url before after given now answer none talks = no_message sent url before after given now answer talks none (some_text sent url)

-- the request that the bytes bind to is the one that was sent
pub answered_there : TheRequestIsAnsweredThere
answered_there sent url before after given now answer says talks =
    let back = bound_back sent url says in
    let bytes : List ℕ = request_text sent url Peer in
    let begins = subst (λ (v : List ℕ). BeginsWithFrame Request v (request_frame sent url Peer) []) (append-nil bytes) ((request_back sent url Peer says.sendable).1 []) in
    let peers = peers_answer sent url before after given now answer talks [] begins in (
      back.0,
      back.1,
      peers.reply,
      subst (λ (b : Result RequestParts BindFault). AnswersBound before after given now talks.new.link b (echo_of (request_frame sent url Peer)) peers.reply) back.2 peers.answers,
      peers.text,
      peers.sound,
    )
