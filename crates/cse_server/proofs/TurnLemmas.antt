-- The turn of one frame, and what stands next on a connection.
use Rattle.std.proofs.Common.{◌≡◌, ◌≢◌, ℕ, ◌+◌, ◌<◌, ◌≤◌, Bool, true, false, List, [], ◌∷◌, ◌++◌, length, Option, Some, None, IfOk, IfSome, IsTrue, MatchOption, Result, Ok, Err, inl, inr, refl, sym, ap, subst, ◌∙◌, arith, append-nil}
use Rattle.std.proofs.lemmas.Bool.{cases_Bool, false≢true, true≢false}
use Rattle.std.proofs.lemmas.Option.{same_Some}
use Rattle.std.specs.Io.KnownBytes.{IsAtEnd}
use Rattle.m2m_io.specs.Counts.{Rose}
use Rattle.cse_server.specs.Outside.{EndsByFault, LinkTold, Outside, PutsPart, SinkTold, outside}
use Rattle.cse_server.specs.Together.{KeepsBack, KeepsBackAllButLast, PutsAll, PutsLast}
use Rattle.primitive_json.specs.declared.reply.ReplyParts.{ReplyParts}
use Rattle.turn_desk.specs.Entries.{Marked}
use Rattle.desk_replies.specs.Answering.{Answers}
use Rattle.desk_replies.specs.Asking.{Asked, HasAsked, nothing_asked}
use Rattle.desk_replies.specs.Rule.{IsAnswered, ReplyRule}
use Rattle.desk_replies.proofs.AskingLemmas.{answered_as, answered_none, answered_one, begun_one, has_asked_nothing, none_begun}
use Rattle.primitive_json.specs.declared.request.RequestParts.{RequestParts}
use Rattle.http_frames.specs.declared.frame.Frame.{Frame}
use Rattle.http_frames.specs.declared.frame.Side.TheVariants.{Request}
use Rattle.http_frames.specs.Stream.{BeginsWithFrames, HasNoFrame}
use Rattle.http_frames.specs.Inbox.{stream_of, Reads, HoldsNoFrame, most_held}
use Rattle.http_binding.specs.Replying.{reply_text}
use Rattle.cse_machine.specs.declared.event.Event.{Event}
use Rattle.cse_machine.specs.declared.event.Outcome.{Outcome}
use Rattle.cse_server.specs.declared.connection.Ended.{Ended}
use Rattle.cse_server.specs.declared.connection.Ended.TheVariants.{Closed, NoFrame, ReadFault, WriteFault, Memory}
use Rattle.cse_server.specs.Closing.{closes}
use Rattle.m2m_value.specs.Sound.{IsSound}
use Rattle.cse_server.specs.Talk.{SaySound, request_in, requests_in, malformed, reply_for, reply_texts, last_reply, talk_texts, texts_to, some_closes, ends_at_close}
use Rattle.cse_server.specs.Connection.{ReadsLittle, RefusesRightly, EndsRightly, ServesFrom, itself, says_all}
use Rattle.cse_server.specs.Way.{AnswersFrame, AsksFrames, Leads, Goes, Hears, Refuses, SaysTurn, Stands, StandsOn, StopsFrom, is_put}
use Rattle.cse_server.proofs.NextLemmas.{kept_leads, reads_little, ended_empty, refused_rightly, reply_texts-one, some_closes-one}
use Rattle.http_binding.specs.Binding.{echo_of}
use Rattle.cse_server.proofs.RequestLemmas.{reply_for-one, requests_in-none, requests_in-one}
use Rattle.cse_server.proofs.StandLemmas.{closed_still, end_cut, end_says, part_said, part_stands, put_stands, said_closed, said_on, said_refused, stands_still, starved_still, unbegun, unread_still, unsaid}
use Rattle.cse_server.proofs.TalkLemmas.{texts_to-one}
use Rattle.cse_server.proofs.TogetherLemmas.{keep_none, within_none}
use Rattle.cse_server.proofs.WayLemmas.{EndsOn, Goes-then, Stops-then}

abbrev is_none_end : Option Ended → Type 0
is_none_end None = Unit {0}
is_none_end (Some e) = ⊥

none_some : {e : Ended} → None ≡ Some e → ⊥
none_some p = subst is_none_end p tt

abbrev end_or : Ended → Option Ended → Ended
end_or e None = e
end_or e (Some d) = d

some_same : (ended : Ended) → Some ended ≡ Some Memory → ended ≡ Memory
some_same ended e = ap (end_or ended) e

-- what is said to one frame, as a text
one_text : (place : ℕ) (frame : Frame) (heard : List Frame) (rs : List ReplyParts) → heard ≡ frame ∷ [] → texts_to heard place rs ≡ reply_texts heard place rs ∷ []
one_text place frame heard rs same =
    ap (λ (fs : List Frame). texts_to fs place rs) same ∙ texts_to-one frame place rs
    ∙ ap (λ v. v ∷ []) (sym (ap (λ (fs : List Frame). reply_texts fs place rs) same ∙ reply_texts-one frame place rs))

-- what an answer to a frame says that ended the connection: one reply
answered_stands : (place : ℕ) (frame : Frame) (ended : Ended) (text before now : List ℕ) (old new : SinkTold) → SaysTurn place frame (Some ended) text before now old new
    → StandsOn (Some ended) (text ∷ []) before now old new
answered_stands place frame Closed text before now old new said = said_closed text before now old new said.1
answered_stands place frame NoFrame text before now old new said = absurd said
answered_stands place frame ReadFault text before now old new said = absurd said
answered_stands place frame WriteFault text before now old new said = part_said text before now old new said
answered_stands place frame Memory text before now old new said = unsaid text before now old new said.0 said.1

-- nothing was said
memory_stands : (waited waiting : List ℕ) (old new : SinkTold) → waiting ≡ waited → new ≡ old → StandsOn (Some Memory) [] waited waiting old new
memory_stands waited waiting old new waits same =
    subst (λ (t : SinkTold). StandsOn (Some Memory) [] waited waiting old t) (sym same)
    (subst (λ (v : List ℕ). StandsOn (Some Memory) [] waited v old old) (sym waits) (starved_still waited old))

-- and where memory ran out before the frame was heard: nothing
unheard_stands : (place : ℕ) (frame : Frame) (ended : Ended) (text before now : List ℕ) (old new : SinkTold) → ended ≡ Memory
    → SaysTurn place frame (Some ended) text before now old new → StandsOn (Some ended) [] before now old new
unheard_stands place frame ended text before now old new memory said =
    let kept = subst (λ (e : Ended). SaysTurn place frame (Some e) text before now old new) memory said in
    subst (λ (e : Ended). StandsOn (Some e) [] before now old new) (sym memory) (memory_stands before now old new kept.0 kept.1)

-- where memory ran out in what was asked for the frame: its reply isn't begun
one_unbegun : (place : ℕ) (frame : Frame) (ended : Ended) (text before now : List ℕ) (old new : SinkTold) → ended ≡ Memory → SaysTurn place frame (Some ended) text before now old new
    → (earlier : List (List ℕ)) (start : SinkTold) → KeepsBack itself earlier before start old → KeepsBackAllButLast itself (earlier ++ text ∷ []) now start new
one_unbegun place frame ended text before now old new memory said earlier start k =
    let kept = subst (λ (e : Ended). SaysTurn place frame (Some e) text before now old new) memory said in
    unbegun text before now old new kept.0 kept.1 earlier start k

turn_ends : (place : ℕ) (frame : Frame) (ended : Ended) (heard : List Frame) (before now : List ℕ) (old new : SinkTold) (text rest : List ℕ)
    (src : Option (List ℕ)) → heard ≡ frame ∷ [] → IfSome src (ReadsLittle rest)
    → SaysTurn place frame (Some ended) text before now old new → EndsRightly place ended false heard rest src
turn_ends place frame Closed heard before now old new text rest src same little said =
    (refl, λ stays. absurd (true≢false (sym (some_closes-one frame place true said.0) ∙ ap (λ (fs : List Frame). some_closes fs place) (sym same) ∙ stays)), little)
turn_ends place frame NoFrame heard before now old new text rest src same little said = absurd said
turn_ends place frame ReadFault heard before now old new text rest src same little said = absurd said
turn_ends place frame WriteFault heard before now old new text rest src same little said = little
turn_ends place frame Memory heard before now old new text rest src same little said = little

turn_stream : (left src : Option (List ℕ)) (held : List ℕ) (place : ℕ) (frame : Frame) (ended : Ended) (heard : List Frame)
    (before now : List ℕ) (old new : SinkTold) (text : List ℕ) → heard ≡ frame ∷ [] → length held < most_held Request
    → Leads left (frame ∷ []) (stream_of held src) → SaysTurn place frame (Some ended) text before now old new
    → IfSome left (EndsOn place ended false heard src)
turn_stream None src held place frame ended heard before now old new text same few leads said = tt
turn_stream (Some bytes) None held place frame ended heard before now old new text same few leads said = absurd leads
turn_stream (Some bytes) (Some m) held place frame ended heard before now old new text same few leads said = (
  held ++ m,
  subst (λ (fs : List Frame). BeginsWithFrames Request bytes fs (held ++ m)) (sym same) leads,
  (λ t. absurd (false≢true t)),
  turn_ends place frame ended heard before now old new text (held ++ m) (Some m) same (record { held = held; rest_is = refl; few = few }) said,
)

starved_stream : (left src : Option (List ℕ)) (place : ℕ) (ended : Ended) (heard : List Frame) → heard ≡ [] → ended ≡ Memory
    → IfSome left (λ bytes. IfSome src (ReadsLittle bytes)) → IfSome left (EndsOn place ended false heard src)
starved_stream None src place ended heard same memory little = tt
starved_stream (Some bytes) src place ended heard same memory little = (
  bytes,
  subst (λ (fs : List Frame). BeginsWithFrames Request bytes fs bytes) (sym same) refl,
  (λ t. absurd (false≢true t)),
  subst (λ (e : Ended). EndsRightly place e false heard bytes src) (sym memory) little,
)

-- where all is said behind the turn of a frame, its reply was written
put_whole : (place : ℕ) (frame : Frame) (text before now : List ℕ) (old new : SinkTold) (ended : Ended) → SaysTurn place frame (Some ended) text before now old new → says_all ended ≡ true → is_put (Some ended) ≡ true
put_whole place frame text before now old new Closed said all = refl
put_whole place frame text before now old new NoFrame said all = absurd said
put_whole place frame text before now old new ReadFault said all = absurd said
put_whole place frame text before now old new WriteFault said all = absurd (false≢true all)
put_whole place frame text before now old new Memory said all = absurd (false≢true all)

module _ {S : Type 0} (rule : ReplyRule) (grown : S → List (Marked Event Outcome) → S → Type 0) where
  -- a frame that binds was asked
  pub heard_one : {E : Type 0} (before after : S) (given now : Option (List ℕ)) (told more : LinkTold) (frame : Frame) (request : RequestParts)
      → request_in frame ≡ Some request → (result : Result ReplyParts E) → Answers rule grown before after given now told more request result
      → Hears rule grown before after given now told more frame result
  heard_one before after given now told more frame request some (Ok reply) by = record {
    heard = frame ∷ [];
    either = inl refl;
    asks = record {
      asked = by.asked;
      asks = by.asks;
      answers = answered_as rule (request ∷ []) (requests_in (frame ∷ [])) by.asked
          (answered_one rule request by.asked by.answers.0 by.answers.1 by.answers.2 by.answers.3) (sym (requests_in-one frame request some));
    };
    replied = (refl, refl, by.answers.4 ∙ sym (reply_for-one frame request _ some));
  }
  heard_one before after given now told more frame request some (Err starved) by = elim by.answers [
    | inl none ↦ record {
      heard = [];
      either = inr refl;
      asks = record {
        asked = by.asked;
        asks = by.asks;
        answers = subst (λ (v : Asked). IsAnswered rule [] v) (sym none) (answered_none rule);
      };
      replied = tt;
    }
    | inr front ↦ record {
      heard = frame ∷ [];
      either = inl refl;
      asks = record {
        asked = by.asked;
        asks = by.asks;
        answers = answered_as rule (request ∷ []) (requests_in (frame ∷ [])) by.asked
            (begun_one rule request by.asked front.0 front.1 front.2 front.3) (sym (requests_in-one frame request some));
      };
      replied = tt;
    }
  ]

  -- the reply to the frame was put, or some of it; or it wasn't begun
  pub turned : {E : Type 0} (place : ℕ) (before after : S) (waited waiting : List ℕ) (old new : Outside) (frame : Frame) (r : ReplyParts) (ended : Option Ended)
      → Hears {E = E} rule grown before after old.readings new.readings old.link new.link frame (Ok r)
      → SaysTurn place frame ended (reply_text r (closes place frame)) waited waiting old.out new.out
      → (is_put ended ≡ true → IfSome r.pc IsSound)
      → AnswersFrame place rule grown before after waited waiting old new frame ended
  turned place before after waited waiting old new frame r ended h said sound =
      let replies = h.asks.answers.replies in
      let one : reply_texts h.heard place replies ≡ reply_texts (frame ∷ []) place replies = ap (λ (fs : List Frame). reply_texts fs place replies) h.replied.0 in record {
        heard = h.heard;
        either = inl h.replied.0;
        asks = h.asks;
        cut = λ begun. absurd (true≢false (sym h.replied.1 ∙ begun));
        said = subst (λ (text : List ℕ). SaysTurn place frame ended text waited waiting old.out new.out)
            (ap (λ (v : ReplyParts). reply_text v (closes place frame)) h.replied.2 ∙ sym (reply_texts-one frame place replies) ∙ sym one) said;
        sound = λ put.
            subst (λ (fs : List Frame). SaySound fs replies) (sym h.replied.0)
            (subst (λ (v : ReplyParts). IfSome v.pc IsSound) h.replied.2 (sound put), tt);
      }

  -- memory ran out before there was a reply
  pub starved_turn : {E : Type 0} (place : ℕ) (before after : S) (waiting : List ℕ) (old new : Outside) (frame : Frame) (r : Result ReplyParts E)
      → Hears rule grown before after old.readings new.readings old.link new.link frame r
      → new.out ≡ old.out → AnswersFrame place rule grown before after waiting waiting old new frame (Some Memory)
  starved_turn place before after waiting old new frame r h same = record {
    heard = h.heard;
    either = elim h.either [
      | inl one ↦ inl one
      | inr none ↦ inr (none, refl)
    ];
    asks = h.asks;
    cut = λ begun. refl;
    said = (refl, same);
    sound = λ put. absurd (false≢true put);
  }

  module _ (nothing : (seat : S) → grown seat [] seat) where
    -- nothing was put to the seat
    asked_none : (seat : S) (given now : Option (List ℕ)) (told more : LinkTold) → now ≡ given → more ≡ told → HasAsked grown seat seat given now told more nothing_asked
    asked_none seat given now told more readings link =
        subst (λ (v : Option (List ℕ)). HasAsked grown seat seat given v told more nothing_asked) (sym readings)
        (subst (λ (v : LinkTold). HasAsked grown seat seat given given told v nothing_asked) (sym link) (has_asked_nothing grown nothing seat given told))

    -- no frame was put to the seat
    abbrev asks_none : (seat : S) (given now : Option (List ℕ)) (told more : LinkTold) → now ≡ given → more ≡ told → AsksFrames rule grown seat seat given now told more []
    asks_none seat given now told more readings link = record {
      asked = nothing_asked;
      asks = asked_none seat given now told more readings link;
      answers = answered_none rule;
    }

    -- a frame that doesn't bind was heard, and refused
    pub heard_none : {E : Type 0} (seat : S) (given : Option (List ℕ)) (told : LinkTold) (frame : Frame) → request_in frame ≡ None
        → (result : Result ReplyParts E) → IfOk result (λ r. r ≡ malformed (echo_of frame))
        → Hears rule grown seat seat given given told told frame result
    heard_none {E} seat given told frame none result refused = record {
      heard = frame ∷ [];
      either = inl refl;
      asks = record {
        asked = nothing_asked;
        asks = has_asked_nothing grown nothing seat given told;
        answers = answered_as rule [] (requests_in (frame ∷ [])) nothing_asked (answered_none rule) (sym (requests_in-none frame none));
      };
      replied = replied result refused;
    }
      where
        replied : (result : Result ReplyParts E) → IfOk result (λ r. r ≡ malformed (echo_of frame))
            → IfOk result (λ r. (frame ∷ [] ≡ frame ∷ []) × (true ≡ true) × (r ≡ reply_for frame (request_in frame) []))
        replied (Ok reply) refused = (refl, refl, refused ∙ sym (ap (λ (o : Option RequestParts). reply_for frame o []) none))
        replied (Err starved) refused = tt

    -- memory ran out before the frame was heard
    pub unheard_turn : (place : ℕ) (seat : S) (waiting : List ℕ) (old : Outside) (frame : Frame) → AnswersFrame place rule grown seat seat waiting waiting old old frame (Some Memory)
    unheard_turn place seat waiting old frame = record {
      heard = [];
      either = inr (refl, refl);
      asks = asks_none seat old.readings old.readings old.link old.link refl refl;
      cut = λ begun. refl;
      said = (refl, refl);
      sound = λ put. tt;
    }

    -- nothing was heard, and the connection ended so
    pub stops_none : (place : ℕ) (seat : S) (waited waiting : List ℕ) (old new : Outside) (refused : Bool) (ended : Ended)
        → new.readings ≡ old.readings → new.link ≡ old.link
        → IfSome old.left (λ bytes. RefusesRightly place refused [] bytes × EndsRightly place ended refused [] bytes new.left)
        → StandsOn (Some ended) (talk_texts place [] refused []) waited waiting old.out new.out
        → StopsFrom place rule grown seat seat waited waiting old new ended
    stops_none place seat waited waiting old new refused ended readings link stream said = record {
      heard = [];
      refused = refused;
      asks = asks_none seat old.readings new.readings old.link new.link readings link;
      up_to = refl;
      stream = here old.left stream;
      said = said;
      sound = λ all. tt;
      cut = λ begun. absurd (true≢false begun);
    }
      where
        here : (left : Option (List ℕ)) → IfSome left (λ bytes. RefusesRightly place refused [] bytes × EndsRightly place ended refused [] bytes new.left)
            → IfSome left (EndsOn place ended refused [] new.left)
        here None h = tt
        here (Some bytes) h = (bytes, refl, h.0, h.1)

    -- the stream ended behind a frame
    pub stops_end : (place : ℕ) (seat : S) (waiting : List ℕ) (left rest : Option (List ℕ)) (held now : List ℕ) (old : SinkTold) (given : Option (List ℕ)) (link : LinkTold)
        → Reads left rest held now → length now < most_held Request → now ≡ [] → IsAtEnd rest
        → StopsFrom place rule grown seat seat waiting waiting (outside (stream_of held left) old given link) (outside rest old given link) Closed
    stops_end place seat waiting left rest held now old given link reads few none end =
        stops_none place seat waiting waiting (outside (stream_of held left) old given link) (outside rest old given link) false Closed refl refl (all left reads) (closed_still waiting old)
      where
        all : (left : Option (List ℕ)) → Reads left rest held now → IfSome (stream_of held left) (λ bytes. RefusesRightly place false [] bytes × EndsRightly place Closed false [] bytes rest)
        all None r = tt
        all (Some l) r =
            let nothing : held ++ l ≡ [] = ended_empty (Some l) rest held now r none end in
            ((λ t. absurd (false≢true t)), (refl, λ stays. nothing, reads_little (Some l) rest held now r few))

    -- reading failed
    pub stops_fault : (place : ℕ) (seat : S) (waiting : List ℕ) (left rest : Option (List ℕ)) (held now : List ℕ) (old : SinkTold) (given : Option (List ℕ)) (link : LinkTold)
        → Reads left rest held now → length now < most_held Request → HasNoFrame Request now → waiting ≡ []
        → StopsFrom place rule grown seat seat waiting waiting (outside (stream_of held left) old given link) (outside rest old given link) ReadFault
    stops_fault place seat waiting left rest held now old given link reads few none put =
        stops_none place seat waiting waiting (outside (stream_of held left) old given link) (outside rest old given link) false ReadFault refl refl (all left rest reads) (unread_still waiting old put)
      where
        all : (left rest : Option (List ℕ)) → Reads left rest held now → IfSome (stream_of held left) (λ bytes. RefusesRightly place false [] bytes × EndsRightly place ReadFault false [] bytes rest)
        all None rest r = tt
        all (Some l) None r = absurd r.consumed
        all (Some l) (Some m) r =
            ((λ t. absurd (false≢true t)), (refl, refl, record { reads = record { held = now; rest_is = kept_leads (Some l) (Some m) held now r; few = few }; none = none }))

    -- memory ran out
    pub stops_starved : (place : ℕ) (seat : S) (waiting : List ℕ) (left rest : Option (List ℕ)) (old : SinkTold) (given : Option (List ℕ)) (link : LinkTold)
        → IfSome left (λ bytes. IfSome rest (ReadsLittle bytes))
        → StopsFrom place rule grown seat seat waiting waiting (outside left old given link) (outside rest old given link) Memory
    stops_starved place seat waiting left rest old given link little =
        stops_none place seat waiting waiting (outside left old given link) (outside rest old given link) false Memory refl refl (all left little) (starved_still waiting old)
      where
        all : (left : Option (List ℕ)) → IfSome left (λ bytes. IfSome rest (ReadsLittle bytes)) → IfSome left (λ bytes. RefusesRightly place false [] bytes × EndsRightly place Memory false [] bytes rest)
        all None h = tt
        all (Some bytes) h = ((λ t. absurd (false≢true t)), h)

    -- no frame can stand
    pub stops_refused : (place : ℕ) (seat : S) (waited waiting : List ℕ) (left rest : Option (List ℕ)) (held now : List ℕ) (old new : SinkTold) (given : Option (List ℕ)) (link : LinkTold) (ended : Ended)
        → Reads left rest held now → length now < most_held Request → HoldsNoFrame Request now rest → Refuses waited waiting old new ended
        → StopsFrom place rule grown seat seat waited waiting (outside (stream_of held left) old given link) (outside rest new given link) ended
    stops_refused place seat waited waiting left rest held now old new given link ended reads few holds put =
        stops_none place seat waited waiting (outside (stream_of held left) old given link) (outside rest new given link) true ended refl refl
        (all left reads ended put) (says ended put)
      where
        says : (ended : Ended) → Refuses waited waiting old new ended → StandsOn (Some ended) (last_reply ∷ []) waited waiting old new
        says Closed put = absurd put
        says NoFrame put = said_refused last_reply waited waiting old new put
        says ReadFault put = absurd put
        says WriteFault put = part_said last_reply waited waiting old new put
        says Memory put = unsaid last_reply waited waiting old new put.0 put.1

        ends : (ended : Ended) (bytes : List ℕ) → Refuses waited waiting old new ended → IfSome rest (ReadsLittle bytes) → EndsRightly place ended true [] bytes rest
        ends Closed bytes put little = absurd put
        ends NoFrame bytes put little = (refl, little)
        ends ReadFault bytes put little = absurd put
        ends WriteFault bytes put little = little
        ends Memory bytes put little = little

        all : (left : Option (List ℕ)) → Reads left rest held now → (ended : Ended) → Refuses waited waiting old new ended
            → IfSome (stream_of held left) (λ bytes. RefusesRightly place true [] bytes × EndsRightly place ended true [] bytes rest)
        all None r ended put = tt
        all (Some l) r ended put =
            let right = refused_rightly (Some l) rest held now r holds in
            ((λ t. (refl, right.0, right.1)), ends ended (held ++ l) put (reads_little (Some l) rest held now r few))

    -- a part of what waits was put
    pub stops_part : (place : ℕ) (seat : S) (waited waiting : List ℕ) (left : Option (List ℕ)) (held : List ℕ) (old new : SinkTold) (given : Option (List ℕ)) (link : LinkTold)
        → length held < most_held Request → waited ≢ [] → PutsPart waited old new
        → StopsFrom place rule grown seat seat waited waiting (outside (stream_of held left) old given link) (outside left new given link) WriteFault
    stops_part place seat waited waiting left held old new given link few some part =
        stops_none place seat waited waiting (outside (stream_of held left) old given link) (outside left new given link) false WriteFault refl refl (all left)
        (part_stands waited waiting old new some part)
      where
        all : (left : Option (List ℕ)) → IfSome (stream_of held left) (λ bytes. RefusesRightly place false [] bytes × EndsRightly place WriteFault false [] bytes left)
        all None = tt
        all (Some l) = ((λ t. absurd (false≢true t)), record { held = held; rest_is = refl; few = few })

    -- all that waits was put
    pub put_goes : (place : ℕ) (seat : S) (waited waiting : List ℕ) (left : Option (List ℕ)) (old new : SinkTold) (given : Option (List ℕ)) (link : LinkTold) → PutsAll waited waiting old new
        → Goes place place rule grown seat seat waited waiting (outside left old given link) (outside left new given link)
    put_goes place seat waited waiting left old new given link put = record {
      heard = [];
      asks = asks_none seat given given link link refl refl;
      all = refl;
      places = omega arith;
      stays_on = refl;
      stream = here left;
      said = put_stands waited waiting old new put;
      sound = tt;
    }
      where
        here : (left : Option (List ℕ)) → Leads left [] left
        here None = tt
        here (Some bytes) = refl

  -- the frame was answered, and the connection goes on
  goes_on : (place : ℕ) (before after : S) (waited waiting : List ℕ) (left rest : Option (List ℕ)) (old new : Outside) (frame : Frame)
      → Leads left (frame ∷ []) rest → AnswersFrame place rule grown before after waited waiting old new frame None
      → Goes place (place + 1) rule grown before after waited waiting (outside left old.out old.readings old.link)
      (outside rest new.out new.readings new.link)
  goes_on place before after waited waiting left rest old new frame leads t = record {
    heard = t.heard;
    asks = t.asks;
    all = elim (cases_Bool t.asks.answers.is_whole) [
      | inl whole ↦ whole
      | inr begun ↦ absurd (none_some (t.cut begun))
    ];
    places = ap (λ (fs : List Frame). place + length fs) e;
    stays_on = rw e (some_closes-one frame place false t.said.0);
    stream = subst (λ (fs : List Frame). Leads left fs rest) (sym e) leads;
    said = subst (λ (v : List (List ℕ)). StandsOn None v waited waiting old.out new.out) (sym (one_text place frame t.heard t.asks.answers.replies e))
        (said_on (reply_texts t.heard place t.asks.answers.replies) waited waiting old.out new.out t.said.1);
    sound = t.sound refl;
  }
    where
      e : t.heard ≡ frame ∷ []
      e = elim t.either [ inl same ↦ same | inr starved ↦ absurd (none_some starved.1) ]

  -- the frame was answered, and the connection ended
  pub stops_turn : (place : ℕ) (before after : S) (waited waiting : List ℕ) (left src : Option (List ℕ)) (held : List ℕ) (old new : Outside) (frame : Frame) (ended : Ended)
      → length held < most_held Request → IfSome left (λ bytes. IfSome src (ReadsLittle bytes))
      → Leads left (frame ∷ []) (stream_of held src) → AnswersFrame place rule grown before after waited waiting old new frame (Some ended)
      → StopsFrom place rule grown before after waited waiting (outside left old.out old.readings old.link)
      (outside src new.out new.readings new.link) ended
  stops_turn place before after waited waiting left src held old new frame ended few little leads t =
      let replies = t.asks.answers.replies in
      let text = reply_texts t.heard place replies in record {
        heard = t.heard;
        refused = false;
        asks = t.asks;
        up_to = elim t.either [
          | inl same ↦ subst (λ (fs : List Frame). IsTrue (ends_at_close fs place)) (sym same) refl
          | inr starved ↦ subst (λ (fs : List Frame). IsTrue (ends_at_close fs place)) (sym starved.0) refl
        ];
        stream = elim t.either [
          | inl same ↦ turn_stream left src held place frame ended t.heard waited waiting old.out new.out text same few leads t.said
          | inr starved ↦ starved_stream left src place ended t.heard starved.0 (some_same ended starved.1) little
        ];
        said = elim t.either [
          | inl same ↦
              subst (λ (v : List (List ℕ)). StandsOn (Some ended) v waited waiting old.out new.out) (sym (append-nil (texts_to t.heard place replies) ∙ one_text place frame t.heard replies same))
              (answered_stands place frame ended text waited waiting old.out new.out t.said)
          | inr starved ↦
              subst (λ (v : List (List ℕ)). StandsOn (Some ended) v waited waiting old.out new.out) (sym (append-nil (texts_to t.heard place replies) ∙ ap (λ (fs : List Frame). texts_to fs place replies) starved.0))
              (unheard_stands place frame ended text waited waiting old.out new.out (some_same ended starved.1) t.said)
        ];
        sound = λ all. t.sound (put_whole place frame text waited waiting old.out new.out ended t.said all);
        cut = λ begun. elim t.either [
          | inl same ↦
              let memory = some_same ended (t.cut begun) in (
                memory,
                λ earlier start k. subst (λ (v : List (List ℕ)). KeepsBackAllButLast itself (earlier ++ v) waiting start new.out) (sym (append-nil (texts_to t.heard place replies) ∙ one_text place frame t.heard replies same))
                    (one_unbegun place frame ended text waited waiting old.out new.out memory t.said earlier start k),
              )
          | inr starved ↦ absurd (none_begun rule (requests_in t.heard) t.asks.asked t.asks.answers (ap (λ (fs : List Frame). requests_in fs) starved.0) begun)
        ];
      }

  -- a frame stood next, and was answered
  pub message_next : (place : ℕ) (before after : S) (waited waiting : List ℕ) (left src : Option (List ℕ)) (held : List ℕ) (old new : Outside) (frame : Frame) (r : Option Ended) (P : Type 0) → P
      → length held < most_held Request → IfSome left (λ bytes. IfSome src (ReadsLittle bytes))
      → Leads left (frame ∷ []) (stream_of held src) → AnswersFrame place rule grown before after waited waiting old new frame r
      → MatchOption r
      (P × Goes place (place + 1) rule grown before after waited waiting (outside left old.out old.readings old.link)
      (outside (stream_of held src) new.out new.readings new.link))
      (StopsFrom place rule grown before after waited waiting (outside left old.out old.readings old.link)
      (outside src new.out new.readings new.link))
  message_next place before after waited waiting left src held old new frame None P p few little leads t =
      (p, goes_on place before after waited waiting left (stream_of held src) old new frame leads t)
  message_next place before after waited waiting left src held old new frame (Some ended) P p few little leads t =
      stops_turn place before after waited waiting left src held old new frame ended few little leads t

  module _ (nothing : (seat : S) → grown seat [] seat) where
    -- no frame stood yet
    pub goes_none : (place : ℕ) (seat : S) (waiting : List ℕ) (left : Option (List ℕ)) (held : List ℕ) (old : SinkTold) (given : Option (List ℕ)) (link : LinkTold) → held ≡ []
        → Goes place place rule grown seat seat waiting waiting (outside left old given link) (outside (stream_of held left) old given link)
    goes_none place seat waiting left held old given link none = record {
      heard = [];
      asks = asks_none nothing seat given given link link refl refl;
      all = refl;
      places = omega arith;
      stays_on = refl;
      stream = rw none (start left);
      said = stands_still waiting old;
      sound = tt;
    }
      where
        start : (left : Option (List ℕ)) → Leads left [] (stream_of [] left)
        start None = tt
        start (Some bytes) = refl

-- what follows where a call didn't end the connection
pub next_goes : (Goes : Type 0) (Serves : Ended → Type 0) (r : Option Ended) → ((ended : Ended) → r ≡ Some ended → ⊥) → MatchOption r Goes Serves → Goes
next_goes Goes Serves None none next = next
next_goes Goes Serves (Some ended) none next = absurd (none ended refl)

-- ---- once what waits is put

cut_ends : (place : ℕ) (ended : Ended) (refused : Bool) (heard : List Frame) (rest : List ℕ) (now : Option (List ℕ)) (texts : List (List ℕ)) (waiting : List ℕ) (old mid : SinkTold)
    → Stands (Some ended) texts waiting old mid → waiting ≢ [] → EndsRightly place ended refused heard rest now → IfSome now (ReadsLittle rest)
cut_ends place Closed refused heard rest now texts waiting old mid s some ends = ends.2
cut_ends place NoFrame refused heard rest now texts waiting old mid s some ends = ends.1
cut_ends place ReadFault refused heard rest now texts waiting old mid s some ends = absurd (some s.0)
cut_ends place WriteFault refused heard rest now texts waiting old mid s some ends = ends
cut_ends place Memory refused heard rest now texts waiting old mid s some ends = ends

end_rightly : (place : ℕ) (ended now : Ended) (refused : Bool) (heard : List Frame) (rest : List ℕ) (left : Option (List ℕ)) (texts : List (List ℕ)) (waiting : List ℕ) (old mid new : SinkTold)
    → Stands (Some ended) texts waiting old mid → PutsLast WriteFault ended now waiting mid new → EndsRightly place ended refused heard rest left → EndsRightly place now refused heard rest left
end_rightly place ended now refused heard rest left texts waiting old mid new s last ends = elim last [
  | inl failed ↦ subst (λ (e : Ended). EndsRightly place e refused heard rest left) (failed.0 ∙ sym failed.1) ends
  | inr on ↦ elim on.1 [
    | inl put ↦ subst (λ (e : Ended). EndsRightly place e refused heard rest left) (sym put.0) ends
    | inr part ↦
        subst (λ (e : Ended). EndsRightly place e refused heard rest left) (sym part.0)
        (cut_ends place ended refused heard rest left texts waiting old mid s part.1 ends)
  ]
]

end_stream : (place : ℕ) (ended now : Ended) (refused : Bool) (heard : List Frame) (stream left : Option (List ℕ)) (texts : List (List ℕ)) (waiting : List ℕ) (old mid new : SinkTold)
    → Stands (Some ended) texts waiting old mid → PutsLast WriteFault ended now waiting mid new → IfSome stream (EndsOn place ended refused heard left) → IfSome stream (EndsOn place now refused heard left)
end_stream place ended now refused heard None left texts waiting old mid new s last ends = tt
end_stream place ended now refused heard (Some bytes) left texts waiting old mid new s last ends =
    (ends.0, ends.1, ends.2, end_rightly place ended now refused heard ends.0 left texts waiting old mid new s last ends.3)

-- what is whole then was whole before
still_whole : (ended now : Ended) (waiting : List ℕ) (mid new : SinkTold) → PutsLast WriteFault ended now waiting mid new → says_all now ≡ true → says_all ended ≡ true
still_whole ended now waiting mid new last all = elim last [
  | inl failed ↦ absurd (false≢true (subst (λ (e : Ended). says_all e ≡ true) failed.1 all))
  | inr on ↦ elim on.1 [
    | inl put ↦ subst (λ (e : Ended). says_all e ≡ true) put.0 all
    | inr part ↦ absurd (false≢true (subst (λ (e : Ended). says_all e ≡ true) part.0 all))
  ]
]

module _ {S : Type 0} (rule : ReplyRule) (grown : S → List (Marked Event Outcome) → S → Type 0) where
  -- how the replies stand where none waited at first
  pub stands_first : (place : ℕ) (before after : S) (waiting : List ℕ) (old mid : Outside) (ended : Ended) → (stops : StopsFrom place rule grown before after [] waiting old mid ended)
      → Stands (Some ended) (talk_texts place stops.heard stops.refused stops.asks.answers.replies) waiting old.out mid.out
  stands_first place before after waiting old mid ended stops = stops.said [] old.out (keep_none itself old.out)

  pub put_last_ends : (place : ℕ) (before after : S) (waiting : List ℕ) (old mid new : Outside) (ended now : Ended)
      → new.left ≡ mid.left → new.readings ≡ mid.readings → new.link ≡ mid.link
      → StopsFrom place rule grown before after [] waiting old mid ended → PutsLast WriteFault ended now waiting mid.out new.out
      → ServesFrom place rule grown before after old new now
  put_last_ends place before after waiting old mid new ended now left readings link stops last =
      let replies = stops.asks.answers.replies in
      let texts = talk_texts place stops.heard stops.refused replies in
      let s = stands_first place before after waiting old mid ended stops in record {
        asked = stops.asks.asked;
        asks =
            subst (λ (v : Option (List ℕ)). HasAsked grown before after old.readings v old.link new.link stops.asks.asked) (sym readings)
            (subst (λ (v : LinkTold). HasAsked grown before after old.readings mid.readings old.link v stops.asks.asked) (sym link) stops.asks.asks);
        talks = record {
          heard = stops.heard;
          refused = stops.refused;
          answers = stops.asks.answers;
          up_to = stops.up_to;
          stream = subst (λ (v : Option (List ℕ)). IfSome old.left (EndsOn place now stops.refused stops.heard v)) (sym left)
              (end_stream place ended now stops.refused stops.heard old.left mid.left texts waiting old.out mid.out new.out s last stops.stream);
          says = end_says ended now texts waiting old.out mid.out new.out s last;
          sound = λ all. stops.sound (still_whole ended now waiting mid.out new.out last all);
          cut = λ begun.
              let c = stops.cut begun in
              end_cut ended now texts waiting old.out mid.out new.out c.0 (c.1 [] old.out (keep_none itself old.out)) last;
        };
      }

  -- memory ran out before the first frame
  pub serves_starved : (nothing : (seat : S) → grown seat [] seat) (place : ℕ) (seat : S) (left : Option (List ℕ)) (old : SinkTold) (given : Option (List ℕ)) (link : LinkTold)
      → IfSome left (λ bytes. IfSome left (ReadsLittle bytes))
      → ServesFrom place rule grown seat seat (outside left old given link) (outside left old given link) Memory
  serves_starved nothing place seat left old given link little = record {
    asked = nothing_asked;
    asks = has_asked_nothing grown nothing seat given link;
    talks = record {
      heard = [];
      refused = false;
      answers = answered_none rule;
      up_to = refl;
      stream = here left little;
      says = inl (within_none old);
      sound = λ all. tt;
      cut = λ begun. absurd (true≢false begun);
    };
  }
    where
      here : (l : Option (List ℕ)) → IfSome l (λ bytes. IfSome left (ReadsLittle bytes)) → IfSome l (EndsOn place Memory false [] left)
      here None h = tt
      here (Some bytes) h = (bytes, refl, (λ t. absurd (false≢true t)), h)

-- all that waits was put, and then it goes on or ends
module _ {S : Type 0} (rule : ReplyRule) (grown : S → List (Marked Event Outcome) → S → Type 0) (on : (before between after : S) (more then : List (Marked Event Outcome)) → grown before more between → grown between then after → grown before (more ++ then) after) (nothing : (seat : S) → grown seat [] seat) where
  pub put_next : (place : ℕ) (seat after : S) (waited waits waiting : List ℕ) (left : Option (List ℕ)) (old mid : SinkTold) (given : Option (List ℕ)) (link : LinkTold) (more new : Outside) (r : Option Ended) (P : Type 0)
      → PutsAll waited waits old mid
      → MatchOption r (P × Goes place (place + 1) rule grown seat after waits waiting (outside left mid given link) more)
      (StopsFrom place rule grown seat after waits waiting (outside left mid given link) new)
      → MatchOption r (P × Goes place (place + 1) rule grown seat after waited waiting (outside left old given link) more)
      (StopsFrom place rule grown seat after waited waiting (outside left old given link) new)
  put_next place seat after waited waits waiting left old mid given link more new None P put next = (
    next.0,
    Goes-then rule grown on place place (place + 1) seat seat after waited waits waiting (outside left old given link) (outside left mid given link) more
        (put_goes rule grown nothing place seat waited waits left old mid given link put) next.1,
  )
  put_next place seat after waited waits waiting left old mid given link more new (Some ended) P put next =
      Stops-then rule grown on place place seat seat after waited waits waiting (outside left old given link) (outside left mid given link) new ended
      (put_goes rule grown nothing place seat waited waits left old mid given link put) next

-- ---- how a frame ends it

-- A frame ended it, and the count of faults before that frame was what it is at the start.
pub ended_at_frame : {E : Type 0} (fault ended : E) (frame start now : ℕ) → frame ≡ start → EndsByFault (Some fault) (Some ended) frame now → EndsByFault fault ended start now
ended_at_frame fault ended frame start now same ends = record {
  count = subst (λ (n : ℕ). n ≤ now) same ends.count;
  cause = λ is. subst (λ (n : ℕ). Rose n now) same (ends.cause (ap Some is));
  steady = λ other. ends.steady (λ is. other (same_Some ended fault is)) ∙ same;
}
