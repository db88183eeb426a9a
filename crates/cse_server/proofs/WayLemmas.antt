-- A connection on its way, joined with what comes next.
use Rattle.std.proofs.Common.{◌≡◌, ℕ, ◌+◌, Bool, true, false, List, [], ◌∷◌, ◌++◌, length, Option, Some, None, IfSome, sym, ap, subst, ◌∙◌, arith, append_assoc, length-append}
use Rattle.cse_server.specs.Outside.{LinkTold, Outside}
use Rattle.cse_server.specs.Together.{KeepsBackAllButLast}
use Rattle.turn_desk.specs.Entries.{Marked}
use Rattle.desk_replies.specs.Asking.{Asked, asked_on}
use Rattle.desk_replies.specs.Rule.{ReplyRule}
use Rattle.desk_replies.proofs.AskingLemmas.{answered_as, answered_length, answered_on, has_asked_on}
use Rattle.http_frames.specs.declared.frame.Frame.{Frame}
use Rattle.cse_machine.specs.declared.event.Event.{Event}
use Rattle.cse_machine.specs.declared.event.Outcome.{Outcome}
use Rattle.cse_server.specs.declared.connection.Ended.{Ended}
use Rattle.cse_server.specs.declared.connection.Ended.TheVariants.{Closed, NoFrame, ReadFault, WriteFault, Memory}
use Rattle.cse_server.specs.Talk.{requests_in, some_closes, talk_texts, texts_to}
use Rattle.http_frames.specs.declared.frame.Side.TheVariants.{Request}
use Rattle.http_frames.specs.Stream.{BeginsWithFrames}
use Rattle.cse_server.specs.Connection.{AnswersFrames, EndsRightly, RefusesRightly, itself}
use Rattle.cse_server.specs.Way.{AsksFrames, Goes, Leads, StandsOn, StopsFrom}
use Rattle.cse_server.proofs.TalkLemmas.{SaySound-append, some_closes-append, ends_at_close-append, requests_in-append, talk_texts-append, texts_to-append}
use Rattle.cse_server.proofs.StandLemmas.{StandsOn-then}

-- ---- streams

pub BeginsWithFrames-append : (xs ys : List Frame) (stream mid rest : List ℕ) → BeginsWithFrames Request stream xs mid → BeginsWithFrames Request mid ys rest → BeginsWithFrames Request stream (xs ++ ys) rest
BeginsWithFrames-append [] ys stream mid rest first then = subst (λ (v : List ℕ). BeginsWithFrames Request v ys rest) (sym first) then
BeginsWithFrames-append (x ∷ xs) ys stream mid rest first then = (first.0, first.1, BeginsWithFrames-append xs ys first.0 mid rest first.2 then)

pub Leads-append : (xs ys : List Frame) (left mid rest : Option (List ℕ)) → Leads left xs mid → Leads mid ys rest → Leads left (xs ++ ys) rest
Leads-append xs ys None mid rest first then = tt
Leads-append xs ys (Some a) None rest first then = absurd first
Leads-append xs ys (Some a) (Some b) None first then = absurd then
Leads-append xs ys (Some a) (Some b) (Some c) first then = BeginsWithFrames-append xs ys a b c first then

-- ---- how it ends, joined

Refuses-then : (place between : ℕ) (refused : Bool) (xs ys : List Frame) (rest : List ℕ) → some_closes xs place ≡ false → place + length xs ≡ between → RefusesRightly between refused ys rest → RefusesRightly place refused (xs ++ ys) rest
Refuses-then place between refused xs ys rest stays places h = λ t.
    (some_closes-append xs ys place stays ∙ ap (some_closes ys) places ∙ (h t).0, (h t).1, (h t).2)

Ends-then : (place between : ℕ) (ended : Ended) (refused : Bool) (xs ys : List Frame) (rest : List ℕ) (now : Option (List ℕ)) → some_closes xs place ≡ false → place + length xs ≡ between → EndsRightly between ended refused ys rest now → EndsRightly place ended refused (xs ++ ys) rest now
Ends-then place between Closed refused xs ys rest now stays places h =
    (h.0, λ none. h.1 (sym (ap (some_closes ys) places) ∙ sym (some_closes-append xs ys place stays) ∙ none), h.2)
Ends-then place between NoFrame refused xs ys rest now stays places h = h
Ends-then place between ReadFault refused xs ys rest now stays places h =
    (h.0, some_closes-append xs ys place stays ∙ ap (some_closes ys) places ∙ h.1, h.2)
Ends-then place between WriteFault refused xs ys rest now stays places h = h
Ends-then place between Memory refused xs ys rest now stays places h = h

-- what the stream says of an end
abbrev pub EndsOn : ℕ → Ended → Bool → List Frame → Option (List ℕ) → List ℕ → Type 0
EndsOn place ended refused heard now bytes =
    (rest : List ℕ) × BeginsWithFrames Request bytes heard rest × RefusesRightly place refused heard rest × EndsRightly place ended refused heard rest now

stream_then : (place between : ℕ) (xs ys : List Frame) (refused : Bool) (ended : Ended) (left mid now : Option (List ℕ)) → some_closes xs place ≡ false → place + length xs ≡ between → Leads left xs mid → IfSome mid (EndsOn between ended refused ys now) → IfSome left (EndsOn place ended refused (xs ++ ys) now)
stream_then place between xs ys refused ended None mid now stays places first then = tt
stream_then place between xs ys refused ended (Some a) None now stays places first then = absurd first
stream_then place between xs ys refused ended (Some a) (Some b) now stays places first then = (
  then.0,
  BeginsWithFrames-append xs ys a b then.0 first then.1,
  Refuses-then place between refused xs ys then.0 stays places then.2,
  Ends-then place between ended refused xs ys then.0 now stays places then.3,
)

-- ---- questions

module _ {S : Type 0} (rule : ReplyRule) (grown : S → List (Marked Event Outcome) → S → Type 0) (on : (before between after : S) (more then : List (Marked Event Outcome)) → grown before more between → grown between then after → grown before (more ++ then) after) where
  -- frames that were all answered, and then others
  abbrev answers-append : (xs ys : List Frame) (first then : Asked) (a : AnswersFrames rule xs first) → a.is_whole ≡ true → AnswersFrames rule ys then
      → AnswersFrames rule (xs ++ ys) (asked_on first then)
  answers-append xs ys first then a all b =
      answered_as rule (requests_in xs ++ requests_in ys) (requests_in (xs ++ ys)) (asked_on first then)
      (answered_on rule (requests_in xs) (requests_in ys) first then a all b) (sym (requests_in-append xs ys))

  abbrev asks-append : (before between after : S) (g g' g'' : Option (List ℕ)) (t t' t'' : LinkTold) (xs ys : List Frame)
      → (a : AsksFrames rule grown before between g g' t t' xs) → a.answers.is_whole ≡ true → AsksFrames rule grown between after g' g'' t' t'' ys
      → AsksFrames rule grown before after g g'' t t'' (xs ++ ys)
  asks-append before between after g g' g'' t t' t'' xs ys a all b = record {
    asked = asked_on a.asked b.asked;
    asks = has_asked_on grown on before between after g g' g'' t t' t'' a.asked b.asked a.asks b.asks;
    answers = answers-append xs ys a.asked b.asked a.answers all b.answers;
  }

  -- ---- what goes on, and then goes on or ends

  pub Goes-then : (place between next : ℕ) (before seat after : S) (waited waits waiting : List ℕ) (old mid new : Outside)
      → Goes place between rule grown before seat waited waits old mid
      → Goes between next rule grown seat after waits waiting mid new
      → Goes place next rule grown before after waited waiting old new
  Goes-then place between next before seat after waited waits waiting old mid new a b =
      let first = a.asks.answers.replies in
      let then = b.asks.answers.replies in
      let fit = answered_length rule (requests_in a.heard) a.asks.asked a.asks.answers in record {
        heard = a.heard ++ b.heard;
        asks = asks-append before seat after old.readings mid.readings new.readings old.link mid.link new.link a.heard b.heard a.asks a.all b.asks;
        all = b.all;
        places = rw length-append (omega (arith, a.places, b.places));
        stays_on = some_closes-append a.heard b.heard place a.stays_on ∙ ap (some_closes b.heard) a.places ∙ b.stays_on;
        stream = Leads-append a.heard b.heard old.left mid.left new.left a.stream b.stream;
        said = subst (λ (v : List (List ℕ)). StandsOn None v waited waiting old.out new.out)
            (sym (texts_to-append a.heard b.heard place first then a.stays_on fit ∙ ap (λ n. texts_to a.heard place first ++ texts_to b.heard n then) a.places))
            (StandsOn-then None (texts_to a.heard place first) (texts_to b.heard between then) waited waits waiting old.out mid.out new.out a.said b.said);
        sound = SaySound-append a.heard b.heard first then fit a.sound b.sound;
      }

  pub Stops-then : (place between : ℕ) (before seat after : S) (waited waits waiting : List ℕ) (old mid new : Outside) (ended : Ended)
      → Goes place between rule grown before seat waited waits old mid
      → StopsFrom between rule grown seat after waits waiting mid new ended
      → StopsFrom place rule grown before after waited waiting old new ended
  Stops-then place between before seat after waited waits waiting old mid new ended a b =
      let first = a.asks.answers.replies in
      let then = b.asks.answers.replies in
      let fit = answered_length rule (requests_in a.heard) a.asks.asked a.asks.answers in
      let joined : talk_texts place (a.heard ++ b.heard) b.refused (first ++ then) ≡ texts_to a.heard place first ++ talk_texts between b.heard b.refused then =
      talk_texts-append a.heard b.heard place b.refused first then a.stays_on fit ∙ ap (λ n. texts_to a.heard place first ++ talk_texts n b.heard b.refused then) a.places in record {
        heard = a.heard ++ b.heard;
        refused = b.refused;
        asks = asks-append before seat after old.readings mid.readings new.readings old.link mid.link new.link a.heard b.heard a.asks a.all b.asks;
        up_to = ends_at_close-append a.heard b.heard place a.stays_on (rw a.places b.up_to);
        stream = stream_then place between a.heard b.heard b.refused ended old.left mid.left new.left a.stays_on a.places a.stream b.stream;
        said = subst (λ (v : List (List ℕ)). StandsOn (Some ended) v waited waiting old.out new.out) (sym joined)
            (StandsOn-then (Some ended) (texts_to a.heard place first) (talk_texts between b.heard b.refused then) waited waits waiting old.out mid.out new.out a.said b.said);
        sound = λ all. SaySound-append a.heard b.heard first then fit a.sound (b.sound all);
        cut = λ begun.
            let c = b.cut begun in (
              c.0,
              λ earlier start k. subst (λ (v : List (List ℕ)). KeepsBackAllButLast itself v waiting start new.out)
                  (append_assoc earlier (texts_to a.heard place first) (talk_texts between b.heard b.refused then) ∙ ap (λ v. earlier ++ v) (sym joined))
                  (c.1 (earlier ++ texts_to a.heard place first) start (a.said earlier start k)),
            );
      }
