-- Lines on their way, joined with what comes next.
use Rattle.std.proofs.Common.{◌≡◌, ℕ, ◌+◌, List, [], ◌∷◌, ◌++◌, length, map, Option, Some, None, IfSome, refl, sym, ap, subst, ◌∙◌, arith, append_assoc, length-append}
use Rattle.std.proofs.lemmas.List.{map-append}
use Rattle.std.proofs.lemmas.List.Elements.{filter_map-append}
use Rattle.std.specs.Str.Lines.{lines}
use Rattle.m2m_io.specs.Link.{Carrying}
use Rattle.cse_server.specs.Outside.{LinkTold, Outside}
use Rattle.m2m_io.specs.declared.status.Status.{Status}
use Rattle.primitive_json.specs.declared.reply.ReplyParts.{ReplyParts}
use Rattle.primitive_json.specs.declared.request.RequestParts.{RequestParts}
use Rattle.turn_desk.specs.Entries.{readings_of, events_of, outcomes_of}
use Rattle.turn_desk.specs.Joins.{Runs-append}
use Rattle.entity_model.specs.Entity.{EntityData}
use Rattle.cse_machine.specs.Step.{Step}
use Rattle.cse_machine.specs.declared.event.Event.TheVariants.{Ask as AskEvent}
use Rattle.cse_machine.specs.declared.event.Outcome.{Outcome}
use Rattle.desk_replies.specs.Replies.{GivesReplies}
use Rattle.desk_replies.proofs.RepliesLemmas.{gives-append}
use Rattle.desk_replies.proofs.LinkLemmas.{CarriesEach-append}
use Rattle.primitive_replay.specs.Script.{request_on, requests_on, next_reading, reading_behind, readings_on, AsksLines, StopsRightly}
use Rattle.primitive_replay.specs.Stream.{AreLines, BeginsWithLines, LeadsTo}
use Rattle.primitive_replay.specs.Way.{EndsOn, ReplaysUpTo, StopsFrom}
use Rattle.primitive_replay.specs.declared.line.Line.{Line}
use Rattle.primitive_replay.specs.declared.line.Line.TheVariants.{Empty, Reading, Ask}
use Rattle.primitive_replay.proofs.TogetherLemmas.{StandsOn-then}

-- ---- requests and readings

requests_on-append : (xs ys : List Line) → requests_on (xs ++ ys) ≡ requests_on xs ++ requests_on ys
requests_on-append xs ys = filter_map-append request_on xs ys

reading_behind-append : (xs ys : List Line) (reading : ℕ) → reading_behind reading (xs ++ ys) ≡ reading_behind (reading_behind reading xs) ys
reading_behind-append [] ys reading = refl
reading_behind-append (x ∷ xs) ys reading = reading_behind-append xs ys (next_reading reading x)

readings_on-append : (xs ys : List Line) (reading : ℕ) → readings_on reading (xs ++ ys) ≡ readings_on reading xs ++ readings_on (reading_behind reading xs) ys
readings_on-append [] ys reading = refl
readings_on-append (Empty ∷ xs) ys reading = readings_on-append xs ys reading
readings_on-append (Reading moment ∷ xs) ys reading = readings_on-append xs ys moment
readings_on-append (Ask request ∷ xs) ys reading = ap (λ v. reading ∷ v) (readings_on-append xs ys reading)

-- ---- lines of a stream

no_place : (place : ℕ) → place + length {A = Line} [] ≡ place
no_place place = omega arith

next_place : (place : ℕ) (x : Line) (xs : List Line) → place + length (x ∷ xs) ≡ (place + 1) + length xs
next_place place x xs = omega arith

joined_place : (place between : ℕ) (xs ys : List Line) → place + length xs ≡ between → between + length ys ≡ place + length (xs ++ ys)
joined_place place between xs ys places = omega (arith, places, length-append xs ys)

AreLines-append : (ts us : List (List ℕ)) (xs ys : List Line) (place : ℕ) → AreLines place ts xs → AreLines (place + length xs) us ys → AreLines place (ts ++ us) (xs ++ ys)
AreLines-append [] us [] ys place first then = subst (λ (n : ℕ). AreLines n us ys) (no_place place) then
AreLines-append [] us (x ∷ xs) ys place first then = absurd first
AreLines-append (t ∷ ts) us [] ys place first then = absurd first
AreLines-append (t ∷ ts) us (x ∷ xs) ys place first then =
    (first.0, AreLines-append ts us xs ys (place + 1) first.1 (subst (λ (n : ℕ). AreLines n us ys) (next_place place x xs) then))

BeginsWithLines-append : (place between : ℕ) (xs ys : List Line) (bytes mid rest : List ℕ) → place + length xs ≡ between
    → BeginsWithLines place bytes xs mid → BeginsWithLines between mid ys rest → BeginsWithLines place bytes (xs ++ ys) rest
BeginsWithLines-append place between xs ys bytes mid rest places a b = record {
  front = a.front ++ b.front;
  texts = a.texts ++ b.texts;
  bytes_are = a.bytes_are ∙ ap (λ v. a.front ++ v) b.bytes_are ∙ sym (append_assoc a.front b.front rest);
  texts_are = a.texts_are ∙ ap (λ v. a.texts ++ v) b.texts_are ∙ sym (append_assoc a.texts b.texts (lines rest));
  each = AreLines-append a.texts b.texts xs ys place a.each (subst (λ (n : ℕ). AreLines n b.texts ys) (sym places) b.each);
}

LeadsTo-append : (place between : ℕ) (xs ys : List Line) (left mid rest : Option (List ℕ)) → place + length xs ≡ between
    → LeadsTo place left xs mid → LeadsTo between mid ys rest → LeadsTo place left (xs ++ ys) rest
LeadsTo-append place between xs ys None mid rest places first then = tt
LeadsTo-append place between xs ys (Some a) None rest places first then = absurd first
LeadsTo-append place between xs ys (Some a) (Some b) None places first then = absurd then
LeadsTo-append place between xs ys (Some a) (Some b) (Some c) places first then = BeginsWithLines-append place between xs ys a b c places first then

stream_then : (place between : ℕ) (xs ys : List Line) (status : Status) (left mid now : Option (List ℕ)) → place + length xs ≡ between
    → LeadsTo place left xs mid → IfSome mid (EndsOn between status ys now) → IfSome left (EndsOn place status (xs ++ ys) now)
stream_then place between xs ys status None mid now places first then = tt
stream_then place between xs ys status (Some a) None now places first then = absurd first
stream_then place between xs ys status (Some a) (Some b) now places first then = (
  then.0,
  BeginsWithLines-append place between xs ys a b then.0 places first then.1,
  subst (λ (n : ℕ). StopsRightly n status then.0 now) (joined_place place between xs ys places) then.2,
)

-- ---- questions

events-append : (xs ys : List Line) → map AskEvent (requests_on xs) ++ map AskEvent (requests_on ys) ≡ map AskEvent (requests_on (xs ++ ys))
events-append xs ys = sym (map-append AskEvent (requests_on xs) (requests_on ys)) ∙ ap (map AskEvent) (sym (requests_on-append xs ys))

gave-append : (xs ys : List Line) (os os' : List Outcome) (ps ps' : List ReplyParts) (es es' : List Carrying)
    → GivesReplies (requests_on xs) os ps es → GivesReplies (requests_on ys) os' ps' es'
    → GivesReplies (requests_on (xs ++ ys)) (os ++ os') (ps ++ ps') (es ++ es')
gave-append xs ys os os' ps ps' es es' first then =
    subst (λ (v : List RequestParts). GivesReplies v (os ++ os') (ps ++ ps') (es ++ es')) (sym (requests_on-append xs ys))
    (gives-append (requests_on xs) (requests_on ys) os os' ps ps' es es' first then)

abbrev asks-append : (reading now : ℕ) (before between after : EntityData) (t t' t'' : LinkTold) (xs ys : List Line)
    → now ≡ reading_behind reading xs
    → AsksLines reading before between t t' xs → AsksLines now between after t' t'' ys → AsksLines reading before after t t'' (xs ++ ys)
asks-append reading now before between after t t' t'' xs ys reads a b = record {
  history = a.history ++ b.history;
  replies = a.replies ++ b.replies;
  carried = a.carried ++ b.carried;
  leaves = Runs-append Step a.history b.history before between after a.leaves b.leaves;
  readings_are = map-append (λ e. e.reading) a.history b.history
      ∙ ap (λ v. v ++ readings_of b.history) a.readings_are
      ∙ ap (λ v. readings_on reading xs ++ v) (b.readings_are ∙ ap (λ n. readings_on n ys) reads)
      ∙ sym (readings_on-append xs ys reading);
  events_are = map-append (λ e. e.event) a.history b.history
      ∙ ap (λ v. v ++ events_of b.history) a.events_are
      ∙ ap (λ v. map AskEvent (requests_on xs) ++ v) b.events_are
      ∙ events-append xs ys;
  gives = subst (λ (os : List Outcome). GivesReplies (requests_on (xs ++ ys)) os (a.replies ++ b.replies) (a.carried ++ b.carried))
      (sym (map-append (λ e. e.outcome) a.history b.history))
      (gave-append xs ys (outcomes_of a.history) (outcomes_of b.history) a.replies b.replies a.carried b.carried a.gives b.gives);
  link = CarriesEach-append a.carried b.carried t t' t'' a.link b.link;
}

-- ---- what goes on, and then goes on or ends

pub ReplaysUpTo-then : (place between next reading then now : ℕ) (before entity after : EntityData) (waited waits waiting : List ℕ) (old mid new : Outside)
    → ReplaysUpTo place between reading then before entity waited waits old mid → ReplaysUpTo between next then now entity after waits waiting mid new
    → ReplaysUpTo place next reading now before after waited waiting old new
ReplaysUpTo-then place between next reading then now before entity after waited waits waiting old mid new a b = record {
  heard = a.heard ++ b.heard;
  asks = asks-append reading then before entity after old.link mid.link new.link a.heard b.heard a.reads a.asks b.asks;
  places = sym (joined_place place between a.heard b.heard a.places) ∙ b.places;
  reads = b.reads ∙ ap (λ n. reading_behind n b.heard) a.reads ∙ sym (reading_behind-append a.heard b.heard reading);
  stream = LeadsTo-append place between a.heard b.heard old.left mid.left new.left a.places a.stream b.stream;
  said = StandsOn-then None a.asks.replies b.asks.replies waited waits waiting old.out mid.out new.out a.said b.said;
}

pub StopsFrom-then : (place between reading then : ℕ) (before entity after : EntityData) (waited waits waiting : List ℕ) (old mid new : Outside) (status : Status)
    → ReplaysUpTo place between reading then before entity waited waits old mid → StopsFrom between then entity after waits waiting mid new status
    → StopsFrom place reading before after waited waiting old new status
StopsFrom-then place between reading then before entity after waited waits waiting old mid new status a b = record {
  heard = a.heard ++ b.heard;
  asks = asks-append reading then before entity after old.link mid.link new.link a.heard b.heard a.reads a.asks b.asks;
  stream = stream_then place between a.heard b.heard status old.left mid.left new.left a.places a.stream b.stream;
  said = StandsOn-then (Some status) a.asks.replies b.asks.replies waited waits waiting old.out mid.out new.out a.said b.said;
}
