-- A connection on its way: what its calls say of the frames so far.
use Rattle.std.specs.Prelude.{◌≡◌, ◌⊎◌, ℕ, ◌+◌, Bool, true, false, List, [], ◌∷◌, ◌++◌, length}
use Rattle.std.specs.Prelude.{Option, Some, None, IfOk, IfSome, IsTrue, Result, ⊤}
use Rattle.desk_replies.specs.Asking.{Asked, HasAsked}
use Rattle.desk_replies.specs.Rule.{ReplyRule}
use Rattle.cse_server.specs.Outside.{LinkTold, Outside, PutsPart, SinkTold}
use Rattle.primitive_json.specs.declared.reply.ReplyParts.{ReplyParts}
use Rattle.turn_desk.specs.Entries.{Marked}
use Rattle.http_frames.specs.declared.frame.Frame.{Frame}
use Rattle.cse_machine.specs.declared.event.Event.{Event}
use Rattle.cse_machine.specs.declared.event.Outcome.{Outcome}
use Rattle.cse_server.specs.declared.connection.Ended.{Ended}
use Rattle.cse_server.specs.declared.connection.Ended.TheVariants.{Closed, NoFrame, ReadFault}
use Rattle.cse_server.specs.declared.connection.Ended.TheVariants.{WriteFault, Memory}
use Rattle.cse_server.specs.Closing.{closes}
use Rattle.cse_server.specs.Talk.{SaySound, ends_at_close, last_reply, reply_for, reply_texts}
use Rattle.cse_server.specs.Talk.{request_in, some_closes, talk_texts, texts_to}
use Rattle.http_frames.specs.declared.frame.Side.TheVariants.{Request}
use Rattle.http_frames.specs.Stream.{BeginsWithFrames}
use Rattle.cse_server.specs.Connection.{AnswersFrames, EndsRightly, RefusesRightly, itself, says_all}
use Rattle.cse_server.specs.Together.{KeepsBack, KeepsBackAllButLast, PutsMuch, WritesPart}

-- Frames were put to a seat, and were answered by this rule. Clock and link told these before and
-- tell those now.
pub record AsksFrames {S : Type 0} (rule : ReplyRule)
    (grown : S → List (Marked Event Outcome) → S → Type 0)
    (before after : S) (given now : Option (List ℕ)) (told more : LinkTold)
    (frames : List Frame) : Type 0 where
  pub asked : Asked
  pub asks : HasAsked grown before after given now told more asked
  pub answers : AnswersFrames rule frames asked

-- The stream, where it is told, was these requests and then what is left of it now.
abbrev pub Leads : Option (List ℕ) → List Frame → Option (List ℕ) → Type 0
Leads None heard now = ⊤
Leads (Some stream) heard None = ⊥
Leads (Some stream) heard (Some rest) = BeginsWithFrames Request stream heard rest

-- How these texts stand where the connection goes on, or ends so and what waits isn't put yet:
-- nothing waits where reading failed.
abbrev pub Stands : Option Ended → List (List ℕ) → List ℕ → SinkTold → SinkTold → Type 0
Stands None texts waiting old new = KeepsBack itself texts waiting old new
Stands (Some Closed) texts waiting old new = KeepsBack itself texts waiting old new
Stands (Some NoFrame) texts waiting old new = KeepsBack itself texts waiting old new
Stands (Some ReadFault) texts waiting old new =
    (waiting ≡ []) × KeepsBack itself texts waiting old new
Stands (Some WriteFault) texts waiting old new = WritesPart itself texts old new
Stands (Some Memory) texts waiting old new =
    KeepsBack itself texts waiting old new ⊎ KeepsBackAllButLast itself texts waiting old new

-- However texts stood before, with these behind them they stand so.
abbrev pub StandsOn : Option Ended → List (List ℕ) → List ℕ → List ℕ → SinkTold → SinkTold
    → Type 0
StandsOn ended texts before now old new =
    (earlier : List (List ℕ)) (start : SinkTold) → KeepsBack itself earlier before start old
    → Stands ended (earlier ++ texts) now start new

-- The connection goes on: the frames from this place up to the next were answered, and none of them
-- closes.
pub record Goes {S : Type 0} (place next : ℕ) (rule : ReplyRule)
    (grown : S → List (Marked Event Outcome) → S → Type 0)
    (before after : S) (waited waiting : List ℕ) (old new : Outside) : Type 0 where
  pub heard : List Frame
  pub asks : AsksFrames rule grown before after old.readings new.readings old.link new.link heard
  pub all : asks.answers.is_whole ≡ true
  pub places : place + length heard ≡ next
  pub stays_on : some_closes heard place ≡ false
  pub stream : Leads old.left heard new.left
  pub said : StandsOn None (texts_to heard place asks.answers.replies) waited waiting
      old.out new.out
  pub sound : SaySound heard asks.answers.replies

-- A connection was answered from the frame at this place on, and ended so, and what waits isn't put
-- yet.
pub record StopsFrom {S : Type 0} (place : ℕ) (rule : ReplyRule)
    (grown : S → List (Marked Event Outcome) → S → Type 0)
    (before after : S) (waited waiting : List ℕ) (old new : Outside) (ended : Ended)
    : Type 0 where
  pub heard : List Frame
  pub refused : Bool
  pub asks : AsksFrames rule grown before after old.readings new.readings old.link new.link heard
  pub up_to : IsTrue (ends_at_close heard place)
  pub stream : IfSome old.left (λ bytes. (rest : List ℕ) × BeginsWithFrames Request bytes heard rest
      × RefusesRightly place refused heard rest
      × EndsRightly place ended refused heard rest new.left)
  pub said : StandsOn (Some ended) (talk_texts place heard refused asks.answers.replies)
      waited waiting old.out new.out
  pub sound : says_all ended ≡ true → SaySound heard asks.answers.replies
  pub cut : asks.answers.is_whole ≡ false → (ended ≡ Memory)
      × ((earlier : List (List ℕ)) (start : SinkTold) → KeepsBack itself earlier waited start old.out
      → KeepsBackAllButLast itself (earlier ++ talk_texts place heard refused asks.answers.replies)
      waiting start new.out)

-- A frame was heard, and asked if it binds, and this is the reply. Where memory ran out it may be
-- that it wasn't heard.
pub record Hears {S E : Type 0} (rule : ReplyRule)
    (grown : S → List (Marked Event Outcome) → S → Type 0) (before after : S)
    (given now : Option (List ℕ)) (told more : LinkTold)
    (frame : Frame) (result : Result ReplyParts E) : Type 0 where
  pub heard : List Frame
  pub either : (heard ≡ frame ∷ []) ⊎ (heard ≡ [])
  pub asks : AsksFrames rule grown before after given now told more heard
  pub replied : IfOk result (λ r. (heard ≡ frame ∷ []) × (asks.answers.is_whole ≡ true)
      × (r ≡ reply_for frame (request_in frame) asks.answers.replies))

-- What comes of a reply that is said behind what waits: it waits too, and all is put once it is
-- much, and the connection goes on, or the frame closed it; or one put wrote a part; or memory ran
-- out, and what waits is as it was.
abbrev pub SaysTurn : ℕ → Frame → Option Ended → List ℕ → List ℕ → List ℕ → SinkTold → SinkTold
    → Type 0
SaysTurn place frame None text before now old new =
    (closes place frame ≡ false) × PutsMuch (before ++ text) now old new
SaysTurn place frame (Some Closed) text before now old new =
    (closes place frame ≡ true) × PutsMuch (before ++ text) now old new
SaysTurn place frame (Some NoFrame) text before now old new = ⊥
SaysTurn place frame (Some ReadFault) text before now old new = ⊥
SaysTurn place frame (Some WriteFault) text before now old new = PutsPart (before ++ text) old new
SaysTurn place frame (Some Memory) text before now old new = (now ≡ before) × (new ≡ old)

-- What comes of the last reply, where no frame can stand.
abbrev pub Refuses : List ℕ → List ℕ → SinkTold → SinkTold → Ended → Type 0
Refuses before now old new Closed = ⊥
Refuses before now old new NoFrame = PutsMuch (before ++ last_reply) now old new
Refuses before now old new ReadFault = ⊥
Refuses before now old new WriteFault = PutsPart (before ++ last_reply) old new
Refuses before now old new Memory = (now ≡ before) × (new ≡ old)

-- the reply to a frame was written: the connection goes on, or the frame closed it
abbrev pub is_put : Option Ended → Bool
is_put None = true
is_put (Some Closed) = true
is_put (Some NoFrame) = false
is_put (Some ReadFault) = false
is_put (Some WriteFault) = false
is_put (Some Memory) = false

-- The frame at this place was heard and answered; or it wasn't heard, as memory ran out before.
pub record AnswersFrame {S : Type 0} (place : ℕ) (rule : ReplyRule)
    (grown : S → List (Marked Event Outcome) → S → Type 0)
    (before after : S) (waited waiting : List ℕ) (old new : Outside) (frame : Frame)
    (ended : Option Ended) : Type 0 where
  pub heard : List Frame
  pub either : (heard ≡ frame ∷ []) ⊎ ((heard ≡ []) × (ended ≡ Some Memory))
  pub asks : AsksFrames rule grown before after old.readings new.readings old.link new.link heard
  pub cut : asks.answers.is_whole ≡ false → ended ≡ Some Memory
  pub said : SaysTurn place frame ended (reply_texts heard place asks.answers.replies)
      waited waiting old.out new.out
  pub sound : is_put ended ≡ true → SaySound heard asks.answers.replies
