-- One line taken, and what stands next.
use Rattle.std.proofs.Common.{◌≡◌, ◌≢◌, ◌⊎◌, ℕ, ◌+◌, ◌≤◌, ◌∙◌, List, [], ◌∷◌, ◌++◌, length, Option, Some, None, IfSome, MatchOption, Err, inl, inr, refl, sym, ap, subst, arith}
use Rattle.std.proofs.lemmas.Option.{same_Some}
use Rattle.std.specs.Io.KnownBytes.{IsAtEnd, Keeps, prepend_known}
use Rattle.std.specs.Str.Lines.{lines}
use Rattle.cse_server.specs.Outside.{EndsByFault, LinkTold, Outside, Puts, PutsPart, SinkTold, outside}
use Rattle.m2m_io.specs.Counts.{Rose}
use Rattle.m2m_io.specs.declared.status.Status.{Status}
use Rattle.m2m_io.specs.declared.status.Status.TheVariants.{Done, Usage, BadLine, ReadFault, WriteFault, Memory, BadStream}
use Rattle.primitive_json.specs.declared.reply.ReplyParts.{ReplyParts}
use Rattle.primitive_json.specs.declared.request.RequestParts.{RequestParts}
use Rattle.turn_desk.specs.Entries.{entry_of}
use Rattle.entity_model.specs.Entity.{EntityData}
use Rattle.cse_machine.specs.declared.event.Event.TheVariants.{Ask as AskEvent}
use Rattle.desk_replies.proofs.RepliesLemmas.{gives-one}
use Rattle.primitive_replay.specs.Front.{HasNoEnd, held_limit}
use Rattle.primitive_replay.specs.Script.{AsksLines, StopsRightly, reply_line}
use Rattle.primitive_replay.specs.Lines.{line_at, line_read}
use Rattle.primitive_replay.specs.Stream.{BeginsBadly, BeginsWithLines, BeginsWithTexts, LeadsOver, LeadsTo, NextIs, HoldsLittle, TakesOff}
use Rattle.cse_server.specs.Together.{PutsAll, PutsLast}
use Rattle.primitive_replay.specs.Together.{SaysText}
use Rattle.primitive_replay.specs.Way.{EndsOn, RepliesTo, ReplaysFrom, ReplaysUpTo, SaysOn, Stands, StandsOn, StopsFrom, TakesLine, WritesText, fault_status}
use Rattle.primitive_replay.specs.declared.fault.LineFault.{LineFault}
use Rattle.primitive_replay.specs.declared.fault.LineFault.TheVariants.{Bad, ReadFault as Unread, OutOfMemory as Starved}
use Rattle.primitive_replay.specs.declared.line.Line.{Line}
use Rattle.primitive_replay.specs.declared.line.Line.TheVariants.{Empty, Reading, Ask}
use Rattle.cse_server.proofs.TogetherLemmas.{keep_none, within_none}
use Rattle.primitive_replay.proofs.TogetherLemmas.{end_says, part_stands, put_stands, says_one, stands_still}
use Rattle.primitive_replay.proofs.WayLemmas.{ReplaysUpTo-then, StopsFrom-then}

-- ---- one line

-- nothing was asked
abbrev asks_nothing : (reading : ℕ) (e : EntityData) (told : LinkTold) → AsksLines reading e e told told []
asks_nothing reading e told = record {
  history = [];
  replies = [];
  carried = [];
  leaves = refl;
  readings_are = refl;
  events_are = refl;
  gives = refl;
  link = refl;
}

pub takes_empty : (reading : ℕ) (e : EntityData) (told : LinkTold) (waiting : List ℕ) (out : SinkTold) → TakesLine reading reading e e told told waiting waiting out out Empty None
takes_empty reading e told waiting out = record {
  asks = record {
    history = [];
    replies = [];
    carried = [];
    leaves = refl;
    readings_are = refl;
    events_are = refl;
    gives = refl;
    link = refl;
  };
  reads = refl;
  said = stands_still waiting out;
}

pub takes_reading : (reading moment : ℕ) (e : EntityData) (told : LinkTold) (waiting : List ℕ) (out : SinkTold) → TakesLine reading moment e e told told waiting waiting out out (Reading moment) None
takes_reading reading moment e told waiting out = record {
  asks = record {
    history = [];
    replies = [];
    carried = [];
    leaves = refl;
    readings_are = refl;
    events_are = refl;
    gives = refl;
    link = refl;
  };
  reads = refl;
  said = stands_still waiting out;
}

pub takes_request : (reading : ℕ) (before after : EntityData) (told more : LinkTold) (waited waiting : List ℕ) (old new : SinkTold)
    (request : RequestParts) (reply : ReplyParts) (status : Option Status)
    → RepliesTo reading before request reply after told more → SaysText status (reply_line reply) waited waiting old new
    → TakesLine reading reading before after told more waited waiting old new (Ask request) status
takes_request reading before after told more waited waiting old new request reply status a said = record {
  asks = record {
    history = entry_of reading (AskEvent request) a.outcome ∷ [];
    replies = reply ∷ [];
    carried = a.carried;
    leaves = (after, a.step, refl);
    readings_are = refl;
    events_are = refl;
    gives = gives-one request a.outcome reply a.carried a.gives;
    link = a.link;
  };
  reads = refl;
  said = says_one status reply waited waiting old new said;
}

-- ---- what is left

-- a stream is what it is
pub keeps_all : (stream : Option (List ℕ)) → Keeps stream stream
keeps_all None = tt
keeps_all (Some bytes) = refl

pub little : (held left : List ℕ) → length held ≤ held_limit → HoldsLittle (held ++ left) left
little held left few = record { held = held; rest_is = refl; few = few }

-- ---- a line that was taken

one_begins : (place : ℕ) (text bytes rest : List ℕ) (line : Line) → line_at line_read place text ≡ Some line
    → BeginsWithTexts bytes (text ∷ []) rest → BeginsWithLines place bytes (line ∷ []) rest
one_begins place text bytes rest line is begins = record {
  front = begins.front;
  texts = text ∷ [];
  bytes_are = begins.bytes_are;
  texts_are = begins.texts_are;
  each = (is, tt);
}

one_over : (place : ℕ) (text : List ℕ) (old new : Option (List ℕ)) (line : Line) → line_at line_read place text ≡ Some line
    → LeadsOver (text ∷ []) old new → LeadsTo place old (line ∷ []) new
one_over place text None new line is over = tt
one_over place text (Some bytes) None line is over = absurd over
one_over place text (Some bytes) (Some rest) line is over = one_begins place text bytes rest line is over

-- the stream was one line that is replayed
pub one_leads : (place : ℕ) (old new : Option (List ℕ)) (line : Line) → TakesOff line_read place line old new → LeadsTo place old (line ∷ []) new
one_leads place old new line takes = one_over place takes.text old new line takes.is takes.stream

pub line_goes : (place reading now : ℕ) (before after : EntityData) (waited waiting : List ℕ) (old on : Outside) (line : Line)
    → LeadsTo place old.left (line ∷ []) on.left
    → TakesLine reading now before after old.link on.link waited waiting old.out on.out line None
    → ReplaysUpTo place (place + 1) reading now before after waited waiting old on
line_goes place reading now before after waited waiting old on line leads t = record {
  heard = line ∷ [];
  asks = t.asks;
  places = omega arith;
  reads = t.reads;
  stream = leads;
  said = t.said;
}

line_says : (status : Status) (replies : List ReplyParts) (waited waiting : List ℕ) (old new : SinkTold)
    → SaysOn (Some status) replies waited waiting old new → StandsOn (Some status) replies waited waiting old new
line_says Done replies waited waiting old new said = absurd said
line_says Usage replies waited waiting old new said = absurd said
line_says (BadLine n) replies waited waiting old new said = absurd said
line_says ReadFault replies waited waiting old new said = absurd said
line_says WriteFault replies waited waiting old new said = said
line_says Memory replies waited waiting old new said = said
line_says BadStream replies waited waiting old new said = absurd said

line_stops : (place : ℕ) (status : Status) (replies : List ReplyParts) (waited waiting : List ℕ) (old new : SinkTold) (rest : List ℕ) (left : Option (List ℕ))
    → IfSome left (HoldsLittle rest) → SaysOn (Some status) replies waited waiting old new → StopsRightly place status rest left
line_stops place Done replies waited waiting old new rest left few said = absurd said
line_stops place Usage replies waited waiting old new rest left few said = absurd said
line_stops place (BadLine n) replies waited waiting old new rest left few said = absurd said
line_stops place ReadFault replies waited waiting old new rest left few said = absurd said
line_stops place WriteFault replies waited waiting old new rest left few said = few
line_stops place Memory replies waited waiting old new rest left few said = few
line_stops place BadStream replies waited waiting old new rest left few said = absurd said

line_ends_on : (place : ℕ) (status : Status) (line : Line) (stream : Option (List ℕ)) (held : List ℕ) (left : Option (List ℕ))
    (replies : List ReplyParts) (waited waiting : List ℕ) (old new : SinkTold) → length held ≤ held_limit
    → LeadsTo place stream (line ∷ []) (prepend_known held left) → SaysOn (Some status) replies waited waiting old new
    → IfSome stream (EndsOn place status (line ∷ []) left)
line_ends_on place status line None held left replies waited waiting old new few leads said = tt
line_ends_on place status line (Some bytes) held None replies waited waiting old new few leads said = absurd leads
line_ends_on place status line (Some bytes) held (Some ys) replies waited waiting old new few leads said =
    (held ++ ys, leads, line_stops (place + length (line ∷ [])) status replies waited waiting old new (held ++ ys) (Some ys) (little held ys few) said)

pub line_ends : (place reading now : ℕ) (before after : EntityData) (stream : Option (List ℕ)) (held : List ℕ) (left : Option (List ℕ)) (waited waiting : List ℕ) (old new : SinkTold)
    (told more : LinkTold) (line : Line) (status : Status)
    → length held ≤ held_limit
    → LeadsTo place stream (line ∷ []) (prepend_known held left)
    → TakesLine reading now before after told more waited waiting old new line (Some status)
    → StopsFrom place reading before after waited waiting (outside stream old None told) (outside left new None more) status
line_ends place reading now before after stream held left waited waiting old new told more line status few leads t = record {
  heard = line ∷ [];
  asks = t.asks;
  stream = line_ends_on place status line stream held left t.asks.replies waited waiting old new few leads t.said;
  said = line_says status t.asks.replies waited waiting old new t.said;
}

-- a line was taken, and it goes on or ends
pub line_next : (place reading now : ℕ) (before after : EntityData) (stream : Option (List ℕ)) (held : List ℕ) (left : Option (List ℕ)) (waited waiting : List ℕ) (old new : SinkTold)
    (told more : LinkTold) (line : Line) (status : Option Status)
    → length held ≤ held_limit
    → LeadsTo place stream (line ∷ []) (prepend_known held left)
    → TakesLine reading now before after told more waited waiting old new line status
    → MatchOption status
    (ReplaysUpTo place (place + 1) reading now before after waited waiting (outside stream old None told) (outside (prepend_known held left) new None more))
    (StopsFrom place reading before after waited waiting (outside stream old None told) (outside left new None more))
line_next place reading now before after stream held left waited waiting old new told more line None few leads t =
    line_goes place reading now before after waited waiting (outside stream old None told) (outside (prepend_known held left) new None more) line leads t
line_next place reading now before after stream held left waited waiting old new told more line (Some status) few leads t =
    line_ends place reading now before after stream held left waited waiting old new told more line status few leads t

pub is_none : (status : Option Status) → ((s : Status) → status ≡ Some s → ⊥) → status ≡ None
is_none None on = refl
is_none (Some s) on = absurd (on s refl)

-- where none is told to have ended it, all of the text was written
pub none_said : (status : Option Status) (text : List ℕ) (old new : SinkTold) → ((s : Status) → status ≡ Some s → ⊥) → WritesText status text old new → Puts text 1 old new
none_said None text old new on said = said
none_said (Some s) text old new on said = absurd (on s refl)

pub next_goes : (P : Type 0) (Q : Status → Type 0) (status : Option Status) → ((s : Status) → status ≡ Some s → ⊥) → MatchOption status P Q → P
next_goes P Q None on h = h
next_goes P Q (Some s) on h = absurd (on s refl)

-- ---- no line

-- no line was heard, and this is left
still_begins : (place : ℕ) (bytes : List ℕ) → BeginsWithLines place bytes [] bytes
still_begins place bytes = record { front = []; texts = []; bytes_are = refl; texts_are = refl; each = tt }

-- no line was answered
fault_says : (fault : LineFault) (place : ℕ) (waiting : List ℕ) (out : SinkTold) → (fault ≡ Unread → waiting ≡ [])
    → StandsOn (Some (fault_status fault place)) [] waiting waiting out out
fault_says Bad place waiting out none = λ earlier start k. stands_still waiting out earlier start k
fault_says Unread place waiting out none = λ earlier start k. (none refl, stands_still waiting out earlier start k)
fault_says Starved place waiting out none = λ earlier start k. inl (stands_still waiting out earlier start k)

done_says : (waiting : List ℕ) (out : SinkTold) → waiting ≡ [] → StandsOn (Some Done) [] waiting waiting out out
done_says waiting out none = λ earlier start k. (none, stands_still waiting out earlier start k)

at_end : (place : ℕ) (stream left : Option (List ℕ)) → IsAtEnd stream → IsAtEnd left → IfSome stream (EndsOn place Done [] left)
at_end place None left end over = tt
at_end place (Some bytes) left end over =
    ([], record { front = []; texts = []; bytes_are = end; texts_are = ap lines end; each = tt }, (refl, over))

pub done_ends : (place reading : ℕ) (e : EntityData) (stream left : Option (List ℕ)) (waiting : List ℕ) (out : SinkTold) (told : LinkTold)
    → IsAtEnd stream → IsAtEnd left → waiting ≡ []
    → StopsFrom place reading e e waiting waiting (outside stream out None told) (outside left out None told) Done
done_ends place reading e stream left waiting out told end over none = record {
  heard = [];
  asks = asks_nothing reading e told;
  stream = at_end place stream left end over;
  said = done_says waiting out none;
}

-- what is left where no line was taken
fault_stops : (fault : LineFault) (place next : ℕ) (bytes held left : List ℕ) → next ≡ place → bytes ≡ held ++ left → length held ≤ held_limit
    → (fault ≡ Bad → BeginsBadly line_read place bytes) → (fault ≡ Unread → HasNoEnd held)
    → StopsRightly next (fault_status fault place) bytes (Some left)
fault_stops Bad place next bytes held left same is few bad none =
    (sym same, subst (λ (n : ℕ). BeginsBadly line_read n bytes) (sym same) (bad refl), record { held = held; rest_is = is; few = few })
fault_stops Unread place next bytes held left same is few bad none =
    record { reads = record { held = held; rest_is = is; few = few }; none = none refl }
fault_stops Starved place next bytes held left same is few bad none =
    record { held = held; rest_is = is; few = few }

-- a stream that no line was taken from
pub fault_keeps : {L : Type 0} (form : List ℕ → Option L) (fault : LineFault) (place : ℕ) (old now : Option (List ℕ)) → NextIs form place (Err fault) old now → Keeps old now
fault_keeps form Bad place old now next = next.0
fault_keeps form Unread place old now next = next
fault_keeps form Starved place old now next = next

pub fault_bad : {L : Type 0} (form : List ℕ → Option L) (fault : LineFault) (place : ℕ) (bytes : List ℕ) (now : Option (List ℕ)) → NextIs form place (Err fault) (Some bytes) now → fault ≡ Bad
    → BeginsBadly form place bytes
fault_bad form Bad place bytes now next e = next.1
fault_bad form Unread place bytes now next e = cc
fault_bad form Starved place bytes now next e = cc

fault_ends_on : (fault : LineFault) (place : ℕ) (stream : Option (List ℕ)) (held : List ℕ) (left : Option (List ℕ))
    → length held ≤ held_limit → NextIs line_read place (Err fault) stream (prepend_known held left) → (fault ≡ Unread → HasNoEnd held)
    → IfSome stream (EndsOn place (fault_status fault place) [] left)
fault_ends_on fault place None held left few next none = tt
fault_ends_on fault place (Some bytes) held None few next none = absurd (fault_keeps line_read fault place (Some bytes) None next)
fault_ends_on fault place (Some bytes) held (Some ys) few next none = (
  bytes,
  still_begins place bytes,
  fault_stops fault place (place + length {A = Line} []) bytes held ys (omega arith) (sym (fault_keeps line_read fault place (Some bytes) (Some (held ++ ys)) next)) few
      (fault_bad line_read fault place bytes (Some (held ++ ys)) next) none,
)

pub fault_ends : (fault : LineFault) (place reading : ℕ) (e : EntityData) (stream : Option (List ℕ)) (held : List ℕ) (left : Option (List ℕ)) (waiting : List ℕ) (out : SinkTold) (told : LinkTold)
    → length held ≤ held_limit → NextIs line_read place (Err fault) stream (prepend_known held left) → (fault ≡ Unread → HasNoEnd held) → (fault ≡ Unread → waiting ≡ [])
    → StopsFrom place reading e e waiting waiting (outside stream out None told) (outside left out None told) (fault_status fault place)
fault_ends fault place reading e stream held left waiting out told few next none put = record {
  heard = [];
  asks = asks_nothing reading e told;
  stream = fault_ends_on fault place stream held left few next none;
  said = fault_says fault place waiting out put;
}

-- ---- before more is read

still_leads : (place : ℕ) (stream : Option (List ℕ)) → LeadsTo place stream [] stream
still_leads place None = tt
still_leads place (Some bytes) = still_begins place bytes

-- all that waits was put
pub put_goes : (place reading : ℕ) (e : EntityData) (stream : Option (List ℕ)) (waited waiting : List ℕ) (old new : SinkTold) (told : LinkTold) → PutsAll waited waiting old new
    → ReplaysUpTo place place reading reading e e waited waiting (outside stream old None told) (outside stream new None told)
put_goes place reading e stream waited waiting old new told put = record {
  heard = [];
  asks = asks_nothing reading e told;
  places = omega arith;
  reads = refl;
  stream = still_leads place stream;
  said = put_stands waited waiting old new put;
}

held_ends_on : (place : ℕ) (held : List ℕ) (left : Option (List ℕ)) → length held ≤ held_limit → IfSome (prepend_known held left) (EndsOn place WriteFault [] left)
held_ends_on place held None few = tt
held_ends_on place held (Some ys) few = (held ++ ys, still_begins place (held ++ ys), little held ys few)

-- a part of what waits was put
pub put_fails : (place reading : ℕ) (e : EntityData) (held : List ℕ) (left : Option (List ℕ)) (waited waiting : List ℕ) (old new : SinkTold) (told : LinkTold)
    → length held ≤ held_limit → waited ≢ [] → PutsPart waited old new
    → StopsFrom place reading e e waited waiting (outside (prepend_known held left) old None told) (outside left new None told) WriteFault
put_fails place reading e held left waited waiting old new told few some part = record {
  heard = [];
  asks = asks_nothing reading e told;
  stream = held_ends_on place held left few;
  said = part_stands waited waiting old new some part;
}

-- all that waits was put, and then it goes on or ends
pub put_next : (place reading now : ℕ) (e after : EntityData) (stream : Option (List ℕ)) (waited waits waiting : List ℕ) (old mid : SinkTold) (told : LinkTold) (on new : Outside) (status : Option Status)
    → PutsAll waited waits old mid
    → MatchOption status
    (ReplaysUpTo place (place + 1) reading now e after waits waiting (outside stream mid None told) on)
    (StopsFrom place reading e after waits waiting (outside stream mid None told) new)
    → MatchOption status
    (ReplaysUpTo place (place + 1) reading now e after waited waiting (outside stream old None told) on)
    (StopsFrom place reading e after waited waiting (outside stream old None told) new)
put_next place reading now e after stream waited waits waiting old mid told on new None put next =
    ReplaysUpTo-then place place (place + 1) reading reading now e e after waited waits waiting (outside stream old None told) (outside stream mid None told) on
    (put_goes place reading e stream waited waits old mid told put) next
put_next place reading now e after stream waited waits waiting old mid told on new (Some status) put next =
    StopsFrom-then place place reading reading e e after waited waits waiting (outside stream old None told) (outside stream mid None told) new status
    (put_goes place reading e stream waited waits old mid told put) next

-- ---- before the first line

pub goes_none : (place reading : ℕ) (e : EntityData) (held : List ℕ) (left : Option (List ℕ)) (waiting : List ℕ) (out : SinkTold) (told : LinkTold) → held ≡ []
    → ReplaysUpTo place place reading reading e e waiting waiting (outside left out None told) (outside (prepend_known held left) out None told)
goes_none place reading e held left waiting out told empty = record {
  heard = [];
  asks = asks_nothing reading e told;
  places = omega arith;
  reads = refl;
  stream = begins left;
  said = stands_still waiting out;
}
  where
    begins : (l : Option (List ℕ)) → LeadsTo place l [] (prepend_known held l)
    begins None = tt
    begins (Some bytes) = subst (λ (v : List ℕ). BeginsWithLines place bytes [] (v ++ bytes)) (sym empty) (still_begins place bytes)

-- nor does a reply wait
pub goes_first : (place reading : ℕ) (e : EntityData) (held : List ℕ) (left : Option (List ℕ)) (waiting : List ℕ) (out : SinkTold) (told : LinkTold) → held ≡ [] → waiting ≡ []
    → ReplaysUpTo place place reading reading e e [] waiting (outside left out None told) (outside (prepend_known held left) out None told)
goes_first place reading e held left waiting out told empty none =
    subst (λ (v : List ℕ). ReplaysUpTo place place reading reading e e [] v (outside left out None told) (outside (prepend_known held left) out None told)) (sym none)
    (goes_none place reading e held left [] out told empty)

-- memory ran out before the first line
pub starved_first : (e : EntityData) (left : Option (List ℕ)) (out : SinkTold) (readings : Option (List ℕ)) (told : LinkTold)
    → ReplaysFrom 1 0 e e (outside left out readings told) (outside left out readings told) Memory
starved_first e left out readings told = record {
  heard = [];
  asks = asks_nothing 0 e told;
  stream = here left;
  said = inl (within_none out);
}
  where
    here : (l : Option (List ℕ)) → IfSome l (EndsOn 1 Memory [] l)
    here None = tt
    here (Some bytes) = (bytes, still_begins 1 bytes, little [] bytes (omega arith))

-- ---- once what waits is put

end_stops : (place : ℕ) (ended status : Status) (replies : List ReplyParts) (waiting : List ℕ) (old mid new : SinkTold) (rest : List ℕ) (left : Option (List ℕ))
    → Stands (Some ended) replies waiting old mid → PutsLast WriteFault ended status waiting mid new → StopsRightly place ended rest left → StopsRightly place status rest left
end_stops place ended status replies waiting old mid new rest left s last stops = elim last [
  | inl failed ↦ subst (λ (e : Status). StopsRightly place e rest left) (failed.0 ∙ sym failed.1) stops
  | inr on ↦ elim on.1 [
    | inl put ↦ subst (λ (e : Status). StopsRightly place e rest left) (sym put.0) stops
    | inr part ↦ subst (λ (e : Status). StopsRightly place e rest left) (sym part.0) (cut_stops ended s stops part.1)
  ]
]
  where
    cut_stops : (e : Status) → Stands (Some e) replies waiting old mid → StopsRightly place e rest left → waiting ≢ [] → IfSome left (HoldsLittle rest)
    cut_stops Done s stops some = absurd (some s.0)
    cut_stops Usage s stops some = absurd s
    cut_stops (BadLine n) s stops some = stops.2
    cut_stops ReadFault s stops some = absurd (some s.0)
    cut_stops WriteFault s stops some = stops
    cut_stops Memory s stops some = stops
    cut_stops BadStream s stops some = absurd s

end_stops_on : (place : ℕ) (ended status : Status) (replies : List ReplyParts) (waiting : List ℕ) (old mid new : SinkTold) (heard : List Line) (stream left : Option (List ℕ))
    → Stands (Some ended) replies waiting old mid → PutsLast WriteFault ended status waiting mid new → IfSome stream (EndsOn place ended heard left) → IfSome stream (EndsOn place status heard left)
end_stops_on place ended status replies waiting old mid new heard None left s last stops = tt
end_stops_on place ended status replies waiting old mid new heard (Some bytes) left s last stops =
    (stops.0, stops.1, end_stops (place + length heard) ended status replies waiting old mid new stops.0 left s last stops.2)

-- how the replies stand where the lines began with none that waits
pub stands_first : (place reading : ℕ) (before after : EntityData) (waiting : List ℕ) (old mid : Outside) (ended : Status)
    → (stops : StopsFrom place reading before after [] waiting old mid ended) → Stands (Some ended) stops.asks.replies waiting old.out mid.out
stands_first place reading before after waiting old mid ended stops = stops.said [] old.out (keep_none reply_line old.out)

pub put_last_ends : (place reading : ℕ) (before after : EntityData) (stream left : Option (List ℕ)) (waiting : List ℕ) (old mid new : SinkTold) (told more : LinkTold) (ended status : Status)
    → StopsFrom place reading before after [] waiting (outside stream old None told) (outside left mid None more) ended → PutsLast WriteFault ended status waiting mid new
    → ReplaysFrom place reading before after (outside stream old None told) (outside left new None more) status
put_last_ends place reading before after stream left waiting old mid new told more ended status stops last =
    let s = stands_first place reading before after waiting (outside stream old None told) (outside left mid None more) ended stops in record {
      heard = stops.heard;
      asks = stops.asks;
      stream = end_stops_on place ended status stops.asks.replies waiting old mid new stops.heard stream left s last stops.stream;
      said = end_says ended status stops.asks.replies waiting old mid new s last;
    }

-- ---- how a line ends it

-- A line ended it, and the count of faults before that line was what it is at the start.
pub ended_at_line : {E : Type 0} (fault ended : E) (line start now : ℕ) → line ≡ start → EndsByFault (Some fault) (Some ended) line now → EndsByFault fault ended start now
ended_at_line fault ended line start now same ends = record {
  count = subst (λ (n : ℕ). n ≤ now) same ends.count;
  cause = λ is. subst (λ (n : ℕ). Rose n now) same (ends.cause (ap Some is));
  steady = λ other. ends.steady (λ is. other (same_Some ended fault is)) ∙ same;
}
