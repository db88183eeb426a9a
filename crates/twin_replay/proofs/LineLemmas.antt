-- One line taken, and what stands next.
use Rattle.std.proofs.Common.{◌≡◌, ℕ, ◌+◌, ◌≤◌, List, [], ◌∷◌, ◌++◌, length, Option, Some, None, option_to_list, IfSome, MatchOption, Err, inl, inr, refl, sym, ap, subst, arith, append-nil}
use Rattle.std.specs.Io.KnownBytes.{IsAtEnd, prepend_known}
use Rattle.std.specs.Str.Lines.{lines}
use Rattle.m2m_io.specs.declared.status.Status.{Status}
use Rattle.m2m_io.specs.declared.status.Status.TheVariants.{Done, Usage, BadLine, ReadFault, WriteFault, Memory, BadStream}
use Rattle.cse_server.specs.Outside.{Puts, SinkTold}
use Rattle.cse_server.proofs.PutLemmas.{puts_none, puts_nothing}
use Rattle.primitive_replay.specs.Front.{HasNoEnd, held_limit}
use Rattle.primitive_replay.specs.Stream.{BeginsBadly, BeginsWithTexts, HoldsLittle, LeadsOver, NextIs, TakesOff}
use Rattle.primitive_replay.specs.Way.{WritesText, fault_status}
use Rattle.primitive_replay.specs.declared.fault.LineFault.{LineFault}
use Rattle.primitive_replay.specs.declared.fault.LineFault.TheVariants.{Bad, ReadFault as Unread, OutOfMemory as Starved}
use Rattle.primitive_replay.proofs.TurnLemmas.{fault_bad, fault_keeps, little}
use Rattle.twin_replay.specs.Forms.{is_asking}
use Rattle.twin_replay.specs.Sides.{TakesLine}
use Rattle.twin_replay.specs.Twins.{PutsEach, SaysLine, Stops, TwinsFrom, TwinsUpTo, WritesTexts, end_status, next_form, told}
use Rattle.twin_replay.specs.declared.lines.Part.{Part}
use Rattle.twin_replay.specs.declared.lines.Part.TheVariants.{Before, LeftSide, RightSide, Asking}
use Rattle.twin_replay.specs.declared.lines.TwinLine.{TwinLine}
use Rattle.twin_replay.specs.declared.sides.Sides.{Sides}
use Rattle.twin_replay.proofs.TwinLemmas.{EndsOn, takes_one}

-- no line was taken, and this is left
still_begins : (bytes : List ℕ) → BeginsWithTexts bytes [] bytes
still_begins bytes = record { front = []; bytes_are = refl; texts_are = refl }

no_place : (place : ℕ) → place + length {A = List ℕ} [] ≡ place
no_place place = omega arith

-- ---- a line that was taken

goes_on : (place : ℕ) (before after : Sides) (stream : Option (List ℕ)) (held : List ℕ) (left : Option (List ℕ)) (old new : SinkTold) (line : TwinLine) (said : Option (List ℕ))
    → TakesOff (next_form before) place line stream (prepend_known held left) → TakesLine line before after said → PutsEach (option_to_list said) old new
    → TwinsUpTo place (place + 1) before after (told stream old) (told (prepend_known held left) new)
goes_on place before after stream held left old new line said off takes written = record {
  texts = off.text ∷ [];
  said = option_to_list said;
  takes = takes_one place before after off.text said (record { line = line; is = off.is; takes = takes });
  places = omega arith;
  stream = off.stream;
  written = written;
}

-- what is left where writing failed for the line
failed_on : (place : ℕ) (after : Sides) (text : List ℕ) (stream : Option (List ℕ)) (held : List ℕ) (left : Option (List ℕ)) → length held ≤ held_limit
    → LeadsOver (text ∷ []) stream (prepend_known held left) → IfSome stream (EndsOn place WriteFault after (text ∷ []) left)
failed_on place after text None held left few over = tt
failed_on place after text (Some bytes) held None few over = absurd over
failed_on place after text (Some bytes) held (Some ys) few over = (held ++ ys, over, little held ys few)

-- what is left where memory ran out for it
lost_on : (place : ℕ) (after : Sides) (text : List ℕ) (stream : Option (List ℕ)) (held : List ℕ) (left : Option (List ℕ)) → length held ≤ held_limit
    → LeadsOver (text ∷ []) stream (prepend_known held left) → IfSome stream (EndsOn place Memory after [] left)
lost_on place after text None held left few over = tt
lost_on place after text (Some bytes) held None few over = absurd over
lost_on place after text (Some bytes) held (Some ys) few over =
    (bytes, still_begins bytes, record { lost = text ∷ []; behind = held ++ ys; takes = over; one = omega arith; reads = little held ys few })

-- a line was taken, and it goes on or ends
pub line_next : (place : ℕ) (before after : Sides) (stream : Option (List ℕ)) (held : List ℕ) (left : Option (List ℕ)) (old new : SinkTold) (line : TwinLine) (status : Option Status)
    → length held ≤ held_limit → TakesOff (next_form before) place line stream (prepend_known held left) → SaysLine status line before after old new
    → MatchOption status
    (TwinsUpTo place (place + 1) before after (told stream old) (told (prepend_known held left) new))
    (TwinsFrom place before (told stream old) (told left new))
line_next place before after stream held left old new line None few off says =
    goes_on place before after stream held left old new line says.0 off says.1 says.2
line_next place before after stream held left old new line (Some Done) few off says = absurd says
line_next place before after stream held left old new line (Some Usage) few off says = absurd says
line_next place before after stream held left old new line (Some (BadLine n)) few off says = absurd says
line_next place before after stream held left old new line (Some ReadFault) few off says = absurd says
line_next place before after stream held left old new line (Some WriteFault) few off says = record {
  texts = off.text ∷ [];
  after = after;
  said = says.0 ∷ [];
  takes = takes_one place before after off.text (Some says.0) (record { line = line; is = off.is; takes = says.1 });
  stream = failed_on place after off.text stream held left few off.stream;
  written = record { whole = []; last = says.0; between = old; texts_are = refl; before = puts_none old; part = says.2 };
}
line_next place before after stream held left old new line (Some Memory) few off says = record {
  texts = [];
  after = before;
  said = [];
  takes = (refl, refl);
  stream = lost_on place before off.text stream held left few off.stream;
  written = puts_nothing old new says;
}
line_next place before after stream held left old new line (Some BadStream) few off says = absurd says

-- what is written for a line, by what came of one put
pub says_text : (status : Option Status) (line : TwinLine) (sides next : Sides) (text : List ℕ) (old new : SinkTold) → TakesLine line sides next (Some text)
    → WritesText status text old new → SaysLine status line sides next old new
says_text None line sides next text old new takes said = (Some text, takes, subst (λ (v : List ℕ). Puts v 1 old new) (sym (append-nil text)) said)
says_text (Some Done) line sides next text old new takes said = said
says_text (Some Usage) line sides next text old new takes said = said
says_text (Some (BadLine n)) line sides next text old new takes said = said
says_text (Some ReadFault) line sides next text old new takes said = said
says_text (Some WriteFault) line sides next text old new takes said = (text, takes, said)
says_text (Some Memory) line sides next text old new takes said = said
says_text (Some BadStream) line sides next text old new takes said = said

-- nothing is written for a line
pub says_nothing : (line : TwinLine) (sides next : Sides) (out : SinkTold) → TakesLine line sides next None → SaysLine None line sides next out out
says_nothing line sides next out takes = (None, takes, puts_none out)

-- ---- no line

fault_written : (fault : LineFault) (place : ℕ) (out : SinkTold) → WritesTexts (fault_status fault place) [] out out
fault_written Bad place out = puts_none out
fault_written Unread place out = puts_none out
fault_written Starved place out = puts_none out

fault_stops : (fault : LineFault) (place next : ℕ) (sides : Sides) (bytes held left : List ℕ) → next ≡ place → bytes ≡ held ++ left → length held ≤ held_limit
    → (fault ≡ Bad → BeginsBadly (next_form sides) place bytes) → (fault ≡ Unread → HasNoEnd held) → Stops (fault_status fault place) next sides bytes (Some left)
fault_stops Bad place next sides bytes held left same is few bad none =
    (sym same, inl (subst (λ (n : ℕ). BeginsBadly (next_form sides) n bytes) (sym same) (bad refl)), record { held = held; rest_is = is; few = few })
fault_stops Unread place next sides bytes held left same is few bad none =
    record { reads = record { held = held; rest_is = is; few = few }; none = none refl }
fault_stops Starved place next sides bytes held left same is few bad none =
    record { lost = []; behind = bytes; takes = still_begins bytes; one = omega arith; reads = record { held = held; rest_is = is; few = few } }

fault_on : (fault : LineFault) (place : ℕ) (sides : Sides) (stream : Option (List ℕ)) (held : List ℕ) (left : Option (List ℕ)) → length held ≤ held_limit
    → NextIs (next_form sides) place (Err fault) stream (prepend_known held left) → (fault ≡ Unread → HasNoEnd held)
    → IfSome stream (EndsOn place (fault_status fault place) sides [] left)
fault_on fault place sides None held left few next none = tt
fault_on fault place sides (Some bytes) held None few next none = absurd (fault_keeps (next_form sides) fault place (Some bytes) None next)
fault_on fault place sides (Some bytes) held (Some ys) few next none = (
  bytes,
  still_begins bytes,
  fault_stops fault place (place + length {A = List ℕ} []) sides bytes held ys (no_place place)
      (sym (fault_keeps (next_form sides) fault place (Some bytes) (Some (held ++ ys)) next)) few
      (fault_bad (next_form sides) fault place bytes (Some (held ++ ys)) next) none,
)

pub fault_ends : (fault : LineFault) (place : ℕ) (sides : Sides) (stream : Option (List ℕ)) (held : List ℕ) (left : Option (List ℕ)) (out : SinkTold) → length held ≤ held_limit
    → NextIs (next_form sides) place (Err fault) stream (prepend_known held left) → (fault ≡ Unread → HasNoEnd held)
    → TwinsFrom place sides (told stream out) (told left out) (fault_status fault place)
fault_ends fault place sides stream held left out few next none = record {
  texts = [];
  after = sides;
  said = [];
  takes = (refl, refl);
  stream = fault_on fault place sides stream held left few next none;
  written = fault_written fault place out;
}

-- ---- the end

nothing_left : (left : Option (List ℕ)) → IsAtEnd left → IfSome left (HoldsLittle [])
nothing_left None over = tt
nothing_left (Some ys) over = record { held = []; rest_is = sym over; few = omega arith }

end_stops : (part : Part) (place next : ℕ) (sides : Sides) (left : Option (List ℕ)) → sides.part ≡ part → next ≡ place → IsAtEnd left → Stops (end_status part place) next sides [] left
end_stops Before place next sides left is same over = (sym same, inr (refl, ap is_asking is), nothing_left left over)
end_stops LeftSide place next sides left is same over = (sym same, inr (refl, ap is_asking is), nothing_left left over)
end_stops RightSide place next sides left is same over = (sym same, inr (refl, ap is_asking is), nothing_left left over)
end_stops (Asking originator) place next sides left is same over = (refl, ap is_asking is, over)

end_written : (part : Part) (place : ℕ) (out : SinkTold) → WritesTexts (end_status part place) [] out out
end_written Before place out = puts_none out
end_written LeftSide place out = puts_none out
end_written RightSide place out = puts_none out
end_written (Asking originator) place out = puts_none out

end_on : (place : ℕ) (sides : Sides) (stream left : Option (List ℕ)) → IsAtEnd stream → IsAtEnd left → IfSome stream (EndsOn place (end_status sides.part place) sides [] left)
end_on place sides None left end over = tt
end_on place sides (Some bytes) left end over = (
  [],
  record { front = []; bytes_are = end; texts_are = ap lines end },
  end_stops sides.part place (place + length {A = List ℕ} []) sides left refl (no_place place) over,
)

pub end_ends : (place : ℕ) (sides : Sides) (stream left : Option (List ℕ)) (out : SinkTold) → IsAtEnd stream → IsAtEnd left
    → TwinsFrom place sides (told stream out) (told left out) (end_status sides.part place)
end_ends place sides stream left out end over = record {
  texts = [];
  after = sides;
  said = [];
  takes = (refl, refl);
  stream = end_on place sides stream left end over;
  written = end_written sides.part place out;
}

-- ---- before the first line

pub goes_none : (place : ℕ) (sides : Sides) (held : List ℕ) (left : Option (List ℕ)) (out : SinkTold) → held ≡ []
    → TwinsUpTo place place sides sides (told left out) (told (prepend_known held left) out)
goes_none place sides held left out empty = record {
  texts = [];
  said = [];
  takes = (refl, refl);
  places = omega arith;
  stream = begins left;
  written = puts_none out;
}
  where
    begins : (l : Option (List ℕ)) → LeadsOver [] l (prepend_known held l)
    begins None = tt
    begins (Some bytes) = subst (λ (v : List ℕ). BeginsWithTexts bytes [] (v ++ bytes)) (sym empty) (still_begins bytes)

-- memory ran out before the first line
pub starved_first : (sides : Sides) (left : Option (List ℕ)) (out : SinkTold) → TwinsFrom 1 sides (told left out) (told left out) Memory
starved_first sides left out = record {
  texts = [];
  after = sides;
  said = [];
  takes = (refl, refl);
  stream = here left;
  written = puts_none out;
}
  where
    here : (l : Option (List ℕ)) → IfSome l (EndsOn 1 Memory sides [] l)
    here None = tt
    here (Some bytes) =
        (bytes, still_begins bytes, record { lost = []; behind = bytes; takes = still_begins bytes; one = omega arith; reads = little [] bytes (omega arith) })
