-- A question at a plain desk, and how its seat grows.
use Rattle.std.proofs.Common.{◌≡◌, ℕ, List, [], ◌∷◌, ◌++◌, map, refl, sym, ap, ◌∙◌}
use Rattle.std.specs.List.{All, flat_map}
use Rattle.std.proofs.lemmas.Bool.{false≢true}
use Rattle.std.proofs.lemmas.Grind.{flat_map-append}
use Rattle.std.proofs.lemmas.List.{map-append}
use Rattle.std.proofs.lemmas.List.Elements.{All-append, All-cons, All-nil}
use Rattle.turn_desk.specs.Entries.{Marked, as_others, as_own, entry_of}
use Rattle.turn_desk.specs.declared.entry.Entry.{Entry}
use Rattle.turn_desk.specs.Growth.{Asks}
use Rattle.kept_desk.specs.declared.turn.Turn.{Turn}
use Rattle.kept_desk.specs.declared.turn.Report.{Report}
use Rattle.kept_desk.specs.declared.turn.Answer.{Answer}
use Rattle.cse_machine.specs.declared.event.Event.{Event}
use Rattle.cse_machine.specs.declared.event.Outcome.{Outcome}
use Rattle.journal_events.specs.declared.event.KeptEvent.{KeptEvent}
use Rattle.journal_events.specs.declared.event.KeptEvent.TheVariants as event
use Rattle.journal_events.specs.declared.event.KeptOutcome.{KeptOutcome}
use Rattle.journaled_server.specs.Plain.{AsksMachine, PlainGrown, plain, plain_by, plain_outcome}
use Rattle.journaled_server.specs.Serving.{AnswersGrown}

-- an entry of another seat, where its event is one of the machine
abbrev entries_by : KeptEvent → Entry KeptEvent (Answer KeptOutcome) → List (Entry Event Outcome)
entries_by (event.OfMachine asked) e = entry_of e.reading asked (plain_outcome e.outcome) ∷ []
entries_by event.Next e = []
entries_by (event.Sent number) e = []

entries_plain : (asked : KeptEvent) (e : Entry KeptEvent (Answer KeptOutcome)) → plain_by asked (as_others e) ≡ map as_others (entries_by asked e)
entries_plain (event.OfMachine asked) e = refl
entries_plain event.Next e = refl
entries_plain (event.Sent number) e = refl

abbrev others_of : List (Entry KeptEvent (Answer KeptOutcome)) → List (Entry Event Outcome)
others_of [] = []
others_of (e ∷ others) = entries_by e.event e ++ others_of others

others_plain : (others : List (Entry KeptEvent (Answer KeptOutcome))) → flat_map plain (map as_others others) ≡ map as_others (others_of others)
others_plain [] = refl
others_plain (e ∷ others) =
    ap (λ l. l ++ flat_map plain (map as_others others)) (entries_plain e.event e)
    ∙ ap (λ l. map as_others (entries_by e.event e) ++ l) (others_plain others)
    ∙ sym (map-append as_others (entries_by e.event e) (others_of others))

-- of what others asked nothing is the seat's own
others_machine : (others : List (Entry KeptEvent (Answer KeptOutcome))) → All AsksMachine (map as_others others)
others_machine [] = All-nil AsksMachine
others_machine (e ∷ others) = All-cons AsksMachine (as_others e) (map as_others others) (λ own. absurd (false≢true own)) (others_machine others)

pub plain_asked : {S : Type 0} (grown : S → List (Marked KeptEvent (Answer KeptOutcome)) → S → Type 0) (before after : S)
    (reading : ℕ) (asked : Event) (answer : Answer KeptOutcome) (outcome : Outcome) → outcome ≡ plain_outcome answer
    → Asks grown before (entry_of reading (event.OfMachine asked) answer) after → Asks (PlainGrown grown) before (entry_of reading asked outcome) after
plain_asked grown before after reading asked answer outcome is asks =
    let e = entry_of reading (event.OfMachine asked) answer in
    record {
      others = others_of asks.others;
      grew = record {
        answers = map as_others asks.others ++ as_own e ∷ [];
        grew = asks.grew;
        of_machine = All-append AsksMachine (map as_others asks.others) (as_own e ∷ []) (others_machine asks.others)
            (All-cons AsksMachine (as_own e) [] (λ own. (asked, refl)) (All-nil AsksMachine));
        plain_is = ap (λ o. map as_others (others_of asks.others) ++ as_own (entry_of reading asked o) ∷ []) is
            ∙ ap (λ l. l ++ as_own (entry_of reading asked (plain_outcome answer)) ∷ []) (sym (others_plain asks.others))
            ∙ sym (flat_map-append plain (map as_others asks.others) (as_own e ∷ []));
      };
    }

-- who answers plainly what is kept asked the desk below
pub grew_below : {S : Type 0} (grown : S → List (Marked (Turn KeptEvent) (Report KeptOutcome)) → S → Type 0) (before after : S) (more : List (Marked Event Outcome))
    → AnswersGrown grown before more after → (all : List (Marked (Turn KeptEvent) (Report KeptOutcome))) × grown before all after
grew_below grown before after more plain = (plain.grew.0, plain.grew.1)
