-- Entries that are joined: the proofs that the desk brings for the laws of a desk.
use Rattle.std.proofs.Common.{List, [], ◌++◌, refl, sym, ap, ◌∙◌}
use Rattle.std.specs.List.{flat_map}
use Rattle.std.proofs.lemmas.Grind.{flat_map-append}
use Rattle.std.proofs.lemmas.List.Elements.{All-append, All-nil}
use Rattle.turn_desk.specs.Entries.{Marked}
use Rattle.kept_desk.specs.declared.turn.Answer.{Answer}
use Rattle.cse_machine.specs.declared.event.Event.{Event}
use Rattle.cse_machine.specs.declared.event.Outcome.{Outcome}
use Rattle.journal_events.specs.declared.event.KeptEvent.{KeptEvent}
use Rattle.journal_events.specs.declared.event.KeptOutcome.{KeptOutcome}
use Rattle.journaled_server.specs.Plain.{AsksMachine, PlainGrown, plain}

module _ {S : Type 0} (grown : S → List (Marked KeptEvent (Answer KeptOutcome)) → S → Type 0) where
  -- nothing was asked
  pub plain_nothing : ((seat : S) → grown seat [] seat) → (seat : S) → PlainGrown grown seat [] seat
  plain_nothing nothing seat = record {
    answers = [];
    grew = nothing seat;
    of_machine = All-nil AsksMachine;
    plain_is = refl;
  }

  -- and then more was asked
  pub plain_both : ((before between after : S)
      (more then : List (Marked KeptEvent (Answer KeptOutcome)))
      → grown before more between → grown between then after → grown before (more ++ then) after)
      → (before between after : S) (more then : List (Marked Event Outcome))
      → PlainGrown grown before more between → PlainGrown grown between then after
      → PlainGrown grown before (more ++ then) after
  plain_both on before between after more then first second = record {
    answers = first.answers ++ second.answers;
    grew = on before between after first.answers second.answers first.grew second.grew;
    of_machine = All-append AsksMachine first.answers second.answers first.of_machine
        second.of_machine;
    plain_is = ap (λ l. l ++ then) first.plain_is
        ∙ ap (λ l. flat_map plain first.answers ++ l) second.plain_is
        ∙ sym (flat_map-append plain first.answers second.answers);
  }
