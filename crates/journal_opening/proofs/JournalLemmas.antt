-- What deeds make, and how a journal grows.
use Rattle.std.proofs.Common.{◌≡◌, ℕ, ◌<◌, List, [], ◌∷◌, ◌++◌, true, inl, inr, refl, sym, ap, ◌∙◌, subst, append_assoc}
use Rattle.std.proofs.lemmas.List.{append-nil}
use Rattle.turn_desk.specs.declared.entry.Entry.{Entry}
use Rattle.primitive_json.specs.declared.request.RequestParts.{RequestParts}
use Rattle.resource_model.specs.Home.{HomeData, IsHome}
use Rattle.entity_model.specs.Entity.{EntityData}
use Rattle.entity_model.specs.Opening.{opening}
use Rattle.entity_snapshot.specs.Snapshots.{SpellsEntity}
use Rattle.cse_machine.specs.History.{History, HistoryLeaves, IsDone}
use Rattle.cse_machine.specs.Step.{Step}
use Rattle.cse_machine.specs.declared.event.Event.{Event}
use Rattle.cse_machine.specs.declared.event.Event.TheVariants.{Ask, Take, Tick}
use Rattle.cse_machine.specs.declared.event.Outcome.{Outcome}
use Rattle.cse_machine.specs.declared.event.Outcome.TheVariants.{Done, Forward, Item, Ticked, Starved}
use Rattle.journal_lines.proofs.HeaderLemmas.{headers_spelled}
use Rattle.journal_lines.proofs.LineLemmas.{deeds_spelled}
use Rattle.journal_lines.specs.Header.{header_of}
use Rattle.journal_file.specs.Gates.{is_batch}
use Rattle.journal_lines.specs.Lines.{IsReadBack, deed_at, lines_of, moment_bound}
use Rattle.journal_lines.specs.Spelled.{SpellsDeed, SpellsDeeds}
use Rattle.journal_lines.specs.declared.deed.Dated.{Dated}
use Rattle.journal_lines.specs.declared.deed.Deed.{Deed}
use Rattle.journal_lines.specs.declared.deed.Deed.TheVariants as deed
use Rattle.journal_opening.specs.Snapshots.{IsSnapshot, KeepsMaking}
use Rattle.journal_opening.specs.Journals.{AreDone, IsJournalOf, SpellsOpening, deed_event, deeds_of, done_at, event_deed, made_by, made_of}

-- ---- what deeds make

pub made_join : (deeds : List Dated) (dated : Dated) (base : EntityData) → made_of (deeds ++ dated ∷ []) base ≡ made_by dated (made_of deeds base)
made_join [] dated base = refl
made_join (d ∷ deeds) dated base = made_join deeds dated (made_by d base)

-- a step for which there was memory leaves what its event makes
pub event_makes : (moment : ℕ) (event : Event) (before after : EntityData) (outcome : Outcome) → Step moment event before outcome after
    → IsDone outcome → after ≡ done_at moment (event_deed event) before
event_makes moment (Ask request) before after (Done reply) step done = step.1
event_makes moment (Ask request) before after (Forward poa onward) step done = step.1
event_makes moment (Ask request) before after (Item given) step done = absurd step
event_makes moment (Ask request) before after Ticked step done = absurd step
event_makes moment (Ask request) before after (Starved n) step done = absurd done
event_makes moment Take before after (Done reply) step done = absurd step
event_makes moment Take before after (Forward poa onward) step done = absurd step
event_makes moment Take before after (Item given) step done = step.1
event_makes moment Take before after Ticked step done = absurd step
event_makes moment Take before after (Starved n) step done = absurd done
event_makes moment Tick before after (Done reply) step done = absurd step
event_makes moment Tick before after (Forward poa onward) step done = absurd step
event_makes moment Tick before after (Item given) step done = absurd step
event_makes moment Tick before after Ticked step done = step
event_makes moment Tick before after (Starved n) step done = absurd done

deed_back : (d : Deed) → event_deed (deed_event d) ≡ d
deed_back (deed.Ask request) = refl
deed_back deed.Take = refl
deed_back deed.Tick = refl

-- what isn't want of memory is done
done_of : (outcome : Outcome) → ((n : ℕ) → outcome ≡ Starved n → ⊥) → IsDone outcome
done_of (Starved n) never = never n refl
done_of outcome never = tt

pub deed_makes : (moment : ℕ) (d : Deed) (event : Event) (before after : EntityData) (outcome : Outcome) → event ≡ deed_event d
    → Step moment event before outcome after → ((n : ℕ) → outcome ≡ Starved n → ⊥) → after ≡ done_at moment d before
deed_makes moment d event before after outcome is step never =
    event_makes moment event before after outcome step (done_of outcome never)
    ∙ ap (λ e. done_at moment (event_deed e) before) is
    ∙ ap (λ x. done_at moment x before) (deed_back d)

pub history_makes : (base e : EntityData) (history : History) → HistoryLeaves base history e → AreDone history → made_of (deeds_of history) base ≡ e
history_makes base e [] leaves done = sym leaves
history_makes base e (entry ∷ history) (between, step, rest) (first, more) =
    ap (made_of (deeds_of history)) (sym (event_makes entry.reading entry.event base between entry.outcome step first))
    ∙ history_makes between e history rest more

-- ---- how a journal grows

pub spells_join : (deeds : List Dated) (dated : Dated) (lines front : List ℕ) → SpellsDeeds deeds lines → SpellsDeed dated front
    → SpellsDeeds (deeds ++ dated ∷ []) (lines ++ front)
spells_join [] dated lines front none one = (front, [], ap (λ (l : List ℕ). l ++ front) none ∙ sym (append-nil front), one, refl)
spells_join (d ∷ deeds) dated lines front (first, back, split, one, rest) more =
    (first, back ++ front, ap (λ (l : List ℕ). l ++ front) split ∙ append_assoc first back front, one, spells_join deeds dated back front rest more)

pub header_opens : (home : HomeData) (opened : ℕ) → IsHome home → opened < moment_bound → IsJournalOf home (opening home opened) [] (header_of home opened)
header_opens home opened is short = record {
  front = header_of home opened;
  lines = [];
  split = sym (append-nil (header_of home opened));
  opens = inl (record { opened = opened; header = headers_spelled home opened is short; opens = refl });
  spells = refl;
}

pub snapshot_opens : (e : EntityData) (text : List ℕ) → SpellsEntity e text → IsJournalOf e.home e [] text
snapshot_opens e text spells = record {
  front = text;
  lines = [];
  split = sym (append-nil text);
  opens = inr (record { own = refl; spells = spells });
  spells = refl;
}

pub snapshot_makes : (e : EntityData) (bytes : List ℕ) → IsSnapshot e bytes → KeepsMaking e.home e bytes
snapshot_makes e bytes is = record {
  text = is.text;
  makes = record { base = e; deeds = []; journal = snapshot_opens e is.text is.spells; made = refl };
  keeps = record { behind = 10 ∷ []; split = is.rest; shut = refl };
}

pub journal_grows : (home : HomeData) (base : EntityData) (deeds : List Dated) (text : List ℕ) (moment : ℕ) (d : Deed)
    → IsJournalOf home base deeds text → moment < moment_bound → IsReadBack d
    → IsJournalOf home base (deeds ++ deed_at moment d ∷ []) (text ++ lines_of moment d)
    × (made_of (deeds ++ deed_at moment d ∷ []) base ≡ made_by (deed_at moment d) (made_of deeds base))
journal_grows home base deeds text moment d journal short back =
    let more = lines_of moment d in (
      record {
        front = journal.front;
        lines = journal.lines ++ more;
        split = ap (λ (l : List ℕ). l ++ more) journal.split ∙ append_assoc journal.front journal.lines more;
        opens = journal.opens;
        spells = spells_join deeds (deed_at moment d) journal.lines more journal.spells (deeds_spelled moment d short back);
      },
      made_join deeds (deed_at moment d) base,
    )

-- ---- the lines of a deed are a batch

pub deed_is_batch : (moment : ℕ) (d : Deed) (more : List ℕ) → is_batch (lines_of moment d ++ more) ≡ true
deed_is_batch moment d more = refl

pub deed_alone_is_batch : (moment : ℕ) (d : Deed) → is_batch (lines_of moment d) ≡ true
deed_alone_is_batch moment d = refl
