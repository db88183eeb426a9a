-- What a journal is, and the entity that it makes.
use Rattle.std.specs.Prelude.{◌≡◌, ◌⊎◌, ℕ, List, [], ◌∷◌, ◌++◌, map, ⊤}
use Rattle.turn_desk.specs.declared.entry.Entry.{Entry}
use Rattle.resource_model.specs.Home.{HomeData}
use Rattle.entity_model.specs.Entity.{EntityData, swept, without_next}
use Rattle.entity_model.specs.Opening.{opening}
use Rattle.cse_machine.specs.Answer.{effect_of}
use Rattle.cse_machine.specs.History.{History, IsDone}
use Rattle.cse_machine.specs.declared.event.Event.{Event}
use Rattle.cse_machine.specs.declared.event.Event.TheVariants as event
use Rattle.cse_machine.specs.declared.event.Outcome.{Outcome}
use Rattle.journal_lines.specs.Lines.{deed_at}
use Rattle.journal_lines.specs.Spelled.{SpellsDeeds, SpellsHeader}
use Rattle.journal_lines.specs.declared.deed.Dated.{Dated}
use Rattle.journal_lines.specs.declared.deed.Deed.{Deed}
use Rattle.journal_lines.specs.declared.deed.Deed.TheVariants.{Ask, Take, Tick}
use Rattle.entity_snapshot.specs.Snapshots.{SpellsEntity}

-- ---- what deeds make

-- a deed as an event of the machine, and an event as a deed
abbrev pub deed_event : Deed → Event
deed_event (Ask request) = event.Ask request
deed_event Take = event.Take
deed_event Tick = event.Tick

abbrev pub event_deed : Event → Deed
event_deed (event.Ask request) = Ask request
event_deed event.Take = Take
event_deed event.Tick = Tick

-- what a deed at a moment makes of an entity, where there is memory for it
abbrev pub done_at : ℕ → Deed → EntityData → EntityData
done_at moment (Ask request) e = (effect_of (swept moment e) request).after
done_at moment Take e = without_next (swept moment e)
done_at moment Tick e = swept moment e

abbrev pub made_by : Dated → EntityData → EntityData
made_by dated e = done_at dated.moment dated.deed e

-- what deeds make of it, one after another
abbrev pub made_of : List Dated → EntityData → EntityData
made_of [] e = e
made_of (dated ∷ deeds) e = made_of deeds (made_by dated e)

-- the deeds of a history, each at its reading
abbrev pub entry_deed : Entry Event Outcome → Dated
entry_deed entry = deed_at entry.reading (event_deed entry.event)

abbrev pub deeds_of : History → List Dated
deeds_of history = map entry_deed history

-- there was memory for each entry
abbrev pub AreDone : History → Type 0
AreDone [] = ⊤
AreDone (entry ∷ history) = IsDone entry.outcome × AreDone history

-- ---- journals

-- A text is a header, whose entity is the one that opens at its reading.
pub record SpellsFirst (home : HomeData) (base : EntityData) (text : List ℕ) : Type 0 where
  pub opened : ℕ
  pub header : SpellsHeader home opened text
  pub opens : base ≡ opening home opened

-- A text is the snapshot of an entity of this home.
pub record SpellsSnapshot (home : HomeData) (base : EntityData) (text : List ℕ) : Type 0 where
  pub own : base.home ≡ home
  pub spells : SpellsEntity base text

-- A text says with which entity a journal of this home begins: it is a header, or a snapshot.
abbrev pub SpellsOpening : HomeData → EntityData → List ℕ → Type 0
SpellsOpening home base text = SpellsFirst home base text ⊎ SpellsSnapshot home base text

-- A text is the journal of a home: it says with which entity it begins, and behind that it is the
-- lines of these deeds.
pub record IsJournalOf (home : HomeData) (base : EntityData) (deeds : List Dated) (text : List ℕ)
    : Type 0 where
  pub front : List ℕ
  pub lines : List ℕ
  pub split : text ≡ front ++ lines
  pub opens : SpellsOpening home base front
  pub spells : SpellsDeeds deeds lines

-- A text is the journal of a home, and this entity is what it makes.
pub record Makes (home : HomeData) (text : List ℕ) (e : EntityData) : Type 0 where
  pub base : EntityData
  pub deeds : List Dated
  pub journal : IsJournalOf home base deeds text
  pub made : e ≡ made_of deeds base
