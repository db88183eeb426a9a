-- What is written down keeps the entity.
use Rattle.std.proofs.Common.{◌≡◌, ◌⊎◌, inl, inr, ⊎_elim, ℕ, ◌+◌, ◌<◌, ◌≤◌, true, false, List, [], ◌∷◌, ◌++◌, length, take, refl, sym, ◌∙◌, ap, subst, arith}
use Rattle.std.specs.Prelude.{Option, Some, None, IfSome, Result, Ok, Err, OnErr}
use Rattle.std.proofs.lemmas.Bool.{cases_Bool, true≢false}
use Rattle.std.proofs.lemmas.List.{append-nil, take_at}
use Rattle.primitive_json.specs.declared.request.RequestParts.{RequestParts}
use Rattle.resource_model.specs.Home.{HomeData}
use Rattle.entity_model.specs.Entity.{EntityData, event_moment, expired_told, last_reading, swept, without_next}
use Rattle.entity_model.specs.Sound.{IsSoundEntity}
use Rattle.cse_machine.specs.Answer.{effect_of}
use Rattle.cse_machine.specs.Step.{Step}
use Rattle.cse_machine.specs.declared.event.Event.{Event}
use Rattle.cse_machine.specs.declared.event.Event.TheVariants as events
use Rattle.cse_machine.specs.declared.event.Outcome.{Outcome}
use Rattle.cse_machine.specs.declared.event.Outcome.TheVariants.{Done, Forward, Item, Ticked, Starved}
use Rattle.cse_machine.proofs.SameLemmas.{same_entity}
use Rattle.journal_events.specs.Steps.{OnlyExpires}
use Rattle.journal_lines.specs.Lines.{IsReadBack, deed_at, lines_of, moment_bound}
use Rattle.journal_lines.specs.declared.deed.Deed.{Deed}
use Rattle.journal_lines.specs.declared.deed.Deed.TheVariants as deeds
use Rattle.journal_events.specs.Kept.{ChangesTheMomentAlone, at_moment}
use Rattle.journal_events.proofs.KeptLemmas.{swept_again}
use Rattle.journal_events.proofs.QuietLemmas.{quiet}
use Rattle.journal_opening.specs.Journals.{Makes, done_at, event_deed}
use Rattle.journal_opening.proofs.JournalLemmas.{deed_alone_is_batch, journal_grows, snapshot_opens}
use Rattle.kept_object.specs.Records.{IsKeptAtRest, Records}
use Rattle.journal_opening.specs.Snapshots.{IsSnapshot}
use Rattle.journaled_entity.specs.Changes.{differs, is_cut_short, may_change}
use Rattle.journaled_entity.specs.Keeping.{KeepsEntity}
use Rattle.journaled_entity.proofs.ChangeLemmas.{expiry_alone}

-- ---- moments

moment_again : (last reading : ℕ) → last ≤ last_reading → event_moment last (event_moment last reading) ≡ event_moment last reading
moment_again last reading within = omega (arith, within)

-- what is due goes alike at the moment of the event
pub swept_then : (reading moment : ℕ) (e : EntityData) → e.last ≤ last_reading → moment ≡ event_moment e.last reading → swept moment e ≡ swept reading e
swept_then reading moment e within is =
    ap (λ m. expired_told m e) (ap (event_moment e.last) is ∙ moment_again e.last reading within)

pub unchanged : (e : EntityData) → ChangesTheMomentAlone e e
unchanged e = record { same = refl; later = omega arith }

-- and alike from an earlier moment
pub swept_made : (reading moment : ℕ) (made e : EntityData) → e.last ≤ last_reading → moment ≡ event_moment e.last reading → ChangesTheMomentAlone made e
    → swept moment made ≡ swept moment e
swept_made reading moment made e within is same =
    let back : made ≡ at_moment made.last e = sym (ap (at_moment made.last) same.same) in
    let before : made.last ≤ moment = omega (arith, same.later, is) in
    let later : e.last ≤ moment = omega (arith, is) in
    let most : moment ≤ last_reading = omega (arith, is, within) in
    ap (swept moment) back ∙ sym (swept_again moment made.last e before later most)

-- what a deed makes goes by what is left of the entity
done_alike : (moment : ℕ) (deed : Deed) (e f : EntityData) → swept moment e ≡ swept moment f → done_at moment deed e ≡ done_at moment deed f
done_alike moment (deeds.Ask request) e f same = ap (λ (x : EntityData). (effect_of x request).after) same
done_alike moment deeds.Take e f same = ap without_next same
done_alike moment deeds.Tick e f same = same

-- ---- lines

pub tick_read : IsReadBack deeds.Tick
tick_read = refl

pub take_read : IsReadBack deeds.Take
take_read = refl

-- ---- what is kept

-- a deed that made the entity
module _ (reading moment : ℕ) (deed : Deed) (before after : EntityData) (within : before.last ≤ last_reading) (is : moment ≡ event_moment before.last reading)
    (small : moment < moment_bound) (read : IsReadBack deed) (makes : done_at moment deed before ≡ after) (home : after.home ≡ before.home) where
  made_on : (text : List ℕ) → KeepsEntity before text → KeepsEntity after (text ++ lines_of moment deed)
  made_on text kept =
      let m = kept.makes in
      let grown = journal_grows before.home m.base m.deeds text moment deed m.journal small read in
      let made = done_at moment deed kept.made in
      let whole : made ≡ after = done_alike moment deed kept.made before (swept_made reading moment kept.made before within is kept.same) ∙ makes in
      let grows : Makes before.home (text ++ lines_of moment deed) made = record {
        base = m.base;
        deeds = m.deeds ++ deed_at moment deed ∷ [];
        journal = grown.0;
        made = ap (done_at moment deed) m.made ∙ sym grown.1;
      } in
      record {
        made = made;
        makes = subst (λ (h : HomeData). Makes h (text ++ lines_of moment deed) made) (sym home) grows;
        same = subst (ChangesTheMomentAlone made) whole (unchanged made);
      }

  pub deed_recorded : (lines : List ℕ) → Records KeepsEntity before lines after (lines ++ lines_of moment deed)
  deed_recorded lines = record {
    more = lines_of moment deed;
    appended = refl;
    batch = inr (deed_alone_is_batch moment deed);
    played = made_on;
  }

-- nothing but the moment
quiet_on : (made now then : EntityData) → ChangesTheMomentAlone made now → ChangesTheMomentAlone now then → ChangesTheMomentAlone made then
quiet_on made now then first second = record {
  same = second.same ∙ ap (at_moment then.last) first.same;
  later = omega (arith, first.later, second.later);
}

pub quiet_recorded : (before after : EntityData) (lines : List ℕ) → ChangesTheMomentAlone before after → Records KeepsEntity before lines after lines
quiet_recorded before after lines quiet =
    let home : after.home ≡ before.home = ap (λ (e : EntityData). e.home) quiet.same in
    record {
      more = [];
      appended = sym (append-nil lines);
      batch = inl refl;
      played = λ text kept. subst (KeepsEntity after) (sym (append-nil text)) (record {
        made = kept.made;
        makes = subst (λ (h : HomeData). Makes h text kept.made) (sym home) kept.makes;
        same = quiet_on kept.made before after kept.same quiet;
      });
    }

-- nothing at all
pub same_recorded : (before after : EntityData) (lines : List ℕ) → after ≡ before → Records KeepsEntity before lines after lines
same_recorded before after lines same = quiet_recorded before after lines (subst (ChangesTheMomentAlone before) (sym same) (unchanged before))

-- ---- a snapshot

pub snapshot_keeps : (e : EntityData) (bytes : List ℕ) → IsSnapshot e bytes → IsKeptAtRest KeepsEntity e bytes
snapshot_keeps e bytes is = record {
  text = is.text;
  rest = is.rest;
  keeps_it = record {
    made = e;
    makes = record { base = e; deeds = []; journal = snapshot_opens e is.text is.spells; made = refl };
    same = unchanged e;
  };
}

-- ---- an event

-- the deed of an event that changed something is the event
own_deed : (reading moment : ℕ) (event : Event) (outcome : Outcome) (before after : EntityData) → swept moment before ≡ swept reading before
    → Step reading event before outcome after → may_change (swept reading before) event outcome after ≡ true → done_at moment (event_deed event) before ≡ after
own_deed reading moment (events.Ask request) (Done reply) before after same step may = ap (λ (x : EntityData). (effect_of x request).after) same ∙ sym step.1
own_deed reading moment (events.Ask request) (Forward poa onward) before after same step may = absurd (true≢false (sym may))
own_deed reading moment (events.Ask request) (Item given) before after same step may = absurd step
own_deed reading moment (events.Ask request) Ticked before after same step may = absurd step
own_deed reading moment (events.Ask request) (Starved done) before after same step may = absurd (true≢false (sym may))
own_deed reading moment events.Take (Done reply) before after same step may = absurd step
own_deed reading moment events.Take (Forward poa onward) before after same step may = absurd step
own_deed reading moment events.Take (Item given) before after same step may = ap without_next same ∙ sym step.1
own_deed reading moment events.Take Ticked before after same step may = absurd step
own_deed reading moment events.Take (Starved done) before after same step may = absurd (true≢false (sym may))
own_deed reading moment events.Tick outcome before after same step may = absurd (true≢false (sym may))

-- one that changed something, written down as itself
pub own_recorded : (reading moment : ℕ) (event : Event) (outcome : Outcome) (before after : EntityData) (lines now : List ℕ) → IsSoundEntity before
    → Step reading event before outcome after → may_change (swept reading before) event outcome after ≡ true → moment ≡ event_moment before.last reading → moment < moment_bound
    → IsReadBack (event_deed event) → now ≡ lines ++ lines_of moment (event_deed event) → Records KeepsEntity before lines after now
own_recorded reading moment event outcome before after lines now sound step may is small read written =
    let same = swept_then reading moment before sound.last is in
    subst (Records KeepsEntity before lines after) (sym written)
    (deed_recorded reading moment (event_deed event) before after sound.last is small read (own_deed reading moment event outcome before after same step may)
    (same_entity reading event outcome before after step).home lines)

same_counts : (before after : EntityData) → differs before after ≡ false → (length after.nodes ≡ length before.nodes) × (length after.items ≡ length before.items)
same_counts before after same = grind (arith, same)

none_differ : (e : EntityData) → differs e e ≡ false
none_differ e = grind arith

-- one that changed no more than an expiry does, written down as an expiry where something came or went by it
pub expiry_recorded : (reading moment : ℕ) (event : Event) (outcome : Outcome) (before after : EntityData) (lines now : List ℕ) → IsSoundEntity before
    → Step reading event before outcome after → is_cut_short outcome ≡ false → may_change (swept reading before) event outcome after ≡ false
    → moment ≡ event_moment before.last reading → moment < moment_bound
    → (differs before after ≡ false → now ≡ lines) → (differs before after ≡ true → now ≡ lines ++ lines_of moment deeds.Tick)
    → Records KeepsEntity before lines after now
expiry_recorded reading moment event outcome before after lines now sound step short may is small nothing tick = elim (cases_Bool (differs before after)) [
  | inl differ ↦ ⊎_elim
      (λ left.
      subst (Records KeepsEntity before lines after) (sym (tick differ))
      (deed_recorded reading moment deeds.Tick before after sound.last is small tick_read
      (swept_then reading moment before sound.last is ∙ sym left) (same_entity reading event outcome before after step).home lines))
      (λ same. absurd (true≢false (sym differ ∙ ap (differs before) same ∙ none_differ before)))
      (expiry_alone reading event outcome before after step short may)
  | inr alike ↦ subst (Records KeepsEntity before lines after) (sym (nothing alike)) (quiet_recorded before after lines (⊎_elim
      (λ left.
      let counts = same_counts before after alike in
      subst (ChangesTheMomentAlone before) (sym left)
      (quiet reading before sound (sym (ap (λ (e : EntityData). length e.nodes) left) ∙ counts.0) (sym (ap (λ (e : EntityData). length e.items) left) ∙ counts.1)))
      (λ same. subst (ChangesTheMomentAlone before) (sym same) (unchanged before))
      (expiry_alone reading event outcome before after step short may)))
]

-- what was written and cut away again
pub cut_away : (front own lines : List ℕ) (len : ℕ) → length front ≡ len → lines ≡ front ++ own → take len lines ≡ front
cut_away front own lines len size is = ap (λ l. take len l) is ∙ take_at front own len size

-- a request that was passed over
not_done : (reading : ℕ) (outcome : Outcome) (before after : EntityData) (request : RequestParts) → Step reading events.Tick before outcome after
    → Step reading (events.Ask request) before (Starved 0) after
not_done reading (Done reply) before after request step = absurd step
not_done reading (Forward poa onward) before after request step = absurd step
not_done reading (Item given) before after request step = absurd step
not_done reading Ticked before after request step = inl (record { within = omega arith; left = step })
not_done reading (Starved done) before after request step =
    inr (record { none = refl; same = step.same; due = step.due })

pub passed_over : (reading : ℕ) (came : Outcome) (before after : EntityData) (request : RequestParts) → OnlyExpires reading before came after
    → Step reading (events.Ask request) before came after
passed_over reading came before after request only =
    subst (λ (o : Outcome). Step reading (events.Ask request) before o after) (sym only.starved)
    (not_done reading only.ticked before after request only.expires)

-- what holds of an outcome, if there is one
pub on_some : {A : Type 0} (P Q : A → Type 0) → ((a : A) → P a → Q a) → (o : Option A) → IfSome o P → IfSome o Q
on_some P Q on None holds = tt
on_some P Q on (Some a) holds = on a holds

-- what holds anyway holds where there was a fault
pub on_err : {A E : Type 0} (P : Type 0) → P → (r : Result A E) → OnErr r P
on_err P holds (Ok a) = tt
on_err P holds (Err e) = holds
