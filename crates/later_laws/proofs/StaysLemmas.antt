-- A CSE that answers later stays sound.
use Rattle.std.specs.Prelude.{filter, not, length}
use Rattle.std.specs.List.{AllByRecursion}
use Rattle.std.proofs.Common.{◌≡◌, ℕ, ◌+◌, ◌<◌, ◌≤◌, ◌==◌, Bool, true, false, List, [], ◌∷◌, inl, inr, refl, sym, ap, subst, ◌∙◌, arith, length-append}
use Rattle.std.proofs.lemmas.Bool.{cases_Bool, lt-ltb, ltb-true, not-false, or_parts}
use Rattle.std.proofs.lemmas.List.{length-map}
use Rattle.m2m_value.specs.Shapes.{largest_count}
use Rattle.primitive_json.specs.declared.request.RequestParts.{RequestParts}
use Rattle.resource_model.specs.Home.{HomeData}
use Rattle.turn_desk.specs.Entries.{Runs}
use Rattle.turn_desk.specs.declared.entry.Entry.{Entry}
use Rattle.group_fanout.specs.Rights.{claimed_originator}
use Rattle.entity_model.specs.Entity.{EntityData, event_moment, last_reading}
use Rattle.entity_model.specs.Sound.{IsSoundEntity}
use Rattle.cse_machine.specs.History.{History}
use Rattle.cse_machine.specs.declared.event.Event.{Event}
use Rattle.cse_machine.specs.declared.event.Outcome.{Outcome}
use Rattle.guard_laws.proofs.HistoryLemmas.{sound_after}
use Rattle.later_replies.specs.Sound.{IsKeptAsRun, IsSoundLater, StandsAt, last_from}
use Rattle.later_replies.proofs.AnswerLemmas.{comes_holds}
use Rattle.later_replies.specs.Effects.{is_full, most_entries, with_accepted}
use Rattle.later_replies.specs.Entries.{LaterData, LaterEntryData, LaterRequestsData, accepted_entry, does_wait, due_of, opened, still_standing, still_stands}
use Rattle.later_replies.specs.Runs.{is_to_run}
use Rattle.later_replies.specs.Step.{LaterStep}
use Rattle.later_laws.specs.Laws.{run_numbers}
use Rattle.later_laws.specs.Turns.{IsTurn, Turn, turn_history}
use Rattle.later_laws.proofs.OrderLemmas.{each_filter, each_left, each_snoc, each_weaker, left_numbers, rises_above}
use Rattle.later_laws.proofs.SoundLemmas.{InOrder, moment_stays, max_past, runs_stay, turn_keeps}
use Rattle.later_laws.proofs.TurnLemmas.{home_kept, turn_comes, turn_leads, turn_of}

-- ---- room and time

-- the accepted requests fit the room, none is due at a moment, and the last number is past this one
record Fits (past moment : ℕ) (requests : LaterRequestsData) : Type 0 where
  pub room : length requests.entries ≤ most_entries
  pub most : requests.given ≤ largest_count
  pub beyond : past ≤ requests.given
  pub standing : AllByRecursion (StandsAt moment) requests.entries

filter_shorter : (p : LaterEntryData → Bool) (xs : List LaterEntryData) → length (filter p xs) ≤ length xs
filter_shorter p [] = omega arith
filter_shorter p (x ∷ xs) = elim (cases_Bool (p x)) [
  | inl t ↦ rw t (let le : length (filter p xs) ≤ length xs = filter_shorter p xs in omega (arith, le))
  | inr f ↦ rw f (let le : length (filter p xs) ≤ length xs = filter_shorter p xs in omega (arith, le))
]

filter_holds : (p : LaterEntryData → Bool) (xs : List LaterEntryData) → AllByRecursion (λ (x : LaterEntryData). p x ≡ true) (filter p xs)
filter_holds p [] = tt
filter_holds p (x ∷ xs) = elim (cases_Bool (p x)) [
  | inl t ↦ rw t (t, filter_holds p xs)
  | inr f ↦ rw f (filter_holds p xs)
]

filtered_fit : (past moment : ℕ) (p : LaterEntryData → Bool) (requests : LaterRequestsData) → Fits past moment requests → Fits past moment (record requests { entries = filter p requests.entries })
filtered_fit past moment p requests fits = record {
  room = let less : length (filter p requests.entries) ≤ length requests.entries = filter_shorter p requests.entries in let le : length requests.entries ≤ most_entries = fits.room in omega (arith, less, le);
  most = fits.most;
  beyond = fits.beyond;
  standing = each_filter (StandsAt moment) p requests.entries fits.standing;
}

-- what is accepted at a moment isn't due then
new_stands : (moment : ℕ) (x : LaterEntryData) → x.accepted ≡ moment → moment ≤ last_reading → still_stands moment x ≡ true
new_stands moment x at bounded = lt-ltb moment (due_of x) (omega (arith, at, bounded))

accepted_fit : (past moment : ℕ) (requests : LaterRequestsData) (originator : List ℕ) (request : RequestParts) → moment ≤ last_reading → is_full requests ≡ false → Fits past moment requests → Fits past moment (with_accepted requests originator request moment)
accepted_fit past moment requests originator request bounded room fits =
    let both = or_parts _ _ room in
    let less : length requests.entries < most_entries = ltb-true (length requests.entries) most_entries (not-false _ both.0) in
    let more : requests.given < largest_count = ltb-true requests.given largest_count (not-false _ both.1) in
    let le : past ≤ requests.given = fits.beyond in
    record {
      room = omega (arith, less, length-append requests.entries (accepted_entry (requests.given + 1) originator request moment ∷ []));
      most = omega (arith, more);
      beyond = omega (arith, le);
      standing = each_snoc (StandsAt moment) requests.entries (accepted_entry (requests.given + 1) originator request moment) fits.standing
          (new_stands moment (accepted_entry (requests.given + 1) originator request moment) refl bounded);
    }

-- ---- a turn

pub sound_in_order : (l : LaterData) → IsSoundLater l → InOrder 0 l.inner.last l.requests
sound_in_order l sound = record {
  numbers = sound.numbers;
  given = sound.given;
  within = omega arith;
  waiting = sound.waiting;
  above = each_weaker (λ (x : LaterEntryData). 0 < x.number) (λ (x : LaterEntryData). does_wait x ≡ true → 0 < x.number) (λ x lt waits. lt) l.requests.entries (rises_above 0 l.requests.entries sound.numbers);
}

module _ (before after : LaterData) (e : Entry Event Outcome) (t : Turn) (is : IsTurn before e t after) (sound : IsSoundLater before) where
  order : InOrder (last_from 0 (run_numbers t)) after.inner.last after.requests
  order = (turn_keeps 0 before after e t (sound_in_order before sound) is).order

  bounded : is.moment ≤ last_reading
  bounded = let le : before.inner.last ≤ last_reading = sound.inner.last in let at : is.moment ≡ event_moment before.inner.last e.reading = is.at in omega (arith, le, at)

  same_length : length is.left.entries ≡ length before.requests.entries
  same_length =
      sym (length-map is.left.entries (λ (x : LaterEntryData). x.number)) ∙ ap length (left_numbers (is_to_run is.moment e.event) before.requests.entries t.ran is.left.entries is.are_left)
      ∙ length-map before.requests.entries (λ (x : LaterEntryData). x.number)

  standing_fit : Fits before.requests.given is.moment (still_standing is.moment is.left)
  standing_fit = record {
    room = let less : length (filter (still_stands is.moment) is.left.entries) ≤ length is.left.entries = filter_shorter (still_stands is.moment) is.left.entries in
        let le : length before.requests.entries ≤ most_entries = sound.room in
        let same : length is.left.entries ≡ length before.requests.entries = same_length in
        omega (arith, less, le, same);
    most = subst (λ (g : ℕ). g ≤ largest_count) (sym is.given) sound.most;
    beyond = let g : is.left.given ≡ before.requests.given = is.given in omega (arith, g);
    standing = filter_holds (still_stands is.moment) is.left.entries;
  }

  fits : Fits before.requests.given is.moment after.requests
  fits = comes_holds (Fits before.requests.given is.moment) before.inner.home (still_standing is.moment is.left) is.moment e.event t.told e.outcome after.requests
      standing_fit
      (λ up. accepted_fit before.requests.given is.moment (still_standing is.moment is.left) (claimed_originator before.inner.home up.asked.request) up.asked.request bounded up.room standing_fit)
      (λ o deletes. filtered_fit before.requests.given is.moment (λ (x : LaterEntryData). not (x.number == o.at.named.number)) (still_standing is.moment is.left) standing_fit)
      (turn_comes before after e t is)

  -- the moment that the entity has then isn't later than that of the event
  not_later : after.inner.last ≤ is.moment
  not_later =
      let runs : event_moment is.between.last e.reading ≡ event_moment before.inner.last e.reading = runs_stay e.reading t.ran before.inner is.between is.runs_lead in
      let stepped : event_moment after.inner.last e.reading ≡ event_moment is.between.last e.reading = moment_stays e.reading e.event t.told is.between after.inner is.step in
      subst (λ (m : ℕ). after.inner.last ≤ m) (stepped ∙ runs ∙ sym is.at) (max_past after.inner.last _)

  earlier_stands : (x : LaterEntryData) → StandsAt is.moment x → StandsAt after.inner.last x
  earlier_stands x stands =
      let lt : is.moment < due_of x = ltb-true is.moment (due_of x) stands in
      let le : after.inner.last ≤ is.moment = not_later in
      lt-ltb after.inner.last (due_of x) (omega (arith, lt, le))

  -- each request is kept as it was accepted
  kept : AllByRecursion (IsKeptAsRun after.inner.home) after.requests.entries
  kept = subst (λ (home : HomeData). AllByRecursion (IsKeptAsRun home) after.requests.entries) (sym (home_kept (turn_history t) before.inner after.inner (turn_leads before after e t is)))
      (comes_holds (λ (r : LaterRequestsData). AllByRecursion (IsKeptAsRun before.inner.home) r.entries) before.inner.home (still_standing is.moment is.left) is.moment e.event t.told e.outcome after.requests
      standing
      (λ up. each_snoc (IsKeptAsRun before.inner.home) (still_standing is.moment is.left).entries (accepted_entry (is.left.given + 1) (claimed_originator before.inner.home up.asked.request) up.asked.request is.moment) standing (record { originator = refl; blocking = refl }))
      (λ o deletes. each_filter (IsKeptAsRun before.inner.home) (λ (x : LaterEntryData). not (x.number == o.at.named.number)) (still_standing is.moment is.left).entries standing)
      (turn_comes before after e t is))
    where
      standing : AllByRecursion (IsKeptAsRun before.inner.home) (still_standing is.moment is.left).entries
      standing = each_filter (IsKeptAsRun before.inner.home) (still_stands is.moment) is.left.entries
          (each_left (IsKeptAsRun before.inner.home) (λ x outcome k. record { originator = k.originator; blocking = k.blocking }) (is_to_run is.moment e.event) before.requests.entries t.ran is.left.entries is.are_left sound.kept)

  inner : IsSoundEntity after.inner
  inner = sound_after (turn_history t) before.inner after.inner sound.inner (turn_leads before after e t is)

  pub turn_sound : IsSoundLater after
  turn_sound = record {
    inner = inner;
    numbers = order.numbers;
    given = order.given;
    most = fits.most;
    room = fits.room;
    kept = kept;
    waiting = order.waiting;
    standing = each_weaker (StandsAt is.moment) (StandsAt after.inner.last) earlier_stands after.requests.entries fits.standing;
  }

  pub turn_grows : before.requests.given ≤ after.requests.given
  turn_grows = fits.beyond

-- ---- histories

-- sound, and the last number didn't fall
pub record IsSoundPast (past : ℕ) (l : LaterData) : Type 0 where
  pub sound : IsSoundLater l
  pub grew : past ≤ l.requests.given

pub stays_sound : (history : History) (before after : LaterData) → IsSoundLater before → Runs LaterStep before history after → IsSoundPast before.requests.given after
stays_sound [] before after sound run = record {
  sound = subst IsSoundLater (sym run) sound;
  grew = subst (λ (l : LaterData). before.requests.given ≤ l.requests.given) (sym run) (omega arith);
}
stays_sound (e ∷ history) before after sound run =
    let t = turn_of before run.0 e run.1 in
    let first = turn_sound before run.0 e t.turn t.is sound in
    let more : before.requests.given ≤ run.0.requests.given = turn_grows before run.0 e t.turn t.is sound in
    let rest = stays_sound history run.0 after first run.2 in
    let grew : run.0.requests.given ≤ after.requests.given = rest.grew in
    record { sound = rest.sound; grew = omega (arith, more, grew) }

pub opens_sound : (opening : EntityData) → IsSoundEntity opening → IsSoundLater (opened opening)
opens_sound opening sound = record {
  inner = sound;
  numbers = tt;
  given = omega arith;
  most = omega arith;
  room = omega arith;
  kept = tt;
  waiting = tt;
  standing = tt;
}
