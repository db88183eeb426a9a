-- Equal sights are answered alike.
use Rattle.std.specs.Prelude.{filter, map, not, IsTrue}
use Rattle.std.specs.List.{AllByRecursion}
use Rattle.std.proofs.Common.{◌≡◌, ℕ, ◌+◌, ◌==◌, Bool, true, false, List, [], ◌∷◌, Option, Some, None, inl, inr, refl, sym, ap, subst, ◌∙◌}
use Rattle.std.proofs.lemmas.Bool.{cases_Bool, true≢false}
use Rattle.m2m_value.proofs.Lookup.{bytes_eq_itself}
use Rattle.primitive_json.specs.declared.request.RequestParts.{RequestParts}
use Rattle.resource_model.specs.Home.{HomeData}
use Rattle.policy_eval.specs.Originators.{full_form}
use Rattle.turn_desk.specs.Entries.{entry_of, events_of, outcomes_of, readings_of}
use Rattle.turn_desk.specs.declared.entry.Entry.{Entry}
use Rattle.entity_model.specs.Entity.{EntityData, event_moment, swept}
use Rattle.entity_model.specs.Sound.{IsSoundEntity}
use Rattle.group_fanout.specs.Rights.{claimed_originator}
use Rattle.cse_machine.specs.History.{HistoryLeaves, IsDone}
use Rattle.cse_machine.specs.Step.{Step}
use Rattle.cse_machine.specs.declared.event.Event.{Event}
use Rattle.cse_machine.specs.declared.event.Event.TheVariants.{Ask, Take, Tick}
use Rattle.cse_machine.specs.declared.event.Outcome.{Outcome}
use Rattle.cse_machine.specs.declared.event.Outcome.TheVariants.{Done, Forward, Item, Ticked, Starved}
use Rattle.guard_laws.proofs.HistoryLemmas.{sound_step}
use Rattle.cse_machine.proofs.SameLemmas.{same_entity}
use Rattle.later_replies.specs.Sound.{IsKeptAsRun, IsSoundLater}
use Rattle.later_replies.proofs.AnswerLemmas.{comes_holds}
use Rattle.equal_sights.specs.Sight.{sight}
use Rattle.machine_laws.specs.Sight.{IsRequestBy, is_calm, is_poll, is_polling}
use Rattle.machine_laws.proofs.AlikeLemmas.{none_polls, steps_alike, steps_stay}
use Rattle.accepted_requests.specs.Effects.{LaterEffect, later_effect_by, owns}
use Rattle.accepted_requests.specs.Entries.{LaterEntryData, LaterRequestsData, accepted_entry, does_wait, still_standing, still_stands}
use Rattle.later_replies.specs.Entries.{LaterData}
use Rattle.later_replies.specs.Runs.{is_to_run}
use Rattle.later_replies.specs.Step.{IsAnsweredBy, asked_effect}
use Rattle.later_laws.specs.Sights.{EqualSightsAnswerAlikeLater, EqualSightsStayAlikeLater, HasMemory, IsCalmBy, IsCalmEventBy, LaterSight, RunsItsOwn, SeenEntry, WaitsCalm, WaitsForItself, later_sight}
use Rattle.later_laws.specs.Turns.{AreLeft, IsTurn, Ran, Turn, run_history, turn_history}
use Rattle.later_laws.proofs.OrderLemmas.{each_filter, each_left, each_snoc}
use Rattle.later_laws.proofs.SeenLemmas.{ComeAlike, PickedOwn, effects_alike, left_alike, none_is_some, picked_alike, same_head, same_tail, see, standing_seen}
use Rattle.later_laws.proofs.StaysLemmas.{turn_sound}
use Rattle.later_laws.proofs.TurnLemmas.{home_kept, turn_comes, turn_leads}

-- ---- one request inside

unpolled_step : (reading : ℕ) (request : RequestParts) (outcome : Outcome) (before after : EntityData) → Step reading (Ask request) before outcome after → is_polling before.home request ≡ false → is_poll (swept reading before) request ≡ false
unpolled_step reading request outcome before after step none =
    (none_polls before after (entry_of reading (Ask request) outcome ∷ []) (after, step, refl) (rw none refl)).0

-- ---- the runs

-- what runs from both leave
record RunAlike (o : List ℕ) (ran nar : List Ran) (at : HomeData) (left right : EntityData) : Type 0 where
  pub runs : ran ≡ nar
  pub sights : sight o left ≡ sight o right
  pub sound : IsSoundEntity left
  pub sounds : IsSoundEntity right
  pub home : left.home ≡ at

same_ran : (r q : Ran) → r.entry ≡ q.entry → r.outcome ≡ q.outcome → r ≡ q
same_ran r q entries outcomes =
    ap (λ (e : LaterEntryData). record { entry = e; outcome = r.outcome }) entries
    ∙ ap (λ (o : Outcome). record { entry = q.entry; outcome = o }) outcomes

-- what one run from both leaves
record OneAlike (o : List ℕ) (r q : Ran) (at : HomeData) (left right : EntityData) : Type 0 where
  pub run : r ≡ q
  pub sights : sight o left ≡ sight o right
  pub sound : IsSoundEntity left
  pub sounds : IsSoundEntity right
  pub home : left.home ≡ at

run_alike : (o : List ℕ) (reading : ℕ) (r q : Ran) (left right between other : EntityData) → IsSoundEntity left → IsSoundEntity right → sight o left ≡ sight o right → r.entry ≡ q.entry → IsCalmBy left.home o r.entry.request → IsDone r.outcome → IsDone q.outcome
    → Step reading (Ask r.entry.request) left r.outcome between → Step reading (Ask q.entry.request) right q.outcome other → OneAlike o r q left.home between other
run_alike o reading r q left right between other sound sounds same entries calm done dones step steps =
    let twin : Step reading (Ask r.entry.request) right q.outcome other = subst (λ (e : LaterEntryData). Step reading (Ask e.request) right q.outcome other) (sym entries) steps in
    let outcomes : r.outcome ≡ q.outcome =
    steps_alike left right between other o reading r.entry.request r.outcome q.outcome sound sounds same calm.by
    (unpolled_step reading r.entry.request r.outcome left between step calm.unpolled) step twin done dones in
    record {
      run = same_ran r q entries outcomes;
      sights = steps_stay left right between other o reading r.entry.request r.outcome q.outcome sound sounds same calm.by calm.calm step twin done dones;
      sound = sound_step reading (Ask r.entry.request) left between r.outcome sound step;
      sounds = sound_step reading (Ask r.entry.request) right other q.outcome sounds twin;
      home = (same_entity reading (Ask r.entry.request) r.outcome left between step).home;
    }

runs_alike : (o : List ℕ) (reading : ℕ) (ran nar : List Ran) (left right between other : EntityData) → IsSoundEntity left → IsSoundEntity right → sight o left ≡ sight o right → map (λ (r : Ran). r.entry) ran ≡ map (λ (r : Ran). r.entry) nar
    → AllByRecursion (λ (r : Ran). IsCalmBy left.home o r.entry.request) ran → AllByRecursion (λ (r : Ran). IsDone r.outcome) ran → AllByRecursion (λ (r : Ran). IsDone r.outcome) nar
    → HistoryLeaves left (run_history reading ran) between → HistoryLeaves right (run_history reading nar) other → RunAlike o ran nar left.home between other
runs_alike o reading [] [] left right between other sound sounds same entries calm done dones leads leads_too = record {
  runs = refl;
  sights = ap (sight o) leads ∙ same ∙ sym (ap (sight o) leads_too);
  sound = subst IsSoundEntity (sym leads) sound;
  sounds = subst IsSoundEntity (sym leads_too) sounds;
  home = ap (λ (e : EntityData). e.home) leads;
}
runs_alike o reading [] (q ∷ nar) left right between other sound sounds same entries calm done dones leads leads_too =
    absurd (none_is_some q.entry (map (λ (r : Ran). r.entry) nar) entries)
runs_alike o reading (r ∷ ran) [] left right between other sound sounds same entries calm done dones leads leads_too =
    absurd (none_is_some r.entry (map (λ (q : Ran). q.entry) ran) (sym entries))
runs_alike o reading (r ∷ ran) (q ∷ nar) left right between other sound sounds same entries calm done dones leads leads_too =
    let one = run_alike o reading r q left right leads.0 leads_too.0 sound sounds same (same_head r.entry q.entry (map (λ (x : Ran). x.entry) ran) (map (λ (x : Ran). x.entry) nar) entries) calm.0 done.0 dones.0 leads.1 leads_too.1 in
    let rest =
    runs_alike o reading ran nar leads.0 leads_too.0 between other one.sound one.sounds one.sights
    (same_tail r.entry q.entry (map (λ (x : Ran). x.entry) ran) (map (λ (x : Ran). x.entry) nar) entries)
    (subst (λ (h : HomeData). AllByRecursion (λ (x : Ran). IsCalmBy h o x.entry.request) ran) (sym one.home) calm.1) done.1 dones.1 leads.2 leads_too.2 in
    record {
      runs = ap (λ (x : Ran). x ∷ ran) one.run ∙ ap (λ (l : List Ran). q ∷ l) rest.runs;
      sights = rest.sights;
      sound = rest.sound;
      sounds = rest.sounds;
      home = rest.home ∙ one.home;
    }

-- ---- what is answered

-- the outcomes are the same, and what is kept is seen alike
record AnsweredAlike (home : HomeData) (o : List ℕ) (outcome twin : Outcome) (after other : LaterRequestsData) : Type 0 where
  pub comes : outcome ≡ twin
  pub entries : map (see home o) after.entries ≡ map (see home o) other.entries
  pub given : after.given ≡ other.given

module _ (home : HomeData) (o : List ℕ) (st ot : LaterRequestsData) (same : map (see home o) st.entries ≡ map (see home o) ot.entries) (given : st.given ≡ ot.given) (request : RequestParts) (moment : ℕ) where
  answered_alike : (told twins outcome twin : Outcome) (after other : LaterRequestsData) (e f : Option LaterEffect) → told ≡ twins → IsDone outcome → IsDone twin
      → IsAnsweredBy e st told outcome after → IsAnsweredBy f ot twins twin other → ComeAlike home o st ot same given request moment e f → AnsweredAlike home o outcome twin after other
  answered_alike told twins outcome twin after other None None alike done dones a b come = record {
    comes = a.0 ∙ alike ∙ sym b.0;
    entries = ap (λ (r : LaterRequestsData). map (see home o) r.entries) a.1 ∙ same ∙ sym (ap (λ (r : LaterRequestsData). map (see home o) r.entries) b.1);
    given = ap (λ (r : LaterRequestsData). r.given) a.1 ∙ given ∙ sym (ap (λ (r : LaterRequestsData). r.given) b.1);
  }
  answered_alike told twins outcome twin after other None (Some f) alike done dones a b come = absurd come
  answered_alike told twins outcome twin after other (Some e) None alike done dones a b come = absurd come
  answered_alike told twins outcome twin after other (Some e) (Some f) alike done dones (inr a) b come = absurd (subst IsDone a.0 done)
  answered_alike told twins outcome twin after other (Some e) (Some f) alike done dones (inl a) (inr b) come = absurd (subst IsDone b.0 dones)
  answered_alike told twins outcome twin after other (Some e) (Some f) alike done dones (inl a) (inl b) come = record {
    comes = a.0 ∙ ap Done come.0 ∙ sym b.0;
    entries = ap (λ (r : LaterRequestsData). map (see home o) r.entries) a.1 ∙ come.1 ∙ sym (ap (λ (r : LaterRequestsData). map (see home o) r.entries) b.1);
    given = ap (λ (r : LaterRequestsData). r.given) a.1 ∙ come.2 ∙ sym (ap (λ (r : LaterRequestsData). r.given) b.1);
  }

  -- what comes of one outcome of the entity inside
  asked_alike : claimed_originator home request ≡ o → (told : Outcome) → ComeAlike home o st ot same given request moment (asked_effect home st moment request told) (asked_effect home ot moment request told)
  asked_alike by (Done reply) = subst (λ (who : List ℕ). ComeAlike home o st ot same given request moment (later_effect_by home who st moment request reply.rsc) (later_effect_by home who ot moment request reply.rsc)) (sym by)
      (effects_alike home o st ot same given request moment reply.rsc)
  asked_alike by (Forward poa onward) = tt
  asked_alike by (Item given_away) = tt
  asked_alike by Ticked = tt
  asked_alike by (Starved done) = tt

-- ---- what waits

-- what an event runs was kept for its originator
picked_own : (home : HomeData) (o : List ℕ) (p : LaterEntryData → Bool) (e : LaterEntryData) → IsKeptAsRun home e → (p e ≡ true → IsCalmBy home o e.request) → PickedOwn home o p e
picked_own home o p e kept calm picked =
    ap (λ (who : List ℕ). owns home o (record e { originator = who })) (kept.originator ∙ (calm picked).by) ∙ bytes_eq_itself (full_form home o)

each_own : (home : HomeData) (o : List ℕ) (p : LaterEntryData → Bool) (es : List LaterEntryData) → AllByRecursion (IsKeptAsRun home) es → AllByRecursion (λ (e : LaterEntryData). p e ≡ true → IsCalmBy home o e.request) es → AllByRecursion (PickedOwn home o p) es
each_own home o p [] kept calm = tt
each_own home o p (e ∷ es) kept calm = (picked_own home o p e kept.0 calm.0, each_own home o p es kept.1 calm.1)

runs_waiting : (moment : ℕ) (event : Event) (x : LaterEntryData) → is_to_run moment event x ≡ true → does_wait x ≡ true
runs_waiting moment event x runs = elim (cases_Bool (does_wait x)) [
  | inl t ↦ t
  | inr f ↦ absurd (true≢false (sym runs ∙ rw f refl))
]

-- what is picked is calm
picked_calm : (home : HomeData) (o : List ℕ) (p : LaterEntryData → Bool) (es : List LaterEntryData) → AllByRecursion (λ (e : LaterEntryData). p e ≡ true → IsCalmBy home o e.request) es → AllByRecursion (λ (e : LaterEntryData). IsCalmBy home o e.request) (filter p es)
picked_calm home o p [] calm = tt
picked_calm home o p (e ∷ es) calm = elim (cases_Bool (p e)) [
  | inl t ↦ rw t (calm.0 t, picked_calm home o p es calm.1)
  | inr f ↦ rw f (picked_calm home o p es calm.1)
]

each_mapped : {A B : Type 0} (P : B → Type 0) (f : A → B) (xs : List A) → AllByRecursion P (map f xs) → AllByRecursion (λ (x : A). P (f x)) xs
each_mapped P f [] all = tt
each_mapped P f (x ∷ xs) all = (all.0, each_mapped P f xs all.1)

-- the request that an event asks
abbrev request_in : RequestParts → Event → RequestParts
request_in other (Ask request) = request
request_in other Take = other
request_in other Tick = other

-- ---- a turn

module _ (l after : LaterData) (o : List ℕ) (reading : ℕ) (request : RequestParts) (outcome : Outcome) (t : Turn) (is : IsTurn l (entry_of reading (Ask request) outcome) t after) where
  ran_calm : RunsItsOwn o l is.moment (Ask request) → AllByRecursion (λ (r : Ran). IsCalmBy l.inner.home o r.entry.request) t.ran
  ran_calm calm = each_mapped (λ (e : LaterEntryData). IsCalmBy l.inner.home o e.request) (λ (r : Ran). r.entry) t.ran
      (subst (AllByRecursion (λ (e : LaterEntryData). IsCalmBy l.inner.home o e.request)) (sym is.ran) (picked_calm l.inner.home o (is_to_run is.moment (Ask request)) l.requests.entries calm))

  after_home : after.inner.home ≡ l.inner.home
  after_home = home_kept (turn_history t) l.inner after.inner (turn_leads l after (entry_of reading (Ask request) outcome) t is)

  -- what waits then is calm too
  waits_after : WaitsForItself o l → IsCalmBy l.inner.home o request → WaitsForItself o after
  waits_after calm asks = subst (λ (h : HomeData). AllByRecursion (WaitsCalm h o) after.requests.entries) (sym after_home)
      (comes_holds (λ (r : LaterRequestsData). AllByRecursion (WaitsCalm l.inner.home o) r.entries) l.inner.home (still_standing is.moment is.left) is.moment (Ask request) t.told outcome after.requests
      standing
      (λ up. each_snoc (WaitsCalm l.inner.home o) (still_standing is.moment is.left).entries (accepted_entry (is.left.given + 1) (claimed_originator l.inner.home up.asked.request) up.asked.request is.moment) standing
      (λ waits. subst (λ (r : RequestParts). IsCalmBy l.inner.home o (record r { rt = None })) (ap (request_in request) up.asked.asks) (record { by = asks.by; calm = asks.calm; unpolled = asks.unpolled })))
      (λ own deletes. each_filter (WaitsCalm l.inner.home o) (λ (x : LaterEntryData). not (x.number == own.at.named.number)) (still_standing is.moment is.left).entries standing)
      (turn_comes l after (entry_of reading (Ask request) outcome) t is))
    where
      standing : AllByRecursion (WaitsCalm l.inner.home o) (still_standing is.moment is.left).entries
      standing = each_filter (WaitsCalm l.inner.home o) (still_stands is.moment) is.left.entries
          (each_left (WaitsCalm l.inner.home o) (λ x told k waits. absurd (true≢false (sym waits))) (is_to_run is.moment (Ask request)) l.requests.entries t.ran is.left.entries is.are_left calm)

module _ (left right after other : LaterData) (o : List ℕ) (reading : ℕ) (request : RequestParts) (outcome twin : Outcome) (t s : Turn) (sound : IsSoundLater left) (sounds : IsSoundLater right) (same : later_sight o left ≡ later_sight o right) (by : IsRequestBy left.inner.home o request) (unpolled : is_polling left.inner.home request ≡ false)
    (is : IsTurn left (entry_of reading (Ask request) outcome) t after) (too : IsTurn right (entry_of reading (Ask request) twin) s other) (calm : RunsItsOwn o left is.moment (Ask request)) (calms : RunsItsOwn o right too.moment (Ask request)) (has : HasMemory t) (have : HasMemory s) (done : IsDone outcome) (dones : IsDone twin) where
  sights : sight o left.inner ≡ sight o right.inner
  sights = ap (λ (v : LaterSight). v.inner) same

  one_home : left.inner.home ≡ right.inner.home
  one_home = ap (λ (e : EntityData). e.home) sights

  -- as the one's home sees the other's
  entries : map (see left.inner.home o) left.requests.entries ≡ map (see left.inner.home o) right.requests.entries
  entries = ap (λ (v : LaterSight). v.entries) same ∙ ap (λ (h : HomeData). map (see h o) right.requests.entries) (sym one_home)

  moments : is.moment ≡ too.moment
  moments = is.at ∙ ap (λ (n : ℕ). event_moment n reading) (ap (λ (e : EntityData). e.last) sights) ∙ sym too.at

  abbrev runs : LaterEntryData → Bool
  runs = is_to_run is.moment (Ask request)

  -- the other's turn, by the moment and home of the one
  ran_too : map (λ (r : Ran). r.entry) s.ran ≡ filter runs right.requests.entries
  ran_too = too.ran ∙ ap (λ (m : ℕ). filter (is_to_run m (Ask request)) right.requests.entries) (sym moments)

  left_too : AreLeft runs right.requests.entries s.ran too.left.entries
  left_too = subst (λ (m : ℕ). AreLeft (is_to_run m (Ask request)) right.requests.entries s.ran too.left.entries) (sym moments) too.are_left

  own : AllByRecursion (PickedOwn left.inner.home o runs) left.requests.entries
  own = each_own left.inner.home o runs left.requests.entries sound.kept calm

  own_too : AllByRecursion (PickedOwn left.inner.home o runs) right.requests.entries
  own_too = subst (λ (m : ℕ). AllByRecursion (PickedOwn left.inner.home o (is_to_run m (Ask request))) right.requests.entries) (sym moments)
      (subst (λ (h : HomeData). AllByRecursion (PickedOwn h o (is_to_run too.moment (Ask request))) right.requests.entries) (sym one_home)
      (each_own right.inner.home o (is_to_run too.moment (Ask request)) right.requests.entries sounds.kept calms))

  picked : map (λ (r : Ran). r.entry) t.ran ≡ map (λ (r : Ran). r.entry) s.ran
  picked = is.ran ∙ picked_alike left.inner.home o runs left.requests.entries right.requests.entries entries own own_too ∙ sym ran_too

  ran : RunAlike o t.ran s.ran left.inner.home is.between too.between
  ran = runs_alike o reading t.ran s.ran left.inner right.inner is.between too.between sound.inner sounds.inner sights picked
      (ran_calm left after o reading request outcome t is calm) has.runs have.runs is.runs_lead too.runs_lead

  -- what the runs leave
  lefts : map (see left.inner.home o) is.left.entries ≡ map (see left.inner.home o) too.left.entries
  lefts = left_alike left.inner.home o runs left.requests.entries right.requests.entries t.ran s.ran is.left.entries too.left.entries entries own own_too ran.runs is.are_left left_too

  abbrev standing : LaterRequestsData
  standing = still_standing is.moment is.left

  abbrev standing_too : LaterRequestsData
  standing_too = still_standing is.moment too.left

  stand : map (see left.inner.home o) standing.entries ≡ map (see left.inner.home o) standing_too.entries
  stand = standing_seen left.inner.home o is.moment is.left.entries too.left.entries lefts

  given : standing.given ≡ standing_too.given
  given = is.given ∙ ap (λ (v : LaterSight). v.given) same ∙ sym too.given

  -- the event inside
  by_between : IsRequestBy is.between.home o request
  by_between = subst (λ (h : HomeData). IsRequestBy h o request) (sym ran.home) by

  told : t.told ≡ s.told
  told = steps_alike is.between too.between after.inner other.inner o reading request t.told s.told ran.sound ran.sounds ran.sights by_between
      (unpolled_step reading request t.told is.between after.inner is.step (ap (λ (h : HomeData). is_polling h request) ran.home ∙ unpolled)) is.step too.step has.told have.told

  answered_too : IsAnsweredBy (asked_effect left.inner.home standing_too is.moment request t.told) standing_too s.told twin other.requests
  answered_too =
      subst (λ (out : Outcome). IsAnsweredBy (asked_effect left.inner.home standing_too is.moment request out) standing_too s.told twin other.requests) (sym told)
      (subst (λ (h : HomeData). IsAnsweredBy (asked_effect h standing_too is.moment request s.told) standing_too s.told twin other.requests) (sym one_home)
      (subst (λ (m : ℕ). IsAnsweredBy (asked_effect right.inner.home (still_standing m too.left) m request s.told) (still_standing m too.left) s.told twin other.requests) (sym moments) too.answered))

  answers : AnsweredAlike left.inner.home o outcome twin after.requests other.requests
  answers = answered_alike left.inner.home o standing standing_too stand given request is.moment t.told s.told outcome twin after.requests other.requests
      (asked_effect left.inner.home standing is.moment request t.told) (asked_effect left.inner.home standing_too is.moment request t.told)
      told done dones is.answered answered_too (asked_alike left.inner.home o standing standing_too stand given request is.moment by t.told)

  -- what is seen afterwards
  sight_of : (l : LaterData) (h : HomeData) → l.inner.home ≡ h → later_sight o l ≡ record { inner = sight o l.inner; entries = map (see h o) l.requests.entries; given = l.requests.given }
  sight_of l h is_home = ap (λ (k : HomeData). record { inner = sight o l.inner; entries = map (see k o) l.requests.entries; given = l.requests.given }) is_home

  home_after : after.inner.home ≡ left.inner.home
  home_after = after_home left after o reading request outcome t is

  home_other : other.inner.home ≡ left.inner.home
  home_other = after_home right other o reading request twin s too ∙ sym one_home

  abbrev seen_of : EntityData → List SeenEntry → ℕ → LaterSight
  seen_of e es n = record { inner = e; entries = es; given = n }

  stays : IsTrue (is_calm request) → later_sight o after ≡ later_sight o other
  stays is_so =
      sight_of after left.inner.home home_after
      ∙ ap (λ (e : EntityData). seen_of e (map (see left.inner.home o) after.requests.entries) after.requests.given) inner
      ∙ ap (λ (es : List SeenEntry). seen_of (sight o other.inner) es after.requests.given) answers.entries
      ∙ ap (λ (n : ℕ). seen_of (sight o other.inner) (map (see left.inner.home o) other.requests.entries) n) answers.given
      ∙ sym (sight_of other left.inner.home home_other)
    where
      inner : sight o after.inner ≡ sight o other.inner
      inner = steps_stay is.between too.between after.inner other.inner o reading request t.told s.told ran.sound ran.sounds ran.sights by_between is_so is.step too.step has.told have.told

pub alike_later : EqualSightsAnswerAlikeLater
alike_later left right after other o reading request outcome twin t s sound sounds same by unpolled is too calm calms has have done dones = (
  (answers left right after other o reading request outcome twin t s sound sounds same by unpolled is too calm calms has have done dones).comes,
  stays left right after other o reading request outcome twin t s sound sounds same by unpolled is too calm calms has have done dones,
)

-- ---- one after another

-- what waits by itself is what its own events run
own_runs : (home : HomeData) (o : List ℕ) (moment : ℕ) (event : Event) (es : List LaterEntryData) → AllByRecursion (WaitsCalm home o) es → AllByRecursion (λ (e : LaterEntryData). is_to_run moment event e ≡ true → IsCalmBy home o e.request) es
own_runs home o moment event [] calm = tt
own_runs home o moment event (e ∷ es) calm = ((λ runs. calm.0 (runs_waiting moment event e runs)), own_runs home o moment event es calm.1)

-- what the first of the events leaves
record NextAlike (o : List ℕ) (at : HomeData) (left right : LaterData) (outcome twin : Outcome) : Type 0 where
  pub comes : outcome ≡ twin
  pub sights : later_sight o left ≡ later_sight o right
  pub waits : WaitsForItself o left
  pub waits_too : WaitsForItself o right
  pub home : left.inner.home ≡ at

asked_next : (o : List ℕ) (left right next other : LaterData) (e h : Entry Event Outcome) (t s : Turn) (request : RequestParts) → IsSoundLater left → IsSoundLater right → later_sight o left ≡ later_sight o right → WaitsForItself o left → WaitsForItself o right
    → IsTurn left e t next → IsTurn right h s other → e.reading ≡ h.reading → e.event ≡ h.event → e.event ≡ Ask request → IsCalmBy left.inner.home o request → HasMemory t → HasMemory s → IsDone e.outcome → IsDone h.outcome → NextAlike o left.inner.home next other e.outcome h.outcome
asked_next o left right next other e h t s request sound sounds same calm calms is too same_reading same_event asks asked has have done dones =
    let one : IsTurn left (entry_of e.reading (Ask request) e.outcome) t next = subst (λ (v : Event). IsTurn left (entry_of e.reading v e.outcome) t next) asks is in
    let there : IsTurn right (entry_of h.reading (Ask request) h.outcome) s other = subst (λ (v : Event). IsTurn right (entry_of h.reading v h.outcome) s other) (sym same_event ∙ asks) too in
    let two : IsTurn right (entry_of e.reading (Ask request) h.outcome) s other = subst (λ (n : ℕ). IsTurn right (entry_of n (Ask request) h.outcome) s other) (sym same_reading) there in
    let home : left.inner.home ≡ right.inner.home = ap (λ (v : LaterSight). v.inner.home) same in
    let asked_too : IsCalmBy right.inner.home o request = subst (λ (k : HomeData). IsCalmBy k o request) home asked in
    let first =
    alike_later left right next other o e.reading request e.outcome h.outcome t s sound sounds same asked.by asked.unpolled one two
    (own_runs left.inner.home o one.moment (Ask request) left.requests.entries calm) (own_runs right.inner.home o two.moment (Ask request) right.requests.entries calms)
    has have done dones in
    record {
      comes = first.0;
      sights = first.1 asked.calm;
      waits = waits_after left next o e.reading request e.outcome t one calm asked;
      waits_too = waits_after right other o e.reading request h.outcome s two calms asked_too;
      home = after_home left next o e.reading request e.outcome t one;
    }

event_next : (o : List ℕ) (left right next other : LaterData) (e h : Entry Event Outcome) (t s : Turn) (event : Event) → e.event ≡ event → IsCalmEventBy left.inner.home o event → IsSoundLater left → IsSoundLater right → later_sight o left ≡ later_sight o right → WaitsForItself o left → WaitsForItself o right
    → IsTurn left e t next → IsTurn right h s other → e.reading ≡ h.reading → e.event ≡ h.event → HasMemory t → HasMemory s → IsDone e.outcome → IsDone h.outcome → NextAlike o left.inner.home next other e.outcome h.outcome
event_next o left right next other e h t s (Ask request) asks asked sound sounds same calm calms is too same_reading same_event has have done dones =
    asked_next o left right next other e h t s request sound sounds same calm calms is too same_reading same_event asks asked has have done dones
event_next o left right next other e h t s Take asks asked sound sounds same calm calms is too same_reading same_event has have done dones = absurd asked
event_next o left right next other e h t s Tick asks asked sound sounds same calm calms is too same_reading same_event has have done dones = absurd asked

pub stay_alike_later : EqualSightsStayAlikeLater
stay_alike_later left right after other o [] [] ts ss sound sounds same calm calms has too readings events by memory memories done dones =
    (refl, ap (later_sight o) has.1 ∙ same ∙ sym (ap (later_sight o) too.1))
stay_alike_later left right after other o [] (h ∷ twin) ts ss sound sounds same calm calms has too readings events by memory memories done dones =
    absurd (none_is_some h.reading (readings_of twin) readings)
stay_alike_later left right after other o (e ∷ history) [] ts ss sound sounds same calm calms has too readings events by memory memories done dones =
    absurd (none_is_some e.reading (readings_of history) (sym readings))
stay_alike_later left right after other o (e ∷ history) (h ∷ twin) ts ss sound sounds same calm calms has too readings events by memory memories done dones =
    let mine : AllByRecursion HasMemory (has.0 ∷ has.1) = subst (AllByRecursion HasMemory) has.3 memory in
    let theirs : AllByRecursion HasMemory (too.0 ∷ too.1) = subst (AllByRecursion HasMemory) too.3 memories in
    let next =
    event_next o left right has.2 too.2 e h has.0 too.0 e.event refl by.0 sound sounds same calm calms has.4 too.4
    (same_head e.reading h.reading (readings_of history) (readings_of twin) readings) (same_head e.event h.event (events_of history) (events_of twin) events) mine.0 theirs.0 done.0 dones.0 in
    let rest =
    stay_alike_later has.2 too.2 after other o history twin has.1 too.1
    (turn_sound left has.2 e has.0 has.4 sound) (turn_sound right too.2 h too.0 too.4 sounds) next.sights next.waits next.waits_too has.5 too.5
    (same_tail e.reading h.reading (readings_of history) (readings_of twin) readings) (same_tail e.event h.event (events_of history) (events_of twin) events)
    (subst (λ (k : HomeData). AllByRecursion (IsCalmEventBy k o) (events_of history)) (sym next.home) by.1)
    mine.1 theirs.1 done.1 dones.1 in
    (ap (λ (x : Outcome). x ∷ outcomes_of history) next.comes ∙ ap (λ (l : List Outcome). h.outcome ∷ l) rest.0, rest.1)
