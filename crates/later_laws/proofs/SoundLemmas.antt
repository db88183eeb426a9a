-- Along every history accepted requests stand and are run in order.
use Rattle.std.specs.Prelude.{filter, map, max, not}
use Rattle.std.specs.List.{AllByRecursion}
use Rattle.std.proofs.Common.{◌≡◌, ℕ, ◌+◌, ◌<◌, ◌≤◌, ◌==◌, Bool, true, false, List, [], ◌∷◌, ◌++◌, inl, inr, refl, sym, ap, subst, ◌∙◌, arith}
use Rattle.std.proofs.lemmas.Bool.{true≢false}
use Rattle.primitive_json.specs.declared.reply.ReplyParts.{ReplyParts}
use Rattle.primitive_json.specs.declared.request.RequestParts.{RequestParts}
use Rattle.turn_desk.specs.declared.entry.Entry.{Entry}
use Rattle.entity_model.specs.Entity.{EntityData, event_moment}
use Rattle.group_fanout.specs.Rights.{claimed_originator}
use Rattle.cse_machine.specs.History.{History, HistoryLeaves}
use Rattle.cse_machine.specs.Step.{Step}
use Rattle.cse_machine.specs.declared.event.Event.{Event}
use Rattle.cse_machine.specs.declared.event.Event.TheVariants.{Ask}
use Rattle.cse_machine.specs.declared.event.Outcome.{Outcome}
use Rattle.cse_machine.specs.declared.event.Outcome.TheVariants.{Done}
use Rattle.cse_machine.proofs.SameLemmas.{done_keeps, same_entity}
use Rattle.later_replies.specs.Answered.{IsTakenUp}
use Rattle.later_replies.specs.Sound.{Rises, WaitsSince, last_from, numbers_of}
use Rattle.later_replies.proofs.AnswerLemmas.{comes_holds}
use Rattle.later_replies.specs.Effects.{with_accepted}
use Rattle.later_replies.specs.Entries.{LaterData, LaterEntryData, LaterRequestsData, accepted_entry, does_wait, still_standing, still_stands}
use Rattle.later_replies.specs.Runs.{is_to_run}
use Rattle.later_laws.specs.Laws.{all_run_numbers, run_numbers}
use Rattle.later_laws.specs.Turns.{HasTurns, IsTurn, Ran, Turn, run_history}
use Rattle.later_laws.proofs.OrderLemmas.{AgreesToRun, LeavesAll, all_or_none, each_filter, each_snoc, each_weaker, last_append, last_filter, last_more, left_numbers, none_run, none_waits, rises_append, rises_filter, rises_kept, rises_more}
use Rattle.later_laws.proofs.TurnLemmas.{turn_comes}

-- ---- in order

-- If the request waits, its number is above this one.
abbrev WaitsAbove : ℕ → LaterEntryData → Type 0
WaitsAbove past e = does_wait e ≡ true → past < e.number

-- accepted requests in order, of which those up to a number were run, at the moment of an event
pub record InOrder (past last : ℕ) (requests : LaterRequestsData) : Type 0 where
  pub numbers : Rises 0 (numbers_of requests.entries)
  pub given : last_from 0 (numbers_of requests.entries) ≤ requests.given
  pub within : past ≤ requests.given
  pub waiting : AllByRecursion (WaitsSince last) requests.entries
  pub above : AllByRecursion (WaitsAbove past) requests.entries

-- some of them go
filtered : (p : LaterEntryData → Bool) (past last : ℕ) (requests : LaterRequestsData) → InOrder past last requests → InOrder past last (record requests { entries = filter p requests.entries })
filtered p past last requests order = record {
  numbers = rises_kept p 0 requests.entries order.numbers;
  given = last_filter p 0 0 requests.given requests.entries order.numbers (omega arith) order.given;
  within = order.within;
  waiting = each_filter (WaitsSince last) p requests.entries order.waiting;
  above = each_filter (WaitsAbove past) p requests.entries order.above;
}

-- one more is accepted
one_accepted : (past last : ℕ) (requests : LaterRequestsData) (originator : List ℕ) (request : RequestParts) → InOrder past last requests → InOrder past last (with_accepted requests originator request last)
one_accepted past last requests originator request order = record {
  numbers = rises_more requests.entries (accepted_entry (requests.given + 1) originator request last) order.numbers (let le : last_from 0 (numbers_of requests.entries) ≤ requests.given = order.given in omega (arith, le));
  given = let is : last_from 0 (numbers_of (requests.entries ++ (accepted_entry (requests.given + 1) originator request last) ∷ [])) ≡ requests.given + 1 = last_more requests.entries (accepted_entry (requests.given + 1) originator request last) in omega (arith, is);
  within = let le : past ≤ requests.given = order.within in omega (arith, le);
  waiting = each_snoc (WaitsSince last) requests.entries (accepted_entry (requests.given + 1) originator request last) order.waiting (λ w. refl);
  above = each_snoc (WaitsAbove past) requests.entries (accepted_entry (requests.given + 1) originator request last) order.above (λ w. let le : past ≤ requests.given = order.within in omega (arith, le));
}

-- ---- moments

max_again : (l c : ℕ) → max (max l c) c ≡ max l c
max_again l c = omega arith

pub max_past : (l c : ℕ) → l ≤ max l c
max_past l c = omega arith

-- a step behind an event at this reading has its moment
pub moment_stays : (reading : ℕ) (event : Event) (outcome : Outcome) (before after : EntityData) → Step reading event before outcome after → event_moment after.last reading ≡ event_moment before.last reading
moment_stays reading event outcome before after step = elim ((same_entity reading event outcome before after step).last) [
  | inl moved ↦ ap (λ (l : ℕ). event_moment l reading) moved ∙ max_again before.last _
  | inr unswept ↦ ap (λ (e : EntityData). event_moment e.last reading) unswept.same
]

pub runs_stay : (reading : ℕ) (ran : List Ran) (before after : EntityData) → HistoryLeaves before (run_history reading ran) after → event_moment after.last reading ≡ event_moment before.last reading
runs_stay reading [] before after leads = ap (λ (e : EntityData). event_moment e.last reading) leads
runs_stay reading (r ∷ ran) before after leads =
    runs_stay reading ran leads.0 after leads.2 ∙ moment_stays reading (Ask r.entry.request) r.outcome before leads.0 leads.1

-- where the outcome of a request is a reply, its moment is that of the event
done_at : (reading : ℕ) (event : Event) (told : Outcome) (before after : EntityData) (request : RequestParts) (reply : ReplyParts) → event ≡ Ask request → told ≡ Done reply → Step reading event before told after → event_moment before.last reading ≡ after.last
done_at reading event told before after request reply asks is step =
    let at : Step reading (Ask request) before told after = subst (λ (v : Event). Step reading v before told after) asks step in
    let done : Step reading (Ask request) before (Done reply) after = subst (λ (o : Outcome). Step reading (Ask request) before o after) is at in
    sym (done_keeps reading request before after reply done).last

-- where the moment is the last one, it stays
last_stays : (reading : ℕ) (event : Event) (told : Outcome) (before after : EntityData) → event_moment before.last reading ≡ before.last → Step reading event before told after → after.last ≡ before.last
last_stays reading event told before after same step = elim ((same_entity reading event told before after step).last) [
  | inl moved ↦ moved ∙ same
  | inr unswept ↦ ap (λ (e : EntityData). e.last) unswept.same
]

-- ---- a turn

pub run_numbers_by : (ran : List Ran) → map (λ (r : Ran). r.entry.number) ran ≡ numbers_of (map (λ (r : Ran). r.entry) ran)
run_numbers_by [] = refl
run_numbers_by (r ∷ ran) = ap (λ (ns : List ℕ). r.entry.number ∷ ns) (run_numbers_by ran)

pub record TurnKeeps (past : ℕ) (t : Turn) (after : LaterData) : Type 0 where
  pub rises : Rises past (run_numbers t)
  pub order : InOrder (last_from past (run_numbers t)) after.inner.last after.requests

module _ (past : ℕ) (before after : LaterData) (e : Entry Event Outcome) (t : Turn) (order : InOrder past before.inner.last before.requests) (is : IsTurn before e t after) where
  abbrev runs : LaterEntryData → Bool
  runs = is_to_run is.moment e.event

  numbers_ran : run_numbers t ≡ numbers_of (filter runs before.requests.entries)
  numbers_ran = run_numbers_by t.ran ∙ ap numbers_of is.ran

  -- from the entries that the runs leave, on
  settled : (p : ℕ) → InOrder p after.inner.last is.left → InOrder p after.inner.last after.requests
  settled p left = comes_holds (InOrder p after.inner.last) before.inner.home (still_standing is.moment is.left) is.moment e.event t.told e.outcome after.requests
      standing accepts (λ o deletes. filtered (λ (x : LaterEntryData). not (x.number == o.at.named.number)) p after.inner.last (still_standing is.moment is.left) standing) (turn_comes before after e t is)
    where
      standing : InOrder p after.inner.last (still_standing is.moment is.left)
      standing = filtered (still_stands is.moment) p after.inner.last is.left left

      now : (up : IsTakenUp before.inner.home (still_standing is.moment is.left) is.moment e.event t.told e.outcome after.requests) → is.moment ≡ after.inner.last
      now up = sym (runs_stay e.reading t.ran before.inner is.between is.runs_lead ∙ sym is.at)
          ∙ done_at e.reading e.event t.told is.between after.inner up.asked.request up.asked.reply up.asked.asks up.asked.refused is.step

      accepts : (up : IsTakenUp before.inner.home (still_standing is.moment is.left) is.moment e.event t.told e.outcome after.requests) → InOrder p after.inner.last (with_accepted (still_standing is.moment is.left) (claimed_originator before.inner.home up.asked.request) up.asked.request is.moment)
      accepts up = subst (λ (m : ℕ). InOrder p after.inner.last (with_accepted (still_standing is.moment is.left) (claimed_originator before.inner.home up.asked.request) up.asked.request m)) (sym (now up))
          (one_accepted p after.inner.last (still_standing is.moment is.left) (claimed_originator before.inner.home up.asked.request) up.asked.request standing)

  given_left : last_from 0 (numbers_of is.left.entries) ≤ is.left.given
  given_left =
      let same : numbers_of is.left.entries ≡ numbers_of before.requests.entries = left_numbers runs before.requests.entries t.ran is.left.entries is.are_left in
      subst (λ (ns : List ℕ). last_from 0 ns ≤ is.left.given) (sym same)
      (subst (λ (g : ℕ). last_from 0 (numbers_of before.requests.entries) ≤ g) (sym is.given) order.given)

  numbers_left : Rises 0 (numbers_of is.left.entries)
  numbers_left = subst (Rises 0) (sym (left_numbers runs before.requests.entries t.ran is.left.entries is.are_left)) order.numbers

  -- where all that waits is run
  all_ran : AllByRecursion (AgreesToRun runs) before.requests.entries → TurnKeeps past t after
  all_ran agree = record { rises = subst (Rises past) (sym numbers_ran) up; order = settled (last_from past (run_numbers t)) left }
    where
      picked : (xs : List LaterEntryData) → AllByRecursion (AgreesToRun runs) xs → AllByRecursion (WaitsAbove past) xs → AllByRecursion (λ (x : LaterEntryData). runs x ≡ true → past < x.number) xs
      picked [] agree above = tt
      picked (x ∷ xs) agree above = ((λ r. above.0 (sym agree.0 ∙ r)), picked xs agree.1 above.1)

      up : Rises past (numbers_of (filter runs before.requests.entries))
      up = rises_filter runs past 0 before.requests.entries order.numbers (picked before.requests.entries agree order.above)

      waits : AllByRecursion (λ (x : LaterEntryData). does_wait x ≡ false) is.left.entries
      waits = none_waits runs before.requests.entries t.ran is.left.entries agree is.are_left

      left : InOrder (last_from past (run_numbers t)) after.inner.last is.left
      left = record {
        numbers = numbers_left;
        given = given_left;
        within = subst (λ (g : ℕ). last_from past (run_numbers t) ≤ g) (sym is.given)
            (subst (λ (ns : List ℕ). last_from past ns ≤ before.requests.given) (sym numbers_ran)
            (last_filter runs past 0 before.requests.given before.requests.entries order.numbers order.within order.given));
        waiting = each_weaker (λ (x : LaterEntryData). does_wait x ≡ false) (WaitsSince after.inner.last) (λ x n w. absurd (true≢false (sym w ∙ n))) is.left.entries waits;
        above = each_weaker (λ (x : LaterEntryData). does_wait x ≡ false) (WaitsAbove (last_from past (run_numbers t))) (λ x n w. absurd (true≢false (sym w ∙ n))) is.left.entries waits;
      }

  -- where nothing is
  none_ran : AllByRecursion (λ (x : LaterEntryData). runs x ≡ false) before.requests.entries → is.moment ≡ before.inner.last → TurnKeeps past t after
  none_ran never same = record { rises = subst (Rises past) (sym no_numbers) tt; order = subst (λ (ns : List ℕ). InOrder (last_from past ns) after.inner.last after.requests) (sym no_numbers) (settled past left) }
    where
      leaves : LeavesAll before.requests.entries t.ran is.left.entries
      leaves = none_run runs before.requests.entries t.ran is.left.entries never is.are_left

      no_numbers : run_numbers t ≡ []
      no_numbers = ap (map (λ (r : Ran). r.entry.number)) leaves.none

      between : is.between ≡ before.inner
      between = subst (λ (ran : List Ran). HistoryLeaves before.inner (run_history e.reading ran) is.between) leaves.none is.runs_lead

      last : after.inner.last ≡ before.inner.last
      last = last_stays e.reading e.event t.told before.inner after.inner (sym is.at ∙ same)
          (subst (λ (x : EntityData). Step e.reading e.event x t.told after.inner) between is.step)

      left : InOrder past after.inner.last is.left
      left = record {
        numbers = numbers_left;
        given = given_left;
        within = subst (λ (g : ℕ). past ≤ g) (sym is.given) order.within;
        waiting = subst (λ (l : ℕ). AllByRecursion (WaitsSince l) is.left.entries) (sym last)
            (subst (AllByRecursion (WaitsSince before.inner.last)) (sym leaves.all) order.waiting);
        above = subst (AllByRecursion (WaitsAbove past)) (sym leaves.all) order.above;
      }

  pub turn_keeps : TurnKeeps past t after
  turn_keeps = elim (all_or_none e.event is.moment before.inner.last before.requests.entries late order.waiting) [
    | inl agree ↦ all_ran agree
    | inr none ↦ none_ran none.0 none.1
  ]
    where
      late : before.inner.last ≤ is.moment
      late = subst (λ (m : ℕ). before.inner.last ≤ m) (sym is.at) (max_past before.inner.last _)

-- ---- histories

pub record TurnsKeep (past : ℕ) (turns : List Turn) (after : LaterData) : Type 0 where
  pub rises : Rises past (all_run_numbers turns)
  pub order : InOrder (last_from past (all_run_numbers turns)) after.inner.last after.requests

pub turns_keep : (history : History) (turns : List Turn) (past : ℕ) (before after : LaterData) → InOrder past before.inner.last before.requests → HasTurns before history turns after → TurnsKeep past turns after
turns_keep [] turns past before after order has =
    subst (λ (ts : List Turn). TurnsKeep past ts after) (sym has.0)
    (record { rises = tt; order = subst (λ (l : LaterData). InOrder past l.inner.last l.requests) (sym has.1) order })
turns_keep (e ∷ history) turns past before after order has =
    let t = has.0 in
    let mid : ℕ = last_from past (run_numbers t) in
    let first = turn_keeps past before has.2 e t order has.4 in
    let rest = turns_keep history has.1 mid has.2 after first.order has.5 in
    subst (λ (ts : List Turn). TurnsKeep past ts after) (sym has.3)
    (record {
      rises = rises_append past (run_numbers t) (all_run_numbers has.1) first.rises rest.rises;
      order = subst (λ (l : ℕ). InOrder l after.inner.last after.requests) (sym (last_append past (run_numbers t) (all_run_numbers has.1))) rest.order;
    })
