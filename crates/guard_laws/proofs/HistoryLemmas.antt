-- Steps one after another.
use Rattle.guard_laws.proofs.Words.{◌≡◌, ◌⊎◌, ℕ, List, [], ◌∷◌, ◌++◌, false, length, get_or, drop, take, inl, inr, refl, sym, ap, subst, ◌∙◌, arith, All}
use Rattle.cse_machine.proofs.SameLemmas.{done_holds}
use Rattle.cse_machine.specs.Answer.{spot_asked}
use Rattle.cse_machine.proofs.CutLemmas.{IsLeftShort, left_short, some_done, undone}
use Rattle.cse_machine.proofs.MemberLemmas.{take_requests}
use Rattle.cse_machine.proofs.WayLemmas.{member_addresses}
use Rattle.guard_laws.proofs.Terms.{entry_of, readings_of, events_of, outcomes_of, ReplyParts, RequestParts, is_to_send, EntityData, swept, IsSoundEntity, Event, Ask, Take, Tick, Outcome, Done, Forward, Item, Ticked, Starved, Single, requests_to, singles_of, History, HistoryLeaves, IsDone, IsUnswept, Step}
use Rattle.guard_laws.proofs.Facts.{All-head, All-tail, sound_taken, sound_swept}
use Rattle.turn_desk.specs.Joins.{Runs-append}
use Rattle.guard_laws.specs.Guard.{AreGuarded, IsGuarded, IsGuardedShort, is_fan_point}
use Rattle.guard_laws.proofs.CutLemmas.{alone_undone, short_send}
use Rattle.guard_laws.proofs.GuardLemmas.{guarded, sound_effect}
use Rattle.guard_laws.proofs.MemberLemmas.{IsSoundAt, members_guarded, members_sound, take_singles}

-- and none is but by a fan-out
pub starved_undone : (reading : ℕ) (request : RequestParts) (done : ℕ) (before after : EntityData) → is_fan_point (spot_asked (swept reading before) request) ≡ false → Step reading (Ask request) before (Starved done) after → done ≡ 0
starved_undone reading request done before after other step = elim step [
  | inl short ↦ (let e = swept reading before in alone_undone e request done after other (left_short e request done after short))
  | inr unswept ↦ unswept.none
]

pub one_more : (opening before after : EntityData) (history : History) (reading : ℕ) (event : Event) (outcome : Outcome) → HistoryLeaves opening history before → Step reading event before outcome after → HistoryLeaves opening (history ++ entry_of reading event outcome ∷ []) after
one_more opening before after history reading event outcome run step =
    Runs-append Step history (entry_of reading event outcome ∷ []) opening before after run (after, step, refl)

short_sound : (e : EntityData) (request : RequestParts) (done : ℕ) (after : EntityData) → IsSoundEntity e → IsLeftShort e request done after → IsSoundEntity after
short_sound e request done after sound (undone none same) = subst IsSoundEntity (sym same) sound
short_sound e request done after sound (some_done fan left) =
    let addresses = take done (member_addresses e request fan.place fan.group) in
    subst IsSoundEntity (sym left)
    (members_sound e.home request (short_send e request fan) addresses e (record { sound = sound; home_is = refl })).sound

unswept_sound : (reading : ℕ) (before after : EntityData) (done : ℕ) → IsSoundEntity before → IsUnswept reading before done after → IsSoundEntity after
unswept_sound reading before after done sound unswept = subst IsSoundEntity (sym unswept.same) sound

sound_starved : (reading : ℕ) (event : Event) (before after : EntityData) (done : ℕ) → IsSoundEntity before → Step reading event before (Starved done) after → IsSoundEntity after
sound_starved reading (Ask request) before after done sound step = elim step [
  | inl short ↦ (let e = swept reading before in short_sound e request done after (sound_swept reading before sound) (left_short e request done after short))
  | inr unswept ↦ unswept_sound reading before after done sound unswept
]
sound_starved reading Take before after done sound step = unswept_sound reading before after done sound step
sound_starved reading Tick before after done sound step = unswept_sound reading before after done sound step

pub sound_step : (reading : ℕ) (event : Event) (before after : EntityData) (outcome : Outcome) → IsSoundEntity before → Step reading event before outcome after → IsSoundEntity after
sound_step reading (Ask request) before after (Done reply) sound step =
    subst IsSoundEntity (sym step.1) (sound_effect (swept reading before) request (sound_swept reading before sound))
sound_step reading (Ask request) before after (Forward poa onward) sound step =
    subst IsSoundEntity (sym step.1) (sound_effect (swept reading before) request (sound_swept reading before sound))
sound_step reading (Ask request) before after (Starved done) sound step = sound_starved reading (Ask request) before after done sound step
sound_step reading (Ask request) before after (Item given) sound step = absurd step
sound_step reading (Ask request) before after Ticked sound step = absurd step
sound_step reading Take before after (Done reply) sound step = absurd step
sound_step reading Take before after (Forward poa onward) sound step = absurd step
sound_step reading Take before after Ticked sound step = absurd step
sound_step reading Tick before after (Done reply) sound step = absurd step
sound_step reading Tick before after (Forward poa onward) sound step = absurd step
sound_step reading Tick before after (Item given) sound step = absurd step
sound_step reading Take before after (Item given) sound step =
    subst IsSoundEntity (sym step.1) (sound_taken (is_to_send (swept reading before).nodes) (swept reading before) (sound_swept reading before sound))
sound_step reading Take before after (Starved done) sound step = sound_starved reading Take before after done sound step
sound_step reading Tick before after Ticked sound step = subst IsSoundEntity (sym step) (sound_swept reading before sound)
sound_step reading Tick before after (Starved done) sound step = sound_starved reading Tick before after done sound step

pub sound_after : (history : History) (opening e : EntityData) → IsSoundEntity opening → HistoryLeaves opening history e → IsSoundEntity e
sound_after [] opening e sound run = subst IsSoundEntity (sym run) sound
sound_after (entry ∷ history) opening e sound run =
    sound_after history run.0 e (sound_step entry.reading entry.event opening run.0 entry.outcome sound run.1) run.2

-- a step is guarded
pub step_guarded : (reading : ℕ) (request : RequestParts) (before after : EntityData) (reply : ReplyParts) → IsSoundEntity before → Step reading (Ask request) before (Done reply) after → IsGuarded (swept reading before) request reply after
step_guarded reading request before after reply sound step =
    let e = swept reading before in
    done_holds (λ x. IsGuarded e request x.reply x.after) reading request before after reply (guarded e request (sound_swept reading before sound)) step

-- and so is what has taken effect where memory ran out
short_guarded : (e : EntityData) (request : RequestParts) (done : ℕ) (after : EntityData) → IsSoundEntity e → IsLeftShort e request done after → IsGuardedShort e request done after
short_guarded e request done after sound (undone none same) = inl same
short_guarded e request done after sound (some_done fan left) =
    let addresses = member_addresses e request fan.place fan.group in
    let singles = singles_of e (requests_to request addresses) in
    let first = take done addresses in
    let at_home : IsSoundAt e.home e = record { sound = sound; home_is = refl } in
    let some : take done singles ≡ singles_of e (requests_to request first) =
    take_singles done (requests_to request addresses) e ∙ ap (singles_of e) (take_requests done addresses request) in
    inr (record {
      group = fan.group;
      place = fan.place;
      spot = fan.spot;
      there = fan.there;
      right = fan.right;
      singles = singles;
      all = refl;
      guarded = subst (λ (taken : List Single). AreGuarded e taken after) (sym some)
          (subst (λ (x : EntityData). AreGuarded e (singles_of e (requests_to request first)) x) (sym left)
          (members_guarded e.home request (short_send e request fan) first e at_home));
    })

pub starved_guarded : (reading : ℕ) (request : RequestParts) (before after : EntityData) (done : ℕ) → IsSoundEntity before → Step reading (Ask request) before (Starved done) after → IsGuardedShort (swept reading before) request done after ⊎ IsUnswept reading before done after
starved_guarded reading request before after done sound step = elim step [
  | inl short ↦ (let e = swept reading before in inl (short_guarded e request done after (sound_swept reading before sound) (left_short e request done after short)))
  | inr unswept ↦ inr unswept
]

-- an entry of a history is the step that it tells
pub entry_steps : (earlier later : History) (opening e : EntityData) (reading : ℕ) (event : Event) (outcome : Outcome) → IsSoundEntity opening → HistoryLeaves opening (earlier ++ entry_of reading event outcome ∷ later) e
    → (before : EntityData) × (after : EntityData) × HistoryLeaves opening earlier before × IsSoundEntity before × Step reading event before outcome after × HistoryLeaves opening (earlier ++ entry_of reading event outcome ∷ []) after
entry_steps [] later opening e reading event outcome sound run =
    (opening, run.0, refl, sound, run.1, (run.0, run.1, refl))
entry_steps (entry ∷ earlier) later opening e reading event outcome sound run =
    let rest = entry_steps earlier later run.0 e reading event outcome (sound_step entry.reading entry.event opening run.0 entry.outcome sound run.1) run.2 in
    (rest.0, rest.1, (run.0, run.1, rest.2), rest.3, rest.4, (run.0, run.1, rest.5))

pub guarded_in_history : (earlier later : History) (opening e : EntityData) (reading : ℕ) (request : RequestParts) (reply : ReplyParts) → IsSoundEntity opening → HistoryLeaves opening (earlier ++ entry_of reading (Ask request) (Done reply) ∷ later) e
    → (before : EntityData) × (after : EntityData) × HistoryLeaves opening earlier before × HistoryLeaves opening (earlier ++ entry_of reading (Ask request) (Done reply) ∷ []) after × IsGuarded (swept reading before) request reply after
guarded_in_history earlier later opening e reading request reply sound run =
    let entry = entry_steps earlier later opening e reading (Ask request) (Done reply) sound run in
    (entry.0, entry.1, entry.2, entry.5, step_guarded reading request entry.0 entry.1 reply entry.3 entry.4)

-- ---- one way

pub same_first : {A : Type 0} (x y : A) (xs ys : List A) → x ∷ xs ≡ y ∷ ys → x ≡ y
same_first x y xs ys e = ap (λ l. get_or l 0 x) e

pub same_rest : {A : Type 0} (x y : A) (xs ys : List A) → x ∷ xs ≡ y ∷ ys → xs ≡ ys
same_rest x y xs ys e = ap (drop 1) e

pub none_some : {A : Type 0} (x : A) (xs : List A) → [] ≡ x ∷ xs → ⊥
none_some x xs e = omega (arith, ap length e)

-- a step for which there is memory has one outcome and leaves one entity
step_one_way : (reading : ℕ) (event : Event) (before after other : EntityData) (outcome twin : Outcome) → Step reading event before outcome after → Step reading event before twin other → IsDone outcome → IsDone twin → (outcome ≡ twin) × (after ≡ other)
step_one_way reading (Ask request) before after other (Done reply) (Done again) first second done dones =
    (first.0 ∙ sym second.0, first.1 ∙ sym second.1)
step_one_way reading (Ask request) before after other (Done reply) (Forward way further) first second done dones =
    (first.0 ∙ sym second.0, first.1 ∙ sym second.1)
step_one_way reading (Ask request) before after other (Done reply) (Item noted) first second done dones = absurd second
step_one_way reading (Ask request) before after other (Done reply) Ticked first second done dones = absurd second
step_one_way reading (Ask request) before after other (Done reply) (Starved few) first second done dones = absurd dones
step_one_way reading (Ask request) before after other (Forward poa onward) (Done again) first second done dones =
    (first.0 ∙ sym second.0, first.1 ∙ sym second.1)
step_one_way reading (Ask request) before after other (Forward poa onward) (Forward way further) first second done dones =
    (first.0 ∙ sym second.0, first.1 ∙ sym second.1)
step_one_way reading (Ask request) before after other (Forward poa onward) (Item noted) first second done dones = absurd second
step_one_way reading (Ask request) before after other (Forward poa onward) Ticked first second done dones = absurd second
step_one_way reading (Ask request) before after other (Forward poa onward) (Starved few) first second done dones = absurd dones
step_one_way reading (Ask request) before after other (Item given) twin first second done dones = absurd first
step_one_way reading (Ask request) before after other Ticked twin first second done dones = absurd first
step_one_way reading (Ask request) before after other (Starved some) twin first second done dones = absurd done
step_one_way reading Take before after other (Done reply) twin first second done dones = absurd first
step_one_way reading Take before after other (Forward poa onward) twin first second done dones = absurd first
step_one_way reading Take before after other (Item given) (Done again) first second done dones = absurd second
step_one_way reading Take before after other (Item given) (Forward way further) first second done dones = absurd second
step_one_way reading Take before after other (Item given) (Item noted) first second done dones = (ap Item (first.0 ∙ sym second.0), first.1 ∙ sym second.1)
step_one_way reading Take before after other (Item given) Ticked first second done dones = absurd second
step_one_way reading Take before after other (Item given) (Starved few) first second done dones = absurd dones
step_one_way reading Take before after other Ticked twin first second done dones = absurd first
step_one_way reading Take before after other (Starved some) twin first second done dones = absurd done
step_one_way reading Tick before after other (Done reply) twin first second done dones = absurd first
step_one_way reading Tick before after other (Forward poa onward) twin first second done dones = absurd first
step_one_way reading Tick before after other (Item given) twin first second done dones = absurd first
step_one_way reading Tick before after other Ticked (Done again) first second done dones = absurd second
step_one_way reading Tick before after other Ticked (Forward way further) first second done dones = absurd second
step_one_way reading Tick before after other Ticked (Item noted) first second done dones = absurd second
step_one_way reading Tick before after other Ticked Ticked first second done dones = (refl, first ∙ sym second)
step_one_way reading Tick before after other Ticked (Starved few) first second done dones = absurd dones
step_one_way reading Tick before after other (Starved some) twin first second done dones = absurd done

pub one_way : (history twin : History) (opening e other : EntityData) → HistoryLeaves opening history e → HistoryLeaves opening twin other
    → readings_of history ≡ readings_of twin → events_of history ≡ events_of twin
    → All IsDone (outcomes_of history) → All IsDone (outcomes_of twin) → (outcomes_of history ≡ outcomes_of twin) × (e ≡ other)
one_way [] [] opening e other first second readings events done dones = (refl, first ∙ sym second)
one_way [] (t ∷ twin) opening e other first second readings events done dones = absurd (none_some t.reading (readings_of twin) readings)
one_way (h ∷ history) [] opening e other first second readings events done dones = absurd (none_some h.reading (readings_of history) (sym readings))
one_way (h ∷ history) (t ∷ twin) opening e other first second readings events done dones =
    let step =
    step_one_way h.reading h.event opening first.0 second.0 h.outcome t.outcome first.1
    (subst (λ (n : ℕ). Step n h.event opening t.outcome second.0) (sym (same_first h.reading t.reading (readings_of history) (readings_of twin) readings))
    (subst (λ (v : Event). Step t.reading v opening t.outcome second.0) (sym (same_first h.event t.event (events_of history) (events_of twin) events)) second.1))
    (All-head IsDone h.outcome (outcomes_of history) done) (All-head IsDone t.outcome (outcomes_of twin) dones) in
    let rest =
    one_way history twin first.0 e other first.2 (subst (λ (b : EntityData). HistoryLeaves b twin other) (sym step.1) second.2)
    (same_rest h.reading t.reading (readings_of history) (readings_of twin) readings)
    (same_rest h.event t.event (events_of history) (events_of twin) events)
    (All-tail IsDone h.outcome (outcomes_of history) done) (All-tail IsDone t.outcome (outcomes_of twin) dones) in
    (ap (λ (o : Outcome). o ∷ outcomes_of history) step.0 ∙ ap (λ (os : List Outcome). t.outcome ∷ os) rest.0, rest.1)
