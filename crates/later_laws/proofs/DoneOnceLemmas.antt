-- Accepted requests are kept until they go, and done once.
use Rattle.std.proofs.Common.{◌≡◌, ◌≢◌, ◌⊎◌, inl, inr, ⊎_elim, ℕ, ◌+◌, ◌<◌, ◌≤◌, ◌==◌, Bool, true, false, List, [], ◌∷◌, ◌++◌, filter, map, refl, sym, ◌∙◌, ap, subst, arith, true≢false}
use Rattle.std.specs.Prelude.{Contains}
use Rattle.std.proofs.lemmas.Bool.{and_parts, cases_Bool, eqb-true}
use Rattle.std.specs.List.{AllByRecursion}
use Rattle.std.proofs.lemmas.List.Elements.{Contains-append_cases, Contains-append_left, Contains-append_right}
use Rattle.turn_desk.specs.declared.entry.Entry.{Entry}
use Rattle.cse_machine.specs.History.{History}
use Rattle.cse_machine.specs.declared.event.Event.{Event}
use Rattle.cse_machine.specs.declared.event.Outcome.{Outcome}
use Rattle.later_replies.specs.Entries.{LaterData, LaterEntryData, LaterRequestsData, does_wait, still_standing, still_stands}
use Rattle.later_replies.specs.Runs.{is_to_run}
use Rattle.later_laws.proofs.GoingLemmas.{acceptance_adds, contains_behind, contains_first, contains_mapped, contains_none, contains_of_filtered, contains_one_of, from_mapped, goes_when_due_or_by_own, left_is}
use Rattle.later_laws.proofs.OnceLemmas.{comes_to_run, each_at, entry_run, numbers_run, times_once}
use Rattle.later_laws.proofs.OrderLemmas.{each_weaker, rises_above, rises_past}
use Rattle.later_laws.proofs.SoundLemmas.{InOrder, run_numbers_by, turns_keep}
use Rattle.later_laws.proofs.TurnLemmas.{turn_comes}
use Rattle.later_laws.specs.Laws.{IsLeftAs, all_run_numbers, run_numbers, times}
use Rattle.later_laws.specs.Turns.{HasTurns, IsTurn, Ran, Turn, all_ran, as_ran}
use Rattle.journaled_later.specs.Keeping.{IsAtEarlier}
use Rattle.later_replies.proofs.AnswerLemmas.{comes_holds}
use Rattle.later_replies.specs.Answered.{IsDeletedByOwn}
use Rattle.later_replies.specs.Sound.{IsSoundLater, Rises, last_from, numbers_of}
use Rattle.later_laws.specs.Once.{AreDoneOnce, GoesAtOne, IsLeftByAll}

-- ---- it stays

-- a run of the first turn or of later ones
run_first : (t : Turn) (turns : List Turn) (r : Ran) → Contains t.ran r → Contains (all_ran (t ∷ turns)) r
run_first t turns r has = Contains-append_left t.ran (all_ran turns) r has

run_later : (t : Turn) (turns : List Turn) (r : Ran) → Contains (all_ran turns) r → Contains (all_ran (t ∷ turns)) r
run_later t turns r has = Contains-append_right t.ran (all_ran turns) r has

contains_passes : (p : LaterEntryData → Bool) (xs : List LaterEntryData) (x : LaterEntryData) → Contains (filter p xs) x → p x ≡ true
contains_passes p [] x has = absurd (contains_none x has)
contains_passes p (y ∷ ys) x has = elim (cases_Bool (p y)) [
  | inl t ↦
      ⊎_elim (λ (same : y ≡ x). ap p (sym same) ∙ t) (λ behind. contains_passes p ys x behind) (contains_one_of y (filter p ys) x (rw t at has))
  | inr f ↦ contains_passes p ys x (rw f at has)
]

-- what is run waits
module _ (before after : LaterData) (e : Entry Event Outcome) (t : Turn) (is : IsTurn before e t after) where
  abbrev runs : LaterEntryData → Bool
  runs = is_to_run is.moment e.event

  run_passes : (r : Ran) → Contains t.ran r → Contains (filter runs before.requests.entries) r.entry
  run_passes r has = subst (λ (l : List LaterEntryData). Contains l r.entry) is.ran (contains_mapped (λ (q : Ran). q.entry) t.ran r has)

  pub run_waits : (r : Ran) → Contains t.ran r → does_wait r.entry ≡ true
  run_waits r has = (and_parts (does_wait r.entry) _ (contains_passes runs before.requests.entries r.entry (run_passes r has))).0

-- one of two lists has it
run_of : (t : Turn) (turns : List Turn) (r : Ran) (P : Type 0) → (Contains t.ran r → P) → (Contains (all_ran turns) r → P) → Contains (t.ran ++ all_ran turns) r → P
run_of t turns r P here later has = ⊎_elim here later (Contains-append_cases t.ran (all_ran turns) r has)

all_wait : (events : History) (turns : List Turn) (before after : LaterData) → HasTurns before events turns after → (r : Ran) → Contains (all_ran turns) r → does_wait r.entry ≡ true
all_wait [] turns before after has r there = absurd (contains_none r (subst (λ (ts : List Turn). Contains (all_ran ts) r) has.0 there))
all_wait (e ∷ events) turns before after has r there =
    run_of has.0 has.1 r (does_wait r.entry ≡ true) (run_waits before has.2 e has.0 has.4 r) (all_wait events has.1 has.2 after has.5 r)
    (subst (λ (ts : List Turn). Contains (all_ran ts) r) has.3 there)

-- it goes alike by its number and the moment of its acceptance
goes_alike : (events : History) (turns : List Turn) (before after : LaterData) (has : HasTurns before events turns after) (x y : LaterEntryData) → x.number ≡ y.number → x.accepted ≡ y.accepted
    → GoesAtOne before events turns after has x → GoesAtOne before events turns after has y
goes_alike [] turns before after has x y number accepted goes = absurd goes
goes_alike (e ∷ events) turns before after has x y number accepted (inl due) = inl (rw (sym accepted) due)
goes_alike (e ∷ events) turns before after has x y number accepted (inr (inl deleted)) =
    inr (inl (subst (λ (n : ℕ). IsDeletedByOwn before.inner.home (still_standing has.4.moment has.4.left) e.event n) number deleted))
goes_alike (e ∷ events) turns before after has x y number accepted (inr (inr goes)) =
    inr (inr (goes_alike events has.1 has.2 after has.5 x y number accepted goes))

-- as the first turn leaves it, it has the same number and moment
record SameRequest (x left : LaterEntryData) : Type 0 where
  number : left.number ≡ x.number
  accepted : left.accepted ≡ x.accepted

same_left : (t : Turn) (runs : Bool) (x left : LaterEntryData) → IsLeftAs t runs x left → SameRequest x left
same_left t true x left it =
    let r = it.ran refl in
    record {
      number = ap (λ (y : LaterEntryData). y.number) r.3 ∙ ap (λ (y : LaterEntryData). y.number) r.2;
      accepted = ap (λ (y : LaterEntryData). y.accepted) r.3 ∙ ap (λ (y : LaterEntryData). y.accepted) r.2;
    }
same_left t false x left it = record {
  number = ap (λ (y : LaterEntryData). y.number) (it.same refl);
  accepted = ap (λ (y : LaterEntryData). y.accepted) (it.same refl);
}

-- as it is left by the first turn, and then by others
left_then : (t : Turn) (turns : List Turn) (runs : Bool) (x mid left : LaterEntryData) → ((r : Ran) → Contains (all_ran turns) r → does_wait r.entry ≡ true)
    → IsLeftAs t runs x mid → IsLeftByAll turns mid left → IsLeftByAll (t ∷ turns) x left
left_then t turns false x mid left waits it (inl same) = inl (same ∙ it.same refl)
left_then t turns false x mid left waits it (inr (r, has, is, by)) = inr (r, run_later t turns r has, is ∙ it.same refl, by)
left_then t turns true x mid left waits it (inl same) =
    let first = it.ran refl in
    inr (first.0, run_first t turns first.0 first.1, first.2, same ∙ first.3)
left_then t turns true x mid left waits it (inr (r, has, is, by)) =
    let first = it.ran refl in
    let done : does_wait r.entry ≡ false = ap does_wait (is ∙ first.3) in
    absurd (true≢false (sym (waits r has) ∙ done))

pub stays_until : (events : History) (turns : List Turn) (before after : LaterData) (x : LaterEntryData) (has : HasTurns before events turns after) → Contains before.requests.entries x
    → ((left : LaterEntryData) × Contains after.requests.entries left × IsLeftByAll turns x left) ⊎ GoesAtOne before events turns after has x
stays_until [] turns before after x has there = inl (x, subst (λ (l : LaterData). Contains l.requests.entries x) (sym has.1) there, inl refl)
stays_until (e ∷ events) turns before after x has there = elim (cases_Bool (still_stands has.4.moment x)) [
  | inr due ↦ inr (inl due)
  | inl stands ↦ ⊎_elim (kept (λ mid stays. stays_until events has.1 has.2 after mid has.5 stays)) (λ deleted. inr (inr (inl deleted))) (goes_when_due_or_by_own before has.2 e has.0 x has.4 there stands)
]
  where
    kept : ((mid : LaterEntryData) → Contains has.2.requests.entries mid
        → ((left : LaterEntryData) × Contains after.requests.entries left × IsLeftByAll has.1 mid left) ⊎ GoesAtOne has.2 events has.1 after has.5 mid)
        → ((mid : LaterEntryData) × Contains has.2.requests.entries mid × IsLeftAs has.0 (is_to_run has.4.moment e.event x) x mid)
        → ((left : LaterEntryData) × Contains after.requests.entries left × IsLeftByAll turns x left) ⊎ GoesAtOne before (e ∷ events) turns after has x
    kept again (mid, stays, it) =
        let same = same_left has.0 (is_to_run has.4.moment e.event x) x mid it in
        ⊎_elim
        (λ last. inl (
          last.0,
          last.1,
          subst (λ (ts : List Turn). IsLeftByAll ts x last.0) (sym has.3)
              (left_then has.0 has.1 (is_to_run has.4.moment e.event x) x mid last.0 (all_wait events has.1 has.2 after has.5) it last.2),
        ))
        (λ goes. inr (inr (inr (goes_alike events has.1 has.2 after has.5 mid x same.number same.accepted goes))))
        (again mid stays)

-- ---- how often a number stands

times_both : (n : ℕ) (xs ys : List ℕ) → times n (xs ++ ys) ≡ times n xs + times n ys
times_both n [] ys = omega arith
times_both n (m ∷ xs) ys = elim (cases_Bool (m == n)) [
  | inl t ↦ rw t (omega (arith, times_both n xs ys))
  | inr f ↦ rw f (times_both n xs ys)
]

times_absent : (n : ℕ) (ns : List ℕ) → (Contains ns n → ⊥) → times n ns ≡ 0
times_absent n [] never = refl
times_absent n (m ∷ ns) never = elim (cases_Bool (m == n)) [
  | inl t ↦ absurd (never (subst (λ (k : ℕ). Contains (m ∷ ns) k) (eqb-true m n t) (contains_first m ns)))
  | inr f ↦ rw f (times_absent n ns (λ has. never (contains_behind m ns n has)))
]

-- numbers that rise are not above the last
times_above : (past n : ℕ) (ns : List ℕ) → Rises past ns → last_from past ns < n → times n ns ≡ 0
times_above past n [] rises above = refl
times_above past n (m ∷ ns) rises above = elim (cases_Bool (m == n)) [
  | inl t ↦ (
      let same : m ≡ n = eqb-true m n t in
      let most : m ≤ last_from m ns = rises_past m ns rises.1 in
      let last : last_from m ns < n = above in
      absurd (omega (arith, same, most, last)))
  | inr f ↦ rw f (times_above m n ns rises.1 above)
]

times_most : (past n : ℕ) (ns : List ℕ) → Rises past ns → times n ns ≤ 1
times_most past n [] rises = omega arith
times_most past n (m ∷ ns) rises = elim (cases_Bool (m == n)) [
  | inl t ↦ (
      let once = times_once past n (m ∷ ns) rises (subst (λ (k : ℕ). Contains (m ∷ ns) k) (eqb-true m n t) (contains_first m ns)) in
      omega (arith, once))
  | inr f ↦ rw f (times_most m n ns rises.1)
]

-- ---- one that has its result

-- no accepted request waits under this number, and none will be accepted under it
record IsDoneWith (n : ℕ) (q : LaterRequestsData) : Type 0 where
  within : n ≤ q.given
  none : (y : LaterEntryData) → Contains q.entries y → y.number ≡ n → does_wait y ≡ false

module _ (n : ℕ) (before after : LaterData) (e : Entry Event Outcome) (t : Turn) (is : IsTurn before e t after) (done : IsDoneWith n before.requests) where
  abbrev standing : LaterRequestsData
  standing = still_standing is.moment is.left

  grows : is.left.given ≤ after.requests.given
  grows =
      comes_holds (λ (r : LaterRequestsData). is.left.given ≤ r.given) before.inner.home standing is.moment e.event t.told e.outcome after.requests
      (omega arith) (λ up. omega arith) (λ own deletes. omega arith) (turn_comes before after e t is)

  left_waits : (y : LaterEntryData) → Contains is.left.entries y → y.number ≡ n → does_wait y ≡ false
  left_waits y has number =
      ⊎_elim (λ was. done.none y was number)
      (λ ran. (let r = from_mapped as_ran t.ran y ran in ap does_wait (sym r.is)))
      (left_is (is_to_run is.moment e.event) before.requests.entries t.ran is.left.entries y is.are_left has)

  after_waits : (y : LaterEntryData) → Contains after.requests.entries y → y.number ≡ n → does_wait y ≡ false
  after_waits y has number =
      ⊎_elim (λ was. left_waits y (contains_of_filtered (still_stands is.moment) is.left.entries y was) number)
      (λ new.
      let above : y.number ≡ is.left.given + 1 = ap (λ (z : LaterEntryData). z.number) new.1 in
      absurd (omega (arith, above, number, done.within, is.given)))
      (acceptance_adds before after e t y is has)

  never_run : Contains (run_numbers t) n → ⊥
  never_run has =
      let numbers : run_numbers t ≡ numbers_of (filter (is_to_run is.moment e.event) before.requests.entries) = run_numbers_by t.ran ∙ ap numbers_of is.ran in
      let y = from_mapped (λ (z : LaterEntryData). z.number) (filter (is_to_run is.moment e.event) before.requests.entries) n (subst (λ (ns : List ℕ). Contains ns n) numbers has) in
      let passes = contains_passes (is_to_run is.moment e.event) before.requests.entries y.from y.has in
      let waits : does_wait y.from ≡ true = (and_parts (does_wait y.from) _ passes).0 in
      true≢false (sym waits ∙ done.none y.from (contains_of_filtered (is_to_run is.moment e.event) before.requests.entries y.from y.has) y.is)

  done_on : IsDoneWith n after.requests
  done_on = record { within = omega (arith, done.within, is.given, grows); none = after_waits }

  none_run_there : times n (run_numbers t) ≡ 0
  none_run_there = times_absent n (run_numbers t) never_run

done_never : (n : ℕ) (events : History) (turns : List Turn) (before after : LaterData) → HasTurns before events turns after → IsDoneWith n before.requests → times n (all_run_numbers turns) ≡ 0
done_never n [] turns before after has done = ap (λ (ts : List Turn). times n (all_run_numbers ts)) has.0
done_never n (e ∷ events) turns before after has done =
    let rest = done_never n events has.1 has.2 after has.5 (done_on n before has.2 e has.0 has.4 done) in
    let here = none_run_there n before has.2 e has.0 has.4 done in
    ap (λ (ts : List Turn). times n (all_run_numbers ts)) has.3
    ∙ times_both n (run_numbers has.0) (all_run_numbers has.1)
    ∙ omega (arith, here, rest)

-- ---- accepted requests in order

waits_above_none : (es : List LaterEntryData) (past : ℕ) → Rises past (numbers_of es) → AllByRecursion (λ (e : LaterEntryData). does_wait e ≡ true → past < e.number) es
waits_above_none es past rises =
    each_weaker (λ (e : LaterEntryData). past < e.number) (λ (e : LaterEntryData). does_wait e ≡ true → past < e.number) (λ e h w. h) es (rises_above past es rises)

in_order : (l : LaterData) → IsSoundLater l → InOrder 0 l.inner.last l.requests
in_order l sound = record {
  numbers = sound.numbers;
  given = sound.given;
  within = omega arith;
  waiting = sound.waiting;
  above = waits_above_none l.requests.entries 0 sound.numbers;
}

-- numbers that rise belong to one accepted request each
same_number : (es : List LaterEntryData) (past : ℕ) (x y : LaterEntryData) → Rises past (numbers_of es) → Contains es x → Contains es y → y.number ≡ x.number → y ≡ x
same_number [] past x y rises hx hy is = absurd (contains_none x hx)
same_number (e ∷ es) past x y rises hx hy is =
    ⊎_elim
    (λ (ex : e ≡ x). ⊎_elim (λ (ey : e ≡ y). sym ey ∙ ex)
    (λ by. (let up = each_at (λ (z : LaterEntryData). e.number < z.number) es y (rises_above e.number es rises.1) by in
    let number : e.number ≡ x.number = ap (λ (z : LaterEntryData). z.number) ex in absurd (omega (arith, up, is, number))))
    (contains_one_of e es y hy))
    (λ bx. ⊎_elim (λ (ey : e ≡ y). (let up = each_at (λ (z : LaterEntryData). e.number < z.number) es x (rises_above e.number es rises.1) bx in
    let number : e.number ≡ y.number = ap (λ (z : LaterEntryData). z.number) ey in absurd (omega (arith, up, is, number))))
    (λ by. same_number es e.number x y rises.1 bx by is)
    (contains_one_of e es y hy))
    (contains_one_of e es x hx)

-- none is above the last number
below_given : (es : List LaterEntryData) (past given : ℕ) (x : LaterEntryData) → Rises past (numbers_of es) → last_from past (numbers_of es) ≤ given → Contains es x → x.number ≤ given
below_given [] past given x rises last has = absurd (contains_none x has)
below_given (e ∷ es) past given x rises last has =
    ⊎_elim (λ (same : e ≡ x). (let number : e.number ≡ x.number = ap (λ (z : LaterEntryData). z.number) same in
    let most : e.number ≤ last_from e.number (numbers_of es) = rises_past e.number (numbers_of es) rises.1 in
    let le : last_from e.number (numbers_of es) ≤ given = last in omega (arith, number, most, le)))
    (λ behind. below_given es e.number given x rises.1 last behind) (contains_one_of e es x has)

pub done_once : (before made reopened after : LaterData) (events later : History) (first then : List Turn) (x : LaterEntryData) → IsSoundLater before → HasTurns before events first made
    → IsAtEarlier reopened made → IsSoundLater reopened → (has : HasTurns reopened later then after) → Contains made.requests.entries x
    → AreDoneOnce before made reopened after events later first then has x
done_once before made reopened after events later first then x sound began same again has there =
    let front = turns_keep events first 0 before made (in_order before sound) began in
    let past : ℕ = last_from 0 (all_run_numbers first) in
    let order : InOrder past reopened.inner.last reopened.requests = record {
      numbers = again.numbers;
      given = again.given;
      within = subst (λ (q : LaterRequestsData). past ≤ q.given) (sym same.requests) front.order.within;
      waiting = again.waiting;
      above = subst (λ (q : LaterRequestsData). AllByRecursion (λ (e : LaterEntryData). does_wait e ≡ true → past < e.number) q.entries) (sym same.requests) front.order.above;
    } in
    let back = turns_keep later then past reopened after order has in
    let here : Contains reopened.requests.entries x = subst (λ (q : LaterRequestsData). Contains q.entries x) (sym same.requests) there in
    record {
      again = λ done.
          done_never x.number later then reopened after has (record {
            within = below_given reopened.requests.entries 0 reopened.requests.given x again.numbers again.given here;
            none = λ y hy is. ap does_wait (same_number reopened.requests.entries 0 x y again.numbers here hy is) ∙ done;
          });
      before_it = λ waits.
          times_above 0 x.number (all_run_numbers first) front.rises
          (each_at (λ (e : LaterEntryData). does_wait e ≡ true → past < e.number) made.requests.entries x front.order.above there waits);
      once = λ waits comes.
          let runs = comes_to_run later then past reopened after x order again.inner.last has here waits comes in
          times_once past x.number (all_run_numbers then) back.rises
          (subst (λ (ns : List ℕ). Contains ns x.number) (sym (numbers_run then)) (contains_mapped (λ (y : LaterEntryData). y.number) (map entry_run (all_ran then)) x runs));
      most = times_most past x.number (all_run_numbers then) back.rises;
    }
