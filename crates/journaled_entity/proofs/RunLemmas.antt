-- No item is lost in a run of turns.
use Rattle.std.proofs.Common.{◌≡◌, ◌⊎◌, inl, inr, ⊎_elim, ℕ, ◌+◌, ◌<◌, ◌≤◌, true, false, List, [], ◌∷◌, sym, ◌∙◌, ap, subst, arith}
use Rattle.std.specs.Prelude.{Contains, IsTrue}
use Rattle.std.proofs.lemmas.Bool.{cases_Bool, true≢false}
use Rattle.std.proofs.lemmas.Bool.Decides.{Decides-ltb}
use Rattle.turn_desk.specs.Entries.{Runs}
use Rattle.kept_desk.specs.declared.turn.Report.{Report}
use Rattle.kept_desk.specs.declared.turn.Report.TheVariants.{Done, Settled, Failed}
use Rattle.kept_desk.specs.declared.turn.Turn.{Turn}
use Rattle.kept_desk.specs.declared.turn.Turn.TheVariants.{Do, Settle}
use Rattle.kept_object.specs.State.{KeptData}
use Rattle.kept_object.specs.Steps.{KeptStep, OnTurn}
use Rattle.notify_outbox.specs.Items.{keeping_time, still_waits}
use Rattle.notify_outbox.specs.declared.item.Item.{Item}
use Rattle.entity_model.specs.Entity.{EntityData}
use Rattle.cse_machine.specs.Step.{IsSameEntity}
use Rattle.cse_machine.proofs.SameLemmas.{same_entity}
use Rattle.journal_events.specs.Machine.{machine_event}
use Rattle.journal_events.specs.Steps.{KeptEntityStep}
use Rattle.journal_events.specs.declared.event.KeptEvent.{KeptEvent}
use Rattle.journal_events.specs.declared.event.KeptOutcome.{KeptOutcome}
use Rattle.journal_events.proofs.MachineLemmas.{one_of_machine}
use Rattle.journaled_entity.specs.Keeping.{KeepsEntity}
use Rattle.journaled_entity.specs.Losses.{LeavesAt, LeavesAtOne, LeavesBy, NoItemIsLost, Turned}
use Rattle.journaled_entity.proofs.ItemLemmas.{kept_step}

-- ---- moments

-- what waits at a moment waits at an earlier one
waited : (early late : ℕ) (item : Item) → early ≤ late → IsTrue (still_waits late item) → IsTrue (still_waits early item)
waited early late item order waits =
    let until = item.since + keeping_time in
    let still : late < until = (Decides-ltb late until).0 waits in
    (Decides-ltb early until).1 (omega (arith, order, still))

-- an event leaves the entity at no earlier moment
same_kept : (reading : ℕ) (event : KeptEvent) (came : KeptOutcome) (before after : EntityData) → KeptEntityStep reading event before came after → IsSameEntity reading before after
same_kept reading event came before after step =
    let of_machine = one_of_machine reading event came before after step in
    same_entity reading (machine_event reading before event came) of_machine.0 before after of_machine.1

later_kept : (reading : ℕ) (before after : EntityData) → IsSameEntity reading before after → before.last ≤ after.last
later_kept reading before after left =
    ⊎_elim (λ is. omega (arith, is)) (λ unswept. omega (arith, ap (λ (e : EntityData). e.last) unswept.same)) left.last

-- an event takes no item that still waits behind it
module _ (reading : ℕ) (event : KeptEvent) (came : KeptOutcome) (before after : EntityData) (step : KeptEntityStep reading event before came after)
    (item : Item) (has : Contains before.items item) (waits : IsTrue (still_waits after.last item)) where
  abbrev Fared : Type 0
  Fared = Contains after.items item ⊎ LeavesBy item event came

  pub event_fares : Fared
  event_fares =
      ⊎_elim
      (λ is. kept_step item reading before after has (subst (λ m. IsTrue (still_waits m item)) is waits) event came step)
      (λ unswept. inl (subst (λ (e : EntityData). Contains e.items item) (sym unswept.same) has))
      (same_kept reading event came before after step).last

-- ---- turns

module _ {F : Type 0} (tells : Type 0) (seen : F → List ℕ) (may_leave : F → List ℕ → Type 0) (moment : F → ℕ) (left_since : F → ℕ → List ℕ → Type 0) where
  abbrev Turns : ℕ → Turn KeptEvent → KeptData EntityData F → Report KeptOutcome → KeptData EntityData F → Type 0
  Turns = KeptStep KeptEntityStep KeepsEntity tells seen may_leave moment left_since

  abbrev Does : ℕ → Turn KeptEvent → KeptData EntityData F → Report KeptOutcome → KeptData EntityData F → Type 0
  Does = OnTurn KeptEntityStep KeepsEntity tells seen may_leave moment left_since

  -- a journal that works had worked before
  worked : (reading : ℕ) (turn : Turn KeptEvent) (report : Report KeptOutcome) (s t : KeptData EntityData F) → Turns reading turn s report t
      → t.journal.is_failed ≡ false → s.journal.is_failed ≡ false
  worked reading turn report s t turned works = elim (cases_Bool s.journal.is_failed) [
    | inl failed ↦
        let same = (turned.stuck failed).1 in
        absurd (true≢false (sym failed ∙ sym (ap (λ (x : KeptData EntityData F). x.journal.is_failed) same) ∙ works))
    | inr right ↦ right
  ]

  -- the moment doesn't fall
  does_later : (reading : ℕ) (turn : Turn KeptEvent) (report : Report KeptOutcome) (s t : KeptData EntityData F) → Does reading turn s report t
      → t.journal.is_failed ≡ false → s.object.last ≤ t.object.last
  does_later reading (Do event) (Done came settled) s t does works = later_kept reading s.object t.object (same_kept reading event came s.object t.object does.steps)
  does_later reading (Do event) Settled s t does works = absurd does
  does_later reading (Do event) Failed s t does works = absurd (true≢false (sym does.failed ∙ works))
  does_later reading Settle report s t (inl nothing) works = omega (arith, ap (λ (x : KeptData EntityData F). x.object.last) nothing.same)
  does_later reading Settle (Done came settled) s t (inr puts) works = absurd puts.came
  does_later reading Settle Settled s t (inr puts) works = omega (arith, ap (λ (e : EntityData). e.last) puts.came.object)
  does_later reading Settle Failed s t (inr puts) works = absurd (true≢false (sym puts.came ∙ works))

  -- and no item is lost
  module _ (item : Item) where
    does_fares : (reading : ℕ) (turn : Turn KeptEvent) (report : Report KeptOutcome) (s t : KeptData EntityData F) → Does reading turn s report t
        → t.journal.is_failed ≡ false → Contains s.object.items item → IsTrue (still_waits t.object.last item)
        → Contains t.object.items item ⊎ LeavesAt item turn report
    does_fares reading (Do event) (Done came settled) s t does works has waits = event_fares reading event came s.object t.object does.steps item has waits
    does_fares reading (Do event) Settled s t does works has waits = absurd does
    does_fares reading (Do event) Failed s t does works has waits = absurd (true≢false (sym does.failed ∙ works))
    does_fares reading Settle report s t (inl nothing) works has waits =
        inl (subst (λ (x : KeptData EntityData F). Contains x.object.items item) (sym nothing.same) has)
    does_fares reading Settle (Done came settled) s t (inr puts) works has waits = absurd puts.came
    does_fares reading Settle Settled s t (inr puts) works has waits = inl (subst (λ (e : EntityData). Contains e.items item) (sym puts.came.object) has)
    does_fares reading Settle Failed s t (inr puts) works has waits = absurd (true≢false (sym puts.came ∙ works))

  -- ---- a run

  run_worked : (turns : List Turned) (s t : KeptData EntityData F) → Runs Turns s turns t → t.journal.is_failed ≡ false → s.journal.is_failed ≡ false
  run_worked [] s t run works = sym (ap (λ (x : KeptData EntityData F). x.journal.is_failed) run) ∙ works
  run_worked (turn ∷ turns) s t (between, turned, run) works =
      worked turn.reading turn.event turn.outcome s between turned (run_worked turns between t run works)

  run_later : (turns : List Turned) (s t : KeptData EntityData F) → Runs Turns s turns t → t.journal.is_failed ≡ false → s.object.last ≤ t.object.last
  run_later [] s t run works = omega (arith, ap (λ (x : KeptData EntityData F). x.object.last) run)
  run_later (turn ∷ turns) s t (between, turned, run) works =
      let right = run_worked turns between t run works in
      let right_before = worked turn.reading turn.event turn.outcome s between turned right in
      omega (arith, does_later turn.reading turn.event turn.outcome s between (turned.works right_before) right, run_later turns between t run works)

  pub run_fares : (item : Item) (turns : List Turned) (s t : KeptData EntityData F) → Runs Turns s turns t → t.journal.is_failed ≡ false
      → Contains s.object.items item → IsTrue (still_waits t.object.last item) → Contains t.object.items item ⊎ LeavesAtOne item turns
  run_fares item [] s t run works has waits = inl (subst (λ (x : KeptData EntityData F). Contains x.object.items item) (sym run) has)
  run_fares item (turn ∷ turns) s t (between, turned, run) works has waits =
      let right = run_worked turns between t run works in
      let right_before = worked turn.reading turn.event turn.outcome s between turned right in
      let waiting = waited between.object.last t.object.last item (run_later turns between t run works) waits in
      ⊎_elim (λ there. ⊎_elim (λ still. inl still) (λ later. inr (inr later)) (run_fares item turns between t run works there waits))
      (λ leaves. inr (inl leaves))
      (does_fares item turn.reading turn.event turn.outcome s between (turned.works right_before) right has waiting)

  pub no_item_lost : NoItemIsLost tells seen may_leave moment left_since
  no_item_lost = λ before after turns item run works has waits. run_fares item turns before after run works has waits
