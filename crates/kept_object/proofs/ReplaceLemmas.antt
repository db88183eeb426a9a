-- A turn to settle in which the text of the journal may be replaced by another one that keeps the object.
use Rattle.std.proofs.Common.{◌≡◌, ◌⊎◌, inl, inr, ⊎_elim, ℕ, false, List, [], ◌++◌, ◌∙◌, ap, subst}
use Rattle.std.proofs.lemmas.List.{append-nil}
use Rattle.kept_file.specs.Crashes.{LeavesOnly}
use Rattle.kept_file.proofs.MomentLemmas.{leaves_wider, runs_on}
use Rattle.journal_file.specs.Gates.{KeepsBeforeOrAfter, KeepsText, text_of}
use Rattle.kept_desk.specs.declared.turn.Report.{Report}
use Rattle.kept_desk.specs.declared.turn.Report.TheVariants.{Done, Settled, Failed}
use Rattle.kept_object.specs.Records.{FileKeeps}
use Rattle.kept_object.specs.State.{KeptData}
use Rattle.kept_object.specs.Steps.{CameOfPutting, KeepsOrReplaced, KeepsPutOrReplaced, MayReplace, Puts}

module _ {X F : Type 0} (keeps : X → List ℕ → Type 0) (tells : Type 0) (seen : F → List ℕ) (may_leave : F → List ℕ → Type 0) (moment : F → ℕ)
    (left_since : F → ℕ → List ℕ → Type 0) where
  abbrev Leaves : KeptData X F → KeptData X F → (List ℕ → Type 0) → Type 0
  Leaves before after P = LeavesOnly moment left_since before.journal.file after.journal.file P

  -- what waited was put behind the text
  pub put_alone : (before mid : KeptData X F) → (tells → Leaves before mid (KeepsBeforeOrAfter (text_of seen before.journal) before.pending))
      → tells → Leaves before mid (KeepsPutOrReplaced keeps before.object (text_of seen before.journal) before.pending)
  put_alone before mid run told =
      leaves_wider moment left_since before.journal.file mid.journal.file (KeepsBeforeOrAfter (text_of seen before.journal) before.pending)
      (KeepsPutOrReplaced keeps before.object (text_of seen before.journal) before.pending) (λ c put. inl put) (run told)

  put_then : (before mid after : KeptData X F) → mid.object ≡ before.object → (tells → text_of seen mid.journal ≡ text_of seen before.journal ++ before.pending)
      → (tells → Leaves before mid (KeepsBeforeOrAfter (text_of seen before.journal) before.pending))
      → (tells → Leaves mid after (KeepsOrReplaced keeps mid.object (text_of seen mid.journal)))
      → tells → Leaves before after (KeepsPutOrReplaced keeps before.object (text_of seen before.journal) before.pending)
  put_then before mid after object text put run told =
      let P : List ℕ → Type 0 = KeepsPutOrReplaced keeps before.object (text_of seen before.journal) before.pending in
      runs_on moment left_since before.journal.file mid.journal.file after.journal.file P (put_alone before mid put told)
      (leaves_wider moment left_since mid.journal.file after.journal.file (KeepsOrReplaced keeps mid.object (text_of seen mid.journal)) P
      (λ c. ⊎_elim (λ old. inl (inr (subst (λ t. KeepsText t c) (text told) old)))
      (λ it. inr (subst (λ x. FileKeeps keeps x c) object it))) (run told))

module _ {X O F : Type 0} (keeps : X → List ℕ → Type 0) (tells : Type 0) (seen : F → List ℕ) (may_leave : F → List ℕ → Type 0) (moment : F → ℕ)
    (left_since : F → ℕ → List ℕ → Type 0) where
  came_then : (before mid after : KeptData X F) (report : Report O) → mid.object ≡ before.object → mid.pending ≡ []
      → (tells → text_of seen mid.journal ≡ text_of seen before.journal ++ before.pending)
      → CameOfPutting keeps tells seen may_leave mid report after → CameOfPutting keeps tells seen may_leave before report after
  came_then before mid after (Done outcome settled) object none text came = came
  came_then before mid after Settled object none text came = record {
    object = came.object ∙ object;
    pending = came.pending;
    works = came.works;
    text = λ told. ⊎_elim
        (λ is. inl (is ∙ ap (λ (l : List ℕ). text_of seen mid.journal ++ l) none ∙ append-nil (text_of seen mid.journal) ∙ text told))
        (λ it. inr it) (came.text told);
    settled = came.settled;
  }
  came_then before mid after Failed object none text came = came

  -- and then it may have been replaced
  pub settles_then : (before mid after : KeptData X F) (report : Report O) → mid.object ≡ before.object → mid.pending ≡ []
      → (tells → text_of seen mid.journal ≡ text_of seen before.journal ++ before.pending)
      → (tells → LeavesOnly moment left_since before.journal.file mid.journal.file (KeepsBeforeOrAfter (text_of seen before.journal) before.pending))
      → MayReplace keeps tells seen may_leave moment left_since mid report after → Puts keeps tells seen may_leave moment left_since before report after
  settles_then before mid after report object none text put replaces = record {
    came = came_then before mid after report object none text replaces.came;
    any_moment = put_then keeps tells seen may_leave moment left_since before mid after object text put replaces.any_moment;
  }
