-- A snapshot makes the CSE that it is of.
use Rattle.std.proofs.Common.{◌≡◌, ◌≢◌, ◌⊎◌, inl, inr, ⊎_elim, ℕ, List, [], ◌∷◌, ◌++◌, take, Ok, Err, IfErr, IfOk, OnOk, refl, sym, ap, ◌∙◌, subst}
use Rattle.std.proofs.lemmas.List.{append-nil}
use Rattle.std.specs.declared.result.Result.{Result}
use Rattle.resource_model.specs.Home.{HomeData}
use Rattle.entity_model.specs.Entity.{EntityData}
use Rattle.later_replies.specs.Entries.{LaterData, opened}
use Rattle.kept_file.specs.Crashes.{LeavesOnly, LeavesThis, Replaces}
use Rattle.kept_file.proofs.MomentLemmas.{leaves_wider, starts}
use Rattle.journal_file.specs.Gates.{KeepsText, at_rest}
use Rattle.journal_lines.specs.declared.deed.Dated.{Dated}
use Rattle.journal_opening.specs.Journals.{IsJournalOf, made_of}
use Rattle.journal_opening.specs.declared.fault.OpeningFault.{OpeningFault}
use Rattle.journal_opening.specs.declared.fault.OpeningFault.TheVariants.{Failed as unread}
use Rattle.m2m_io.specs.Counts.{CountsFault}
use Rattle.journal_opening.proofs.CountLemmas.{err_same, ok_no_err}
use Rattle.journal_opening.proofs.JournalLemmas.{snapshot_makes}
use Rattle.journal_opening.specs.Snapshots.{IsSnapshot, KeepsMaking}
use Rattle.later_opening.proofs.JournalLemmas.{later_at_home, later_snapshot_makes, plain_journal}
use Rattle.later_opening.proofs.ReadingLemmas.{later_journal_opens}
use Rattle.later_opening.specs.Journals.{IsLaterJournalOf}
use Rattle.later_opening.specs.Laws.{as_acts}
use Rattle.later_opening.specs.Making.{made_of_acts}
use Rattle.later_opening.specs.Opening.{OpensLaterAs}
use Rattle.later_opening.specs.Snapshots.{IsLaterSnapshot, KeepsMakingLater}
use Rattle.later_opening.specs.declared.act.Act.{Act}
use Rattle.journal_snapshot.specs.Shortening.{IsRefusedFor, IsUnput, LeavesLaterSnapshot, LeavesSnapshot, SnapshotOr}
use Rattle.journal_snapshot.specs.declared.fault.ShorteningFault.{ShorteningFault}
use Rattle.journal_snapshot.specs.declared.fault.ShorteningFault.TheVariants.{Refused, Unkept, Failed, OutOfMemory}

-- what is opened at a file is what its journal makes, and stays at its home
pub opened_makes : (home : HomeData) (base : EntityData) (acts : List Act) (text bytes : List ℕ) (len : ℕ) (d : LaterData)
    → IsLaterJournalOf home base acts text → KeepsText text bytes → OpensLaterAs home bytes len d → (d ≡ made_of_acts acts base) × (d.inner.home ≡ home)
opened_makes home base acts text bytes len d journal keeps opens =
    (((later_journal_opens home base acts text bytes journal keeps).opens len d opens).1, later_at_home home (take len bytes) d opens.makes)

-- what is opened at a journal of deeds alone is the entity that they make, by which no request was accepted
pub opened_plain : (home : HomeData) (base : EntityData) (deeds : List Dated) (text bytes : List ℕ) (len : ℕ) (d : LaterData)
    → IsJournalOf home base deeds text → KeepsText text bytes → OpensLaterAs home bytes len d → (d ≡ opened (made_of deeds base)) × (d.inner.home ≡ home)
opened_plain home base deeds text bytes len d journal keeps opens =
    let plain = plain_journal home base deeds text journal in
    let is = opened_makes home base (as_acts deeds) text bytes len d plain.0 keeps opens in
    (is.0 ∙ plain.1, is.1)

-- the snapshot of such a CSE is that of its entity
snapshot_plain : (e : EntityData) (bytes : List ℕ) → IsLaterSnapshot (opened e) bytes → IsSnapshot e bytes
snapshot_plain e bytes is = record { text = is.front; spells = is.spells; rest = is.rest ∙ ap at_rest (is.lines ∙ append-nil is.front) }

-- ---- the name

module _ {N : Type 0} (seen : N → List ℕ) (may_leave : N → List ℕ → Type 0) (moment : N → ℕ) (left_since : N → ℕ → List ℕ → Type 0) (old new : N) where
  -- a file with these bytes was put there
  pub put_leaves : (d : LaterData) (bytes : List ℕ) → IsLaterSnapshot d bytes → LeavesOnly moment left_since old new (Replaces bytes (seen old))
      → LeavesOnly moment left_since old new (SnapshotOr (seen old) d)
  put_leaves d bytes is run =
      leaves_wider moment left_since old new (Replaces bytes (seen old)) (SnapshotOr (seen old) d)
      (λ c. ⊎_elim (λ same. inl same) (λ put. inr (subst (IsLaterSnapshot d) (sym put) is))) run

  -- each of them makes an equal CSE
  pub leaves_making : (home : HomeData) (base : EntityData) (acts : List Act) (text : List ℕ) (d : LaterData) → IsLaterJournalOf home base acts text → KeepsText text (seen old)
      → d ≡ made_of_acts acts base → d.inner.home ≡ home → LeavesOnly moment left_since old new (SnapshotOr (seen old) d)
      → LeavesOnly moment left_since old new (KeepsMakingLater home (made_of_acts acts base))
  leaves_making home base acts text d journal keeps is own run =
      let made = made_of_acts acts base in
      let here : KeepsMakingLater home made (seen old) = record {
        text = text;
        makes = record { base = base; acts = acts; journal = journal; made = refl };
        keeps = keeps;
      } in
      leaves_wider moment left_since old new (SnapshotOr (seen old) d) (KeepsMakingLater home made)
      (λ c. ⊎_elim (λ same. subst (KeepsMakingLater home made) (sym same) here)
      (λ snapshot. subst (λ (h : HomeData). KeepsMakingLater h made c) own
      (subst (λ (x : LaterData). KeepsMakingLater d.inner.home x c) is (later_snapshot_makes d c snapshot)))) run

  -- where the journal was one of deeds alone, each of them is one of deeds alone
  pub leaves_making_plain : (home : HomeData) (base : EntityData) (deeds : List Dated) (text : List ℕ) (d : LaterData) → IsJournalOf home base deeds text → KeepsText text (seen old)
      → d ≡ opened (made_of deeds base) → d.inner.home ≡ home → LeavesOnly moment left_since old new (SnapshotOr (seen old) d)
      → LeavesOnly moment left_since old new (KeepsMaking home (made_of deeds base))
  leaves_making_plain home base deeds text d journal keeps is own run =
      let made = made_of deeds base in
      let at : made.home ≡ home = sym (ap (λ (x : LaterData). x.inner.home) is) ∙ own in
      let here : KeepsMaking home made (seen old) = record {
        text = text;
        makes = record { base = base; deeds = deeds; journal = journal; made = refl };
        keeps = keeps;
      } in
      leaves_wider moment left_since old new (SnapshotOr (seen old) d) (KeepsMaking home made)
      (λ c. ⊎_elim (λ same. subst (KeepsMaking home made) (sym same) here)
      (λ snapshot. subst (λ (h : HomeData). KeepsMaking h made c) at
      (snapshot_makes made c (snapshot_plain made c (subst (λ (x : LaterData). IsLaterSnapshot x c) is snapshot))))) run

-- nothing was done
pub stays_making : {N : Type 0} (seen : N → List ℕ) (may_leave : N → List ℕ → Type 0) (moment : N → ℕ) (left_since : N → ℕ → List ℕ → Type 0) (name : N)
    → ((x : N) (c : List ℕ) → left_since x (moment x) c → may_leave x c) → LeavesThis (seen name) (may_leave name) → (P : List ℕ → Type 0) → P (seen name)
    → LeavesOnly moment left_since name name P
stays_making seen may_leave moment left_since name only_now kept P here =
    starts moment left_since name P (λ c left. subst P (sym (kept c (only_now name c left))) here)

-- ---- faults

pub refused_for : {A : Type 0} (home : HomeData) (bytes : List ℕ) (len : ℕ) (d : LaterData) (r : Result A ShorteningFault) → OpensLaterAs home bytes len d → IfErr r (IsUnput d)
    → IfErr r (IsRefusedFor home bytes)
refused_for home bytes len d (Ok a) opens said = tt
refused_for home bytes len d (Err (Refused fault)) opens said = absurd said
refused_for home bytes len d (Err Unkept) opens said = (len, d, opens, said)
refused_for home bytes len d (Err Failed) opens said = tt
refused_for home bytes len d (Err OutOfMemory) opens said = tt

pub put_refused : {A B : Type 0} (d : LaterData) (r : Result A ShorteningFault) (fault : OpeningFault) → IfErr r (IsUnput d) → r ≡ Err (Refused fault) → B
put_refused d r fault said is = absurd (subst (λ x. IfErr x (IsUnput d)) is said)

pub failed_unput : {A : Type 0} (d : LaterData) (r : Result A ShorteningFault) → IfErr r (λ fault. fault ≡ Failed) → IfErr r (IsUnput d)
failed_unput d (Ok a) said = tt
failed_unput d (Err fault) said = subst (IsUnput d) (sym said) tt

-- where nothing else is told, only this fault may have put a file there
pub only_failed : {A : Type 0} (P : Type 0) (r : Result A ShorteningFault) → IfErr r (λ fault. fault ≡ Failed) → IfErr r (λ fault. fault ≢ Failed → P)
only_failed P (Ok a) said = tt
only_failed P (Err fault) said = λ other. absurd (other said)

pub on_put : {A : Type 0} (may_leave : List ℕ → Type 0) (d : LaterData) (bytes : List ℕ) (r : Result A ShorteningFault) → IsLaterSnapshot d bytes → OnOk r (LeavesThis bytes may_leave)
    → OnOk r (LeavesLaterSnapshot d may_leave)
on_put may_leave d bytes (Ok a) is only = record { bytes = bytes; snapshot = is; only = only }
on_put may_leave d bytes (Err fault) is only = tt

pub on_snapshot : {A : Type 0} (may_leave : List ℕ → Type 0) (d f : LaterData) (r : Result A ShorteningFault) → d ≡ f → OnOk r (LeavesLaterSnapshot d may_leave)
    → OnOk r (LeavesLaterSnapshot f may_leave)
on_snapshot may_leave d f (Ok a) same leaves = subst (λ (x : LaterData). LeavesLaterSnapshot x may_leave) same leaves
on_snapshot may_leave d f (Err fault) same leaves = tt

pub on_snapshot_plain : {A : Type 0} (may_leave : List ℕ → Type 0) (d : LaterData) (e : EntityData) (r : Result A ShorteningFault) → d ≡ opened e → OnOk r (LeavesLaterSnapshot d may_leave)
    → OnOk r (LeavesSnapshot e may_leave)
on_snapshot_plain may_leave d e (Ok a) same leaves = record {
  bytes = leaves.bytes;
  snapshot = snapshot_plain e leaves.bytes (subst (λ (x : LaterData). IsLaterSnapshot x leaves.bytes) same leaves.snapshot);
  only = leaves.only;
}
on_snapshot_plain may_leave d e (Err fault) same leaves = tt

-- ---- the count of the file's faults

refused_same : (fault other : OpeningFault) → Refused fault ≡ Refused other → fault ≡ other
refused_same fault other is = cc

-- it was read
pub counts_played : {A B : Type 0} (played : Result A OpeningFault) (put : Result B ShorteningFault) (a : A) (d : LaterData) (before now : ℕ) → played ≡ Ok a → IfErr put (IsUnput d)
    → CountsFault unread played before now → CountsFault (Refused unread) put before now
counts_played played put a d before now ok said counts = record {
  count = counts.count;
  cause = λ is. put_refused d put unread said is;
  steady = λ no. counts.steady (ok_no_err played a unread ok);
}

-- its fault is handed on
pub counts_refused : {A B : Type 0} (played : Result A OpeningFault) (put : Result B ShorteningFault) (fault : OpeningFault) (before now : ℕ) → played ≡ Err fault → put ≡ Err (Refused fault)
    → CountsFault unread played before now → CountsFault (Refused unread) put before now
counts_refused played put fault before now one two counts = record {
  count = counts.count;
  cause = λ is. counts.cause (one ∙ ap Err (refused_same fault unread (err_same put (Refused fault) (Refused unread) two is)));
  steady = λ no. counts.steady (λ is. no (two ∙ ap (λ f. Err (Refused f)) (err_same played fault unread one is)));
}
