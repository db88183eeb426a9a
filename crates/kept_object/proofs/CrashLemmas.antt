-- What a crash leaves of turns, one after another.
use Rattle.std.proofs.Common.{◌≡◌, ◌⊎◌, inl, inr, ⊎_elim, ℕ, zero, suc, ◌≤◌, Bool, true, false, List, [], ◌∷◌, ◌++◌, length, take, drop, refl, sym, ◌∙◌, ap, subst, arith, append_assoc}
use Rattle.std.proofs.lemmas.Bool.{cases_Bool, true≢false}
use Rattle.std.proofs.lemmas.List.{append-nil, drop_all}
use Rattle.turn_desk.specs.Entries.{Runs, entry_of}
use Rattle.turn_desk.specs.Joins.{Runs-append}
use Rattle.kept_file.specs.Crashes.{LeavesOnly, LeavesThis}
use Rattle.kept_file.proofs.MomentLemmas.{leaves_wider, runs_on, starts}
use Rattle.journal_file.specs.declared.journal.Journal.{Journal}
use Rattle.journal_file.specs.Gates.{IsSettled, KeepsBeforeOrAfter, KeepsText, at_rest, text_of}
use Rattle.kept_desk.specs.Kept.{HasSettled, Reported, SaysSettled}
use Rattle.kept_desk.specs.declared.turn.Turn.{Turn}
use Rattle.kept_desk.specs.declared.turn.Turn.TheVariants.{Do, Settle}
use Rattle.kept_desk.specs.declared.turn.Report.{Report}
use Rattle.kept_desk.specs.declared.turn.Report.TheVariants.{Done, Settled, Failed}
use Rattle.kept_object.specs.State.{KeptData}
use Rattle.kept_object.specs.Records.{FileKeeps}
use Rattle.kept_object.specs.Steps.{DoesEvent, GivesUp, IsPut, IsPutOrReplaced, KeepsPutOrReplaced, KeptStep, NothingWaits, OnTurn, Puts}
use Rattle.kept_object.specs.Crashing.{FileKeepsAFront, IsOpened, KeepsAFront, LosesNoAnswer}

-- ---- reports behind a front

abbrev no_reports : (E O : Type 0) → List (Reported E O)
no_reports E O = []

none_dropped : (E O : Type 0) (n : ℕ) → HasSettled (drop n (no_reports E O)) → ⊥
none_dropped E O zero none = none
none_dropped E O (suc n) none = none

module _ {E O : Type 0} where
  settled_parts : (es fs : List (Reported E O)) → HasSettled (es ++ fs) → HasSettled es ⊎ HasSettled fs
  settled_parts [] fs some = inr some
  settled_parts (e ∷ es) fs (inl here) = inl (inl here)
  settled_parts (e ∷ es) fs (inr later) = ⊎_elim (λ there. inl (inr there)) (λ there. inr there) (settled_parts es fs later)

  settled_on : (es fs : List (Reported E O)) → HasSettled es → HasSettled (es ++ fs)
  settled_on [] fs none = absurd none
  settled_on (e ∷ es) fs (inl here) = inl here
  settled_on (e ∷ es) fs (inr later) = inr (settled_on es fs later)

  -- what says nothing of the disk adds none
  unsettled : (n : ℕ) (es : List (Reported E O)) (e : Reported E O) → (SaysSettled e.outcome → ⊥)
      → HasSettled (drop n (es ++ e ∷ [])) → HasSettled (drop n es)
  unsettled zero es e silent some = ⊎_elim (λ there. there) (λ last. absurd (⊎_elim silent (λ none. none) last)) (settled_parts es (e ∷ []) some)
  unsettled (suc n) [] e silent some = absurd (none_dropped E O n some)
  unsettled (suc n) (x ∷ es) e silent some = unsettled n es e silent some

  settled_longer : (n : ℕ) (es fs : List (Reported E O)) → HasSettled (drop n es) → HasSettled (drop n (es ++ fs))
  settled_longer zero es fs some = settled_on es fs some
  settled_longer (suc n) [] fs none = absurd none
  settled_longer (suc n) (x ∷ es) fs some = settled_longer n es fs some

  -- none stands behind all
  pub none_behind : (es : List (Reported E O)) → HasSettled (drop (length es) es) → ⊥
  none_behind es some = subst HasSettled (drop_all (length es) es (omega arith)) some

-- ---- one turn

module _ {X E O F : Type 0} (step : ℕ → E → X → O → X → Type 0) (keeps : X → List ℕ → Type 0) (tells : Type 0)
    (seen : F → List ℕ) (may_leave : F → List ℕ → Type 0) (moment : F → ℕ) (left_since : F → ℕ → List ℕ → Type 0) where
  abbrev Turns : ℕ → Turn E → KeptData X F → Report O → KeptData X F → Type 0
  Turns = KeptStep step keeps tells seen may_leave moment left_since

  module _ (told : tells) (only_now : (file : F) (c : List ℕ) → left_since file (moment file) c → may_leave file c)
      (counts_now : (file : F) (t : ℕ) (c : List ℕ) → t ≤ moment file → may_leave file c → left_since file t c) (opened : KeptData X F) where
    abbrev Fronts : List (Reported E O) → List (Reported E O) → List ℕ → Type 0
    Fronts all done c = FileKeepsAFront Turns keeps opened all done c

    -- the same front of more turns
    front_on : (all more done others : List (Reported E O)) (c : List ℕ) → ((n : ℕ) → HasSettled (drop n others) → HasSettled (drop n done))
        → Fronts all done c → Fronts (all ++ more) others c
    front_on all more done others c fewer (text, front, kept) = (
      text,
      record {
        front = front.front;
        back = front.back ++ more;
        split = ap (λ es. es ++ more) front.split ∙ append_assoc front.front front.back more;
        made = front.made;
        run = front.run;
        works = front.works;
        keeps_it = front.keeps_it;
        holds = λ some. front.holds (fewer (length front.front) some);
      },
      kept,
    )

    -- all of the turns
    front_whole : (all more done : List (Reported E O)) (s : KeptData X F) (text c : List ℕ) → Runs Turns opened all s → s.journal.is_failed ≡ false
        → keeps s.object text → (HasSettled (drop (length all) done) → ⊥) → KeepsText text c → Fronts (all ++ more) done c
    front_whole all more done s text c run works it none kept = (
      text,
      record { front = all; back = more; split = refl; made = s; run = run; works = works; keeps_it = it; holds = none },
      kept,
    )

    -- how it stands behind some turns
    record Stands (done : List (Reported E O)) (s : KeptData X F) : Type 0 where
      pub run : Runs Turns opened done s
      -- what a crash leaves now
      pub now : (c : List ℕ) → may_leave s.journal.file c → Fronts done done c
      -- what is so unless the journal has failed
      pub settled : s.journal.is_failed ≡ false → IsSettled seen may_leave s.journal
      pub whole : s.journal.is_failed ≡ false → keeps s.object (text_of seen s.journal ++ s.pending)
      pub text : s.journal.is_failed ≡ false → (c : List ℕ) → KeepsText (text_of seen s.journal) c → Fronts done done c

    -- what a turn does
    record GoesOn (done : List (Reported E O)) (e : Reported E O) (s t : KeptData X F) : Type 0 where
      pub stands : Stands (done ++ e ∷ []) t
      pub leaves : LeavesOnly moment left_since s.journal.file t.journal.file (Fronts (done ++ e ∷ []) done)

    module _ (done : List (Reported E O)) (e : Reported E O) (s t : KeptData X F) (stands : Stands done s)
        (turned : Turns e.reading e.event s e.outcome t) where
      abbrev longer : List (Reported E O)
      longer = done ++ e ∷ []

      run_on : Runs Turns opened longer t
      run_on = Runs-append Turns done (e ∷ []) opened s t stands.run (t, turned, refl)

      front_kept : (c : List ℕ) → Fronts done done c → Fronts longer done c
      front_kept c front = front_on done (e ∷ []) done done c (λ n some. some) front

      front_quiet : (SaysSettled e.outcome → ⊥) → (c : List ℕ) → Fronts done done c → Fronts longer longer c
      front_quiet silent c front = front_on done (e ∷ []) done longer c (λ n some. unsettled n done e silent some) front

      front_all : t.journal.is_failed ≡ false → (text c : List ℕ) → keeps t.object text → KeepsText text c → Fronts longer longer c
      front_all works text c it kept =
          subst (λ es. Fronts es longer c) (append-nil longer) (front_whole longer [] longer t text c run_on works it (none_behind longer) kept)

      -- the file is as it was
      untouched : t.journal.file ≡ s.journal.file → LeavesOnly moment left_since s.journal.file t.journal.file (Fronts longer done)
      untouched same =
          subst (λ f. LeavesOnly moment left_since s.journal.file f (Fronts longer done)) (sym same)
          (starts moment left_since s.journal.file (Fronts longer done) (λ c left. front_kept c (stands.now c (only_now s.journal.file c left))))

      left_on : t.journal.file ≡ s.journal.file → (c : List ℕ) → may_leave t.journal.file c → Fronts done done c
      left_on same c left = stands.now c (subst (λ f. may_leave f c) same left)

      -- a journal that has failed, with no word of the disk
      failed_on : t.journal.is_failed ≡ true → (SaysSettled e.outcome → ⊥) → t.journal.file ≡ s.journal.file → GoesOn done e s t
      failed_on failed silent same = record {
        stands = record {
          run = run_on;
          now = λ c left. front_quiet silent c (left_on same c left);
          settled = λ works. absurd (true≢false (sym failed ∙ works));
          whole = λ works. absurd (true≢false (sym failed ∙ works));
          text = λ works. absurd (true≢false (sym failed ∙ works));
        };
        leaves = untouched same;
      }

      -- what is at rest is what a crash leaves
      at_rest_keeps : (text : List ℕ) → IsSettled seen may_leave t.journal → text_of seen t.journal ≡ text → (c : List ℕ) → may_leave t.journal.file c → KeepsText text c
      at_rest_keeps text settled is c left = record {
        behind = 10 ∷ [];
        split = settled.kept c left ∙ settled.rest ∙ ap at_rest is;
        shut = refl;
      }

      -- all is on the disk
      all_on : (text : List ℕ) → t.journal.is_failed ≡ false → t.pending ≡ [] → keeps t.object text → IsSettled seen may_leave t.journal → text_of seen t.journal ≡ text
          → Stands longer t
      all_on text works none it settled is = record {
        run = run_on;
        now = λ c left. front_all works text c it (at_rest_keeps text settled is c left);
        settled = λ _. settled;
        whole = λ _. subst (keeps t.object) (sym (ap (λ l. text_of seen t.journal ++ l) none ∙ append-nil (text_of seen t.journal) ∙ is)) it;
        text = λ _ c kept. front_all works text c it (subst (λ l. KeepsText l c) is kept);
      }

      nothing_waits : s.journal.is_failed ≡ false → NothingWaits s e.outcome t → GoesOn done e s t
      nothing_waits works nothing =
          let same = ap (λ (x : KeptData X F). x.journal) nothing.same in
          let file = ap (λ (x : KeptData X F). x.journal.file) nothing.same in
          let none : t.pending ≡ [] = ap (λ (x : KeptData X F). x.pending) nothing.same ∙ nothing.nothing in
          let text = text_of seen s.journal in
          let is : text_of seen t.journal ≡ text = ap (text_of seen) same in
          let whole : text ++ s.pending ≡ text = ap (λ l. text ++ l) nothing.nothing ∙ append-nil text in
          let it : keeps t.object text = subst (λ (x : KeptData X F). keeps x.object text) (sym nothing.same) (subst (keeps s.object) whole (stands.whole works)) in
          record {
            stands = all_on text (ap (λ (j : Journal F). j.is_failed) same ∙ works) none it (subst (IsSettled seen may_leave) (sym same) (stands.settled works)) is;
            leaves = untouched file;
          }

      -- all of the turns before
      front_here : s.journal.is_failed ≡ false → (text c : List ℕ) → keeps s.object text → KeepsText text c → Fronts done done c
      front_here works text c it kept = subst (λ es. Fronts es done c) (append-nil done) (front_whole done [] done s text c stands.run works it (none_behind done) kept)

      -- what a crash leaves while what waits is put behind the text, and the text is replaced
      putting : s.journal.is_failed ≡ false → Puts keeps tells seen may_leave moment left_since s e.outcome t
          → LeavesOnly moment left_since s.journal.file t.journal.file (Fronts done done)
      putting works puts =
          let before : (c : List ℕ) → KeepsBeforeOrAfter (text_of seen s.journal) s.pending c → Fronts done done c =
          λ c. ⊎_elim (stands.text works c) (λ kept. front_here works (text_of seen s.journal ++ s.pending) c (stands.whole works) kept) in
          leaves_wider moment left_since s.journal.file t.journal.file (KeepsPutOrReplaced keeps s.object (text_of seen s.journal) s.pending) (Fronts done done)
          (λ c. ⊎_elim (before c) (λ it. front_here works it.text c it.keeps_it it.keeps_text)) (puts.any_moment told)

      put_leaves : s.journal.is_failed ≡ false → Puts keeps tells seen may_leave moment left_since s e.outcome t
          → LeavesOnly moment left_since s.journal.file t.journal.file (Fronts longer done)
      put_leaves works puts =
          leaves_wider moment left_since s.journal.file t.journal.file (Fronts done done) (Fronts longer done) front_kept (putting works puts)

      put_on : s.journal.is_failed ≡ false → Puts keeps tells seen may_leave moment left_since s e.outcome t → IsPut keeps tells seen may_leave s t → GoesOn done e s t
      put_on works puts put =
          let text = text_of seen s.journal ++ s.pending in
          let old : keeps t.object text = subst (λ x. keeps x text) (sym put.object) (stands.whole works) in
          let now : keeps t.object (text_of seen t.journal) = ⊎_elim (λ is. subst (keeps t.object) (sym is) old) (λ it. it) (put.text told) in
          record { stands = all_on (text_of seen t.journal) put.works put.pending now (put.settled told) refl; leaves = put_leaves works puts }

      put_failed : s.journal.is_failed ≡ false → Puts keeps tells seen may_leave moment left_since s e.outcome t → (SaysSettled e.outcome → ⊥)
          → t.journal.is_failed ≡ true → GoesOn done e s t
      put_failed works puts silent failed =
          let leaves = putting works puts in
          record {
            stands = record {
              run = run_on;
              now = λ c left. front_quiet silent c (leaves.each c (counts_now t.journal.file (moment s.journal.file) c leaves.later left));
              settled = λ works. absurd (true≢false (sym failed ∙ works));
              whole = λ works. absurd (true≢false (sym failed ∙ works));
              text = λ works. absurd (true≢false (sym failed ∙ works));
            };
            leaves = put_leaves works puts;
          }

      -- an event was done
      does_on : (event : E) (outcome : O) (settled : Bool) → s.journal.is_failed ≡ false → (SaysSettled e.outcome → settled ≡ true)
          → DoesEvent step keeps e.reading event s outcome settled t → GoesOn done e s t
      does_on event outcome settled works says does =
          let file = ap (λ (j : Journal F). j.file) does.journal in
          let ready = subst (IsSettled seen may_leave) (sym does.journal) (stands.settled works) in
          let text = text_of seen s.journal in
          let is : text_of seen t.journal ≡ text = ap (text_of seen) does.journal in
          let more = does.records.more in
          let it : keeps t.object (text ++ t.pending) =
          subst (keeps t.object) (append_assoc text s.pending more ∙ ap (λ l. text ++ l) (sym does.records.appended)) (does.records.played (text ++ s.pending) (stands.whole works)) in
          let right = ap (λ (j : Journal F). j.is_failed) does.journal ∙ works in
          elim (cases_Bool settled) [
            | inl all ↦
                let none = does.settled_only all in
                record {
                  stands = all_on text right none (subst (keeps t.object) (ap (λ l. text ++ l) none ∙ append-nil text) it) ready is;
                  leaves = untouched file;
                }
            | inr not_all ↦
                let silent : SaysSettled e.outcome → ⊥ = λ said. true≢false (sym (says said) ∙ not_all) in
                record {
                  stands = record {
                    run = run_on;
                    now = λ c left. front_quiet silent c (left_on file c left);
                    settled = λ _. ready;
                    whole = λ _. subst (λ l. keeps t.object (l ++ t.pending)) (sym is) it;
                    text = λ _ c kept. front_quiet silent c (stands.text works c (subst (λ l. KeepsText l c) is kept));
                  };
                  leaves = untouched file;
                }
          ]

    -- by what was asked and reported
    turn_on : (done : List (Reported E O)) (reading : ℕ) (turn : Turn E) (report : Report O) (s t : KeptData X F) → Stands done s → s.journal.is_failed ≡ false
        → Turns reading turn s report t → OnTurn step keeps tells seen may_leave moment left_since reading turn s report t → GoesOn done (entry_of reading turn report) s t
    turn_on done reading (Do event) (Done outcome settled) s t stands works turned does =
        does_on done (entry_of reading (Do event) (Done outcome settled)) s t stands turned event outcome settled works (λ said. said) does
    turn_on done reading (Do event) Settled s t stands works turned none = absurd none
    turn_on done reading (Do event) Failed s t stands works turned gave =
        failed_on done (entry_of reading (Do event) Failed) s t stands turned gave.failed (λ said. said) gave.file
    turn_on done reading Settle report s t stands works turned (inl nothing) =
        nothing_waits done (entry_of reading Settle report) s t stands turned works nothing
    turn_on done reading Settle (Done outcome settled) s t stands works turned (inr puts) = absurd puts.came
    turn_on done reading Settle Settled s t stands works turned (inr puts) =
        put_on done (entry_of reading Settle Settled) s t stands turned works puts puts.came
    turn_on done reading Settle Failed s t stands works turned (inr puts) =
        put_failed done (entry_of reading Settle Failed) s t stands turned works puts (λ said. said) puts.came

    stuck_on : (done : List (Reported E O)) (reading : ℕ) (turn : Turn E) (report : Report O) (s t : KeptData X F) → Stands done s → s.journal.is_failed ≡ true
        → Turns reading turn s report t → (report ≡ Failed) × (t ≡ s) → GoesOn done (entry_of reading turn report) s t
    stuck_on done reading turn report s t stands failed turned (is, same) =
        failed_on done (entry_of reading turn report) s t stands turned (ap (λ (x : KeptData X F). x.journal.is_failed) same ∙ failed)
        (λ said. subst SaysSettled is said) (ap (λ (x : KeptData X F). x.journal.file) same)

    goes_on : (done : List (Reported E O)) (e : Reported E O) (s t : KeptData X F) → Stands done s → Turns e.reading e.event s e.outcome t → GoesOn done e s t
    goes_on done e s t stands turned = elim (cases_Bool s.journal.is_failed) [
      | inl failed ↦ stuck_on done e.reading e.event e.outcome s t stands failed turned (turned.stuck failed)
      | inr works ↦ turn_on done e.reading e.event e.outcome s t stands works turned (turned.works works)
    ]

    -- ---- a run

    opened_stands : IsOpened keeps seen may_leave opened → Stands [] opened
    opened_stands is =
        let text = text_of seen opened.journal in
        let front : (c : List ℕ) → KeepsText text c → Fronts [] [] c =
        λ c kept. front_whole [] [] [] opened text c refl is.works is.text (λ none. none) kept in
        record {
          run = refl;
          now = λ c left. front c (record { behind = 10 ∷ []; split = is.settled.kept c left ∙ is.settled.rest; shut = refl });
          settled = λ _. is.settled;
          whole = λ _. subst (keeps opened.object) (sym (ap (λ l. text ++ l) is.nothing ∙ append-nil text)) is.text;
          text = λ _ c kept. front c kept;
        }

    stands_behind : (es done : List (Reported E O)) (s t : KeptData X F) → Stands done s → Runs Turns s es t → Stands (done ++ es) t
    stands_behind [] done s t stands same = subst (λ ds. Stands ds t) (sym (append-nil done)) (subst (Stands done) (sym same) stands)
    stands_behind (e ∷ es) done s t stands (between, turned, run) =
        subst (λ ds. Stands ds t) (append_assoc done (e ∷ []) es) (stands_behind es (done ++ e ∷ []) between t (goes_on done e s between stands turned).stands run)

    -- what a crash leaves during some turns, of those before
    leaves_behind : (es done : List (Reported E O)) (s t : KeptData X F) → Stands done s → Runs Turns s es t
        → LeavesOnly moment left_since s.journal.file t.journal.file (Fronts (done ++ es) done)
    leaves_behind [] done s t stands same =
        subst (λ (x : KeptData X F). LeavesOnly moment left_since s.journal.file x.journal.file (Fronts (done ++ []) done)) (sym same)
        (starts moment left_since s.journal.file (Fronts (done ++ []) done)
        (λ c left. front_on done [] done done c (λ n some. some) (stands.now c (only_now s.journal.file c left))))
    leaves_behind (e ∷ es) done s t stands (between, turned, run) =
        let on = goes_on done e s between stands turned in
        let all : (done ++ e ∷ []) ++ es ≡ done ++ e ∷ es = append_assoc done (e ∷ []) es in
        let first = leaves_wider moment left_since s.journal.file between.journal.file (Fronts (done ++ e ∷ []) done) (Fronts (done ++ e ∷ es) done)
        (λ c front. subst (λ ds. Fronts ds done c) all (front_on (done ++ e ∷ []) es done done c (λ n some. some) front)) on.leaves in
        let rest = leaves_wider moment left_since between.journal.file t.journal.file (Fronts ((done ++ e ∷ []) ++ es) (done ++ e ∷ [])) (Fronts (done ++ e ∷ es) done)
        (λ c front. subst (λ ds. Fronts ds done c) (append-nil ((done ++ e ∷ []) ++ es) ∙ all)
        (front_on ((done ++ e ∷ []) ++ es) [] (done ++ e ∷ []) done c (λ n some. settled_longer n done (e ∷ []) some) front))
        (leaves_behind es (done ++ e ∷ []) between t on.stands run) in
        runs_on moment left_since s.journal.file between.journal.file t.journal.file (Fronts (done ++ e ∷ es) done) first rest

pub loses_none : {X E O F : Type 0} (step : ℕ → E → X → O → X → Type 0) (keeps : X → List ℕ → Type 0) (tells : Type 0)
    (seen : F → List ℕ) (may_leave : F → List ℕ → Type 0) (moment : F → ℕ) (left_since : F → ℕ → List ℕ → Type 0)
    → (tells → (file : F) (c : List ℕ) → left_since file (moment file) c → may_leave file c)
    → (tells → (file : F) (t : ℕ) (c : List ℕ) → t ≤ moment file → may_leave file c → left_since file t c)
    → LosesNoAnswer step keeps tells seen may_leave moment left_since
loses_none step keeps tells seen may_leave moment left_since only_now counts_now = λ opened between after done later told is first second file left.
    let stands = stands_behind step keeps tells seen may_leave moment left_since told (only_now told) (counts_now told) opened done [] opened between
    (opened_stands step keeps tells seen may_leave moment left_since told (only_now told) (counts_now told) opened is) first in
    (leaves_behind step keeps tells seen may_leave moment left_since told (only_now told) (counts_now told) opened later done between after stands second).each file left
