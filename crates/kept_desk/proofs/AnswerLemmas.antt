-- The answers that the desk gives.
use Rattle.std.proofs.Common.{◌≡◌, ℕ, Bool, List, [], ◌∷◌, ◌++◌, map, inl, inr, refl, sym, ap, subst, ◌∙◌}
use Rattle.turn_desk.specs.Entries.{Marked, as_own, as_others, entry_of, own_entries}
use Rattle.turn_desk.specs.Growth.{Asks}
use Rattle.turn_desk.proofs.GrowthLemmas.{own_entries-append, own_entries-asked}
use Rattle.kept_desk.specs.declared.turn.Turn.{Turn}
use Rattle.kept_desk.specs.declared.turn.Turn.TheVariants.{Do, Settle}
use Rattle.kept_desk.specs.declared.turn.Report.{Report}
use Rattle.kept_desk.specs.declared.turn.Report.TheVariants.{Done, Settled, Failed}
use Rattle.kept_desk.specs.declared.turn.Answer.{Answer}
use Rattle.kept_desk.specs.Kept.{AreAnswers, KeptGrown, MayGive, Settles, answer_on}

-- behind a turn to settle the answer may be given
pub give_settled : {E O : Type 0} (reading : ℕ) (event : E) (outcome : O) (settled : Bool) (report : Report O)
    → MayGive (entry_of reading (Do event) (Done outcome settled) ∷ entry_of reading Settle report ∷ []) (answer_on outcome report)
give_settled reading event outcome settled (Done other s) = inr (inl tt)
give_settled reading event outcome settled Settled = (refl, inr (inl tt))
give_settled reading event outcome settled Failed = inr (inl tt)

module _ {S E O : Type 0} (grown : S → List (Marked (Turn E) (Report O)) → S → Type 0) where
  -- an answer that may be given at once
  pub asked_once : (before after : S) (reading : ℕ) (event : E) (report : Report O) (answer : Answer O)
      → Asks grown before (entry_of reading (Do event) report) after
      → MayGive (entry_of reading (Do event) report ∷ []) answer → Asks (KeptGrown grown) before (entry_of reading event answer) after
  asked_once before after reading event report answer a may =
      let e = entry_of reading (Do event) report in
      record {
        others = [];
        grew = (
          map as_others a.others ++ as_own e ∷ [],
          a.grew,
          subst (λ es. AreAnswers es (as_own (entry_of reading event answer) ∷ [])) (sym (own_entries-asked a.others e)) (answer, [], refl, may, refl),
        );
      }

  -- one that is given behind a turn to settle
  pub asked_twice : ((before between after : S) (more then : List (Marked (Turn E) (Report O))) → grown before more between → grown between then after → grown before (more ++ then) after)
      → (before between after : S) (reading : ℕ) (event : E) (outcome : O) (settled : Bool) (answer : Answer O)
      → Asks grown before (entry_of reading (Do event) (Done outcome settled)) between → Settles grown between reading outcome answer after
      → Asks (KeptGrown grown) before (entry_of reading event answer) after
  asked_twice on before between after reading event outcome settled answer a (report, b, is) =
      let e = entry_of reading (Do event) (Done outcome settled) in
      let f = entry_of reading Settle report in
      let first = map as_others a.others ++ as_own e ∷ [] in
      let second = map as_others b.others ++ as_own f ∷ [] in
      let own : own_entries (first ++ second) ≡ e ∷ f ∷ [] =
      own_entries-append first second ∙ ap (λ es. es ++ own_entries second) (own_entries-asked a.others e)
      ∙ ap (λ es. e ∷ es) (own_entries-asked b.others f) in
      record {
        others = [];
        grew = (
          first ++ second,
          on before between after first second a.grew b.grew,
          subst (λ es. AreAnswers es (as_own (entry_of reading event answer) ∷ [])) (sym own)
              (answer, [], refl, subst (MayGive (e ∷ f ∷ [])) (sym is) (give_settled reading event outcome settled report), refl),
        );
      }
