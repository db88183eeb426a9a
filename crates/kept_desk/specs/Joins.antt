-- Answers that are joined: the proofs that the desk brings for the laws of a desk.
use Rattle.std.proofs.Common.{◌≡◌, List, [], ◌∷◌, ◌++◌, inl, inr, refl, sym, ap, subst}
use Rattle.std.proofs.lemmas.List.{map-append}
use Rattle.std.proofs.lemmas.List.Elements.{filter-append}
use Rattle.std.specs.List.{filter}
use Rattle.turn_desk.specs.Entries.{Marked, own_entries}
use Rattle.kept_desk.specs.declared.turn.Turn.{Turn}
use Rattle.kept_desk.specs.declared.turn.Turn.TheVariants.{Do, Settle}
use Rattle.kept_desk.specs.declared.turn.Report.{Report}
use Rattle.kept_desk.specs.declared.turn.Answer.{Answer}
use Rattle.kept_desk.specs.declared.turn.Answer.TheVariants.{Kept, Lost}
use Rattle.kept_desk.specs.Kept.{AnswersFrom, AreAnswers, HasFailed, HasSettled, KeptGrown}
use Rattle.kept_desk.specs.Kept.{MayGive, Reported}

module _ {E O : Type 0} where
  settled_on : (es fs : List (Reported E O)) → HasSettled es → HasSettled (es ++ fs)
  settled_on [] fs none = absurd none
  settled_on (e ∷ es) fs (inl here) = inl here
  settled_on (e ∷ es) fs (inr later) = inr (settled_on es fs later)

  failed_on : (es fs : List (Reported E O)) → HasFailed es → HasFailed (es ++ fs)
  failed_on [] fs none = absurd none
  failed_on (e ∷ es) fs (inl here) = inl here
  failed_on (e ∷ es) fs (inr later) = inr (failed_on es fs later)

  -- what may be given may be given whatever comes later
  pub give_on : (es fs : List (Reported E O)) (answer : Answer O) → MayGive es answer
      → MayGive (es ++ fs) answer
  give_on [] fs (Kept outcome) may = absurd may
  give_on (e ∷ es) fs (Kept outcome) may = (may.0, settled_on (e ∷ es) fs may.1)
  give_on [] fs Lost may = absurd may
  give_on (e ∷ es) fs Lost may = failed_on (e ∷ es) fs may

  from_on : (turn : Turn E) (e : Reported E O) (es fs : List (Reported E O))
      (more then : List (Marked E (Answer O)))
      → ((rest : List (Marked E (Answer O))) → AreAnswers es rest
      → AreAnswers (es ++ fs) (rest ++ then))
      → AnswersFrom turn e es (AreAnswers es) more
      → AnswersFrom turn e (es ++ fs) (AreAnswers (es ++ fs)) (more ++ then)
  from_on (Do event) e es fs more then on (answer, rest, is, may, later) =
      (answer, rest ++ then, ap (λ m. m ++ then) is, give_on (e ∷ es) fs answer may, on rest later)
  from_on Settle e es fs more then on said = on more said

  pub answers_on : (es fs : List (Reported E O)) (more then : List (Marked E (Answer O)))
      → AreAnswers es more → AreAnswers fs then → AreAnswers (es ++ fs) (more ++ then)
  answers_on [] fs more then none second = subst (λ m. AreAnswers fs (m ++ then)) (sym none) second
  answers_on (e ∷ es) fs more then first second =
      from_on e.event e es fs more then (λ rest said. answers_on es fs rest then said second) first

pub own_both : {E O : Type 0} (xs ys : List (Marked E O))
    → own_entries (xs ++ ys) ≡ own_entries xs ++ own_entries ys
own_both xs ys =
    rw (filter-append (λ m. m.own) xs ys)
    (map-append (λ m. m.entry) (filter (λ m. m.own) xs) (filter (λ m. m.own) ys))

module _ {S E O : Type 0} (grown : S → List (Marked (Turn E) (Report O)) → S → Type 0) where
  -- nothing was asked
  pub kept_nothing : ((seat : S) → grown seat [] seat) → (seat : S) → KeptGrown grown seat [] seat
  kept_nothing nothing seat = ([], nothing seat, refl)

  -- and then more was asked
  pub kept_both : ((before between after : S) (more then : List (Marked (Turn E) (Report O)))
      → grown before more between → grown between then after → grown before (more ++ then) after)
      → (before between after : S) (more then : List (Marked E (Answer O)))
      → KeptGrown grown before more between → KeptGrown grown between then after
      → KeptGrown grown before (more ++ then) after
  kept_both on before between after more then (xs, first, said) (ys, second, says) = (
    xs ++ ys,
    on before between after xs ys first second,
    subst (λ es. AreAnswers es (more ++ then)) (sym (own_both xs ys))
        (answers_on (own_entries xs) (own_entries ys) more then said says),
  )
